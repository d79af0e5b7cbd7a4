-- The table of kinds: the letter determines the kind, and what holds of each kind and method holds of every record's rules. Assumes nothing.
use mathlib.Core.Path.{◌≡◌, refl, sym, ap, ◌∙◌, subst}
use mathlib.Core.Bool.{Bool, true, false, cond, ◌&&◌, ◌||◌, not}
use mathlib.Core.List.{List, [], ◌∷◌}
use Prim.Native.Nat.{ℕ, zero, suc, ◌≤◌, ◌<◌}
use native.Mathlib.Omega.{arith}
use borrow.Author.Tests.{eq-eqb, ne_eqb, eqb-true, eqb-false, leb-true, lt-ltb, not-true}
use lib.Dec.{eqb, leb, ltb}
use lib.ListN.{length, get_or}
use Rattle.decimal.proofs.Bools.{never, and_both}
use Rattle.lines.specs.Records.{Field, number, dash, other, Record}
use Rattle.lines.specs.Words.{WORDS, CAP}
use Rattle.lines.specs.Spelling.{is_letter}
use Rattle.quantity.specs.Limits.{Limits}
use Rattle.sheet.specs.declared.Kind.{Kind}
use Rattle.sheet.specs.declared.Kind.TheVariants.{Process, SourceStream, MeasurableHeat, WasteGas, Electricity, BoughtPrecursor}
use Rattle.sheet.specs.Kinds.{letter, kinds, kind_among, kind_of, kind, is, Rule, exactly}
use Rattle.sheet.specs.declared.Kind.TheVariants.{OwnGood, PrecursorFigures, PrecursorUse, Unknown}
use Rattle.sheet.specs.Kinds.{combustion, process_emission, mass_balance, no_method, method_rules, rules}
use Rattle.sheet.specs.Verdict.{All}

-- ---- the letter determines the kind

pub kind_letter : (k : Kind) → kind_of (letter k) ≡ k
unfolding kind_of kind_among
kind_letter Process = refl
kind_letter SourceStream = refl
kind_letter MeasurableHeat = refl
kind_letter WasteGas = refl
kind_letter Electricity = refl
kind_letter BoughtPrecursor = refl
kind_letter OwnGood = refl
kind_letter PrecursorFigures = refl
kind_letter PrecursorUse = refl
kind_letter Unknown = refl

-- kinds of one letter are the same
same_kind : (j k : Kind) → eqb (letter j) (letter k) ≡ true → j ≡ k
same_kind j k e = sym (kind_letter j) ∙ ap kind_of (eqb-true (letter j) (letter k) e) ∙ kind_letter k

pub kind_is : (k : Kind) (r : Record) → is k r ≡ true → kind r ≡ k
kind_is k r e = same_kind (kind r) k e

pub is_kind : (k : Kind) (r : Record) → kind r ≡ k → is k r ≡ true
is_kind k r e = eq-eqb (letter (kind r)) (letter k) (ap letter e)

-- what holds of no kind and of each of some holds of the one among them that a letter gives
among : (P : Kind → Type 0) (ks : List Kind) (byte : ℕ) → P Unknown → All P ks → P (kind_among ks byte)
unfolding kind_among
among P [] byte none each = none
among P (k ∷ ks) byte none each = go (eqb byte (letter k)) (among P ks byte none each.1)
  where
    go : (t : Bool) → P (kind_among ks byte) → P (cond t k (kind_among ks byte))
    go true rest = each.0
    go false rest = rest

-- WHAT HOLDS OF NO KIND AND OF EACH KIND OF THE TABLE holds of every kind
pub every_kind : (P : Kind → Type 0) → P Unknown → All P kinds → (k : Kind) → P k
unfolding kind_of
every_kind P none each k = subst P (kind_letter k) (among P kinds (letter k) none each)

-- a byte that gives a kind is its letter
letter_among : (ks : List Kind) (byte : ℕ) → eqb (letter (kind_among ks byte)) (letter Unknown) ≡ false → letter (kind_among ks byte) ≡ byte
unfolding kind_among
letter_among [] byte h = absurd (never (sym h))
letter_among (k ∷ ks) byte h = go (eqb byte (letter k)) refl (letter_among ks byte) h
  where
    go : (t : Bool) → eqb byte (letter k) ≡ t → (eqb (letter (kind_among ks byte)) (letter Unknown) ≡ false → letter (kind_among ks byte) ≡ byte)
        → eqb (letter (cond t k (kind_among ks byte))) (letter Unknown) ≡ false → letter (cond t k (kind_among ks byte)) ≡ byte
    go true e rest h = sym (eqb-true byte (letter k) e)
    go false e rest h = rest h

letter_kind : (byte : ℕ) → eqb (letter (kind_of byte)) (letter Unknown) ≡ false → letter (kind_of byte) ≡ byte
unfolding kind_of
letter_kind byte h = letter_among kinds byte h

-- a byte is the letter of a known kind exactly where it gives that kind
pub letter_is : (byte : ℕ) (k : Kind) → eqb (letter k) (letter Unknown) ≡ false → eqb (letter (kind_of byte)) (letter k) ≡ eqb byte (letter k)
letter_is byte k known = go (eqb byte (letter k)) refl (eqb (letter (kind_of byte)) (letter k)) refl
  where
    go : (s : Bool) → eqb byte (letter k) ≡ s → (t : Bool) → eqb (letter (kind_of byte)) (letter k) ≡ t → t ≡ s
    go true e true f = refl
    go false e false f = refl
    go true e false f =
        absurd (eqb-false (letter (kind_of byte)) (letter k) f (ap letter (ap kind_of (eqb-true byte (letter k) e) ∙ kind_letter k)))
    go false e true f =
        let same = same_kind (kind_of byte) k f in
        absurd (eqb-false byte (letter k) e (sym (letter_kind byte (ap (λ (j : Kind). eqb (letter j) (letter Unknown)) same ∙ known)) ∙ ap letter same))

-- ---- a test that the checker computes over the table

-- every one of a list passes
unfoldable pub all_of : {A : Type 0} → (A → Bool) → List A → Bool
all_of test [] = true
all_of test (x ∷ xs) = test x && all_of test xs

pub each_passes : {A : Type 0} (test : A → Bool) (xs : List A) → all_of test xs ≡ true → All (λ x. test x ≡ true) xs
unfolding all_of
each_passes test [] h = tt
each_passes test (x ∷ xs) h = let both = and_both (test x) (all_of test xs) h in (both.0, each_passes test xs both.1)

-- a source stream's fields from code on, by each method and by none
abbrev pub method_rows : List (List Rule)
method_rows = combustion ∷ process_emission ∷ mass_balance ∷ no_method ∷ []

pub by_method_lem : (P : List Rule → Type 0) → All P method_rows → (f : Field) → P (method_rules f)
unfolding method_rules
by_method_lem P each (number m) = go (eqb m 1) (eqb m 2) (eqb m 3) (eqb m 4)
  where
    go : (i j k l : Bool) → P (cond i combustion (cond j process_emission (cond k mass_balance (cond l mass_balance no_method))))
    go true j k l = each.0
    go false true k l = each.1.0
    go false false true l = each.1.1.0
    go false false false true = each.1.1.0
    go false false false false = each.1.1.1.0
by_method_lem P each dash = each.1.1.1.0
by_method_lem P each other = each.1.1.1.0

-- every row of the table passes: of each kind, by each method
abbrev pub table_passes : (List Rule → Bool) → Limits → Bool
table_passes test limits = all_of (λ k. all_of (λ rest. test (rules limits k rest)) method_rows) (Unknown ∷ kinds)

-- WHAT THE TABLE PASSES every record's rules pass
pub every_row : (test : List Rule → Bool) (limits : Limits) → table_passes test limits ≡ true → (k : Kind) (f : Field)
    → test (rules limits k (method_rules f)) ≡ true
every_row test limits h k f =
    let row = each_passes (λ (j : Kind). all_of (λ rest. test (rules limits j rest)) method_rows) (Unknown ∷ kinds) h in
    let one = every_kind (λ (j : Kind). all_of (λ rest. test (rules limits j rest)) method_rows ≡ true) row.0 row.1 k in
    by_method_lem (λ (rest : List Rule). test (rules limits k rest) ≡ true) (each_passes (λ (rest : List Rule). test (rules limits k rest)) method_rows one) f

-- ---- a letter can be spelt

pub known_letter : (r : Record) → is Unknown r ≡ false → is_letter r.letter ≡ true
unfolding all_of
known_letter r h =
    let spelt = every_kind (λ (k : Kind). (eqb (letter k) (letter Unknown) || is_letter (letter k)) ≡ true) refl
    (each_passes (λ (k : Kind). eqb (letter k) (letter Unknown) || is_letter (letter k)) kinds refl) (kind r) in
    rw (letter_kind r.letter h) at (rw h at spelt)

-- ---- the rules fit in words

-- a number of the rule's range is its own word
abbrev pub below_cap : Rule → Bool
below_cap rule = ltb rule.highest CAP

-- `-` stands in none of the first four fields
abbrev plain : List Rule → (k : ℕ) → Bool
plain rs k = not (get_or rs k (exactly 0)).dash_allowed

abbrev early_plain : List Rule → Bool
early_plain rs = all_of (plain rs) (0 ∷ 1 ∷ 2 ∷ 3 ∷ [])

-- no more fields than words
abbrev fits_words : List Rule → Bool
fits_words rs = leb (length rs) WORDS && (all_of below_cap rs && early_plain rs)

pub record FitsWords (rs : List Rule) : Type 0 where
  pub few : length rs ≤ WORDS
  pub below : all_of below_cap rs ≡ true
  pub plain : early_plain rs ≡ true

fits : (rs : List Rule) → fits_words rs ≡ true → FitsWords rs
fits rs h =
    let p = and_both (leb (length rs) WORDS) (all_of below_cap rs && early_plain rs) h in
    let q = and_both (all_of below_cap rs) (early_plain rs) p.1 in
    record { few = leb-true (length rs) WORDS p.0; below = q.0; plain = q.1 }

pub early_plain_lem : (rs : List Rule) → FitsWords rs → (k : ℕ) → k < 4 → (get_or rs k (exactly 0)).dash_allowed ≡ false
early_plain_lem rs f k h = go k h (each_passes (plain rs) (0 ∷ 1 ∷ 2 ∷ 3 ∷ []) f.plain)
  where
    go : (k : ℕ) → k < 4 → All (λ j. plain rs j ≡ true) (0 ∷ 1 ∷ 2 ∷ 3 ∷ []) → (get_or rs k (exactly 0)).dash_allowed ≡ false
    go zero h p = not-true _ p.0
    go (suc zero) h p = not-true _ p.1.0
    go (suc (suc zero)) h p = not-true _ p.1.1.0
    go (suc (suc (suc zero))) h p = not-true _ p.1.1.1.0
    go (suc (suc (suc (suc k)))) h p = absurd (omega arith)

pub rules_fit : (limits : Limits) → limits.processes < CAP → (k : Kind) (f : Field) → FitsWords (rules limits k (method_rules f))
unfolding rules all_of
rules_fit limits small k f = fits _ (every_row fits_words limits (simp (lt-ltb limits.processes CAP small)) k f)

-- a byte of a known kind is its letter
pub letter_of : (byte : ℕ) (k : Kind) → eqb (letter k) (letter Unknown) ≡ false → kind_of byte ≡ k → byte ≡ letter k
letter_of byte k known e = eqb-true byte (letter k) (sym (letter_is byte k known) ∙ eq-eqb _ _ (ap letter e))

-- and a byte of another kind is not
pub no_letter_of : (byte : ℕ) (k : Kind) → eqb (letter k) (letter Unknown) ≡ false → (kind_of byte ≡ k → ⊥) → eqb byte (letter k) ≡ false
no_letter_of byte k known another = ne_eqb byte (letter k) (λ e. another (ap kind_of e ∙ kind_letter k))
