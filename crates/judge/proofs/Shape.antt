-- What a line shows by which rows 3 to 7 do not apply, under any table of kinds: its words are its numbers. Assumes nothing.
use mathlib.Core.Path.{◌≡◌, refl, sym, ap, ◌∙◌, subst}
use mathlib.Core.Logic.{◌⊎◌, inl, inr}
use mathlib.Core.Bool.{Bool, true, false, cond, not}
use mathlib.Core.List.{List, [], ◌∷◌, ◌++◌}
use Prim.Native.Nat.{ℕ, zero, suc, ◌+◌, min, ◌<◌}
use native.Mathlib.Nat.{lt_of_not-le}
use native.Mathlib.Decide.{dec_le}
use native.Mathlib.Omega.{arith}
use borrow.Author.Tests.{ne_eqb, eqb-true, ltb-true}
use lib.Dec.{eqb}
use lib.ListN.{length, get_or, get_or-eq_default}
use Rattle.decimal.proofs.Bools.{and_both}
use Rattle.lines.specs.Lines.{Line}
use Rattle.lines.specs.Records.{Field, number, dash, other, Record, record_of, field, number_in, number_at}
use Rattle.lines.specs.Words.{WORDS, CAP, DASH, word, words}
use Rattle.sheet.specs.Kinds.{Rule, exactly, Table}
use Rattle.sheet.specs.Refusals.{unknown_kind, lacks_lf, says_dash}
use Rattle.sheet.specs.Verdict.{Check, first_of, number_of, field_checks, shape_checks}
use Rattle.sheet.proofs.Table.{all_of, below_cap, FitsWords, early_plain_lem}
use Rattle.checks.specs.Steps.{or_else, words_number}
use Rattle.checks.proofs.Fitting.{InRange, FitsBy, Fitting, words_fit}
use Rattle.judge.specs.Line.{shape_number}
use Rattle.judge.proofs.Words.{word_at, word_past, number_cons, fields_number_lem}

-- ---- 3 to 7 are the code's number

-- the words of a record's fields
abbrev pub said_words : Record → List ℕ
said_words r = words r.said

-- the number that the code gives the shape of a line under a table
abbrev pub table_number : Table → Line → ℕ
table_number table l =
    let r = record_of l in
    shape_number l.ended (unknown_kind table r) (table.rules r) (length r.said) (said_words r)

module _ (table : Table) (l : Line) (fits : FitsWords (table.rules (record_of l))) where
  abbrev r : Record
  r = record_of l

  abbrev rs : List Rule
  rs = table.rules (record_of l)

  -- ROWS 3 TO 7 BEFORE WHAT COMES AFTER THEM
  pub shape_number_lem : (k : ℕ) (rest : List Check)
      → number_of (first_of (shape_checks table k l ++ rest)) ≡ or_else (table_number table l) (number_of (first_of rest))
  unfolding shape_checks
  shape_number_lem k rest =
      number_cons _ _ ∙ ap (cond (lacks_lf l) 3) (number_cons _ _ ∙ ap (cond (unknown_kind table r) 4) (number_cons _ _))
      ∙ go l.ended (unknown_kind table r) (eqb (length r.said) (length rs)) refl
    where
      go : (a b c : Bool) → eqb (length r.said) (length rs) ≡ c
          → cond (not a) 3 (cond b 4 (cond (not c) 5 (number_of (first_of (field_checks k rs r.said ++ rest)))))
          ≡ or_else (cond a (cond b 4 (cond c (words_number 0 rs (said_words r)) 5)) 3) (number_of (first_of rest))
      go false b c e = refl
      go true true c e = refl
      go true false false e = refl
      go true false true e =
          let q = eqb-true (length r.said) (length rs) e in
          let few = fits.few in
          fields_number_lem k rs r.said (said_words r) 0 rest fits.below q
          (λ i g. let z : 0 + i ≡ i = omega arith in rw z (word_at r.said i (omega arith) g))

-- ---- of the record

-- a field and its word: a number of the range, or `-` where it may stand
abbrev SaysBy : (dash_allowed : Bool) → Rule → Field → (word : ℕ) → Type 0
SaysBy true rule f w = ((f ≡ dash) × (w ≡ DASH)) ⊎ ((f ≡ number w) × InRange rule w)
SaysBy false rule f w = (f ≡ number w) × InRange rule w

-- the fields of a record from k on, and their words
abbrev Saying : (k : ℕ) → List Rule → Record → (words : List ℕ) → Type 0
Saying k [] r ws = Unit {0}
Saying k (rule ∷ rs) r ws = SaysBy rule.dash_allowed rule (field r k) (get_or ws k 0) × Saying (suc k) rs r ws

field_says : (rule : Rule) → below_cap rule ≡ true → (d : Bool) (f : Field) (w : ℕ) → w ≡ word f → FitsBy d rule w → SaysBy d rule f w
unfolding word
field_says rule c d f w e h = go (ltb-true rule.highest CAP c) d f e h
  where
    go : rule.highest < CAP → (d : Bool) (f : Field) → w ≡ word f → FitsBy d rule w → SaysBy d rule f w
    go c true (number n) e (inl h) = absurd (omega arith)
    go c true (number n) e (inr h) = inr (ap number (omega arith), h)
    go c true dash e (inl h) = inl (refl, h)
    go c true dash e (inr h) = absurd (omega arith)
    go c true other e (inl h) = absurd (omega arith)
    go c true other e (inr h) = absurd (omega arith)
    go c false (number n) e h = (ap number (omega arith), h)
    go c false dash e h = absurd (omega arith)
    go c false other e h = absurd (omega arith)

fields_say : (r : Record) (ws : List ℕ) (k : ℕ) (rs : List Rule) → all_of below_cap rs ≡ true
    → ((i : ℕ) → i < length rs → get_or ws (k + i) 0 ≡ word (field r (k + i))) → Fitting k rs ws → Saying k rs r ws
unfolding all_of
fields_say r ws k [] c e h = tt
fields_say r ws k (rule ∷ rs) c e h =
    let both = and_both (below_cap rule) (all_of below_cap rs) c in
    let z : k + 0 ≡ k = omega arith in
    let w : get_or ws k 0 ≡ word (field r k) = rw z at (e 0 (omega arith)) in (
      field_says rule both.0 rule.dash_allowed (field r k) (get_or ws k 0) w h.0,
      fields_say r ws (suc k) rs both.1 (λ i g. next i (e (suc i) (omega arith))) h.1,
    )
  where
    next : (i : ℕ) → get_or ws (k + suc i) 0 ≡ word (field r (k + suc i)) → get_or ws (suc k + i) 0 ≡ word (field r (suc k + i))
    next i q = let z : k + suc i ≡ suc k + i = omega arith in rw z at q

saying_at : (r : Record) (ws : List ℕ) (k : ℕ) (rs : List Rule) → Saying k rs r ws → (i : ℕ) → i < length rs
    → (get_or rs i (exactly 0)).dash_allowed ≡ false → field r (k + i) ≡ number (get_or ws (k + i) 0)
saying_at r ws k [] s i l d = absurd (omega arith)
saying_at r ws k (rule ∷ rs) s zero l d =
    let z : k + 0 ≡ k = omega arith in
    rw z (subst (λ (b : Bool). SaysBy b rule (field r k) (get_or ws k 0)) d s.0).0
saying_at r ws k (rule ∷ rs) s (suc i) l d =
    let z : k + suc i ≡ suc k + i = omega arith in
    rw z (saying_at r ws (suc k) rs s.1 i (omega arith) d)

-- the word of `-` is its own
pub dash_word : (r : Record) (k : ℕ) → k < WORDS → eqb (get_or (said_words r) k 0) DASH ≡ says_dash (field r k)
unfolding word
dash_word r k h =
    elim (dec_le (length r.said) k) [
      | yes g ↦ rw (word_past r.said k h g, get_or-eq_default r.said other g)
      | no g ↦ rw (word_at r.said k h (lt_of_not-le g)) (go (field r k))
    ]
  where
    go : (f : Field) → eqb (word f) DASH ≡ says_dash f
    go (number n) = ne_eqb (min n CAP) DASH (λ e. omega arith)
    go dash = refl
    go other = refl

module _ (table : Table) (l : Line) (fits : FitsWords (table.rules (record_of l))) (passed : table_number table l ≡ 0) where
  abbrev said : Record
  said = record_of l

  parts : (length said.said ≡ length (table.rules said)) × Fitting 0 (table.rules said) (said_words said)
  parts = go l.ended (unknown_kind table said) (eqb (length said.said) (length (table.rules said))) refl passed
    where
      go : (a b c : Bool) → eqb (length said.said) (length (table.rules said)) ≡ c
          → cond a (cond b 4 (cond c (words_number 0 (table.rules said) (said_words said)) 5)) 3 ≡ 0
          → (length said.said ≡ length (table.rules said)) × Fitting 0 (table.rules said) (said_words said)
      go false b c e h = absurd (omega arith)
      go true true c e h = absurd (omega arith)
      go true false false e h = absurd (omega arith)
      go true false true e h = (eqb-true _ _ e, words_fit 0 (table.rules said) (said_words said) h)

  -- the words fit the rules
  pub words_fitting : Fitting 0 (table.rules (record_of l)) (said_words (record_of l))
  words_fitting = parts.1

  -- the words of the first four fields are their numbers, 0 where there is none
  pub early_word : (k : ℕ) → k < 4 → get_or (said_words (record_of l)) k 0 ≡ number_at (record_of l) k
  early_word k h =
      elim (dec_le (length said.said) k) [
        | yes g ↦ word_past said.said k (omega arith) g ∙ sym (ap number_in (get_or-eq_default said.said other g))
        | no g ↦
            let inside : k < length (table.rules said) = omega (arith, parts.0, lt_of_not-le g) in
            let z : 0 + k ≡ k = omega arith in
            sym (ap number_in (rw z at (saying_at said (said_words said) 0 (table.rules said) says k inside (early_plain_lem (table.rules said) fits k h))))
      ]
    where
      says : Saying 0 (table.rules said) said (said_words said)
      says =
          fields_say said (said_words said) 0 (table.rules said) fits.below
          (λ i g. let few = fits.few in let z : 0 + i ≡ i = omega arith in rw z (word_at said.said i (omega arith) (omega (arith, parts.0))))
          parts.1
