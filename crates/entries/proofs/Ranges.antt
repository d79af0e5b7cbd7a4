-- The numbers of a record that keeps its ranges, and the words of a line that was read. Assumes nothing.
use mathlib.Core.Path.{◌≡◌, refl, sym, ap, ◌∙◌, subst}
use mathlib.Core.Bool.{Bool, true, false, cond}
use mathlib.Core.List.{List, [], ◌∷◌, map}
use Prim.Native.Nat.{ℕ, zero, suc, ◌+◌, ◌≤◌, ◌<◌}
use native.Mathlib.Omega.{arith}
use borrow.Author.Tests.{ltb-false, not-false}
use lib.Dec.{eqb, ltb}
use lib.ListN.{length, take, get_or}
use Rattle.decimal.proofs.Bools.{never, or_neither}
use Rattle.lines.specs.Records.{Field, number, dash, other, Record, field, number_in, number_at}
use Rattle.lines.specs.Words.{DASH, OTHER}
use Rattle.lines.specs.declared.LineRead.{LineRead}
use Rattle.quantity.specs.Limits.{Limits, limits}
use Rattle.sheet.specs.Kinds.{kind, Rule, method_rules, rules, rules_of}
use Rattle.sheet.specs.declared.Kind.{Kind}
use Rattle.sheet.specs.Refusals.{not_number, out_of_range}
use Rattle.sheet.specs.Ranges.{KeepsRules, KeepsRanges}
use Rattle.sheet.proofs.Passed.{no_rule, keeps_count, in_range}
use Rattle.entries.specs.Read.{field_read, record_read, LineKeeps, or_standard_word}
use Rattle.entries.specs.Weighed.{or_standard}

-- ---- the numbers of a record

-- the number at k is in the rule's range
pub record InRule (r : Record) (k : ℕ) (rule : Rule) : Type 0 where
  pub low : rule.lowest ≤ number_at r k
  pub high : number_at r k ≤ rule.highest

-- so is each number from k on whose rule has no `-`
abbrev InRules : Record → (k : ℕ) → List Rule → Type 0
InRules r k [] = Unit {0}
InRules r k (rule ∷ rs) = (rule.dash_allowed ≡ false → InRule r k rule) × InRules r (suc k) rs

each_rule : (r : Record) (k : ℕ) (rs : List Rule)
    → ((i : ℕ) → i < length rs → (get_or rs i no_rule).dash_allowed ≡ false → InRule r (k + i) (get_or rs i no_rule)) → InRules r k rs
each_rule r k [] h = tt
each_rule r k (rule ∷ rs) h = (
  (λ d. let z : k + 0 ≡ k = omega arith in rw z at (h 0 (omega arith) d)),
  each_rule r (suc k) rs (λ i l d. let z : k + suc i ≡ suc k + i = omega arith in rw z at (h (suc i) (omega arith) d)),
)

-- at a kind, a fact for each field
pub in_rules : (limits : Limits) (r : Record) → KeepsRanges limits r → (j : Kind) → kind r ≡ j
    → InRules r 0 (rules limits j (method_rules (field r 1)))
in_rules limits r keeps j e =
    subst (λ (k : Kind). InRules r 0 (rules limits k (method_rules (field r 1)))) e
    (each_rule r 0 (rules_of limits r)
    (λ i l d. let q = in_range limits r keeps i l d in let z : 0 + i ≡ i = omega arith in rw z (record { low = q.0; high = q.1 })))

-- ---- a field that keeps its rule

pub keeps_at : (rs : List Rule) (fs : List Field) → KeepsRules rs fs → (i : ℕ) → i < length rs
    → (not_number (get_or rs i no_rule) (get_or fs i other) ≡ false) × (out_of_range (get_or rs i no_rule) (get_or fs i other) ≡ false)
keeps_at [] fs h i l = absurd (omega arith)
keeps_at (rule ∷ rs) [] h i l = absurd h
keeps_at (rule ∷ rs) (f ∷ fs) h zero l = (h.0, h.1)
keeps_at (rule ∷ rs) (f ∷ fs) h (suc i) l = keeps_at rs fs h.2 i (omega arith)

-- by a rule without `-` it is its number
pub plain_number : (rule : Rule) (f : Field) → rule.dash_allowed ≡ false → not_number rule f ≡ false → f ≡ number (number_in f)
plain_number rule (number n) d h = refl
plain_number rule dash d h = absurd (never (sym d ∙ not-false rule.dash_allowed h))
plain_number rule other d h = absurd (never (sym h))

-- the value that it gives, or the standard value, is within a bound of both
pub given_small : (rule : Rule) (f : Field) (standard bound : ℕ) → out_of_range rule f ≡ false → standard ≤ bound → rule.highest ≤ bound
    → or_standard f standard ≤ bound
given_small rule (number n) standard bound h s t =
    let q = or_neither (ltb n rule.lowest) (ltb rule.highest n) h in
    omega (arith, ltb-false rule.highest n q.1)
given_small rule dash standard bound h s t = s
given_small rule other standard bound h s t = s

-- ---- the words of a line that was read

read_at : (n k : ℕ) (ws : List ℕ) → k < n → n ≤ length ws → get_or (map field_read (take n ws)) k other ≡ field_read (get_or ws k 0)
read_at zero k ws h l = absurd (omega arith)
read_at (suc n) k [] h l = absurd (omega arith)
read_at (suc n) zero (w ∷ ws) h l = refl
read_at (suc n) (suc k) (w ∷ ws) h l = read_at n k ws (omega arith) (omega arith)

read_length : (n : ℕ) (ws : List ℕ) → n ≤ length ws → length (map field_read (take n ws)) ≡ n
read_length zero ws l = refl
read_length (suc n) [] l = absurd (omega arith)
read_length (suc n) (w ∷ ws) l = ap suc (read_length n ws (omega arith))

-- a word that says a number is that number
number_word : (w n : ℕ) → field_read w ≡ number n → n ≡ w
number_word w n = go (eqb w DASH) (eqb w OTHER)
  where
    go : (d o : Bool) → cond d dash (cond o other (number w)) ≡ number n → n ≡ w
    go true o e = absurd (let z : ◌≡◌ {A = ℕ} 0 1 = cc in omega arith)
    go false true e = absurd (let z : ◌≡◌ {A = ℕ} 0 1 = cc in omega arith)
    go false false e = cc

-- a word that says something gives its number or the standard value
standard_word : (rule : Rule) (w standard : ℕ) → not_number rule (field_read w) ≡ false
    → or_standard (field_read w) standard ≡ or_standard_word w standard
standard_word rule w standard h = go (eqb w DASH) (eqb w OTHER) h
  where
    go : (d o : Bool) → not_number rule (cond d dash (cond o other (number w))) ≡ false
        → or_standard (cond d dash (cond o other (number w))) standard ≡ cond d standard w
    go true o h = refl
    go false true h = absurd (never (sym h))
    go false false h = refl

module _ (l : LineRead) (keeps : LineKeeps l) where
  abbrev rs : List Rule
  rs = rules_of limits (record_read l)

  count_is : l.count ≡ length (rules_of limits (record_read l))
  unfolding record_read
  count_is =
      sym (read_length l.count l.words (omega (arith, keeps.few, keeps.sized)))
      ∙ keeps_count (rules_of limits (record_read l)) (record_read l).said keeps.ranges.fields

  field_read_lem : (k : ℕ) → k < length (rules_of limits (record_read l)) → field (record_read l) k ≡ field_read (get_or l.words k 0)
  unfolding record_read
  field_read_lem k h = read_at l.count k l.words (omega (arith, count_is)) (omega (arith, keeps.few, keeps.sized))

  -- by a rule without `-` the number at k is its word
  pub number_is : (k : ℕ) → k < length (rules_of limits (record_read l)) → (get_or (rules_of limits (record_read l)) k no_rule).dash_allowed ≡ false
      → number_at (record_read l) k ≡ get_or l.words k 0
  number_is k h d =
      let f = keeps_at rs (record_read l).said keeps.ranges.fields k h in
      number_word (get_or l.words k 0) _ (sym (field_read_lem k h) ∙ plain_number (get_or rs k no_rule) (field (record_read l) k) d f.0)

  pub standard_is : (k : ℕ) → k < length (rules_of limits (record_read l)) → (standard : ℕ)
      → or_standard (field (record_read l) k) standard ≡ or_standard_word (get_or l.words k 0) standard
  standard_is k h standard =
      let f = keeps_at rs (record_read l).said keeps.ranges.fields k h in
      ap (λ (x : Field). or_standard x standard) (field_read_lem k h)
      ∙ standard_word (get_or rs k no_rule) (get_or l.words k 0) standard (ap (not_number (get_or rs k no_rule)) (sym (field_read_lem k h)) ∙ f.0)

  -- at a kind, a fact for each field whose rule has no `-`
  abbrev AreWords : (k : ℕ) → List Rule → Type 0
  AreWords k [] = Unit {0}
  AreWords k (rule ∷ rules) = (rule.dash_allowed ≡ false → number_at (record_read l) k ≡ get_or l.words k 0) × AreWords (suc k) rules

  each_word : (k : ℕ) (rules : List Rule)
      → ((i : ℕ) → i < length rules → (get_or rules i no_rule).dash_allowed ≡ false → number_at (record_read l) (k + i) ≡ get_or l.words (k + i) 0)
      → AreWords k rules
  each_word k [] h = tt
  each_word k (rule ∷ rules) h = (
    (λ d. let z : k + 0 ≡ k = omega arith in rw z at (h 0 (omega arith) d)),
    each_word (suc k) rules (λ i g d. let z : k + suc i ≡ suc k + i = omega arith in rw z at (h (suc i) (omega arith) d)),
  )

  pub are_words : (j : Kind) → kind (record_read l) ≡ j → AreWords 0 (rules limits j (method_rules (field (record_read l) 1)))
  are_words j e =
      subst (λ (k : Kind). AreWords 0 (rules limits k (method_rules (field (record_read l) 1)))) e
      (each_word 0 rs (λ i h d. let z : 0 + i ≡ i = omega arith in rw z (number_is i h d)))
