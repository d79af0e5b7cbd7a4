-- The record of a line that was read is the line's own, where its fields keep their ranges. Assumes nothing.
use mathlib.Core.Path.{◌≡◌, refl, ap, ap₂, ◌∙◌}
use mathlib.Core.Bool.{true}
use mathlib.Core.List.{List, [], ◌∷◌, map}
use Prim.Native.Nat.{min, ◌≤◌, ◌<◌}
use native.Mathlib.Omega.{arith}
use borrow.Author.Tests.{ne_eqb, ltb-false, ltb-true}
use lib.Dec.{ltb}
use lib.ListN.{length, take, replicate, length-map}
use lib.Seq.{sets-eq, take_at}
use Rattle.decimal.proofs.Bools.{or_neither, and_both}
use Rattle.lines.specs.Records.{Field, number, dash, other, Record, field}
use Rattle.lines.specs.Words.{WORDS, CAP, DASH, OTHER, word, words}
use Rattle.quantity.specs.Limits.{Limits}
use Rattle.sheet.specs.Kinds.{Rule, kind, rules_of}
use Rattle.sheet.specs.Ranges.{KeepsRules, KeepsRanges}
use Rattle.sheet.specs.Verdict.{All}
use Rattle.sheet.proofs.Passed.{keeps_count}
use Rattle.sheet.proofs.Table.{all_of, below_cap, rules_fit}
use Rattle.entries.specs.Read.{field_read}

-- a number that is its own word
abbrev OwnWord : Field → Type 0
OwnWord (number n) = n < CAP
OwnWord dash = Unit {0}
OwnWord other = Unit {0}

field_back : (f : Field) → OwnWord f → field_read (word f) ≡ f
unfolding word
field_back (number n) h =
    let e : min n CAP ≡ n = omega arith in
    rw (e, ne_eqb n DASH (λ (p : n ≡ DASH). omega arith), ne_eqb n OTHER (λ (p : n ≡ OTHER). omega arith))
field_back dash h = refl
field_back other h = refl

fields_back : (fs : List Field) → All OwnWord fs → map field_read (map word fs) ≡ fs
fields_back [] h = refl
fields_back (f ∷ fs) h = ap₂ (λ (x : Field) (l : List Field). x ∷ l) (field_back f h.0) (fields_back fs h.1)

-- the words of no more fields than there are words
words_taken : (fs : List Field) → length fs ≤ WORDS → take (length fs) (words fs) ≡ map word fs
unfolding words
words_taken fs h =
    let n : length (map word fs) ≡ length fs = length-map fs word in
    rw (sets-eq (map word fs) (replicate WORDS 0) 0 (omega arith)) (take_at (map word fs) _ (length fs) n)

-- fields that keep rules below the cap are their own words
own_words : (rs : List Rule) (fs : List Field) → all_of below_cap rs ≡ true → KeepsRules rs fs → All OwnWord fs
unfolding all_of
own_words [] [] c h = tt
own_words [] (f ∷ fs) c h = absurd h
own_words (r ∷ rs) [] c h = absurd h
own_words (r ∷ rs) (number n ∷ fs) c h =
    let b = and_both (below_cap r) (all_of below_cap rs) c in
    let q = or_neither (ltb n r.lowest) (ltb r.highest n) h.1 in
    (omega (arith, ltb-true r.highest CAP b.0, ltb-false r.highest n q.1), own_words rs fs b.1 h.2)
own_words (r ∷ rs) (dash ∷ fs) c h = (tt, own_words rs fs (and_both (below_cap r) (all_of below_cap rs) c).1 h.2)
own_words (r ∷ rs) (other ∷ fs) c h = (tt, own_words rs fs (and_both (below_cap r) (all_of below_cap rs) c).1 h.2)

module _ (limits : Limits) (small : limits.processes < CAP) (r : Record) (keeps : KeepsRanges limits r) where
  -- no more fields than words
  pub few_fields : length r.said ≤ WORDS
  few_fields = omega (arith, keeps_count (rules_of limits r) r.said keeps.fields, (rules_fit limits small (kind r) (field r 1)).few)

  -- THE RECORD READ BACK
  pub record_back : ◌≡◌ {A = Record} (record { letter = r.letter; said = map field_read (take (length r.said) (words r.said)) }) r
  record_back =
      ap (λ (fs : List Field). record { letter = r.letter; said = fs })
      (ap (map field_read) (words_taken r.said few_fields)
      ∙ fields_back r.said (own_words (rules_of limits r) r.said (rules_fit limits small (kind r) (field r 1)).below keeps.fields))
