-- A lent record as the code holds it: its letter in a byte, the words of its fields stored one after the other, its part of the list. Assumes
-- nothing.
use mathlib.Core.Path.{◌≡◌, refl, sym, ap, ◌∙◌}
use mathlib.Core.Bool.{true}
use mathlib.Core.List.{List}
use Prim.Native.Nat.{ℕ, ◌+◌, ◌-◌, ◌≤◌, ◌<◌}
use native.Mathlib.Omega.{arith}
use borrow.Author.Tests.{eqb-true, eq-eqb, ne_eqb, ltb-true}
use lib.Dec.{ltb}
use lib.ListN.{length, take, drop, replicate, length-take, length-drop}
use lib.Seq.{take_all}
use Rattle.lines.specs.Records.{Record}
use Rattle.lines.specs.Words.{WORDS, words}
use Rattle.sheet.specs.Kinds.{kinds, kind_of, letter}
use Rattle.sheet.specs.declared.Kind.{Kind}
use Rattle.sheet.proofs.Table.{all_of, each_passes, every_kind, letter_is}
use Rattle.lines.specs.declared.LineRead.{LineRead}
use Rattle.lent.specs.AsRead.{words_at, LentAt}
use Rattle.lent.specs.Lent.{RECORD, field_count, record_lent, spell_lent}
use Rattle.lent.proofs.Counts.{some_fields, count_of, none_lent}

-- ---- the letter

-- a kind's letter fits in a byte
pub letter_small : (first : ℕ) → (field_count (kind_of first) ≡ 0 → ⊥) → first < 256
unfolding all_of
letter_small first some =
    let k = kind_of first in
    let known = some_fields k ∙ ne_eqb (field_count k) 0 some in
    let is = eqb-true first (letter k) (sym (letter_is first k known) ∙ eq-eqb (letter k) (letter k) refl) in
    let small = every_kind (λ (j : Kind). ltb (letter j) 256 ≡ true) refl (each_passes (λ (j : Kind). ltb (letter j) 256) kinds refl) k in
    omega (arith, is, ltb-true (letter k) 256 small)

-- ---- the record's part of the list

-- the words of a record that is lent by itself
pub alone : (ws : List ℕ) → length ws ≤ RECORD → ws ≡ words_at ws 0
alone ws few = sym (take_all RECORD ws few)

-- the part of a list from a place on
from_there : (list : List ℕ) (at : ℕ) → take (length list - at) (drop at list) ≡ drop at list
from_there list at = take_all (length list - at) (drop at list) (omega (arith, length-drop at list))

module _ (list : List ℕ) (at : ℕ) (part : List ℕ) (part_is : part ≡ words_at list at) where
  -- what was read from the part is the record that starts there
  pub lent_at : (start : ℕ) (l : LineRead) → l.letter ≡ (record_lent part).letter → l.count ≡ length (record_lent part).said
      → l.words ≡ words (record_lent part).said → l.end ≡ start + length (spell_lent (record_lent part)) → LentAt list at start l
  lent_at start l letter_is count_is words_are end_is =
      record {
        letter = letter_is ∙ ap (λ (ws : List ℕ). (record_lent ws).letter) part_is;
        count = count_is ∙ ap (λ (ws : List ℕ). length (record_lent ws).said) part_is;
        words = words_are ∙ ap (λ (ws : List ℕ). words (record_lent ws).said) part_is;
        end = end_is ∙ ap (λ (ws : List ℕ). start + length (spell_lent (record_lent ws))) part_is;
      }

  -- no letter of a kind: an empty line
  pub none_at : (start : ℕ) → count_of part ≡ 0 → LentAt list at start (record { letter = 0; count = 0; words = replicate WORDS 0; end = start })
  unfolding words
  none_at start e =
      let none = none_lent part e in
      lent_at start (record { letter = 0; count = 0; words = replicate WORDS 0; end = start }) (sym (ap (λ (r : Record). r.letter) none))
      (sym (ap (λ (r : Record). length r.said) none)) (sym (ap (λ (r : Record). words r.said) none))
      (omega (arith, ap (λ (r : Record). length (spell_lent r)) none))

-- what was read of a part of the list is the record that starts there
module _ (list : List ℕ) (at start : ℕ) (l : LineRead) where
  there : (part : List ℕ) → words_at part 0 ≡ words_at list at → LentAt part 0 start l → LentAt list at start l
  there part e r = lent_at list at (words_at part 0) e start l r.letter r.count r.words r.end

  pub cut_at : LentAt (take (length list - at) (drop at list)) 0 start l → LentAt list at start l
  cut_at r = there (take (length list - at) (drop at list)) (ap (take RECORD) (from_there list at)) r

  pub full_at : LentAt (take RECORD (take (length list - at) (drop at list))) 0 start l → LentAt list at start l
  full_at r =
      let part : List ℕ = take (length list - at) (drop at list) in
      let few : length (take RECORD part) ≤ RECORD = omega (arith, length-take RECORD part) in
      there (take RECORD part) (take_all RECORD (take RECORD part) few ∙ ap (take RECORD) (from_there list at)) r
