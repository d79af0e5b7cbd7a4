-- Lent records that keep their ranges: the line of one, and those of an accepted sheet from a place on. Assumes nothing.
use mathlib.Core.Path.{◌≡◌, refl, sym, ap, ap₂, ◌∙◌}
use mathlib.Core.Bool.{Bool, true, false, cond}
use mathlib.Core.List.{List, [], ◌∷◌, ◌++◌, append_assoc}
use Prim.Native.Nat.{ℕ, zero, suc, ◌+◌, ◌-◌, ◌*◌, ◌/◌, min, ◌≤◌, ◌<◌}
use native.Mathlib.Omega.{arith}
use borrow.Author.Tests.{ltb-true, eqb-false}
use lib.Dec.{eqb}
use lib.ListN.{length, take, drop, get_or, length-append, length-take, length-drop, length-map}
use lib.Seq.{take_at, drop_at, take_all, take-take, drop-drop, get_or-append_seam}
use Rattle.std.proofs.lemmas.List.{drop-take}
use Rattle.decimal.proofs.Bools.{never}
use Rattle.quantity.specs.Limits.{limits}
use Rattle.decimal.specs.Writing.{Put}
use Rattle.decimal.proofs.Writing.{before}
use Rattle.lines.specs.Lines.{LF, COMMA}
use Rattle.lines.specs.Records.{Record, field}
use Rattle.lines.specs.Spelling.{spell_field}
use Rattle.sheet.specs.Kinds.{kind, kind_of, kind_among, rules_of}
use Rattle.sheet.specs.declared.Kind.{Kind}
use Rattle.sheet.specs.Ranges.{KeepsRanges}
use Rattle.sheet.specs.Verdict.{All, accepted, first_of, sheet_checks}
use Rattle.sheet.proofs.Passed.{keeps_count}
use Rattle.sheet.proofs.Table.{known_letter}
use Rattle.lent.specs.Lent.{RECORD, field_lent, all_zero, field_count, field_words, record_lent, records_lent, spell_lent, sheet_lent}
use Rattle.lent.proofs.Counts.{count_of, none_lent, some_lent}
use Rattle.lent.proofs.ReadBack.{rules_count, records_keep}
use Rattle.lent.proofs.Lines.{fields_to, fields_more, field_at, record_spelt}
use Rattle.lent.proofs.Spelt.{records_lent_lem}
use Rattle.lent.proofs.Steps.{records_first}
use Rattle.record_lines.proofs.Lines.{record_words_lem, sheet_more, length_sheet}

-- from a place on: the record there, and those after it
records_more : (words : List ℕ) (at : ℕ) → at < length words
    → records_lent (drop at words) ≡ record_lent (take RECORD (drop at words)) ∷ records_lent (drop (at + RECORD) words)
records_more words at h =
    let some : 1 ≤ length (drop at words) = omega (arith, length-drop at words) in
    records_first (drop at words) some ∙ ap (λ (l : List ℕ). record_lent (take RECORD (drop at words)) ∷ records_lent l) (drop-drop RECORD at words)

-- ---- a record

words_few : (k : Kind) (behind : List ℕ) → length (field_words k behind) ≤ length behind
words_few k behind = go (all_zero (drop (field_count k) behind))
  where
    go : (b : Bool) → length (cond b (take (field_count k) behind) behind) ≤ length behind
    go true = omega (arith, length-take (field_count k) behind)
    go false = omega arith

module _ (words : List ℕ) (keeps : KeepsRanges limits (record_lent words)) where
  abbrev r : Record
  r = record_lent words

  -- its letter is of a kind
  pub some : count_of words ≡ 0 → ⊥
  unfolding kind_of kind_among
  some e = never (sym (rw (none_lent words e) at keeps.known))

  letter_is : r.letter ≡ get_or words 0 0
  letter_is = ap (λ (l : Record). l.letter) (some_lent words some)

  -- it has as many fields as its kind, and a word for each
  count_is : length r.said ≡ count_of words
  count_is =
      keeps_count (rules_of limits r) r.said keeps.fields ∙ rules_count (kind r) (field r 1) ∙ ap (λ (l : ℕ). field_count (kind_of l)) letter_is

  pub count_within : count_of words + 1 ≤ length words
  count_within =
      let k = kind_of (get_or words 0 0) in
      let said = ap (λ (l : Record). length l.said) (some_lent words some) ∙ length-map (field_words k (drop 1 words)) field_lent in
      let none = some in
      omega (arith, said, count_is, words_few k (drop 1 words), length-drop 1 words)

  -- THE LINE OF A RECORD THAT KEEPS ITS RANGES
  pub line_is : spell_lent r ≡ get_or words 0 0 ∷ fields_to words (count_of words)
  line_is =
      let above = ltb-true COMMA r.letter (known_letter r keeps.known) in
      record_spelt words (λ e. omega arith) ∙ ap₂ (λ (b n : ℕ). b ∷ fields_to words n) letter_is count_is

-- ---- lists gone over from the last to the first

-- of the first of a list, those before the last part
pub before_last : (l left rest part : List ℕ) → left ≡ rest ++ part → left ≡ take (length left) l → rest ≡ take (length rest) l
before_last l left rest part step are =
    let few : length rest ≤ length left = omega (arith, ap length step, length-append rest part) in
    sym (take_at rest part (length rest) refl) ∙ ap (take (length rest)) (sym step ∙ are) ∙ take-take (length rest) (length left) l few

pub start_left : (words left : List ℕ) (n : ℕ) → left ≡ take (n + 1 - 1) (drop 1 words) → n + 1 ≤ length words
    → (length left ≡ n) × (left ≡ take (length left) (drop 1 words))
start_left words left n e h =
    let m : n + 1 - 1 ≡ n = omega arith in
    let long : length left ≡ n = omega (arith, ap length e, length-take (n + 1 - 1) (drop 1 words), length-drop 1 words) in
    (long, e ∙ ap (λ (k : ℕ). take k (drop 1 words)) (m ∙ sym long))

-- the last of the words that are left is that of the last of the first fields
module _ (words left rest : List ℕ) (w : ℕ) (step : left ≡ rest ++ (w ∷ [])) (are : left ≡ take (length left) (drop 1 words)) where
  pub one_less : length left ≡ length rest + 1
  one_less = ap length step ∙ length-append rest (w ∷ [])

  within : length rest + 1 < length words
  within = omega (arith, one_less, ap length are, length-take (length left) (drop 1 words), length-drop 1 words)

  last_is : w ≡ get_or words (length rest + 1) 0
  last_is =
      sym (get_or-append_seam rest w [] 0) ∙ ap (λ (l : List ℕ). get_or l (length rest) 0) (sym step ∙ are)
      ∙ field_at words (length left) (length rest) (omega (arith, within, one_less, length-take (length left) (drop 1 words), length-drop 1 words))

  pub last_field : fields_to words (length left) ≡ fields_to words (length rest) ++ (COMMA ∷ spell_field (field_lent w))
  last_field =
      ap (fields_to words) one_less ∙ fields_more words (length rest) within
      ∙ ap (λ (v : ℕ). fields_to words (length rest) ++ (COMMA ∷ spell_field (field_lent v))) (sym last_is)

-- ---- the records of a sheet, each of which keeps its ranges

module _ (words : List ℕ) (keep : All (KeepsRanges limits) (records_lent words)) where
  -- those from a record on, and the sheet that they spell is no longer than the whole
  from_record : (k : ℕ) → k * RECORD ≤ length words
      → (All (KeepsRanges limits) (records_lent (drop (k * RECORD) words))) × (length (sheet_lent (drop (k * RECORD) words)) ≤ length (sheet_lent words))
  from_record zero h = (keep, omega arith)
  from_record (suc k) h =
      let inside : k * RECORD < length words = omega arith in
      let next : k * RECORD + RECORD ≡ suc k * RECORD = omega arith in
      let before = from_record k (omega arith) in
      ((rw next at (rw (records_more words (k * RECORD) inside) at before.0)).1, omega (arith, before.1, length_sheet words (k * RECORD) (suc k * RECORD) inside (omega arith)))

-- the words of a record stand from a place, before which there are whole records, to a stop
pub record Stands (words part : List ℕ) (at stop : ℕ) : Type 0 where
  pub before : at / RECORD * RECORD ≡ at
  pub inside : at < length words
  pub ends : stop ≡ min (at + RECORD) (length words)
  pub are : part ≡ take (stop - at) (drop at words)

-- a last record that was cut short
pub cut_stands : (words part : List ℕ) → part ≡ drop (length words / RECORD * RECORD) words → eqb (length part) 0 ≡ false
    → Stands words part (length words / RECORD * RECORD) (length words)
cut_stands words part e cut =
    let some : length part ≡ 0 → ⊥ = eqb-false (length part) 0 cut in
    let at : ℕ = length words / RECORD * RECORD in
    let long : length part ≡ length words - at = ap length e ∙ length-drop at words in
    record {
      before = omega arith;
      inside = omega arith;
      ends = omega arith;
      are = e ∙ sym (take_all (length words - at) (drop at words) (omega (arith, length-drop at words)));
    }

-- the last of whole records that are the first of all
pub last_stands : (words left rest part : List ℕ) (size : ℕ) → size ≡ RECORD → left ≡ take (length left) words → length left / RECORD * RECORD ≡ length left
    → (left ≡ rest ++ part) × (length part ≡ min size (length left)) × (0 < length left) → Stands words part (length rest) (length left)
last_stands words left rest part size nine first whole step =
    let long : length left ≡ length rest + length part = ap length step.0 ∙ length-append rest part in
    let few : length left ≤ length words = omega (arith, ap length first, length-take (length left) words) in
    let more : length left ≡ length rest + (length left - length rest) = omega (arith, long) in
    record {
      before = omega (arith, long, step.1);
      inside = omega (arith, long, step.1, step.2, few);
      ends = omega (arith, long, step.1, step.2, few);
      are = sym (drop_at rest part (length rest) refl) ∙ ap (drop (length rest)) (sym step.0 ∙ first ∙ ap (λ (k : ℕ). take k words) more) ∙ drop-take (length rest) (length left - length rest) words;
    }

-- a record of an accepted sheet
module _ (words : List ℕ) (ok : first_of (sheet_checks limits (sheet_lent words)) ≡ accepted) (part : List ℕ) (at stop : ℕ) (s : Stands words part at stop) where
  keep : All (KeepsRanges limits) (records_lent words)
  keep = rw (records_lent_lem words) at (records_keep (sheet_lent words) ok)

  from : (All (KeepsRanges limits) (records_lent (drop at words))) × (length (sheet_lent (drop at words)) ≤ length (sheet_lent words))
  from = rw s.before at (from_record words keep (at / RECORD) (omega (arith, s.before, s.inside)))

  pub part_keeps : KeepsRanges limits (record_lent part)
  part_keeps = rw ((record_words_lem words at stop s.inside s.ends).0 ∙ sym s.are) at (rw (records_more words at s.inside) at from.0).0

  -- its line and those after it have room in the sheet
  pub part_room : length (spell_lent (record_lent part)) + 1 + length (sheet_lent (drop stop words)) ≤ length (sheet_lent words)
  part_room = omega (arith, from.1, length_sheet words at stop s.inside s.ends, ap (λ (l : List ℕ). length (spell_lent (record_lent l))) s.are)

  first : sheet_lent (drop at words) ≡ (spell_lent (record_lent part) ++ (LF ∷ [])) ++ sheet_lent (drop stop words)
  first =
      sheet_more words at stop s.inside s.ends
      ∙ ap (λ (l : List ℕ). spell_lent (record_lent l) ++ (LF ∷ sheet_lent (drop stop words))) (sym s.are)
      ∙ sym (append_assoc (spell_lent (record_lent part)) (LF ∷ []) (sheet_lent (drop stop words)))

  -- its line is put before those after it
  pub part_put : (space m n : List ℕ) (j i size : ℕ) → size ≤ length space → Put space j (sheet_lent (drop stop words)) m size
      → Put m i (spell_lent (record_lent part) ++ (LF ∷ [])) n j → Put space i (sheet_lent (drop at words)) n size
  part_put space m n j i size h p q = rw first (before h p q)
