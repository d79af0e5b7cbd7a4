-- Records that callers lend, spelt and read again: the lines of the sheet that they spell are theirs, the k-th record's being line k. Assumes
-- nothing.
use mathlib.Core.Path.{◌≡◌, refl, ap, ap₂, ◌∙◌}
use mathlib.Core.Bool.{Bool, true, false, cond}
use mathlib.Core.List.{List, [], ◌∷◌, map}
use Prim.Native.Nat.{ℕ, zero, suc, ◌+◌, ◌*◌, ◌≤◌}
use native.Mathlib.Omega.{arith}
use borrow.Author.Tests.{ltb-true, ne_eqb}
use lib.Dec.{eqb}
use lib.ListN.{length, take, drop, length-drop}
use lib.Seq.{drop-nil, drop-drop}
use Rattle.lines.specs.Lines.{LF, COMMA, Line, line, lines_of, fields_of, line_bytes}
use Rattle.lines.specs.Records.{Field, number, dash, Record, record_of, records_of}
use Rattle.lines.specs.Spelling.{plain, all_plain, is_letter, readable}
use Rattle.lines.proofs.OneRecord.{lacks, line_lacks_lf, read_line, lines_then}
use Rattle.sheet.specs.Kinds.{kind_of, letter}
use Rattle.sheet.proofs.Table.{known_letter}
use Rattle.lent.specs.Lent.{RECORD, DASH_WORD, field_lent, field_words, record_lent, records_lent_to, record_count, records_lent}
use Rattle.lent.specs.Lent.{spell_lent, spell_all, sheet_lent}
use Rattle.lent.specs.AsRead.{words_at}

-- ---- a field, a record

word_plain : (w : ℕ) → plain (field_lent w) ≡ true
word_plain w = go (eqb w DASH_WORD)
  where
    go : (b : Bool) → plain (cond b dash (number w)) ≡ true
    go true = refl
    go false = refl

words_plain : (ws : List ℕ) → all_plain (map field_lent ws) ≡ true
unfolding all_plain
words_plain [] = refl
words_plain (w ∷ ws) = rw (word_plain w) (words_plain ws)

abbrev none : Record
none = record { letter = 0; said = [] }

-- a record of a letter of a kind
module _ (first : ℕ) (behind : List ℕ) (known : eqb (letter (kind_of first)) 0 ≡ false) where
  abbrev said : List Field
  said = map field_lent (field_words (kind_of first) behind)

  abbrev lent : Record
  lent = record { letter = first; said = said }

  above : is_letter first ≡ true
  above = known_letter lent known

  not_none : eqb first 0 ≡ false
  not_none = let h = ltb-true COMMA first above in ne_eqb first 0 (λ e. omega arith)

  can_be_read : readable lent ≡ true
  can_be_read = rw (above, words_plain (field_words (kind_of first) behind))

-- ---- a line

none_read : record_of (line (spell_lent none) true) ≡ none
unfolding record_of fields_of
none_read = refl

-- the line that a lent record spells says that record
pub lent_read : (words : List ℕ) → record_of (line (spell_lent (record_lent words)) true) ≡ record_lent words
unfolding record_lent
lent_read [] = none_read
lent_read (first ∷ behind) = go (eqb (letter (kind_of first)) 0) refl
  where
    go : (b : Bool) → eqb (letter (kind_of first)) 0 ≡ b
        → let r : Record = cond b none (record { letter = first; said = map field_lent (field_words (kind_of first) behind) }) in
        record_of (line (spell_lent r) true) ≡ r
    go true e = none_read
    go false e = rw (not_none first behind e) (read_line (lent first behind e) true (can_be_read first behind e))

pub lent_lacks_lf : (words : List ℕ) → lacks LF (spell_lent (record_lent words)) ≡ true
unfolding record_lent lacks
lent_lacks_lf [] = refl
lent_lacks_lf (first ∷ behind) = go (eqb (letter (kind_of first)) 0) refl
  where
    go : (b : Bool) → eqb (letter (kind_of first)) 0 ≡ b
        → lacks LF (spell_lent (cond b none (record { letter = first; said = map field_lent (field_words (kind_of first) behind) }))) ≡ true
    go true e = refl
    go false e = rw (not_none first behind e) (line_lacks_lf (lent first behind e) (above first behind e))

-- ---- the sheet

-- the line of a record, with its LF
abbrev pub line_lent : Record → Line
line_lent r = line (spell_lent r) true

lines_to : (count : ℕ) (words : List ℕ) → lines_of (spell_all (records_lent_to count words)) ≡ map line_lent (records_lent_to count words)
unfolding records_lent_to spell_all lines_of
lines_to zero words = refl
lines_to (suc n) words =
    let r = record_lent (take RECORD words) in
    lines_then (spell_lent r) (spell_all (records_lent_to n (drop RECORD words))) (lent_lacks_lf (take RECORD words))
    ∙ ap (λ (ls : List Line). line_lent r ∷ ls) (lines_to n (drop RECORD words))

-- THE LINES OF THE SHEET THAT RECORDS SPELL, A RECORD EACH
pub lines_lent : (words : List ℕ) → lines_of (sheet_lent words) ≡ map line_lent (records_lent words)
unfolding sheet_lent records_lent
lines_lent words = lines_to _ words

records_to : (count : ℕ) (words : List ℕ) → map record_of (map line_lent (records_lent_to count words)) ≡ records_lent_to count words
unfolding records_lent_to
records_to zero words = refl
records_to (suc n) words = ap₂ (λ (r : Record) (rs : List Record). r ∷ rs) (lent_read (take RECORD words)) (records_to n (drop RECORD words))

-- THE RECORDS OF THE WRITTEN SHEET ARE THE SAME RECORDS
pub records_lent_lem : (words : List ℕ) → records_of (sheet_lent words) ≡ records_lent words
unfolding records_of records_lent
records_lent_lem words = ap (map record_of) (lines_lent words) ∙ records_to _ words

-- ---- how many records, and the k-th

count_to : (count : ℕ) (words : List ℕ) → length (records_lent_to count words) ≡ count
unfolding records_lent_to
count_to zero words = refl
count_to (suc n) words = ap suc (count_to n (drop RECORD words))

pub records_count : (words : List ℕ) → length (records_lent words) ≡ record_count words
unfolding records_lent
records_count words = count_to _ words

kth_to : (count : ℕ) (words : List ℕ) (k : ℕ) → length words ≤ count * RECORD
    → line_bytes (map line_lent (records_lent_to count words)) (suc k) ≡ spell_lent (record_lent (words_at words (k * RECORD)))
unfolding records_lent_to record_lent line_bytes
kth_to zero [] k few = rw (drop-nil {A = ℕ} (k * RECORD))
kth_to zero (w ∷ words) k few = absurd (omega arith)
kth_to (suc n) words zero few = refl
kth_to (suc n) words (suc k) few =
    let next : RECORD + k * RECORD ≡ suc k * RECORD = omega arith in
    kth_to n (drop RECORD words) k (omega (arith, length-drop RECORD words))
    ∙ ap (λ (l : List ℕ). spell_lent (record_lent (take RECORD l))) (drop-drop (k * RECORD) RECORD words ∙ ap (λ (at : ℕ). drop at words) next)

-- THE K-TH RECORD IS LINE K: it has the nine words that start at nine times k - 1, or those that are there. Past the last both are empty
pub kth_line : (words : List ℕ) (k : ℕ) → line_bytes (lines_of (sheet_lent words)) (suc k) ≡ spell_lent (record_lent (words_at words (k * RECORD)))
unfolding records_lent
kth_line words k = ap (λ (ls : List Line). line_bytes ls (suc k)) (lines_lent words) ∙ kth_to (record_count words) words k (omega arith)
