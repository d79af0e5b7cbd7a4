-- For the code only: a lent record as a line that was read.
use Rattle.std.specs.Prelude.{◌≡◌, List, ℕ, ◌+◌, length, take, drop}
use Rattle.lines.specs.Words.{words}
use Rattle.lines.specs.declared.LineRead.{LineRead}
use Rattle.lent.specs.Lent.{RECORD, record_lent, spell_lent}

-- the words of the record that starts at a place: nine, or those that are there
abbrev pub words_at : (list : List ℕ) → (place : ℕ) → List ℕ
words_at list place = take RECORD (drop place list)

-- the record that starts at a place of the list, as the line that it spells; `start` is where the line starts in the sheet, and `end` the place of
-- its LF there
pub record LentAt (list : List ℕ) (place start : ℕ) (l : LineRead) : Type 0 where
  pub letter : l.letter ≡ (record_lent (words_at list place)).letter
  pub count : l.count ≡ length (record_lent (words_at list place)).said
  pub words : l.words ≡ words (record_lent (words_at list place)).said
  pub end : l.end ≡ start + length (spell_lent (record_lent (words_at list place)))
