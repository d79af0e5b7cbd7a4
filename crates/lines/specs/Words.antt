-- For the code only: what a line says as the code holds it. Laws join it to Records.
use Rattle.std.specs.Prelude.{◌≡◌, cond, List, [], ◌∷◌, map, ℕ, suc, ◌+◌, min, eqb, ltb, length, take, drop, replicate}
use Rattle.std.proofs.lemmas.List.Edits.{sets}
use Rattle.lines.specs.Lines.{LF, Line, line}
use Rattle.lines.specs.Records.{Field, number, dash, other, record_of}
use Rattle.lines.specs.declared.LineRead.{LineRead}

-- as many fields as the longest line has after its first
abbrev pub WORDS : ℕ
WORDS = 8

-- above every range: stands for each number that is as great or greater
abbrev pub CAP : ℕ
CAP = 1000000000000000

-- the marks of `-` and of anything else
abbrev pub DASH : ℕ
DASH = CAP + 1

abbrev pub OTHER : ℕ
OTHER = CAP + 2

-- a field in one word
unfoldable pub word : Field → ℕ
word (number n) = min n CAP
word dash = DASH
word other = OTHER

-- the words of the first eight fields, 0 where there are fewer
unfoldable pub words : List Field → List ℕ
words fields = sets (replicate WORDS 0) 0 (map word fields)

-- how many bytes stand before the first LF: all of them where there is none
unfoldable pub line_length : List ℕ → ℕ
line_length [] = 0
line_length (byte ∷ bytes) = cond (eqb byte LF) 0 (suc (line_length bytes))

-- the line that starts at a place of the sheet
unfoldable pub line_at : (sheet : List ℕ) → (start : ℕ) → Line
line_at sheet start =
    line (take (line_length (drop start sheet)) (drop start sheet)) (ltb (line_length (drop start sheet)) (length (drop start sheet)))

-- what is read at a place of the sheet is the line that starts there
pub record ReadAt (sheet : List ℕ) (start : ℕ) (l : LineRead) : Type 0 where
  pub letter : l.letter ≡ (record_of (line_at sheet start)).letter
  pub count : l.count ≡ length (record_of (line_at sheet start)).said
  pub words : l.words ≡ words (record_of (line_at sheet start)).said
  pub end : l.end ≡ start + line_length (drop start sheet)
