-- For the code only: the words of a line that was read, as a lent list has them. A law joins them to the words of the record that the line says.
use Rattle.std.specs.Prelude.{cond, List, ◌∷◌, map, ℕ, eqb}
use Rattle.lines.specs.Words.{DASH}
use Rattle.lines.specs.declared.LineRead.{LineRead}
use Rattle.lent.specs.Lent.{DASH_WORD}

-- a field's word as a lent word
abbrev pub as_lent : (word : ℕ) → ℕ
as_lent word = cond (eqb word (DASH)) DASH_WORD word

-- the letter, then the eight words
unfoldable pub line_words : LineRead → List ℕ
line_words l = l.letter ∷ map as_lent l.words
