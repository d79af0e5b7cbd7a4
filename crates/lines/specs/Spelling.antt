-- For the reader. Document 01, "The sheet": a record spelt as a line, and records as a sheet; which of them can be read again.
use Rattle.std.specs.Prelude.{Bool, true, false, ◌&&◌, List, [], ◌∷◌, ◌++◌, ℕ, ltb}
use Rattle.decimal.specs.Spelling.{spelling}
use Rattle.lines.specs.Lines.{LF, COMMA}
use Rattle.lines.specs.Records.{Field, number, dash, other, Record}

abbrev pub spell_field : Field → List ℕ
spell_field (number n) = spelling n
spell_field dash = 45 ∷ []
spell_field other = []

-- each field with the comma before it
unfoldable pub spell_fields : List Field → List ℕ
spell_fields [] = []
spell_fields (f ∷ fs) = COMMA ∷ (spell_field f ++ spell_fields fs)

-- a line without its LF
unfoldable pub spell_line : Record → List ℕ
spell_line r = r.letter ∷ spell_fields r.said

unfoldable pub spell_sheet : List Record → List ℕ
spell_sheet [] = []
spell_sheet (r ∷ rs) = spell_line r ++ (LF ∷ spell_sheet rs)

-- ---- what can be spelt and read again

-- a number or `-`
abbrev pub plain : Field → Bool
plain (number n) = true
plain dash = true
plain other = false

unfoldable pub all_plain : List Field → Bool
all_plain [] = true
all_plain (f ∷ fs) = plain f && all_plain fs

-- a byte above the comma, as every letter is
abbrev pub is_letter : (byte : ℕ) → Bool
is_letter byte = ltb COMMA byte

abbrev pub readable : Record → Bool
readable r = is_letter r.letter && all_plain r.said

unfoldable pub all_readable : List Record → Bool
all_readable [] = true
all_readable (r ∷ rs) = readable r && all_readable rs
