-- For the reader. Document 01, "The sheet": what a line says, whatever kinds of lines a list has. A record keeps it, `-` apart from a number.
use Rattle.std.specs.Prelude.{Bool, false, cond, List, [], ◌∷◌, map, ℕ, eqb, get_or}
use Rattle.decimal.specs.Number.{is_number, value}
use Rattle.lines.specs.Lines.{Line, lines_of, fields_of}

-- ---- fields

-- what a field says: a number, `-`, or something else
pub data Field : Type 0 where
  number : ℕ → Field
  dash : Field
  other : Field

abbrev pub is_dash : List ℕ → Bool
is_dash [] = false
is_dash (byte ∷ []) = eqb byte 45
is_dash (byte ∷ next ∷ bytes) = false

unfoldable pub field_of : List ℕ → Field
field_of bytes = cond (is_number bytes) (number (value bytes)) (cond (is_dash bytes) dash other)

-- ---- records

-- the letter that a line's first field is: its one byte, 0 where it has none or several
abbrev pub letter_in : (first_field : List ℕ) → ℕ
letter_in [] = 0
letter_in (byte ∷ []) = byte
letter_in (byte ∷ next ∷ bytes) = 0

-- a line's letter, and what each field after the first says
pub record Record : Type 0 where
  pub letter : ℕ
  pub said : List Field

abbrev pub record_from : List (List ℕ) → Record
record_from [] = record { letter = 0; said = [] }
record_from (first ∷ fields) = record { letter = letter_in first; said = map field_of fields }

unfoldable pub record_of : Line → Record
record_of l = record_from (fields_of l.bytes)

-- the records of a sheet, a line each
unfoldable pub records_of : (sheet : List ℕ) → List Record
records_of sheet = map record_of (lines_of sheet)

-- the k-th field after the first, counted from 0, and its number
abbrev pub field : Record → (k : ℕ) → Field
field r k = get_or r.said k other

abbrev pub number_in : Field → ℕ
number_in (number n) = n
number_in dash = 0
number_in other = 0

abbrev pub number_at : Record → (k : ℕ) → ℕ
number_at r k = number_in (field r k)
