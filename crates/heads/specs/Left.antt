-- For the code only: the fields of a line that are left behind a place of the sheet. Laws join them to Lines.
use Rattle.std.specs.Prelude.{Bool, false, cond, List, [], ℕ, ◌+◌, eqb, ltb, length, take, drop, get_or}
use Rattle.lines.specs.Lines.{COMMA, fields_of}
use Rattle.lines.specs.Words.{line_length}
use Rattle.fields.specs.Scan.{field_length}

-- whether a comma stands at a place of the sheet
abbrev pub comma_at : (sheet : List ℕ) → (place : ℕ) → Bool
comma_at sheet place = cond (ltb place (length sheet)) (eqb (get_or sheet place 0) COMMA) false

-- where the field that starts at a place ends
abbrev pub field_end : (sheet : List ℕ) → (start : ℕ) → ℕ
field_end sheet start = start + field_length (drop start sheet)

-- the fields of the line that these bytes start with
unfoldable pub line_fields : List ℕ → List (List ℕ)
line_fields bytes = fields_of (take (line_length bytes) bytes)

-- the fields after the one that ends here, and where their line ends
unfoldable pub next_fields : (sheet : List ℕ) → (end : ℕ) → List (List ℕ)
next_fields sheet end = cond (comma_at sheet end) (line_fields (drop (end + 1) sheet)) []

unfoldable pub last_end : (sheet : List ℕ) → (end : ℕ) → ℕ
last_end sheet end = cond (comma_at sheet end) (end + 1 + line_length (drop (end + 1) sheet)) end
