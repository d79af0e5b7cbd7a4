-- For the reader. Document 01, "Sheets sent back": the offending line as a part of the lent sheet, by its start and its length.
use Rattle.std.specs.Prelude.{List, ℕ, ◌+◌, min, length, take, drop}
use Rattle.lines.specs.Lines.{lines_of, line_bytes, line_start}
use Rattle.places.specs.declared.Place.{Place}

-- the part of the sheet that is a line, without its LF: of length 0 for line 0 and, at the sheet's end, past the last line
unfoldable pub offending_line : (sheet : List ℕ) → (line : ℕ) → Place
offending_line sheet line =
    record {
      start = min (line_start (lines_of sheet) line) (length sheet);
      length = length (line_bytes (lines_of sheet) line);
    }

-- the bytes of a part of the sheet
abbrev pub part_of : (sheet : List ℕ) → Place → List ℕ
part_of sheet part = take part.length (drop part.start sheet)

-- the place of memory that stands so many bytes behind another: a block and an offset
abbrev pub behind : ℕ × ℕ → ℕ → ℕ × ℕ
behind place bytes = (place.0, bytes + place.1)
