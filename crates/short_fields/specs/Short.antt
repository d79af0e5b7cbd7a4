-- For the code only: a short number or `-` as the code finds it. Laws join it to Records.
use Rattle.std.specs.Prelude.{◌≡◌, Bool, true, false, cond, ◌&&◌, Option, Some, None, List, ℕ, ◌+◌, ◌<◌, eqb, ltb, leb, length, drop, get_or}
use Rattle.decimal.specs.Number.{is_digit}
use Rattle.lines.specs.Lines.{LF, COMMA}
use Rattle.lines.specs.Records.{field_of}
use Rattle.lines.specs.Words.{CAP, DASH, word}
use Rattle.fields.specs.Scan.{field_length, field_at, Scanning}
use Rattle.short_fields.specs.declared.Digits.{Digits}
use Rattle.fields.specs.declared.Stop.TheVariants.{Comma, LineEnd}
use Rattle.short_fields.specs.declared.ShortField.{ShortField}

-- `1` to `9`
abbrev pub is_leading : (byte : ℕ) → Bool
is_leading byte = ltb 48 byte && leb byte 57

-- a value below this stays below CAP with one digit more
abbrev pub SHORT : ℕ
SHORT = 100000000000000

-- digits that a field starts with, and that one more would ask for the cap or is none
pub record DigitsAt (sheet : List ℕ) (start : ℕ) (d : Digits) : Type 0 where
  pub scanned : Scanning sheet start (Some d.value) d.end
  pub inside : d.end < length sheet
  pub below : d.value < CAP
  pub stops : d.value < SHORT → is_digit (get_or sheet d.end 0) ≡ false

-- a word whose field ends before this byte, if it is a comma or LF
abbrev pub ended_word : (sheet : List ℕ) → (word end : ℕ) → Option ShortField
ended_word sheet word end =
    cond (eqb (get_or sheet end 0) COMMA) (Some (record { word = word; end = end; stop = Comma }))
    (cond (eqb (get_or sheet end 0) LF) (Some (record { word = word; end = end; stop = LineEnd })) None)

-- the word of a number below CAP, or of `-`
abbrev pub is_short : (word : ℕ) → Bool
is_short word = cond (ltb word CAP) true (eqb word DASH)

-- the field that starts at a place of the sheet, if it is a short one and a comma or LF stands behind it
unfoldable pub short_at : (sheet : List ℕ) → (start : ℕ) → Option ShortField
short_at sheet start =
    cond (is_short (word (field_of (field_at sheet start))))
    (ended_word sheet (word (field_of (field_at sheet start))) (start + field_length (drop start sheet)))
    None
