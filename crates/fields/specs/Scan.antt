-- For the code only: a field as the code finds it. Laws join it to Records.
use Rattle.std.specs.Prelude.{◌≡◌, cond, Option, Some, None, List, [], ◌∷◌, ℕ, suc, ◌+◌, ◌-◌, min, ◌≤◌, eqb, length, take, drop, get_or}
use Rattle.decimal.specs.Number.{all_digits, value_from}
use Rattle.lines.specs.Lines.{LF, COMMA}
use Rattle.lines.specs.Records.{Field, number, dash, other, field_of}
use Rattle.lines.specs.Words.{CAP, DASH, OTHER}
use Rattle.fields.specs.declared.Said.{Said}
use Rattle.fields.specs.declared.Said.TheVariants.{Number, Dash, Other}
use Rattle.fields.specs.declared.FieldRead.{FieldRead}
use Rattle.fields.specs.declared.Scanned.{Scanned}

-- how many bytes stand before the first comma or LF: all of them where there is none
unfoldable pub field_length : List ℕ → ℕ
field_length [] = 0
field_length (byte ∷ bytes) = cond (eqb byte LF) 0 (cond (eqb byte COMMA) 0 (suc (field_length bytes)))

-- the bytes of the field that starts at a place of the sheet
abbrev pub field_at : (sheet : List ℕ) → (start : ℕ) → List ℕ
field_at sheet start = take (field_length (drop start sheet)) (drop start sheet)

-- what a field says, where CAP stands for each number above it
abbrev pub said_of : Field → Said
said_of (number n) = Number (min n CAP)
said_of dash = Dash
said_of other = Other

-- what is said in one word
abbrev pub word_of : Said → ℕ
word_of (Number n) = n
word_of Dash = DASH
word_of Other = OTHER

-- a number that is said is at most CAP
abbrev pub Capped : Said → Type 0
Capped (Number n) = n ≤ CAP
Capped Dash = Unit {0}
Capped Other = Unit {0}

-- a number, where all bytes were digits
abbrev pub said_by : (held : Option ℕ) → Said
said_by (Some n) = Number n
said_by None = Other

-- bytes as digits, after digits of the value n, or after a byte that is none
unfoldable pub digits_from : (held : Option ℕ) → List ℕ → Option ℕ
digits_from (Some n) bytes = cond (all_digits bytes) (Some (min (value_from n bytes) CAP)) None
digits_from None bytes = None

-- a value that is held is at most CAP
abbrev pub HeldCapped : Option ℕ → Type 0
HeldCapped (Some n) = n ≤ CAP
HeldCapped None = Unit {0}

-- what is known once the bytes from start to end are looked at: their value as digits, if all are digits
pub record Scanning (sheet : List ℕ) (start : ℕ) (held : Option ℕ) (end : ℕ) : Type 0 where
  pub least : start ≤ end
  pub inside : end ≤ length sheet
  pub capped : HeldCapped held
  pub ends : end + field_length (drop end sheet) ≡ start + field_length (drop start sheet)
  pub number_is : digits_from held (field_at sheet end) ≡ digits_from (Some 0) (field_at sheet start)

-- the field that starts at a place of the sheet, its bytes taken for digits
pub record ScannedAt (sheet : List ℕ) (start : ℕ) (f : Scanned) : Type 0 where
  pub number_is : f.number ≡ digits_from (Some 0) (field_at sheet start)
  pub end : f.end ≡ start + field_length (drop start sheet)
  pub most : f.end ≤ length sheet

-- what is read at a place of the sheet is the field that starts there
pub record FieldReadAt (sheet : List ℕ) (start : ℕ) (f : FieldRead) : Type 0 where
  pub said : f.said ≡ said_of (field_of (field_at sheet start))
  pub end : f.end ≡ start + field_length (drop start sheet)

pub record FieldBounds (sheet : List ℕ) (start : ℕ) (f : FieldRead) : Type 0 where
  pub least : start ≤ f.end
  pub most : f.end ≤ length sheet
  pub capped : Capped f.said

-- the sheet's last byte is LF
abbrev pub EndsInLF : (sheet : List ℕ) → Type 0
EndsInLF sheet = get_or sheet (length sheet - 1) 0 ≡ LF
