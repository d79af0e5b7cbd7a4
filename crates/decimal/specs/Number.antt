-- For the reader. Document 01, "The sheet": a number as it is read. Its value has no bound.
use Rattle.std.specs.Prelude.{Bool, true, false, ◌&&◌, not, List, [], ◌∷◌, ℕ, ◌+◌, ◌-◌, ◌*◌, eqb, leb}

-- `0` to `9`
abbrev pub is_digit : (byte : ℕ) → Bool
is_digit byte = leb 48 byte && leb byte 57

unfoldable pub all_digits : List ℕ → Bool
all_digits [] = true
all_digits (byte ∷ bytes) = is_digit byte && all_digits bytes

-- one or more digits, however many, with no leading zero except `0` itself
unfoldable pub is_number : List ℕ → Bool
is_number [] = false
is_number (byte ∷ []) = is_digit byte
is_number (byte ∷ next ∷ bytes) = not (eqb byte 48) && all_digits (byte ∷ next ∷ bytes)

-- the value of digits that stand after digits of the value n
unfoldable pub value_from : (n : ℕ) → List ℕ → ℕ
value_from n [] = n
value_from n (byte ∷ bytes) = value_from (n * 10 + (byte - 48)) bytes

abbrev pub value : List ℕ → ℕ
value bytes = value_from 0 bytes
