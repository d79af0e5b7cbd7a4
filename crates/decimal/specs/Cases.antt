-- Examples. Fields and whether they are numbers.
use Rattle.std.specs.Prelude.{Bool, true, false, List, [], ◌∷◌}
use Prim.Native.String.{String}

pub record Example : Type 0 where
  pub field : String
  pub is_number : Bool

abbrev example : String → Bool → Example
example field is_number = record { field = field; is_number = is_number }

unfoldable pub examples : List Example
examples =
    example "0" true
    ∷ example "9" true
    ∷ example "10" true
    ∷ example "1234567890123456789012345678901234567890" true
    ∷ example "" false
    ∷ example "00" false
    ∷ example "05" false
    ∷ example "-" false
    ∷ example "-1" false
    ∷ example "+1" false
    ∷ example " 1" false
    ∷ example "1 " false
    ∷ example "1.0" false
    ∷ example "/" false
    ∷ example ":" false
    ∷ []
