-- `letter_in` meets its contract: a first field of one byte; shown so that a longer one taken for a letter is refused for the fact. Assumes
-- nothing.
use mathlib.Core.Path.{◌≡◌, refl}
use mathlib.Core.List.{List, [], ◌∷◌}
use Prim.Native.Nat.{ℕ, ◌<◌}
use native.Mathlib.Omega.{arith}
use lib.ListN.{length, get_or}
use Rattle.lines.specs.Records.{letter_in}
use Rattle.heads.proofs.letter_in.Goals as goal

one_byte : (field : List ℕ) → length field < 2 → get_or field 0 0 ≡ letter_in field
one_byte [] below = refl
one_byte (byte ∷ []) below = refl
one_byte (byte ∷ next ∷ bytes) below = absurd (let no : ⊥ = omega (arith, below) in no)

pub returns-in-len1 : goal.returns-in-len1
returns-in-len1 c = one_byte c.args.first_field.now c.in-len1.len_below
