-- For the code only: whether the program has read a sheet to its end.
use Rattle.std.specs.Prelude.{ℕ, Bool, false, not, ◌||◌, eqb, ltb, ℤ, Ok, Err}
use Rattle.std.specs.declared.result.Result.{Result}
use Rattle.std.proofs.Common.{of_z}
use Rattle.std.specs.Int.{w64}
use Rattle.quantity.specs.Limits.{limits}

-- one more read found nothing left, and did not fail
abbrev pub none_left : {E : Type 0} → Result Bool E → Bool
none_left (Ok more) = not more
none_left (Err e) = false

-- the same of an answer that is a number: 0 where nothing was left, any other where something was or the read failed
abbrev pub nothing_counted : ℤ → Bool
nothing_counted after = eqb (of_z w64 after) 0

-- Where `got` bytes were read, and then one more read: nothing is left (`none`), and no fault; or the sheet is longer than it may
-- be.
abbrev pub at_end : (got : ℕ) → (none : Bool) → Bool
at_end got none = ltb limits.bytes got || none
