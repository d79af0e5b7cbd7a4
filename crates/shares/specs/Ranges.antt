-- For the code only: what a share keeps, and what `with_bit` asks of its arguments.
use Rattle.std.specs.Prelude.{ℕ, ◌+◌, ◌*◌, ◌^◌, ◌≤◌, ◌<◌}

-- a part of a whole: the whole is at most 2^61
pub record PartRange (part whole : ℕ) : Type 0 where
  pub within : part ≤ whole
  pub positive : 1 ≤ whole
  pub small : whole ≤ 2305843009213693952

-- a bit, and a division under way whose quotient still fits a word with it
pub record BitRange (bit quotient remainder part whole : ℕ) : Type 0 where
  pub one : bit ≤ 1
  pub below : remainder < whole
  pub room : (quotient * whole + remainder) * 2 + bit * part < 2 ^ 64 * whole
