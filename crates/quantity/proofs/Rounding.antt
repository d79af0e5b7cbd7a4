-- Laws of rounding: nothing else opens `round`. Assumes nothing.
use Prim.Native.Nat.{ℕ, ◌+◌, ◌*◌, ◌≤◌, ◌<◌}
use native.Mathlib.Omega.{arith}
use Rattle.quantity.specs.Rounding.{round}

-- at most half the divisor away
pub thousandths_near : (u : ℕ) → (round u 1000 * 1000 ≤ u + 500) × (u < round u 1000 * 1000 + 500)
unfolding round
thousandths_near u = (omega arith, omega arith)

pub ten_thousandths_near : (u : ℕ) → (round u 10000 * 10000 ≤ u + 5000) × (u < round u 10000 * 10000 + 5000)
unfolding round
ten_thousandths_near u = (omega arith, omega arith)
