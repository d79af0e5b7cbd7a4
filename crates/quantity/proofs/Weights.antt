-- A waste gas's credit is below its charge. Assumes nothing.
use Prim.Native.Nat.{ℕ, ◌*◌, ◌≤◌, ◌<◌}
use native.Mathlib.Omega.{arith}
use Rattle.quantity.specs.Rounding.{round}
use Rattle.quantity.specs.Weights.{waste_gas_charge, waste_gas_credit}
use Rattle.quantity.proofs.Rounding.{thousandths_near}

pub credit_below_charge : (megajoules : ℕ) → 1 ≤ megajoules → waste_gas_credit megajoules < waste_gas_charge megajoules
unfolding waste_gas_charge waste_gas_credit
credit_below_charge megajoules h =
    omega (arith, thousandths_near (megajoules * 56100), thousandths_near (round (megajoules * 56100) 1000 * 667))
