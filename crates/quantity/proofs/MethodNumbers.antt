-- A number from 1 to 4 stands for a method. Assumes nothing.
use Rattle.std.proofs.Common.{rules, ℕ, ◌≤◌, arith}
use Rattle.std.specs.Prelude.{Result, Ok, Err, IsOk}
use Rattle.quantity.specs.Methods.{HasNumber}
use Rattle.quantity.specs.declared.method.Method.{Method}
use Rattle.quantity.specs.declared.method.Method.TheVariants.{Combustion, ProcessEmission, CarbonIn, CarbonOut}
use Rattle.quantity.specs.declared.method.NoMethod.{NoMethod}

pub is_method : (number : ℕ) (r : Result Method NoMethod) → HasNumber number r → 1 ≤ number → number ≤ 4 → IsOk r
is_method number (Ok method) h low high = search rules
is_method number (Err e) h low high = absurd (omega (arith, h Combustion, h ProcessEmission, h CarbonIn, h CarbonOut))
