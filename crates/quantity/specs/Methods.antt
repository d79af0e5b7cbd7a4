-- For the reader. Document 01, "Source streams": the number of each method.
use Rattle.std.specs.Prelude.{◌≡◌, ℕ, Result, MatchResult}
use Rattle.quantity.specs.declared.method.Method.{Method}
use Rattle.quantity.specs.declared.method.Method.TheVariants.{Combustion, ProcessEmission, CarbonIn, CarbonOut}
use Rattle.quantity.specs.declared.method.NoMethod.{NoMethod}

abbrev pub method_number : Method → ℕ
-- burning
method_number Combustion = 1
method_number ProcessEmission = 2
-- carbon going in and carbon going out
method_number CarbonIn = 3
method_number CarbonOut = 4

-- the method that a number stands for, or that it stands for none
abbrev pub HasNumber : ℕ → Result Method NoMethod → Type 0
HasNumber number r = MatchResult r (λ method. method_number method ≡ number) (λ e. (method : Method) → method_number method ≡ number → ⊥)
