-- Tables of standard values: what stands at each code, and a bound that one computation over the table gives. Assumes nothing.
use mathlib.Core.Path.{◌≡◌, refl}
use mathlib.Core.List.{List, [], ◌∷◌, map}
use Prim.Native.Nat.{ℕ, zero, suc, max, ◌-◌, ◌≤◌}
use native.Mathlib.Nat.{le_trans}
use native.Mathlib.Omega.{arith}
use lib.ListN.{get_or, get_or-map}
use Rattle.quantity.specs.Standard.{Fuel, fuel, fuels, carbonates, fuel_of, carbonate_of}

-- the values of the codes stand in the list from code 1 on
pub record Lists (l : List ℕ) (value : ℕ → ℕ) : Type 0 where
  pub none : 0 ≡ value 0
  pub each : (k : ℕ) → get_or l k 0 ≡ value (suc k)

pub net_calorific_values : Lists (map (λ (x : Fuel). x.net_calorific_value) fuels) (λ code. (fuel_of code).net_calorific_value)
unfolding fuel_of
net_calorific_values = record { none = refl; each = λ k. get_or-map (λ (x : Fuel). x.net_calorific_value) fuels k (fuel 0 0) }

pub emission_factors : Lists (map (λ (x : Fuel). x.emission_factor) fuels) (λ code. (fuel_of code).emission_factor)
unfolding fuel_of
emission_factors = record { none = refl; each = λ k. get_or-map (λ (x : Fuel). x.emission_factor) fuels k (fuel 0 0) }

pub carbonate_factors : Lists carbonates carbonate_of
unfolding carbonate_of
carbonate_factors = record { none = refl; each = λ k. refl }

abbrev pub largest : List ℕ → ℕ
largest [] = 0
largest (x ∷ xs) = max x (largest xs)

pub at_most_largest : (l : List ℕ) (k : ℕ) → get_or l k 0 ≤ largest l
at_most_largest [] k = omega arith
at_most_largest (x ∷ xs) zero = omega arith
at_most_largest (x ∷ xs) (suc k) = omega (arith, at_most_largest xs k)

-- what stands in the table for a code is the code's value, and at most the largest
pub at_found : {l : List ℕ} {value : ℕ → ℕ} → Lists l value → (most : ℕ) → largest l ≤ most → (code : ℕ) → (code ≡ 0 → ⊥)
    → (get_or l (code - 1) 0 ≡ value code) × (get_or l (code - 1) 0 ≤ most)
at_found t most h zero n = absurd (n refl)
at_found {l} {value} t most h (suc k) n =
    let e : suc k - 1 ≡ k = omega arith in
    (rw e (t.each k), le_trans (at_most_largest l (suc k - 1)) h)

-- the value of a code is at most the largest of its table
value_small : {l : List ℕ} {value : ℕ → ℕ} → Lists l value → (most : ℕ) → largest l ≤ most → (code : ℕ) → value code ≤ most
value_small t most h zero = omega (arith, t.none)
value_small {l} t most h (suc k) = omega (arith, t.each k, at_most_largest l k)

pub calorific_small : (code : ℕ) → (fuel_of code).net_calorific_value ≤ 200000
unfolding fuels
calorific_small = value_small net_calorific_values 200000 (omega arith)

pub factor_small : (code : ℕ) → (fuel_of code).emission_factor ≤ 400000
unfolding fuels
factor_small = value_small emission_factors 400000 (omega arith)

pub carbonate_small : (code : ℕ) → carbonate_of code ≤ 4000000
unfolding carbonates
carbonate_small = value_small carbonate_factors 4000000 (omega arith)
