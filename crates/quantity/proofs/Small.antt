-- How many grams a weight, a charge and a source stream have at most, where quantities and factors keep document 01's ranges. Assumes nothing.
use mathlib.Core.Path.{◌≡◌, refl}
use mathlib.Core.Bool.{Bool, true, false, cond}
use Prim.Native.Nat.{ℕ, ◌*◌, ◌-◌, ◌≤◌}
use native.Mathlib.Nat.{mul-le-mul, le_refl}
use native.Mathlib.Omega.{arith}
use borrow.Author.Tests.{eqb-true, eqb-false}
use lib.Dec.{eqb}
use lib.IntN.{nat_abs}
use Rattle.quantity.specs.Rounding.{round}
use Rattle.quantity.specs.Streams.{combustion_grams, process_grams, carbon_grams, grams_before_biomass, fossil_grams, stream_grams}
use Rattle.quantity.specs.Weights.{weight, waste_gas_charge}
use Rattle.quantity.specs.Ranges.{most_grams, most_megajoules, StreamRange}
use Rattle.quantity.proofs.Rounding.{thousandths_near, ten_thousandths_near}
use Rattle.quantity.proofs.Methods.{counted_size}

-- a quantity and a factor within bounds weigh no more than the bounds do
rounded_le : (q f most-q most-f most : ℕ) → q ≤ most-q → f ≤ most-f → most-q * most-f ≤ most * 1000 → round (q * f) 1000 ≤ most
rounded_le q f most-q most-f most h g m = omega (arith, thousandths_near (q * f), mul-le-mul h g)

pub weight_small : (q f most-q most-f most : ℕ) → q ≤ most-q → f ≤ most-f → most-q * most-f ≤ most * 1000 → weight q f ≤ most
unfolding weight
weight_small q f most-q most-f most h g m = rounded_le q f most-q most-f most h g m

pub charge_small : (megajoules : ℕ) → megajoules ≤ most_megajoules → waste_gas_charge megajoules ≤ most_grams
unfolding waste_gas_charge
charge_small megajoules h = rounded_le megajoules 56100 most_megajoules 56100 most_grams h (le_refl 56100) (omega arith)

-- a share of ten-thousandths is no more than the whole
pub share_le : (grams share most : ℕ) → grams ≤ most → share ≤ 10000 → round (grams * share) 10000 ≤ most
share_le grams share most h g = omega (arith, ten_thousandths_near (grams * share), mul-le-mul h g)

fossil_small : (grams d most : ℕ) → grams ≤ most → fossil_grams grams d ≤ most
unfolding fossil_grams
fossil_small grams d most h = share_le grams (10000 - d) most h (omega arith)

module _ (method kilos a b c d : ℕ) (range : StreamRange method kilos a b c d) where
  combustion_small : method ≡ 1 → combustion_grams kilos a b c ≤ most_grams
  unfolding combustion_grams
  combustion_small m =
      let T1 = rounded_le kilos a 10000000000 200000 2000000000000 range.mass (range.calorific m) (omega arith) in
      let T2 = rounded_le (round (kilos * a) 1000) b 2000000000000 400000 most_grams T1 (range.factor m) (omega arith) in
      share_le _ c most_grams T2 range.oxidation

  process_small : method ≡ 2 → process_grams kilos a c ≤ most_grams
  unfolding process_grams
  process_small m =
      let T1 = rounded_le kilos a 10000000000 4000000 most_grams range.mass (range.process m) (omega arith) in
      share_le _ c most_grams T1 range.oxidation

  carbon_small : (method ≡ 1 → ⊥) → (method ≡ 2 → ⊥) → carbon_grams kilos a ≤ most_grams
  unfolding carbon_grams
  carbon_small m n =
      let T1 = rounded_le kilos a 10000000000 1000000 10000000000000 range.mass (range.content m n) (omega arith) in
      rounded_le (round (kilos * a) 1000) 3664 10000000000000 3664 most_grams T1 (le_refl 3664) (omega arith)

  before_small : grams_before_biomass method kilos a b c ≤ most_grams
  before_small = go (eqb method 1) refl (eqb method 2) refl
    where
      go : (i : Bool) → eqb method 1 ≡ i → (j : Bool) → eqb method 2 ≡ j
          → cond i (combustion_grams kilos a b c) (cond j (process_grams kilos a c) (carbon_grams kilos a)) ≤ most_grams
      go true e j f = combustion_small (eqb-true method 1 e)
      go false e true f = process_small (eqb-true method 2 f)
      go false e false f = carbon_small (eqb-false method 1 e) (eqb-false method 2 f)

  -- its sign aside
  pub stream_small : nat_abs (stream_grams method kilos a b c d) ≤ most_grams
  unfolding stream_grams
  stream_small = rw (counted_size method (fossil_grams (grams_before_biomass method kilos a b c) d)) (fossil_small _ d _ before_small)
