-- A source stream by its method, and numbers with a sign. Assumes nothing.
use mathlib.Core.Bool.{Bool, true, false, cond}
use mathlib.Core.Path.{◌≡◌, refl}
use Prim.Native.Nat.{ℕ, zero, suc}
use borrow.Author.Tests.{ne_eqb}
use lib.Dec.{eqb}
use lib.IntN.{pos, neg_ℤ, nat_abs}
use Rattle.quantity.specs.Streams.{carbon_grams, grams_before_biomass, counted}

-- ---- the grams before the biomass step, by method
module _ (kilos a b c : ℕ) where
  pub before_carbon : {m : ℕ} → (m ≡ 1 → ⊥) → (m ≡ 2 → ⊥) → carbon_grams kilos a ≡ grams_before_biomass m kilos a b c
  before_carbon {m} n₁ n₂ = simp (ne_eqb m 1 n₁, ne_eqb m 2 n₂)

-- ---- counted by method
pub minus_size : (n : ℕ) → nat_abs (neg_ℤ (pos n)) ≡ n
minus_size zero = refl
minus_size (suc n) = refl

pub counted_plus : {m : ℕ} (grams : ℕ) → (m ≡ 4 → ⊥) → pos grams ≡ counted m grams
counted_plus {m} grams n = simp (ne_eqb m 4 n)

pub counted_size : (m grams : ℕ) → nat_abs (counted m grams) ≡ grams
counted_size m grams = go (eqb m 4)
  where
    go : (out : Bool) → nat_abs (cond out (neg_ℤ (pos grams)) (pos grams)) ≡ grams
    go true = minus_size grams
    go false = refl
