-- The biomass step: with d = 0 a source stream has the grams that stood before it, and with d = 10,000 none. Assumes nothing.
use mathlib.Core.Bool.{Bool, true, false, cond}
use mathlib.Core.Path.{◌≡◌, refl, ap, ◌∙◌}
use Prim.Native.Nat.{ℕ, ◌*◌}
use native.Mathlib.Omega.{arith}
use lib.Dec.{eqb}
use lib.IntN.{pos, neg_ℤ}
use Rattle.quantity.specs.Streams.{grams_before_biomass, fossil_grams, counted, stream_grams}
use Rattle.quantity.proofs.Rounding.{ten_thousandths_near}

no_share : (grams : ℕ) → fossil_grams grams 0 ≡ grams
unfolding fossil_grams
no_share grams = omega (arith, ten_thousandths_near (grams * 10000))

whole_share : (grams : ℕ) → fossil_grams grams 10000 ≡ 0
unfolding fossil_grams
whole_share grams = omega (arith, ten_thousandths_near (grams * 0))

counted_none : (method : ℕ) → counted method 0 ≡ pos 0
counted_none method = go (eqb method 4)
  where
    go : (out : Bool) → cond out (neg_ℤ (pos 0)) (pos 0) ≡ pos 0
    go true = refl
    go false = refl

module _ (method kilos a b c : ℕ) where
  pub no_biomass : stream_grams method kilos a b c 0 ≡ counted method (grams_before_biomass method kilos a b c)
  unfolding stream_grams
  no_biomass = ap (counted method) (no_share (grams_before_biomass method kilos a b c))

  pub all_biomass : stream_grams method kilos a b c 10000 ≡ pos 0
  unfolding stream_grams
  all_biomass = ap (counted method) (whole_share (grams_before_biomass method kilos a b c)) ∙ counted_none method
