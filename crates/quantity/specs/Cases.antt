-- Examples. They tell the steps of document 01's equations, and of ticket 2 of document 02, apart, with figures worked out by hand.
use Rattle.std.specs.Prelude.{List, [], ◌∷◌, ℤ, pos, negsuc}
use Rattle.quantity.specs.Rounding.{round}
use Rattle.quantity.specs.Streams.{stream_grams}
use Rattle.quantity.specs.Standard.{standard_a, standard_b}
use Rattle.quantity.specs.Weights.{weight, waste_gas_charge, waste_gas_credit}

pub record Example : Type 0 where
  pub found : ℤ
  pub expected : ℤ

abbrev gives : ℤ → ℤ → Example
gives found expected = record { found = found; expected = expected }

unfoldable pub examples : List Example
examples =
    -- a half goes up, less goes down
    gives (pos (round 500 1000)) (pos 1)
    ∷ gives (pos (round 499 1000)) (pos 0)
    ∷ gives (pos (round 5000 10000)) (pos 1)
    ∷ gives (pos (round 4999 10000)) (pos 0)
    -- method 1: T1 = round(1 × 500/1,000) = 1 MJ, T2 = round(1 × 56,100/1,000) = 56 g; T1 not rounded would give 28
    ∷ gives (stream_grams 1 1 500 56100 10000 0) (pos 56)
    -- T1 = 1 MJ, T2 = round(1 × 1,500/1,000) = 2 g, T3 = round(2 × 2,500/10,000) = 1 g; T2 not rounded would give round(0.375) = 0
    ∷ gives (stream_grams 1 1 1000 1500 2500 0) (pos 1)
    -- T3 = round(1 × 5,000/10,000) = 1 g, then round(1 × 5,000/10,000) = 1 g; c and d in one step would give 0
    ∷ gives (stream_grams 1 1 1000 1000 5000 5000) (pos 1)
    -- the biomass share takes d ten-thousandths away: 1,000 g less a quarter
    ∷ gives (stream_grams 1 1000 1000 1000 10000 2500) (pos 750)
    -- method 2: T1 = round(1 × 500/1,000) = 1 g, then c and d
    ∷ gives (stream_grams 2 1 500 0 10000 0) (pos 1)
    ∷ gives (stream_grams 2 3 500 0 5000 5000) (pos 1)
    -- methods 3 and 4: T1 = round(1 × 500/1,000) = 1, round(1 × 3,664/1,000) = 4; T1 not rounded would give 2. Carbon going out counts minus
    ∷ gives (stream_grams 3 1 500 0 10000 0) (pos 4)
    ∷ gives (stream_grams 4 1 500 0 10000 0) (negsuc 3)
    ∷ gives (stream_grams 4 1 0 0 10000 0) (pos 0)
    -- ticket 2: 1,000 kg at 850,000 mg/kg are 3,114,400 g, times 10,000, 9,999, 5,000, 1 and 0 ten-thousandths: 3,114,088.56 and 311.44 are rounded
    ∷ gives (stream_grams 3 1000 850000 0 10000 0) (pos 3114400)
    ∷ gives (stream_grams 3 1000 850000 0 10000 1) (pos 3114089)
    ∷ gives (stream_grams 3 1000 850000 0 10000 5000) (pos 1557200)
    ∷ gives (stream_grams 3 1000 850000 0 10000 9999) (pos 311)
    ∷ gives (stream_grams 3 1000 850000 0 10000 10000) (pos 0)
    ∷ gives (stream_grams 4 1000 850000 0 10000 0) (negsuc 3114399)
    ∷ gives (stream_grams 4 1000 850000 0 10000 1) (negsuc 3114088)
    ∷ gives (stream_grams 4 1000 850000 0 10000 5000) (negsuc 1557199)
    ∷ gives (stream_grams 4 1000 850000 0 10000 9999) (negsuc 310)
    ∷ gives (stream_grams 4 1000 850000 0 10000 10000) (pos 0)
    -- T1 = 3, round(3 × 3,664/1,000) = 11 g, half of them round(5.5) = 6; the share taken before 3,664 would give 7, one rounding at the end 5
    ∷ gives (stream_grams 3 3 1000 0 10000 5000) (pos 6)
    ∷ gives (stream_grams 4 3 1000 0 10000 5000) (negsuc 5)
    -- standard values: of a fuel in method 1, of a carbonate in method 2
    ∷ gives (pos (standard_a 1 15)) (pos 2470)
    ∷ gives (pos (standard_b 15)) (pos 260000)
    ∷ gives (pos (standard_a 2 9)) (pos 380000)
    -- weights
    ∷ gives (pos (weight 1000 400000)) (pos 400000)
    ∷ gives (pos (waste_gas_charge 1000)) (pos 56100)
    ∷ gives (pos (waste_gas_credit 1000)) (pos 37419)
    ∷ []
