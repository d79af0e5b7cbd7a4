-- Examples. Document 01, "What the contracts say", d: the marked cases, one table, and those of tickets 2 and 4 of document 02.
use Rattle.std.specs.Prelude.{List, [], ◌∷◌, ℕ}
use Prim.Native.String.{String}
use Rattle.decimal.specs.Text.{bytes}
use Rattle.quantity.specs.Rounding.{round}
use Rattle.quantity.specs.Streams.{combustion_grams, process_grams, carbon_grams, fossil_grams}
use Rattle.quantity.specs.Standard.{standard_a, standard_b}
use Rattle.quantity.specs.Weights.{weight, waste_gas_charge, waste_gas_credit}
use Rattle.quantity.specs.Limits.{limits}
use Rattle.goods.specs.Goods.{Taker, taker, portion, left}
use Rattle.report.specs.Outcome.{carbon}

-- numbers or bytes that the definitions give, and those that document 01 prints or that were worked out by hand from document 02
pub record Case : Type 0 where
  pub found : List ℕ
  pub expected : List ℕ

abbrev gives : List ℕ → List ℕ → Case
gives found expected = record { found = found; expected = expected }

abbrev prints : String → String → Case
prints sheet report = gives (carbon limits (bytes sheet)) (bytes report)

abbrev one_kilo_each : List Taker
one_kilo_each = taker 2 1 ∷ taker 3 1 ∷ []

unfoldable pub marked : List Case
marked =
    -- the sheet of "The report"
    prints
    "P,1,1000\nP,2,400\nS,1,1,16,1000,-,-,10000,0\nH,1,2,10000,56100\nE,0,2,500,400000\nB,2,100,1900000,250000\nG,1,2,300\n"
    "R,1,2131800,0,0,2131800,0,1492260,0,2131.800,0.000\nR,2,561000,200000,0,1390540,225000,1390540,225000,3476.350,562.500\nT,3107800,3107800,0,0\n"
    -- 1 kg natural gas, c 10,000, d 0: 2,693 g
    ∷ gives (fossil_grams (combustion_grams 1 (standard_a 1 16) (standard_b 16) 10000) 0 ∷ []) (2693 ∷ [])
    -- 1,000 kg CaCO3, c 10,000, d 0: 440,000 g
    ∷ gives (fossil_grams (process_grams 1000 (standard_a 2 1) 10000) 0 ∷ []) (440000 ∷ [])
    -- carbon in, 1,000 kg at 850,000: 3,114,400 g
    ∷ gives (fossil_grams (carbon_grams 1000 850000) 0 ∷ []) (3114400 ∷ [])
    -- round(1,499/1,000) = 1; round(1,500/1,000) = 2
    ∷ gives (round 1499 1000 ∷ round 1500 1000 ∷ []) (1 ∷ 2 ∷ [])
    -- heat of 1 MJ at 500: 1 g
    ∷ gives (weight 1 500 ∷ []) (1 ∷ [])
    -- W of 1 MJ: 56 and 37; W of 10 MJ: 561 and 374
    ∷ gives (waste_gas_charge 1 ∷ waste_gas_credit 1 ∷ []) (56 ∷ 37 ∷ [])
    ∷ gives (waste_gas_charge 10 ∷ waste_gas_credit 10 ∷ []) (561 ∷ 374 ∷ [])
    -- pool 10, output 3, two takers of 1: portions 3, 3, left 4
    ∷ gives (portion 10 3 one_kilo_each 1 ∷ portion 10 3 one_kilo_each 2 ∷ left 10 3 one_kilo_each ∷ []) (3 ∷ 3 ∷ 4 ∷ [])
    -- `P,1,5` with `E,1,0,1,1000`
    ∷ prints "P,1,5\nE,1,0,1,1000\n" "R,1,0,0,1,0,0,0,0,0.000,0.000\nT,0,-1,1,0\n"
    -- ticket 2: carbon in, 1,000 kg at 850,000, with d 0, 1, 5,000, 9,999 and 10,000: 3,114,400 g, of which 9,999 ten-thousandths are
    -- round(3,114,088.56), 5,000 are 1,557,200 and 1 is round(311.44)
    ∷ prints
    "P,1,1000\nP,2,1000\nP,3,1000\nP,4,1000\nP,5,1000\nS,1,3,0,1000,850000,0,10000,0\nS,2,3,0,1000,850000,0,10000,1\nS,3,3,0,1000,850000,0,10000,5000\nS,4,3,0,1000,850000,0,10000,9999\nS,5,3,0,1000,850000,0,10000,10000\n"
    "R,1,3114400,0,0,3114400,0,3114400,0,3114.400,0.000\nR,2,3114089,0,0,3114089,0,3114089,0,3114.089,0.000\nR,3,1557200,0,0,1557200,0,1557200,0,1557.200,0.000\nR,4,311,0,0,311,0,311,0,0.311,0.000\nR,5,0,0,0,0,0,0,0,0.000,0.000\nT,7786000,7786000,0,0\n"
    -- carbon out with the same shares: every balance is below zero or 0, and what was taken out is raised
    ∷ prints
    "P,1,1000\nP,2,1000\nP,3,1000\nP,4,1000\nP,5,1000\nS,1,4,0,1000,850000,0,10000,0\nS,2,4,0,1000,850000,0,10000,1\nS,3,4,0,1000,850000,0,10000,5000\nS,4,4,0,1000,850000,0,10000,9999\nS,5,4,0,1000,850000,0,10000,10000\n"
    "R,1,0,0,3114400,0,0,0,0,0.000,0.000\nR,2,0,0,3114089,0,0,0,0,0.000,0.000\nR,3,0,0,1557200,0,0,0,0,0.000,0.000\nR,4,0,0,311,0,0,0,0,0.000,0.000\nR,5,0,0,0,0,0,0,0,0.000,0.000\nT,0,-7786000,7786000,0\n"
    -- ticket 4: the sheet of "The report" with an N line in its B line's place, and its figures as rank 2, over rank 3
    ∷ prints
    "P,1,1000\nP,2,400\nK,17,3,5000000,900000\nS,1,1,16,1000,-,-,10000,0\nH,1,2,10000,56100\nE,0,2,500,400000\nN,2,17,100\nG,1,2,300\nK,17,2,1900000,250000\n"
    "R,1,2131800,0,0,2131800,0,1492260,0,2131.800,0.000\nR,2,561000,200000,0,1390540,225000,1390540,225000,3476.350,562.500\nT,3107800,3107800,0,0\n"
    -- a sheet of K lines alone
    ∷ prints "K,17,3,5000000,900000\nK,17,2,1900000,250000\n" "T,0,0,0,0\n"
    ∷ []
