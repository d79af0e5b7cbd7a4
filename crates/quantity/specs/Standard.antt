-- For the reader. Document 01, "Source streams": the standard value of each code.
use Rattle.std.specs.Prelude.{cond, List, [], ◌∷◌, ℕ, zero, suc, eqb, get_or}

-- a fuel: net calorific value in kJ/kg, emission factor in mg/MJ
pub record Fuel : Type 0 where
  pub net_calorific_value : ℕ
  pub emission_factor : ℕ

abbrev pub fuel : (net_calorific_value emission_factor : ℕ) → Fuel
fuel net_calorific_value emission_factor = record { net_calorific_value = net_calorific_value; emission_factor = emission_factor }

-- codes 1 to 16
unfoldable pub fuels : List Fuel
fuels =
    -- 1 crude oil
    fuel 42300 73300
    -- 2 motor gasoline
    ∷ fuel 44300 69300
    -- 3 kerosene
    ∷ fuel 43800 71900
    -- 4 gas/diesel oil
    ∷ fuel 43000 74100
    -- 5 residual fuel oil
    ∷ fuel 40400 77400
    -- 6 LPG
    ∷ fuel 47300 63100
    -- 7 petroleum coke
    ∷ fuel 32500 97500
    -- 8 anthracite
    ∷ fuel 26700 98300
    -- 9 coking coal
    ∷ fuel 28200 94600
    -- 10 other bituminous coal
    ∷ fuel 25800 94600
    -- 11 sub-bituminous
    ∷ fuel 18900 96100
    -- 12 lignite
    ∷ fuel 11900 101000
    -- 13 coke oven coke
    ∷ fuel 28200 107000
    -- 14 coke oven gas
    ∷ fuel 38700 44400
    -- 15 blast furnace gas
    ∷ fuel 2470 260000
    -- 16 natural gas
    ∷ fuel 48000 56100
    ∷ []

-- codes 1 to 9: the emission factor of a carbonate in mg/kg
unfoldable pub carbonates : List ℕ
carbonates =
    -- 1 CaCO3
    440000
    -- 2 MgCO3
    ∷ 522000
    -- 3 Na2CO3
    ∷ 415000
    -- 4 BaCO3
    ∷ 223000
    -- 5 Li2CO3
    ∷ 596000
    -- 6 K2CO3
    ∷ 318000
    -- 7 SrCO3
    ∷ 298000
    -- 8 NaHCO3
    ∷ 524000
    -- 9 FeCO3
    ∷ 380000
    ∷ []

-- code 0 has none
unfoldable pub fuel_of : (code : ℕ) → Fuel
fuel_of zero = fuel 0 0
fuel_of (suc k) = get_or fuels k (fuel 0 0)

unfoldable pub carbonate_of : (code : ℕ) → ℕ
carbonate_of zero = 0
carbonate_of (suc k) = get_or carbonates k 0

-- the standard value of a: of a fuel in method 1, of a carbonate in method 2
abbrev pub standard_a : (method code : ℕ) → ℕ
standard_a method code = cond (eqb method 1) (fuel_of code).net_calorific_value (carbonate_of code)

-- the standard value of b
abbrev pub standard_b : (code : ℕ) → ℕ
standard_b code = (fuel_of code).emission_factor
