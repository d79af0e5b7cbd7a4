-- For the reader. Document 01, "Source streams", and document 02, ticket 2: the four methods. Each step is rounded.
use Rattle.std.specs.Prelude.{cond, ℕ, ◌*◌, ◌-◌, eqb, ℤ, pos, neg_ℤ}
use Rattle.quantity.specs.Rounding.{round}

-- c is the oxidation or conversion factor, ten-thousandths: T3 = round(T2 × c/10,000)
abbrev pub oxidised_grams : (T2 c : ℕ) → ℕ
oxidised_grams T2 c = round (T2 * c) 10000

-- Method 1, burning (Regulation 2018/2066, Article 24(1)). a = net calorific value, kJ/kg; b = emission factor, mg/MJ. T1 = round(kg × a/1,000) MJ;
-- T2 = round(T1 × b/1,000) g; then c
unfoldable pub combustion_grams : (kilos a b c : ℕ) → ℕ
combustion_grams kilos a b c =
    let T1 : ℕ = round (kilos * a) 1000 in
    let T2 : ℕ = round (T1 * b) 1000 in
    oxidised_grams T2 c

-- Method 2, process emission (Article 24(2)). a = emission factor, mg/kg. T1 = round(kg × a/1,000) g, then c
unfoldable pub process_grams : (kilos a c : ℕ) → ℕ
process_grams kilos a c = let T1 : ℕ = round (kilos * a) 1000 in oxidised_grams T1 c

-- Methods 3 and 4, carbon going in and carbon going out (Article 25, mass balance). a = carbon, mg/kg. T1 = round(kg × a/1,000); grams =
-- round(T1 × 3,664/1,000)
unfoldable pub carbon_grams : (kilos a : ℕ) → ℕ
carbon_grams kilos a = let T1 : ℕ = round (kilos * a) 1000 in round (T1 * 3664) 1000

-- a source stream's grams before the biomass step, by its method
abbrev pub grams_before_biomass : (method kilos a b c : ℕ) → ℕ
grams_before_biomass method kilos a b c =
    cond (eqb method 1) (combustion_grams kilos a b c)
    (cond (eqb method 2) (process_grams kilos a c)
    (carbon_grams kilos a))

-- The biomass step of all four methods: document 01 has it for 1 and 2, ticket 2 for 3 and 4 (CBAM annex III, equations 10 and 15). d = biomass
-- share, ten-thousandths. round(grams × (10,000 − d)/10,000)
unfoldable pub fossil_grams : (grams d : ℕ) → ℕ
fossil_grams grams d = round (grams * (10000 - d)) 10000

-- counted plus, and minus for method 4
abbrev pub counted : (method grams : ℕ) → ℤ
counted method grams = cond (eqb method 4) (neg_ℤ (pos grams)) (pos grams)

-- a source stream
unfoldable pub stream_grams : (method kilos a b c d : ℕ) → ℤ
stream_grams method kilos a b c d = counted method (fossil_grams (grams_before_biomass method kilos a b c) d)
