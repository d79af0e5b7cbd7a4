-- Standard values held divided by a unit: no figure loses a digit, and each times the unit is the printed one. Assumes nothing.
use mathlib.Core.Path.{◌≡◌, refl, sym, ap, ◌∙◌}
use mathlib.Core.List.{List, map}
use Prim.Native.Nat.{ℕ, zero, suc, ◌*◌, ◌/◌, ◌-◌, ◌≤◌}
use native.Mathlib.Nat.{zero-mul}
use native.Mathlib.Omega.{arith}
use lib.ListN.{get_or, get_or-map}
use Rattle.quantity.specs.Standard.{Fuel, fuels, carbonates, fuel_of, carbonate_of}
use Rattle.quantity.proofs.Tables.{Lists, net_calorific_values, emission_factors, carbonate_factors, largest, at_found}

-- what the code holds of a printed table
abbrev pub divided : (unit : ℕ) (printed : List ℕ) → List ℕ
divided unit printed = map (λ (x : ℕ). x / unit) printed

-- ---- each printed figure is a whole number of units: one computation over each table
abbrev Whole : (unit : ℕ) (printed : List ℕ) → Type 0
Whole unit printed = map (λ (x : ℕ). x * unit) (divided unit printed) ≡ printed

pub net_calorific_values_whole : map (λ (x : Fuel). x.net_calorific_value / 10 * 10) fuels ≡ map (λ (x : Fuel). x.net_calorific_value) fuels
unfolding fuels
net_calorific_values_whole = refl

pub emission_factors_whole : map (λ (x : Fuel). x.emission_factor / 100 * 100) fuels ≡ map (λ (x : Fuel). x.emission_factor) fuels
unfolding fuels
emission_factors_whole = refl

pub carbonates_whole : map (λ (x : ℕ). x / 1000 * 1000) carbonates ≡ carbonates
unfolding carbonates
carbonates_whole = refl

-- ---- what stands in the divided table for a code, times the unit, is the code's printed value, and 0 for code 0 is
abbrev pub LookUp : (held : List ℕ) (unit : ℕ) (value : ℕ → ℕ) → Type 0
LookUp held unit value =
    (code found : ℕ) → (code ≡ 0 → found ≡ 0) → (1 ≤ code → found ≡ get_or held (code - 1) 0 * unit) → found ≡ value code

look_up : {printed : List ℕ} {value : ℕ → ℕ} (unit : ℕ) → Lists printed value → Whole unit printed → LookUp (divided unit printed) unit value
look_up unit t w zero n none found = none refl ∙ t.none
look_up {printed} unit t w (suc k) n none found =
    let e : suc k - 1 ≡ k = omega arith in
    found (omega arith)
    ∙ rw e (sym (get_or-map (λ (x : ℕ). x * unit) (divided unit printed) k 0))
    ∙ ap (λ (l : List ℕ). get_or l k (0 * unit)) w
    ∙ ap (get_or printed k) (zero-mul unit)
    ∙ t.each k

pub net_calorific_value_is : LookUp (divided 10 (map (λ (x : Fuel). x.net_calorific_value) fuels)) 10 (λ code. (fuel_of code).net_calorific_value)
unfolding fuels
net_calorific_value_is = look_up 10 net_calorific_values net_calorific_values_whole

pub emission_factor_is : LookUp (divided 100 (map (λ (x : Fuel). x.emission_factor) fuels)) 100 (λ code. (fuel_of code).emission_factor)
unfolding fuels
emission_factor_is = look_up 100 emission_factors emission_factors_whole

pub carbonate_is : LookUp (divided 1000 carbonates) 1000 carbonate_of
unfolding carbonates
carbonate_is = look_up 1000 carbonate_factors carbonates_whole

-- ---- what stands in the divided table for a code, times the unit, is the code's printed value
abbrev Found : (unit : ℕ) (printed : List ℕ) (value : ℕ → ℕ) (most : ℕ) → Type 0
Found unit printed value most = (code : ℕ) → (code ≡ 0 → ⊥)
    → (get_or (divided unit printed) (code - 1) 0 * unit ≡ value code) × (get_or (divided unit printed) (code - 1) 0 * unit ≤ most)

found : {printed : List ℕ} {value : ℕ → ℕ} (unit most : ℕ) → Lists printed value → Whole unit printed → largest printed ≤ most
    → Found unit printed value most
found {printed} {value} unit most t w h code n =
    let each : get_or (divided unit printed) (code - 1) 0 * unit ≡ get_or printed (code - 1) 0
    = sym (get_or-map (λ (x : ℕ). x * unit) (divided unit printed) (code - 1) 0)
    ∙ (ap (λ (l : List ℕ). get_or l (code - 1) (0 * unit)) w ∙ ap (get_or printed (code - 1)) (zero-mul unit)) in
    rw each (at_found t most h code n)

pub net_calorific_values_found : (code : ℕ) → (code ≡ 0 → ⊥)
    → (get_or (map (λ (x : Fuel). x.net_calorific_value / 10) fuels) (code - 1) 0 * 10 ≡ (fuel_of code).net_calorific_value)
    × (get_or (map (λ (x : Fuel). x.net_calorific_value / 10) fuels) (code - 1) 0 * 10 ≤ 200000)
unfolding fuels
net_calorific_values_found = found 10 200000 net_calorific_values net_calorific_values_whole (omega arith)

pub emission_factors_found : (code : ℕ) → (code ≡ 0 → ⊥)
    → (get_or (map (λ (x : Fuel). x.emission_factor / 100) fuels) (code - 1) 0 * 100 ≡ (fuel_of code).emission_factor)
    × (get_or (map (λ (x : Fuel). x.emission_factor / 100) fuels) (code - 1) 0 * 100 ≤ 400000)
unfolding fuels
emission_factors_found = found 100 400000 emission_factors emission_factors_whole (omega arith)

pub carbonates_found : (code : ℕ) → (code ≡ 0 → ⊥)
    → (get_or (map (λ (x : ℕ). x / 1000) carbonates) (code - 1) 0 * 1000 ≡ carbonate_of code)
    × (get_or (map (λ (x : ℕ). x / 1000) carbonates) (code - 1) 0 * 1000 ≤ 4000000)
unfolding carbonates
carbonates_found = found 1000 4000000 carbonate_factors carbonates_whole (omega arith)
