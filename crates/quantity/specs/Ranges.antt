-- For the code only: what the functions of `streams`, `grams`, `moves` and `transferred` ask of their arguments, the ranges of document 01's fields.
use Rattle.std.specs.Prelude.{◌≡◌, ℕ, ◌≤◌}

-- the most grams of one weight, charge, credit or source stream
abbrev pub most_grams : ℕ
most_grams = 1000000000000000

-- the most megajoules of one line
abbrev pub most_megajoules : ℕ
most_megajoules = 1000000000000

-- method 1
pub record CombustionRange (kilos a b c : ℕ) : Type 0 where
  pub mass : kilos ≤ 10000000000
  pub calorific : a ≤ 200000
  pub factor : b ≤ 400000
  pub oxidation : c ≤ 10000

-- method 2
pub record ProcessRange (kilos a c : ℕ) : Type 0 where
  pub mass : kilos ≤ 10000000000
  pub factor : a ≤ 4000000
  pub conversion : c ≤ 10000

-- methods 3 and 4
pub record CarbonRange (kilos a : ℕ) : Type 0 where
  pub mass : kilos ≤ 10000000000
  pub content : a ≤ 1000000

-- a source stream: a and b by its method
pub record StreamRange (method kilos a b c d : ℕ) : Type 0 where
  pub mass : kilos ≤ 10000000000
  pub calorific : method ≡ 1 → a ≤ 200000
  pub factor : method ≡ 1 → b ≤ 400000
  pub process : method ≡ 2 → a ≤ 4000000
  pub content : (method ≡ 1 → ⊥) → (method ≡ 2 → ⊥) → a ≤ 1000000
  pub oxidation : c ≤ 10000
  pub biomass : d ≤ 10000
