-- Examples. Portions, with figures worked out by hand.
use Rattle.std.specs.Prelude.{List, [], ◌∷◌, map, ℕ, get_or}
use Rattle.goods.specs.Goods.{Taker, takers, portion_of, left}

-- a pool, its output, the kilograms that processes 1, 2, 3 and 4 take; their portions, and what is left
pub record Example : Type 0 where
  pub pool : ℕ
  pub output : ℕ
  pub kilos : List ℕ
  pub portions : List ℕ
  pub left : ℕ

abbrev gives : (pool output : ℕ) → (kilos portions : List ℕ) → (left : ℕ) → Example
gives pool output kilos portions left = record { pool = pool; output = output; kilos = kilos; portions = portions; left = left }

abbrev takers_in : Example → List Taker
takers_in e = takers (λ j. get_or (0 ∷ e.kilos) j 0) 4

abbrev pub portions_in : Example → List ℕ
portions_in e = map (portion_of e.pool e.output (takers_in e)) (1 ∷ 2 ∷ 3 ∷ 4 ∷ [])

abbrev pub left_in : Example → ℕ
left_in e = left e.pool e.output (takers_in e)

unfoldable pub examples : List Example
examples =
    -- ⌊10/3⌋ = 3, ⌊20/3⌋ = 6
    gives 10 3 (0 ∷ 1 ∷ 1 ∷ 0 ∷ []) (0 ∷ 3 ∷ 3 ∷ 0 ∷ []) 4
    -- all output taken: the portion is the pool; from the printed 666.666 g/kg it would be 1,999
    ∷ gives 2000 3 (0 ∷ 0 ∷ 3 ∷ 0 ∷ []) (0 ∷ 0 ∷ 2000 ∷ 0 ∷ []) 0
    -- by rising number: ⌊10/7⌋ = 1, ⌊30/7⌋ = 4; by falling number they would be 2 and 2
    ∷ gives 10 7 (0 ∷ 1 ∷ 2 ∷ 0 ∷ []) (0 ∷ 1 ∷ 3 ∷ 0 ∷ []) 6
    -- ⌊2 × 1/3⌋ = 0, ⌊2 × 2/3⌋ = 1, ⌊2 × 3/3⌋ = 2; each cut down by itself they would be 0, 0 and 0
    ∷ gives 2 3 (0 ∷ 1 ∷ 1 ∷ 1 ∷ []) (0 ∷ 0 ∷ 1 ∷ 1 ∷ []) 0
    -- no takers
    ∷ gives 5 1 (0 ∷ 0 ∷ 0 ∷ 0 ∷ []) (0 ∷ 0 ∷ 0 ∷ 0 ∷ []) 5
    ∷ []
