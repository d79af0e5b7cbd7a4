-- For the code only: what settling the pools of a works asks and gives, over the arrays that the code holds.
use Rattle.std.specs.Prelude.{◌≡◌, Bool, false, ◌||◌, ◌&&◌, List, ℕ, zero, suc, ◌+◌, ◌*◌, ◌^◌, ◌≤◌, ◌<◌, ltb, length, get_or, replicate}
use Rattle.quantity.specs.Limits.{whole_grams}
use Rattle.goods.specs.Sums.{sum_to}
use Rattle.goods.specs.Goods.{takers, portion_of, left, pool_of, left_of}
use Rattle.goods.specs.ByProcess.{figures, Column}
pub use Rattle.goods.specs.ByProcess.{SIZE}

abbrev pub PAIRS : ℕ
PAIRS = SIZE * SIZE

-- 2 ^ 61, the most that `shares::quotients` divides by: a sheet has at most 10,000,000,000 kilograms
abbrev largest_output : ℕ
largest_output = 2305843009213693952

-- the kilograms from process i to process j
abbrev pub pairs : List ℕ → (i j : ℕ) → ℕ
pairs l i j = get_or l (i * SIZE + j) 0

-- ---- one process: its good, of the given output, goes to its takers

-- `room`: with its portion each pool still fits a word
pub record CanPassOn (n from output : ℕ) (kilos_to : ℕ → ℕ) (pools : List ℕ) : Type 0 where
  pub some : 1 ≤ output
  pub small : output ≤ largest_output
  pub ahead : (j : ℕ) → 1 ≤ j → j ≤ from → kilos_to j ≡ 0
  pub within : sum_to n kilos_to ≤ output
  pub room : (k : ℕ) → 1 ≤ k → k ≤ n → get_or pools k 0 + portion_of (get_or pools from 0) output (takers kilos_to n) k < 2 ^ 64

-- the pools afterwards, and what is left of the process's own pool
pub record PassedOn (n from output : ℕ) (kilos_to : ℕ → ℕ) (before after : List ℕ) (rest : ℕ) : Type 0 where
  pub size : length after ≡ length before
  pub taken : (k : ℕ) → 1 ≤ k → k ≤ n → get_or after k 0 ≡ get_or before k 0 + portion_of (get_or before from 0) output (takers kilos_to n) k
  pub outside : (k : ℕ) → (1 ≤ k → k ≤ n → ⊥) → get_or after k 0 ≡ get_or before k 0
  pub left_is : rest ≡ left (get_or before from 0) output (takers kilos_to n)

-- a process behind the given one, up to n, takes kilograms
unfoldable pub any_taker : (kilos_to : ℕ → ℕ) → (from n : ℕ) → Bool
any_taker kilos_to from zero = false
any_taker kilos_to from (suc n) = any_taker kilos_to from n || (ltb from (suc n) && ltb 0 (kilos_to (suc n)))

-- ---- a works of n processes

pub record Settleable (n : ℕ) (output : ℕ → ℕ) (kilos : ℕ → ℕ → ℕ) (own : ℕ → ℕ) : Type 0 where
  pub some : (i : ℕ) → 1 ≤ i → i ≤ n → 1 ≤ output i
  pub small : (i : ℕ) → 1 ≤ i → i ≤ n → output i ≤ largest_output
  pub ahead : (i j : ℕ) → 1 ≤ j → j ≤ i → i ≤ n → kilos i j ≡ 0
  pub within : (i : ℕ) → 1 ≤ i → i ≤ n → sum_to n (kilos i) ≤ output i
  pub total : sum_to n own < whole_grams

-- an array that holds nothing yet
abbrev pub NoFigures : List ℕ → Type 0
NoFigures l = l ≡ replicate SIZE 0

-- over the arrays that the code holds: the pools and what is left of each, of n processes, each with its own grams
module _ (outputs kilos : List ℕ) (n : ℕ) (own : ℕ → ℕ) where
  abbrev pub pool_held : (k : ℕ) → ℕ
  pool_held k = pool_of n (figures outputs) (pairs kilos) own k

  abbrev pub left_held : (k : ℕ) → ℕ
  left_held k = left_of n (figures outputs) (pairs kilos) own k

-- the pools and what is left of each
pub record PoolsSettled (outputs kilos : List ℕ) (n : ℕ) (before pools lefts : List ℕ) : Type 0 where
  pub pool : Column n (pool_held outputs kilos n (figures before)) pools
  pub rest : Column n (left_held outputs kilos n (figures before)) lefts
