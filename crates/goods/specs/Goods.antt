-- For the reader. Document 01, "Goods and precursors": pools, portions and what is left.
use Rattle.std.specs.Prelude.{cond, List, [], ◌∷◌, ◌++◌, ℕ, zero, suc, ◌+◌, ◌*◌, ◌-◌, ◌/◌, eqb, length, get_or, take}
use Rattle.goods.specs.Sums.{sum_to, only_at}

-- ---- a pool and its takers

pub record Taker : Type 0 where
  pub process : ℕ
  pub kilos : ℕ

abbrev pub taker : (process kilos : ℕ) → Taker
taker process kilos = record { process = process; kilos = kilos }

-- takers stand by rising process number: those of 1 .. n that take kilograms
unfoldable pub takers : (kilos_to : ℕ → ℕ) → (n : ℕ) → List Taker
takers kilos_to zero = []
takers kilos_to (suc j) = takers kilos_to j ++ cond (eqb (kilos_to (suc j)) 0) [] (taker (suc j) (kilos_to (suc j)) ∷ [])

unfoldable pub total_kilos : List Taker → ℕ
total_kilos [] = 0
total_kilos (t ∷ ts) = t.kilos + total_kilos ts

-- C(k) is the kg of the first k, C(0) = 0
abbrev pub kilos_of_first : (k : ℕ) → List Taker → ℕ
kilos_of_first k ts = total_kilos (take k ts)

-- the k-th taker, the first being 1
abbrev pub taker_at : List Taker → (k : ℕ) → Taker
taker_at ts zero = taker 0 0
taker_at ts (suc k) = get_or ts k (taker 0 0)

-- pool P of output A
module _ (pool output : ℕ) (ts : List Taker) where
  -- the k-th portion is ⌊P × C(k)/A⌋ − ⌊P × C(k−1)/A⌋
  unfoldable pub portion : (k : ℕ) → ℕ
  portion zero = 0
  portion (suc k) = pool * kilos_of_first (suc k) ts / output - pool * kilos_of_first k ts / output

  -- what is left is P − ⌊P × C/A⌋, C being all kg taken
  unfoldable pub left : ℕ
  left = pool - pool * total_kilos ts / output

  -- the portion of process j: that of the place where it stands among the takers
  unfoldable pub portion_of : (j : ℕ) → ℕ
  portion_of j = sum_to (length ts) (λ k. only_at j (taker_at ts k).process (portion k))

-- ---- the pools of a works of n processes: `kilos i j` pass from i to j
module _ (n : ℕ) (output : ℕ → ℕ) (kilos : ℕ → ℕ → ℕ) where
  -- the portions that process j takes of the pools of processes 1 .. k, which stand with the last first
  unfoldable pub portions_taken : (pools : List ℕ) → (j : ℕ) → ℕ
  portions_taken [] j = 0
  portions_taken (pool ∷ pools) j =
      portions_taken pools j + portion_of pool (output (suc (length pools))) (takers (kilos (suc (length pools))) n) j

  -- `own k` is the attribution of process k and its bought grams
  module _ (own : ℕ → ℕ) where
    -- the pools of processes 1 .. k, the last first: own goods come from processes of lower number
    unfoldable pub pools_to : (k : ℕ) → List ℕ
    pools_to zero = []
    pools_to (suc k) = (own (suc k) + portions_taken (pools_to k) (suc k)) ∷ pools_to k

    -- the pool of process k
    unfoldable pub pool_of : (k : ℕ) → ℕ
    pool_of k = get_or (pools_to k) 0 0

    unfoldable pub left_of : (k : ℕ) → ℕ
    left_of k = left (pool_of k) (output k) (takers (kilos k) n)
