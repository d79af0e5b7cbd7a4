-- Pools of a works of n processes: the paper's equation, the walk from process to process, and that what is left in all pools is what went
-- into them. For any number of processes. Assumes nothing.
use mathlib.Core.Path.{◌≡◌, refl, sym, ap, ◌∙◌}
use Prim.Native.Nat.{ℕ, zero, suc, ◌+◌, ◌-◌, ◌≤◌}
use native.Mathlib.Omega.{arith}
use native.Mathlib.Nat.{mul-zero, zero-div, mul-le-mul_left, le_trans, le_refl}
use lib.ListN.{length}
use Rattle.goods.specs.Sums.{sum_to}
use Rattle.goods.specs.Goods.{takers, portion_of, portions_taken, pools_to, pool_of, left, left_of}
use Rattle.goods.proofs.Sums.{sum_add, sum_ext, sum_le, sum_mono, sum_zero_all}
use Rattle.goods.proofs.Portions.{div_mono, given_le, given_to, portion_to, takers_kilos, portion_is}

-- ---- what is given of one pool, process by process

module _ (pool output : ℕ) (m : ℕ → ℕ) where
  given_mono : (j : ℕ) → given_to pool output m j ≤ given_to pool output m (suc j)
  unfolding given_to sum_to
  given_mono j = div_mono _ _ output (mul-le-mul_left pool (omega arith))

  pub given_suc : (j : ℕ) → given_to pool output m (suc j) ≡ given_to pool output m j + portion_to pool output m (suc j)
  unfolding portion_to
  given_suc j = let h = given_mono j in omega arith

  given_within : (n : ℕ) → sum_to n m ≤ output → given_to pool output m n ≤ pool
  unfolding given_to
  given_within n h = given_le pool (sum_to n m) output h

  pub given_none : (j : ℕ) → sum_to j m ≡ 0 → given_to pool output m j ≡ 0
  unfolding given_to
  given_none j e = rw (e, mul-zero pool) (zero-div output)

module _ (n : ℕ) (output : ℕ → ℕ) (kilos : ℕ → ℕ → ℕ) (own : ℕ → ℕ) where
  abbrev pool : ℕ → ℕ
  pool = pool_of n output kilos own

  pub length_pools : (k : ℕ) → length (pools_to n output kilos own k) ≡ k
  unfolding pools_to
  length_pools zero = refl
  length_pools (suc k) = ap suc (length_pools k)

  taken_is : (k j : ℕ) → portions_taken n output kilos (pools_to n output kilos own k) j
      ≡ sum_to k (λ i. portion_of (pool i) (output i) (takers (kilos i) n) j)
  unfolding portions_taken pools_to pool_of sum_to
  taken_is zero j = refl
  taken_is (suc k) j = rw (length_pools k) (omega (arith, taken_is k j))

  -- THE PAPER'S EQUATION: a pool is its own grams and the portions that it takes of the pools before it
  pub pool_is : (k : ℕ) → pool_of n output kilos own (suc k)
      ≡ own (suc k) + sum_to k (λ i. portion_of (pool_of n output kilos own i) (output i) (takers (kilos i) n) (suc k))
  unfolding pool_of pools_to
  pool_is k = ap (λ (s : ℕ). own (suc k) + s) (taken_is k (suc k))

  -- the same over all processes
  pool_over_all : (k : ℕ) → suc k ≤ n → pool (suc k) ≡ own (suc k) + sum_to k (λ i. portion_to (pool i) (output i) (kilos i) (suc k))
  pool_over_all k h =
      pool_is k ∙ ap (λ (s : ℕ). own (suc k) + s) (sum_ext k _ _ (λ i. portion_is (pool i) (output i) (kilos i) n (suc k) (omega arith) h))

  -- THE WALK: what process j holds once processes 1 .. i have passed their portions on
  unfoldable pub walk : (i j : ℕ) → ℕ
  walk zero j = own j
  walk (suc i) j = walk i j + portion_to (walk i (suc i)) (output (suc i)) (kilos (suc i)) j

  walk_is : (i j : ℕ) → i ≤ n → walk i j ≡ own j + sum_to i (λ k. portion_to (pool k) (output k) (kilos k) j)
  unfolding walk sum_to
  walk_is zero j h = omega arith
  walk_is (suc i) j h =
      let here : walk i (suc i) ≡ pool (suc i) = walk_is i (suc i) (omega arith) ∙ sym (pool_over_all i h) in
      rw here (omega (arith, walk_is i j (omega arith)))

  -- the pool of the paper is the pool of the walk
  pub pool_walk : (k : ℕ) → suc k ≤ n → pool (suc k) ≡ walk k (suc k)
  pool_walk k h = pool_over_all k h ∙ sym (walk_is k (suc k) (omega arith))

  -- what is left, over all processes
  pub left_is : (k : ℕ) → left_of n output kilos own k ≡ pool k - given_to (pool k) (output k) (kilos k) n
  unfolding left_of left given_to
  left_is k = rw (takers_kilos (kilos k) n)

  -- ---- goods go from lower to higher numbers, and no more is taken than the output
  module _ (ahead : (i j : ℕ) → 1 ≤ j → j ≤ i → i ≤ n → kilos i j ≡ 0) where
    none_back : (k : ℕ) → k ≤ n → given_to (pool k) (output k) (kilos k) k ≡ 0
    none_back k h = given_none (pool k) (output k) (kilos k) k (sum_zero_all k (kilos k) (λ j l u. ahead k j l u h))

    -- all pools up to k, and what of them is passed on to 1 .. k
    passed_on : (k : ℕ) → k ≤ n → sum_to k pool ≡ sum_to k own + sum_to k (λ i. given_to (pool i) (output i) (kilos i) k)
    unfolding sum_to
    passed_on zero h = refl
    passed_on (suc k) h =
        let ih = passed_on k (omega arith) in
        let p = pool_over_all k h in
        let z = none_back (suc k) h in
        let s : sum_to k (λ i. given_to (pool i) (output i) (kilos i) (suc k))
        ≡ sum_to k (λ i. given_to (pool i) (output i) (kilos i) k) + sum_to k (λ i. portion_to (pool i) (output i) (kilos i) (suc k)) =
        sum_ext k _ _ (λ i. given_suc (pool i) (output i) (kilos i) k) ∙ sum_add k _ _ in
        omega arith

    -- no pool holds more than went into the processes up to it
    pub pool_le : ((i : ℕ) → 1 ≤ i → i ≤ n → sum_to n (kilos i) ≤ output i) → (k : ℕ) → suc k ≤ n → pool (suc k) ≤ sum_to (suc k) own
    unfolding sum_to
    pool_le within k h =
        let c = passed_on (suc k) h in
        let s = sum_le k (λ i. given_to (pool i) (output i) (kilos i) (suc k)) pool (λ i l u.
        given_within (pool i) (output i) (kilos i) (suc k) (le_trans (sum_mono (suc k) n (kilos i) h) (within i l (omega arith)))) in
        let z = none_back (suc k) h in
        omega arith

    -- WHAT IS LEFT IN ALL POOLS IS WHAT WENT INTO THEM
    pub left_sum_ahead : ((i : ℕ) → 1 ≤ i → i ≤ n → sum_to n (kilos i) ≤ output i) → sum_to n (left_of n output kilos own) ≡ sum_to n own
    unfolding sum_to
    left_sum_ahead within = let c = passed_on n (le_refl n) in let d = back n (le_refl n) in omega arith
      where
        back : (k : ℕ) → k ≤ n → sum_to k (left_of n output kilos own) + sum_to k (λ i. given_to (pool i) (output i) (kilos i) n) ≡ sum_to k pool
        back zero h = refl
        back (suc k) h =
            omega (
              arith,
              back k (omega arith),
              left_is (suc k),
              given_within (pool (suc k)) (output (suc k)) (kilos (suc k)) n (within (suc k) (omega arith) h),
            )

  -- the same where no pair at all goes back
  pub left_sum : ((i j : ℕ) → j ≤ i → kilos i j ≡ 0) → ((i : ℕ) → 1 ≤ i → i ≤ n → sum_to n (kilos i) ≤ output i)
      → sum_to n (left_of n output kilos own) ≡ sum_to n own
  left_sum forward = left_sum_ahead (λ i j l u h. forward i j u)
