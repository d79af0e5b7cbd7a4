-- Works whose figures agree on 1 .. n have the same pools, and the same is left of them. Assumes nothing.
use mathlib.Core.Path.{◌≡◌, refl, ap}
use mathlib.Core.List.{List, [], ◌∷◌}
use Prim.Native.Nat.{ℕ, zero, suc, ◌≤◌}
use native.Mathlib.Nat.{le_refl}
use native.Mathlib.Omega.{arith}
use lib.ListN.{length, get_or}
use Rattle.goods.specs.Goods.{takers, portions_taken, pools_to, pool_of, left_of}
use Rattle.goods.proofs.Pools.{length_pools}

takers_cong : (n : ℕ) (f g : ℕ → ℕ) → ((k : ℕ) → 1 ≤ k → k ≤ n → f k ≡ g k) → takers f n ≡ takers g n
unfolding takers
takers_cong zero f g h = refl
takers_cong (suc n) f g h = rw (takers_cong n f g (λ k l u. h k l (omega arith)), h (suc n) (omega arith) (le_refl (suc n)))

module _ (n : ℕ) (output output' : ℕ → ℕ) (kilos kilos' : ℕ → ℕ → ℕ) (own own' : ℕ → ℕ)
    (same-output : (i : ℕ) → 1 ≤ i → i ≤ n → output i ≡ output' i)
    (same-kilos : (i j : ℕ) → 1 ≤ i → i ≤ n → 1 ≤ j → j ≤ n → kilos i j ≡ kilos' i j)
    (same-own : (i : ℕ) → 1 ≤ i → i ≤ n → own i ≡ own' i) where
  same_takers : (i : ℕ) → 1 ≤ i → i ≤ n → takers (kilos i) n ≡ takers (kilos' i) n
  same_takers i l h = takers_cong n (kilos i) (kilos' i) (λ j u v. same-kilos i j l h u v)

  taken_cong : (pools : List ℕ) (j : ℕ) → length pools ≤ n → portions_taken n output kilos pools j ≡ portions_taken n output' kilos' pools j
  unfolding portions_taken
  taken_cong [] j h = refl
  taken_cong (pool ∷ pools) j h =
      rw (taken_cong pools j (omega arith), same-output (suc (length pools)) (omega arith) h, same_takers (suc (length pools)) (omega arith) h)

  pools_cong : (k : ℕ) → k ≤ n → pools_to n output kilos own k ≡ pools_to n output' kilos' own' k
  unfolding pools_to
  pools_cong zero h = refl
  pools_cong (suc k) h =
      rw (
        pools_cong k (omega arith),
        same-own (suc k) (omega arith) h,
        taken_cong (pools_to n output' kilos' own' k) (suc k) (omega (arith, length_pools n output' kilos' own' k)),
      )

  pub pool_cong : (k : ℕ) → k ≤ n → pool_of n output kilos own k ≡ pool_of n output' kilos' own' k
  unfolding pool_of
  pool_cong k h = ap (λ (l : List ℕ). get_or l 0 0) (pools_cong k h)

  pub left_cong : (k : ℕ) → 1 ≤ k → k ≤ n → left_of n output kilos own k ≡ left_of n output' kilos' own' k
  unfolding left_of
  left_cong k l h = rw (pool_cong k h, same-output k l h, same_takers k l h)
