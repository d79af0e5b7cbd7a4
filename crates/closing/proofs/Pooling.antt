-- Pools over own grams: what settling gives passes between tables that agree on 1 .. n. Assumes nothing.
use mathlib.Core.Path.{◌≡◌, refl, ◌∙◌}
use mathlib.Core.List.{List}
use Prim.Native.Nat.{ℕ, zero, suc, ◌^◌, ◌≤◌, ◌<◌}
use native.Mathlib.Omega.{arith}
use Rattle.goods.specs.Sums.{sum_to}
use Rattle.goods.specs.ByProcess.{figures, Column}
use Rattle.goods.specs.Settling.{pairs, Settleable, pool_held, left_held, PoolsSettled}
use Rattle.goods.proofs.Sums.{sum_suc, sum_mono, sum_cong}
use Rattle.goods.proofs.Pools.{left_sum_ahead}
use Rattle.goods.proofs.Same.{pool_cong, left_cong}

-- a figure is at most the sum
part_le : (n : ℕ) (f : ℕ → ℕ) (k : ℕ) → 1 ≤ k → k ≤ n → f k ≤ sum_to n f
part_le n f zero l h = absurd (omega arith)
part_le n f (suc k) l h = omega (arith, sum_suc k f, sum_mono (suc k) n f h)

pub own_fits : {n : ℕ} {output : ℕ → ℕ} {kilos : ℕ → ℕ → ℕ} {own : ℕ → ℕ} → Settleable n output kilos own
    → (k : ℕ) → 1 ≤ k → k ≤ n → own k < 2 ^ 64
own_fits {n} {own = own} s k l h = omega (arith, part_le n own k l h, s.total)

-- the pools over own grams, what is left of each, and all that is left: as many grams as went in
pub record Pooled (outputs kilos : List ℕ) (n : ℕ) (own : ℕ → ℕ) (pools lefts : List ℕ) : Type 0 where
  pub pool : Column n (pool_held outputs kilos n own) pools
  pub rest : Column n (left_held outputs kilos n own) lefts
  pub all : sum_to n (figures lefts) ≡ sum_to n (left_held outputs kilos n own)
  pub kept : sum_to n (figures lefts) ≡ sum_to n own

module _ {outputs kilos before pools lefts : List ℕ} {n : ℕ} {own : ℕ → ℕ} (s : Settleable n (figures outputs) (pairs kilos) own)
    (same : (k : ℕ) → 1 ≤ k → k ≤ n → figures before k ≡ own k) (p : PoolsSettled outputs kilos n before pools lefts) where
  same_pool : (k : ℕ) → k ≤ n → pool_held outputs kilos n (figures before) k ≡ pool_held outputs kilos n own k
  same_pool = pool_cong n _ _ (pairs kilos) (pairs kilos) (figures before) own (λ i l h. refl) (λ i j l h u v. refl) same

  same_left : (k : ℕ) → 1 ≤ k → k ≤ n → left_held outputs kilos n (figures before) k ≡ left_held outputs kilos n own k
  same_left = left_cong n _ _ (pairs kilos) (pairs kilos) (figures before) own (λ i l h. refl) (λ i j l h u v. refl) same

  left_is : (k : ℕ) → 1 ≤ k → k ≤ n → figures lefts k ≡ left_held outputs kilos n own k
  left_is k l h = p.rest.at k l h ∙ same_left k l h

  pub pooled : Pooled outputs kilos n own pools lefts
  pooled = record {
    pool = record { size = p.pool.size; at = λ k l h. p.pool.at k l h ∙ same_pool k h; outside = p.pool.outside };
    rest = record { size = p.rest.size; at = left_is; outside = p.rest.outside };
    all = sum_cong n _ _ left_is;
    kept = sum_cong n _ _ left_is ∙ left_sum_ahead n (figures outputs) (pairs kilos) own s.ahead s.within;
  }
