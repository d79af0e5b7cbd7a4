-- Laws of sums over processes. Assumes nothing.
use mathlib.Core.Path.{◌≡◌, refl, ◌∙◌}
use mathlib.Core.Bool.{Bool, true, false, cond}
use Prim.Native.Nat.{ℕ, zero, suc, ◌+◌, ◌≤◌, ◌<◌}
use native.Mathlib.Omega.{arith}
use native.Mathlib.Decide.{le_ind, dec_le}
use native.Mathlib.Nat.{le_refl, lt_of_not-le}
use lib.Dec.{eqb}
use borrow.Author.Tests.{eqb-true, eqb-false, eq-eqb, ne_eqb}
use Rattle.goods.specs.Sums.{sum_to, only_at}

-- ---- over processes

pub sum_suc : (n : ℕ) (f : ℕ → ℕ) → sum_to (suc n) f ≡ sum_to n f + f (suc n)
unfolding sum_to
sum_suc n f = refl

pub sum_add : (n : ℕ) (f g : ℕ → ℕ) → sum_to n (λ k. f k + g k) ≡ sum_to n f + sum_to n g
unfolding sum_to
sum_add zero f g = refl
sum_add (suc n) f g = let ih = sum_add n f g in omega arith

-- tables that agree on 1 .. n have the same sum
pub sum_cong : (n : ℕ) (f g : ℕ → ℕ) → ((k : ℕ) → 1 ≤ k → k ≤ n → f k ≡ g k) → sum_to n f ≡ sum_to n g
unfolding sum_to
sum_cong zero f g h = refl
sum_cong (suc n) f g h = omega (arith, sum_cong n f g (λ k l i. h k l (omega arith)), h (suc n) (omega arith) (le_refl (suc n)))

pub sum_ext : (n : ℕ) (f g : ℕ → ℕ) → ((k : ℕ) → f k ≡ g k) → sum_to n f ≡ sum_to n g
sum_ext n f g h = sum_cong n f g (λ k l i. h k)

pub sum_none : (n : ℕ) → sum_to n (λ k. 0) ≡ 0
unfolding sum_to
sum_none zero = refl
sum_none (suc n) = let ih = sum_none n in omega arith

pub sum_le : (n : ℕ) (f g : ℕ → ℕ) → ((k : ℕ) → 1 ≤ k → k ≤ n → f k ≤ g k) → sum_to n f ≤ sum_to n g
unfolding sum_to
sum_le zero f g h = omega arith
sum_le (suc n) f g h = omega (arith, sum_le n f g (λ k l i. h k l (omega arith)), h (suc n) (omega arith) (omega arith))

pub sum_mono : (i n : ℕ) (f : ℕ → ℕ) → i ≤ n → sum_to i f ≤ sum_to n f
sum_mono i n f h = le_ind (λ (k : ℕ). sum_to i f ≤ sum_to k f) (le_refl (sum_to i f)) (λ k l r. omega (arith, sum_suc k f)) n h

-- a sum is 0 exactly when each part is
pub sum_zero_at : (n : ℕ) (f : ℕ → ℕ) → sum_to n f ≡ 0 → (k : ℕ) → 1 ≤ k → k ≤ n → f k ≡ 0
unfolding sum_to
sum_zero_at zero f e k l h = absurd (omega arith)
sum_zero_at (suc n) f e k l h = go (eqb k (suc n)) refl (λ (i : k ≤ n). sum_zero_at n f (omega arith) k l i)
  where
    go : (b : Bool) → eqb k (suc n) ≡ b → (k ≤ n → f k ≡ 0) → f k ≡ 0
    go true q rest = rw (eqb-true k (suc n) q) (omega arith)
    go false q rest = rest (let ne = eqb-false k (suc n) q in omega arith)

pub sum_zero_all : (n : ℕ) (f : ℕ → ℕ) → ((k : ℕ) → 1 ≤ k → k ≤ n → f k ≡ 0) → sum_to n f ≡ 0
sum_zero_all n f h = sum_cong n f (λ k. 0) h ∙ sum_none n

-- ---- an amount at one process

pub at_same : (k g : ℕ) → only_at k k g ≡ g
unfolding only_at
at_same k g = rw (eq-eqb k k refl)

pub at_other : (k p g : ℕ) → (k ≡ p → ⊥) → only_at k p g ≡ 0
unfolding only_at
at_other k p g h = rw (ne_eqb k p h)

pub at_le : (k p g : ℕ) → only_at k p g ≤ g
unfolding only_at
at_le k p g = go (eqb k p)
  where
    go : (b : Bool) → cond b g 0 ≤ g
    go true = omega arith
    go false = omega arith

pub at_none : (k p : ℕ) → only_at k p 0 ≡ 0
at_none k p = omega (arith, at_le k p 0)

pub at_outside : (p g : ℕ) → 1 ≤ p → only_at 0 p g ≡ 0
at_outside p g h = at_other 0 p g (λ (e : 0 ≡ p). omega arith)

-- nothing falls below p
at_below : (p g m : ℕ) → m < p → only_at 0 p g + sum_to m (λ k. only_at k p g) ≡ 0
unfolding sum_to
at_below p g zero l = let z = at_other 0 p g (λ (e : 0 ≡ p). omega arith) in omega arith
at_below p g (suc m) l =
    let z = at_other (suc m) p g (λ (e : suc m ≡ p). omega arith) in
    let ih = at_below p g m (omega arith) in
    omega arith

-- the whole amount falls on one of 0 .. n
pub at_sum : (n p g : ℕ) → p ≤ n → only_at 0 p g + sum_to n (λ k. only_at k p g) ≡ g
unfolding sum_to
at_sum zero p g h = let e : 0 ≡ p = omega arith in rw (← e) (let z = at_same 0 g in omega arith)
at_sum (suc n) p g h = go (λ (l : p ≤ n). at_sum n p g l) (eqb (suc n) p) refl
  where
    go : (p ≤ n → only_at 0 p g + sum_to n (λ k. only_at k p g) ≡ g) → (b : Bool) → eqb (suc n) p ≡ b
        → only_at 0 p g + sum_to (suc n) (λ k. only_at k p g) ≡ g
    go rest true e =
        let q : suc n ≡ p = eqb-true (suc n) p e in
        let z : only_at (suc n) p g ≡ g = rw (← q) (at_same (suc n) g) in
        let y = at_below p g n (omega arith) in
        omega arith
    go rest false e =
        let ne = eqb-false (suc n) p e in
        let z = at_other (suc n) p g ne in
        let y = rest (omega arith) in
        omega arith

pub at_sum_le : (n p g : ℕ) → sum_to n (λ k. only_at k p g) ≤ g
at_sum_le n p g =
    elim (dec_le p n) [
      | yes h ↦ omega (arith, at_sum n p g h)
      | no h ↦ omega (arith, at_below p g n (lt_of_not-le h))
    ]
