-- Portions of one pool: the portions and what is left make up the pool, and the portions over the list of takers are the portions over all
-- later processes, one that takes nothing having a portion of 0. Assumes nothing.
use mathlib.Core.Path.{◌≡◌, refl, sym, ap, ap₂, ◌∙◌}
use mathlib.Core.Logic.{◌⊎◌, inl, inr}
use mathlib.Core.Bool.{Bool, true, false, cond}
use mathlib.Core.List.{List, [], ◌∷◌, ◌++◌, append-nil}
use Prim.Native.Nat.{ℕ, zero, suc, ◌+◌, ◌*◌, ◌-◌, ◌/◌, ◌≤◌, ◌<◌}
use native.Mathlib.Omega.{arith}
use native.Mathlib.Nat.{mul-zero, zero-div, div-le_of_le-mul, mul-le-mul_left, mul_comm}
use native.Mathlib.Nat.{le-div_iff_mul-le, div-mul-le_self, eq-zero-or-pos, div-zero, le_trans, le_refl}
use lib.Dec.{eqb}
use lib.ListN.{length, take, length-append, get_or-append}
use lib.Seq.{take-append-le, take-append_seam, take_all, take-length, get_or-append_seam}
use borrow.Author.Tests.{eqb-true, eqb-false}
use Rattle.goods.specs.Sums.{sum_to, only_at}
use Rattle.goods.specs.Goods.{Taker, taker, takers, total_kilos, kilos_of_first, taker_at, portion, left, portion_of}
use Rattle.goods.proofs.Sums.{sum_cong, at_same, at_other, at_none}

pub div_mono : (a b k : ℕ) → a ≤ b → a / k ≤ b / k
div_mono a b k h = go (eq-zero-or-pos k)
  where
    go : (k ≡ zero) ⊎ (zero < k) → a / k ≤ b / k
    go (inl e) = rw (e, div-zero a, div-zero b) (le_refl 0)
    go (inr q) = (le-div_iff_mul-le q).1 (le_trans (div-mul-le_self a k) h)

-- no more is given than the pool holds, where no more kilograms are taken than the output
pub given_le : (pool kilos output : ℕ) → kilos ≤ output → pool * kilos / output ≤ pool
given_le pool kilos output h = div-le_of_le-mul output (let l = mul-le-mul_left pool h in omega (arith, mul_comm pool output))

-- ---- the kilograms of the first k takers

first_mono : (k : ℕ) (ts : List Taker) → kilos_of_first k ts ≤ kilos_of_first (suc k) ts
unfolding total_kilos
first_mono zero [] = omega arith
first_mono zero (t ∷ ts) = omega arith
first_mono (suc k) [] = omega arith
first_mono (suc k) (t ∷ ts) = omega (arith, first_mono k ts)

kilos_append : (ts us : List Taker) → total_kilos (ts ++ us) ≡ total_kilos ts + total_kilos us
unfolding total_kilos
kilos_append [] us = omega arith
kilos_append (t ∷ ts) us = omega (arith, kilos_append ts us)

-- Σ PORTIONS + LEFT = POOL
module _ (pool output : ℕ) (ts : List Taker) where
  portions_sum : (k : ℕ) → sum_to k (portion pool output ts) ≡ pool * kilos_of_first k ts / output
  unfolding sum_to portion total_kilos
  portions_sum zero = rw mul-zero (sym (zero-div output))
  portions_sum (suc k) =
      let ih = portions_sum k in
      let up = div_mono (pool * kilos_of_first k ts) (pool * kilos_of_first (suc k) ts) output (mul-le-mul_left pool (first_mono k ts)) in
      omega arith

  pub portions_and_left : total_kilos ts ≤ output → sum_to (length ts) (portion pool output ts) + left pool output ts ≡ pool
  unfolding left
  portions_and_left h =
      let s : sum_to (length ts) (portion pool output ts) ≡ pool * total_kilos ts / output =
      portions_sum (length ts) ∙ ap (λ (l : List Taker). pool * total_kilos l / output) (take-length ts) in
      omega (arith, given_le pool (total_kilos ts) output h)

-- ---- takers by rising number among all processes 1 .. n

-- ⌊P × C/A⌋, C being the kilograms that processes 1 .. j take
unfoldable pub given_to : (pool output : ℕ) → (kilos_to : ℕ → ℕ) → (j : ℕ) → ℕ
given_to pool output kilos_to j = pool * sum_to j kilos_to / output

-- the portion of process j, over all processes
unfoldable pub portion_to : (pool output : ℕ) → (kilos_to : ℕ → ℕ) → (j : ℕ) → ℕ
portion_to pool output kilos_to zero = 0
portion_to pool output kilos_to (suc j) = given_to pool output kilos_to (suc j) - given_to pool output kilos_to j

pub takers_kilos : (m : ℕ → ℕ) (n : ℕ) → total_kilos (takers m n) ≡ sum_to n m
unfolding takers sum_to total_kilos
takers_kilos m zero = refl
takers_kilos m (suc n) = kilos_append (takers m n) _ ∙ ap₂ (λ (x y : ℕ). x + y) (takers_kilos m n) (go (eqb (m (suc n)) 0) refl)
  where
    go : (b : Bool) → eqb (m (suc n)) 0 ≡ b → total_kilos (cond b [] (taker (suc n) (m (suc n)) ∷ [])) ≡ m (suc n)
    go true e = let z = eqb-true (m (suc n)) 0 e in omega arith
    go false e = omega arith

module _ (pool output : ℕ) where
  -- one more taker, behind the others
  portion_behind : (ts : List Taker) (t : Taker) (j : ℕ)
      → portion_of pool output (ts ++ (t ∷ [])) j
      ≡ portion_of pool output ts j + only_at j t.process (pool * (total_kilos ts + t.kilos) / output - pool * total_kilos ts / output)
  unfolding portion_of portion sum_to total_kilos
  portion_behind ts t j =
      let n : length (ts ++ (t ∷ [])) ≡ suc (length ts) = length-append ts (t ∷ []) ∙ omega arith in
      let last : take (suc (length ts)) (ts ++ (t ∷ [])) ≡ ts ++ (t ∷ []) = take_all (suc (length ts)) (ts ++ (t ∷ [])) (omega arith) in
      let all : total_kilos (ts ++ (t ∷ [])) ≡ total_kilos ts + t.kilos = kilos_append ts (t ∷ []) ∙ omega arith in
      rw (n, last, all, take-append_seam ts (t ∷ []), get_or-append_seam ts t [] (taker 0 0))
      (ap (λ (s : ℕ). s + only_at j t.process (pool * (total_kilos ts + t.kilos) / output - pool * total_kilos ts / output))
      (sum_cong (length ts) _ _ same))
    where
      same : (k : ℕ) → 1 ≤ k → k ≤ length ts
          → only_at j (taker_at (ts ++ (t ∷ [])) k).process (portion pool output (ts ++ (t ∷ [])) k)
          ≡ only_at j (taker_at ts k).process (portion pool output ts k)
      same zero l h = absurd (omega arith)
      same (suc k) l h =
          let g : k ≤ length ts = omega arith in
          rw (get_or-append ts (t ∷ []) (taker 0 0) k h, take-append-le (suc k) ts (t ∷ []) h, take-append-le k ts (t ∷ []) g)

  module _ (m : ℕ → ℕ) where
    -- the portions with one process more, which may take nothing
    portion_more : (n j : ℕ) → portion_of pool output (takers m (suc n)) j
        ≡ portion_of pool output (takers m n) j + only_at j (suc n) (portion_to pool output m (suc n))
    unfolding takers portion_to given_to sum_to
    portion_more n j = go (eqb (m (suc n)) 0) refl
      where
        go : (b : Bool) → eqb (m (suc n)) 0 ≡ b
            → portion_of pool output (takers m n ++ cond b [] (taker (suc n) (m (suc n)) ∷ [])) j
            ≡ portion_of pool output (takers m n) j + only_at j (suc n) (pool * (sum_to n m + m (suc n)) / output - pool * sum_to n m / output)
        go true e =
            let z : sum_to n m + m (suc n) ≡ sum_to n m = omega (arith, eqb-true (m (suc n)) 0 e) in
            let none : pool * sum_to n m / output - pool * sum_to n m / output ≡ 0 = omega arith in
            rw (append-nil (takers m n), z, none, at_none j (suc n)) (omega arith)
        go false e = portion_behind (takers m n) (taker (suc n) (m (suc n))) j ∙ rw (takers_kilos m n)

    -- no portion goes to a process beyond the takers
    none_beyond : (n j : ℕ) → n < j → portion_of pool output (takers m n) j ≡ 0
    unfolding takers portion_of sum_to
    none_beyond zero j h = refl
    none_beyond (suc n) j h =
        omega (arith, portion_more n j, none_beyond n j (omega arith), at_other j (suc n) (portion_to pool output m (suc n)) (λ (e : j ≡ suc n). omega arith))

    -- THE PORTIONS OVER THE LIST OF TAKERS ARE THE PORTIONS OVER ALL PROCESSES
    pub portion_is : (n j : ℕ) → 1 ≤ j → j ≤ n → portion_of pool output (takers m n) j ≡ portion_to pool output m j
    portion_is zero j l h = absurd (omega arith)
    portion_is (suc n) j l h = go (eqb j (suc n)) refl (λ (g : j ≤ n). portion_is n j l g)
      where
        go : (b : Bool) → eqb j (suc n) ≡ b → (j ≤ n → portion_of pool output (takers m n) j ≡ portion_to pool output m j)
            → portion_of pool output (takers m (suc n)) j ≡ portion_to pool output m j
        go true e rest =
            let q = eqb-true j (suc n) e in
            rw q (omega (arith, portion_more n (suc n), none_beyond n (suc n) (omega arith), at_same (suc n) (portion_to pool output m (suc n))))
        go false e rest =
            let ne = eqb-false j (suc n) e in
            omega (arith, portion_more n j, rest (omega arith), at_other j (suc n) (portion_to pool output m (suc n)) ne)
