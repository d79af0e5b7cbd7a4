-- One process passes its pool on, taker by taker, in an array: what stands there once 1 .. to are done. Assumes nothing.
use mathlib.Core.Path.{◌≡◌, refl, sym, ap, ◌∙◌}
use mathlib.Core.Bool.{Bool, true, false}
use mathlib.Core.List.{List}
use Prim.Native.Nat.{ℕ, zero, suc, ◌+◌, ◌*◌, ◌-◌, ◌/◌, ◌≤◌, ◌<◌}
use native.Mathlib.Nat.{le_trans}
use native.Mathlib.Omega.{arith}
use lib.Dec.{eqb}
use lib.ListN.{length, get_or, set, length-set}
use lib.Seq.{get_or-set_same, get_or-set_other}
use borrow.Author.Tests.{eqb-true, eqb-false}
use Rattle.goods.specs.Sums.{sum_to}
use Rattle.goods.specs.Goods.{takers, portion_of, left}
use Rattle.goods.specs.Settling.{PassedOn}
use Rattle.goods.proofs.Sums.{sum_suc, sum_mono, sum_zero_all}
use Rattle.goods.proofs.Portions.{given_to, portion_to, portion_is, takers_kilos}
use Rattle.goods.proofs.Pools.{given_suc, given_none}
use Rattle.goods.specs.declared.BothGramsByProcess.{BothGramsByProcess}
use Rattle.shares.specs.declared.BothGrams.{BothGrams}

-- no portion goes to a process up to which nothing is taken
pub no_portion : (pool output : ℕ) (m : ℕ → ℕ) (k : ℕ) → ((j : ℕ) → 1 ≤ j → j ≤ k → m j ≡ 0) → portion_to pool output m k ≡ 0
unfolding portion_to
no_portion pool output m zero none = refl
no_portion pool output m (suc k) none = omega (arith, given_none pool output m (suc k) (sum_zero_all (suc k) m none))

-- a portion, from the kilograms of the takers before
pub portion_taken : (pool output : ℕ) (m : ℕ → ℕ) (n j : ℕ) → 1 ≤ j → j ≤ n
    → portion_of pool output (takers m n) j ≡ pool * (sum_to (j - 1) m + m j) / output - pool * sum_to (j - 1) m / output
unfolding portion_to given_to sum_to
portion_taken pool output m n zero l h = absurd (omega arith)
portion_taken pool output m n (suc j) l h = let before : suc j - 1 ≡ j = omega arith in rw before (portion_is pool output m n (suc j) l h)

-- the kilograms of the first takers and of a later one
kilos_fit : (output : ℕ) (m : ℕ → ℕ) (n i k : ℕ) → sum_to n m ≤ output → i < k → k ≤ n → sum_to i m + m k ≤ output
kilos_fit output m n i zero within l h = absurd (omega arith)
kilos_fit output m n i (suc k) within l h = omega (arith, sum_suc k m, sum_mono i k m (omega arith), sum_mono (suc k) n m h)

module _ (n pool output : ℕ) (m : ℕ → ℕ) (before : List ℕ) where
  pub record Passing (to taken given : ℕ) (pools : List ℕ) : Type 0 where
    pub size : length pools ≡ length before
    pub taken_is : taken ≡ sum_to to m
    pub fits : taken ≤ output
    -- with any later taker
    pub next_fits : (k : ℕ) → to < k → k ≤ n → taken + m k ≤ output
    pub given_is : given ≡ pool * taken / output
    pub done : (k : ℕ) → 1 ≤ k → k ≤ to → get_or pools k 0 ≡ get_or before k 0 + portion_to pool output m k
    pub rest : (k : ℕ) → (1 ≤ k → k ≤ to → ⊥) → get_or pools k 0 ≡ get_or before k 0

  -- process `from` gives nothing to itself, nor to the processes before it
  pub passing_none : (from : ℕ) → sum_to n m ≤ output → ((j : ℕ) → 1 ≤ j → j ≤ from → m j ≡ 0) → Passing from 0 0 before
  unfolding given_to
  passing_none from within ahead =
      let none = sum_zero_all from m ahead in
      record {
        size = refl;
        taken_is = sym none;
        fits = omega arith;
        next_fits = λ k l h. omega (arith, kilos_fit output m n from k within l h);
        given_is = sym (rw none at (given_none pool output m from none));
        done = λ k l h. omega (arith, no_portion pool output m k (λ j u v. ahead j u (le_trans v h)));
        rest = λ k o. refl;
      }

module _ {n pool output : ℕ} {m : ℕ → ℕ} {before : List ℕ} {to taken given : ℕ} {pools : List ℕ} (p : Passing n pool output m before to taken given pools) where
  -- all processes have had their portions
  pub passing_all : (from : ℕ) → pool ≡ get_or before from 0 → n ≡ to → PassedOn n from output m before pools (pool - given)
  unfolding left
  passing_all from own e =
      rw e (record {
        size = p.size;
        taken = λ k l h. rw (← own, portion_is pool output m to k l h) (p.done k l h);
        outside = p.rest;
        left_is = rw (← own, takers_kilos m to, ← p.taken_is, ← p.given_is);
      })

  -- the next process takes nothing
  skipped : m (suc to) ≡ 0 → Passing n pool output m before (suc to) taken given pools
  unfolding portion_to given_to
  skipped z =
      let same : sum_to (suc to) m ≡ sum_to to m = omega (arith, sum_suc to m) in
      record {
        size = p.size;
        taken_is = p.taken_is ∙ sym same;
        fits = p.fits;
        next_fits = λ k l h. p.next_fits k (omega arith) h;
        given_is = p.given_is;
        done = λ k l h. go same k l h (eqb k (suc to)) refl;
        rest = λ k o. p.rest k (λ l h. o l (omega arith));
      }
    where
      go : sum_to (suc to) m ≡ sum_to to m → (k : ℕ) → 1 ≤ k → k ≤ suc to → (b : Bool) → eqb k (suc to) ≡ b
          → get_or pools k 0 ≡ get_or before k 0 + portion_to pool output m k
      go same k l h true e =
          let none : portion_to pool output m (suc to) ≡ 0 = rw same (omega arith) in
          rw (eqb-true k (suc to) e) (omega (arith, p.rest (suc to) (λ u v. omega arith)))
      go same k l h false e = let ne = eqb-false k (suc to) e in p.done k l (omega arith)

  -- the next process takes its portion
  given_away : {portion : ℕ} → sum_to n m ≤ output → suc to ≤ n → portion ≡ pool * (taken + m (suc to)) / output - given → suc to < length before
      → Passing n pool output m before (suc to) (taken + m (suc to)) (given + portion) (set pools (suc to) (get_or pools (suc to) 0 + portion))
  unfolding portion_to given_to
  given_away {portion} within u is h =
      record {
        size = length-set pools (suc to) _ ∙ p.size;
        taken_is = taken_next;
        fits = p.next_fits (suc to) (omega arith) u;
        next_fits = λ k l v. rw taken_next (kilos_fit output m n (suc to) k within l v);
        given_is = rw (is, given_next) (omega (arith, given_suc pool output m to, given_at));
        done = λ k l v. go k l v (eqb k (suc to)) refl;
        rest = λ k o. get_or-set_other pools (suc to) k _ 0 (λ (q : k ≡ suc to). o (omega arith) (omega arith)) ∙ p.rest k (λ l v. o l (omega arith));
      }
    where
      taken_next : taken + m (suc to) ≡ sum_to (suc to) m
      taken_next = omega (arith, p.taken_is, sum_suc to m)

      given_at : given ≡ given_to pool output m to
      given_at = p.given_is ∙ ap (λ (t : ℕ). pool * t / output) p.taken_is

      given_next : pool * (taken + m (suc to)) / output ≡ given_to pool output m (suc to)
      given_next = ap (λ (t : ℕ). pool * t / output) taken_next

      portion_next : portion ≡ portion_to pool output m (suc to)
      portion_next = is ∙ rw (given_next, given_at)

      go : (k : ℕ) → 1 ≤ k → k ≤ suc to → (b : Bool) → eqb k (suc to) ≡ b
          → get_or (set pools (suc to) (get_or pools (suc to) 0 + portion)) k 0 ≡ get_or before k 0 + portion_to pool output m k
      go k l v true q =
          rw (eqb-true k (suc to) q, get_or-set_same pools (suc to) (get_or pools (suc to) 0 + portion) 0 (omega (arith, p.size)), portion_next)
          (omega (arith, p.rest (suc to) (λ u v. omega arith)))
      go k l v false q = let ne = eqb-false k (suc to) q in get_or-set_other pools (suc to) k _ 0 ne ∙ p.done k l (omega arith)

  module _ {next : ℕ} (e : next ≡ suc to) where
    passing_skip : m next ≡ 0 → Passing n pool output m before next taken given pools
    passing_skip z = rw e (skipped (rw e at z))

    passing_next : {portion : ℕ} → sum_to n m ≤ output → next ≤ n → portion ≡ pool * (taken + m next) / output - given → next < length before
        → Passing n pool output m before next (taken + m next) (given + portion) (set pools next (get_or pools next 0 + portion))
    passing_next within u is h = rw e (given_away within (omega arith) (rw e at is) (omega arith))

-- ---- both pools of a process
module _ (n : ℕ) (own : BothGrams) (output : ℕ) (m : ℕ → ℕ) (before : BothGramsByProcess) where
  pub record PassingBoth (to taken : ℕ) (given : BothGrams) (pools : BothGramsByProcess) : Type 0 where
    pub direct : Passing n own.direct.0 output m before.direct.0 to taken given.direct.0 pools.direct.0
    pub indirect : Passing n own.indirect.0 output m before.indirect.0 to taken given.indirect.0 pools.indirect.0

module _ {n : ℕ} {own : BothGrams} {output : ℕ} {m : ℕ → ℕ} {before : BothGramsByProcess} {to taken : ℕ} {given : BothGrams} {pools : BothGramsByProcess}
    (p : PassingBoth n own output m before to taken given pools) {next : ℕ} (e : next ≡ suc to) where
  pub both_skip : m next ≡ 0 → PassingBoth n own output m before next taken given pools
  both_skip z = record { direct = passing_skip p.direct e z; indirect = passing_skip p.indirect e z }

  pub both_next : {portion : BothGrams} → sum_to n m ≤ output → next ≤ n
      → portion.direct.0 ≡ own.direct.0 * (taken + m next) / output - given.direct.0
      → portion.indirect.0 ≡ own.indirect.0 * (taken + m next) / output - given.indirect.0
      → next < length before.direct.0 → next < length before.indirect.0
      → PassingBoth n own output m before next (taken + m next)
      (record { direct = record { 0 = given.direct.0 + portion.direct.0 }; indirect = record { 0 = given.indirect.0 + portion.indirect.0 } })
      (record {
        direct = record { 0 = set pools.direct.0 next (get_or pools.direct.0 next 0 + portion.direct.0) };
        indirect = record { 0 = set pools.indirect.0 next (get_or pools.indirect.0 next 0 + portion.indirect.0) };
      })
  both_next within u d i h k = record { direct = passing_next p.direct e within u d h; indirect = passing_next p.indirect e within u i k }
