-- A works settled process by process, in arrays: what stands there once processes 1 .. i have passed their portions on. Assumes nothing.
use mathlib.Core.Path.{◌≡◌, refl, sym, ◌∙◌}
use mathlib.Core.Bool.{Bool, true, false}
use mathlib.Core.List.{List}
use Prim.Native.Nat.{ℕ, zero, suc, ◌+◌, ◌^◌, ◌≤◌, ◌<◌}
use native.Mathlib.Decide.{le_ind, dec_le}
use native.Mathlib.Nat.{le_trans, lt_of_not-le}
use Rattle.std.proofs.lemmas.Grind.{common_steps}
use native.Mathlib.Omega.{arith}
use lib.Dec.{eqb}
use lib.ListN.{length, get_or, set, replicate, length-set, length-replicate}
use lib.Seq.{get_or-set_same, get_or-set_other}
use borrow.Author.Tests.{eqb-true, eqb-false}
use Rattle.quantity.specs.Limits.{whole_grams}
use Rattle.goods.specs.Sums.{sum_to}
use Rattle.goods.specs.Goods.{takers, portion_of, pool_of, left_of}
use Rattle.goods.specs.ByProcess.{SIZE, figures, NoneOutside, Column}
use Rattle.goods.specs.Settling.{pairs, CanPassOn, PassedOn, any_taker, Settleable, pool_held, PoolsSettled}
use Rattle.goods.proofs.Sums.{sum_suc, sum_mono}
use Rattle.goods.proofs.Portions.{portion_is}
use Rattle.goods.proofs.Pools.{pool_is, pool_le}
use Rattle.passing.proofs.Passing.{no_portion}
use Rattle.settling.proofs.Takers.{none_passed}

module _ (n : ℕ) (output : ℕ → ℕ) (kilos : ℕ → ℕ → ℕ) (own : ℕ → ℕ) where
  abbrev pool : ℕ → ℕ
  pool = pool_of n output kilos own

  -- what process k takes of the pool of process i
  abbrev portion_from : (i k : ℕ) → ℕ
  portion_from i k = portion_of (pool i) (output i) (takers (kilos i) n) k

  -- what process k holds once processes 1 .. i have passed their portions on
  unfoldable pub held : (i k : ℕ) → ℕ
  held i k = own k + sum_to i (λ t. portion_from t k)

  held_next : (i k : ℕ) → held (suc i) k ≡ held i k + portion_from (suc i) k
  unfolding held
  held_next i k = omega (arith, sum_suc i (λ t. portion_from t k))

  held_turn : (i : ℕ) → held i (suc i) ≡ pool (suc i)
  unfolding held
  held_turn i = sym (pool_is n output kilos own i)

  module _ (s : Settleable n output kilos own) where
    -- process i gives nothing to itself, nor to the processes before it
    none_back : (i k : ℕ) → 1 ≤ k → k ≤ i → i ≤ n → portion_from i k ≡ 0
    none_back i k l h u =
        portion_is (pool i) (output i) (kilos i) n k l (le_trans h u)
        ∙ no_portion (pool i) (output i) (kilos i) k (λ j a b. s.ahead i j a (le_trans b h) u)

    -- after its turn a process holds its pool, and before it no more
    held_after : (k i : ℕ) → k ≤ i → i ≤ n → held i (suc k) ≡ pool (suc k)
    held_after k i h = le_ind (λ (i : ℕ). i ≤ n → held i (suc k) ≡ pool (suc k)) (λ u. held_turn k) (λ i l r u.
        omega (arith, r (omega arith), held_next i (suc k), none_back (suc i) (suc k) (omega arith) (omega arith) u)) i h

    held_le : (k i : ℕ) → i ≤ n → held i (suc k) ≤ pool (suc k)
    unfolding held
    held_le k i u =
        elim (dec_le k i) [
          | yes h ↦ omega (arith, held_after k i h u)
          | no h ↦ (let l = lt_of_not-le h in omega (arith, held_turn k, sum_mono i k (λ t. portion_from t (suc k)) (omega arith)))
        ]

    pool_small : (k : ℕ) → suc k ≤ n → pool (suc k) < whole_grams
    pool_small k h = omega (arith, s.total, pool_le n output kilos own s.ahead s.within k h, sum_mono (suc k) n own h)

    module _ {i : ℕ} {pools : List ℕ} (c : Column n (held i) pools) where
      -- the next process holds its pool
      pool_next : i < n → get_or pools (suc i) 0 ≡ pool (suc i)
      pool_next h = c.at (suc i) (omega arith) h ∙ held_turn i

      can_next : i < n → CanPassOn n (suc i) (output (suc i)) (kilos (suc i)) pools
      can_next h =
          record {
            some = s.some (suc i) (omega arith) h;
            small = s.small (suc i) (omega arith) h;
            ahead = λ j l u. s.ahead (suc i) j l u h;
            within = s.within (suc i) (omega arith) h;
            room = room;
          }
        where
          room : (k : ℕ) → 1 ≤ k → k ≤ n → get_or pools k 0 + portion_of (get_or pools (suc i) 0) (output (suc i)) (takers (kilos (suc i)) n) k < 2 ^ 64
          room zero l u = absurd (omega arith)
          room (suc k) l u = rw (pool_next h) (omega (arith, c.at (suc k) l u, held_next i (suc k), held_le k (suc i) h, pool_small k u))

      can_pass_on : (j : ℕ) → j ≡ suc i → j ≤ n → CanPassOn n j (output j) (kilos j) pools
      can_pass_on j e h = rw e (can_next (rw e at h))

  -- ---- in arrays

  pub record Settling (i : ℕ) (pools lefts : List ℕ) : Type 0 where
    pub pool : Column n (held i) pools
    pub rest : Column i (left_of n output kilos own) lefts
    -- the next process can pass its good on
    pub next_can : (j : ℕ) → j ≡ suc i → j ≤ n → CanPassOn n j (output j) (kilos j) pools

  pub settling_none : (pools : List ℕ) → Settleable n output kilos own → length pools ≡ SIZE → NoneOutside n pools
      → ((k : ℕ) → get_or pools k 0 ≡ own k) → Settling 0 pools (replicate SIZE 0)
  unfolding held sum_to
  settling_none pools s e none same =
      record {
        pool = held_none;
        rest = record { size = length-replicate {A = ℕ} SIZE 0; at = λ k l h. absurd (omega arith); outside = λ k o. grind (arith, common_steps) };
        next_can = can_pass_on s held_none;
      }
    where
      held_none : Column n (held 0) pools
      held_none = record { size = e; at = λ k l h. omega (arith, same k); outside = none }

module _ {n : ℕ} {output : ℕ → ℕ} {kilos : ℕ → ℕ → ℕ} {own : ℕ → ℕ} {i : ℕ} {pools lefts : List ℕ}
    (s : Settleable n output kilos own) (t : Settling n output kilos own i pools lefts) where
  passed : {after : List ℕ} {rest : ℕ} → i < n → suc i < SIZE
      → PassedOn n (suc i) (output (suc i)) (kilos (suc i)) pools after rest → Settling n output kilos own (suc i) after (set lefts (suc i) rest)
  unfolding left_of
  passed {after} {rest} h u p =
      record {
        pool = pool_after;
        rest = record {
          size = length-set lefts (suc i) rest ∙ t.rest.size;
          at = λ k a b. go k a b (eqb k (suc i)) refl;
          outside = λ k o.
              get_or-set_other lefts (suc i) k rest 0 (λ (e : k ≡ suc i). o (omega arith) (omega arith)) ∙ t.rest.outside k (λ a b. o a (omega arith));
        };
        next_can = can_pass_on n output kilos own s pool_after;
      }
    where
      here : get_or pools (suc i) 0 ≡ pool_of n output kilos own (suc i)
      here = pool_next n output kilos own s t.pool h

      pool_after : Column n (held n output kilos own (suc i)) after
      pool_after = record {
        size = p.size ∙ t.pool.size;
        at = λ k a b. p.taken k a b ∙ rw (here, held_next n output kilos own i k, t.pool.at k a b);
        outside = λ k o. p.outside k o ∙ t.pool.outside k o;
      }

      go : (k : ℕ) → 1 ≤ k → k ≤ suc i → (b : Bool) → eqb k (suc i) ≡ b → get_or (set lefts (suc i) rest) k 0 ≡ left_of n output kilos own k
      go k a b true e =
          rw (eqb-true k (suc i) e) (get_or-set_same lefts (suc i) rest 0 (omega (arith, t.rest.size)) ∙ p.left_is ∙ rw here)
      go k a b false e = let ne = eqb-false k (suc i) e in get_or-set_other lefts (suc i) k rest 0 ne ∙ t.rest.at k a (omega arith)

  pub settling_next : {j : ℕ} {after : List ℕ} {rest : ℕ} → j ≡ suc i → i < n → j < SIZE
      → PassedOn n j (output j) (kilos j) pools after rest → Settling n output kilos own j after (set lefts j rest)
  settling_next e h u p = rw e (passed h (rw e at u) (rw e at p))

  -- a process with no takers
  pub settling_kept : {j : ℕ} → j ≡ suc i → i < n → j < SIZE → any_taker (kilos j) j n ≡ false → Settling n output kilos own j pools (set lefts j (get_or pools j 0))
  settling_kept e h u none = settling_next e h u (none_passed (t.next_can _ e (omega arith)) none)

-- all processes have had their turn
module _ {outputs kilos before pools lefts : List ℕ} {n i : ℕ} (s : Settleable n (figures outputs) (pairs kilos) (figures before))
    (t : Settling n (figures outputs) (pairs kilos) (figures before) i pools lefts) where
  pub settling_all : n ≡ i → PoolsSettled outputs kilos n before pools lefts
  settling_all e =
      record {
        pool = record { size = t.pool.size; at = at_pool; outside = t.pool.outside };
        rest = record {
          size = t.rest.size;
          at = λ k a b. t.rest.at k a (omega arith);
          outside = λ k o. t.rest.outside k (λ a b. o a (omega arith));
        };
      }
    where
      at_pool : (k : ℕ) → 1 ≤ k → k ≤ n → get_or pools k 0 ≡ pool_held outputs kilos n (figures before) k
      at_pool zero a b = absurd (omega arith)
      at_pool (suc k) a b = t.pool.at (suc k) a b ∙ held_after n (figures outputs) (pairs kilos) (figures before) s k i (omega arith) (omega arith)
