-- Whether a process has takers, and that a good that goes to none leaves every pool as it is. Assumes nothing.
use mathlib.Core.Path.{◌≡◌, refl, sym, ◌∙◌}
use mathlib.Core.Bool.{Bool, true, false, ◌||◌}
use mathlib.Core.List.{List}
use Prim.Native.Nat.{ℕ, zero, suc, ◌+◌, ◌-◌, ◌≤◌, ◌<◌}
use native.Mathlib.Decide.{dec_le}
use native.Mathlib.Nat.{lt_of_not-le, le_refl, add-zero}
use native.Mathlib.Numerals.{add-one}
use native.Mathlib.Omega.{arith}
use borrow.Author.Tests.{lt-ltb, le-ltb, ltb-false, eqb-true, eqb-false}
use Rattle.std.proofs.Math.Bool.{or-false, or_assoc}
use Rattle.std.proofs.lemmas.Bool.{or_parts}
use lib.Dec.{eqb, ltb}
use lib.ListN.{get_or}
use Rattle.std.specs.List.{list_any, range_with_len}
use Rattle.goods.specs.Settling.{CanPassOn, PassedOn, any_taker}
use Rattle.passing.proofs.Passing.{passing_none, passing_all}

module _ (m : ℕ → ℕ) (from : ℕ) where
  -- up to the process itself there is none
  pub no_taker : (n : ℕ) → n ≤ from → any_taker m from n ≡ false
  unfolding any_taker
  no_taker zero h = refl
  no_taker (suc n) h = rw (no_taker n (omega arith), le-ltb from (suc n) h)

  -- with the next process
  with_next : (k : ℕ) → from ≤ k → (rest : Bool) → any_taker m from (suc k) || rest ≡ any_taker m from k || (ltb 0 (m (suc k)) || rest)
  unfolding any_taker
  with_next k h rest = rw (lt-ltb from (suc k) (omega arith)) (or_assoc (any_taker m from k) (ltb 0 (m (suc k))) rest)

  -- one process after the other, behind the first k
  taken_over : (n k : ℕ) → from ≤ k → any_taker m from (k + n) ≡ any_taker m from k || list_any (λ to. ltb 0 (m to)) (range_with_len (k + 1) n)
  taken_over zero k h = rw add-zero (sym (or-false (any_taker m from k)))
  taken_over (suc n) k h =
      let e : k + suc n ≡ suc k + n = omega arith in
      rw (e, add-one) (taken_over n (suc k) (omega arith) ∙ with_next k h (list_any (λ to. ltb 0 (m to)) (range_with_len (suc k + 1) n)))

  pub takers_over : (n : ℕ) → from ≤ n → list_any (λ to. ltb 0 (m to)) (range_with_len (from + 1) (n - from)) ≡ any_taker m from n
  takers_over n h =
      let all : from + (n - from) ≡ n = omega arith in
      sym (rw (all, no_taker from (le_refl from)) at (taken_over (n - from) from (le_refl from)))

  -- none takes anything
  none_takes : (n : ℕ) → any_taker m from n ≡ false → (j : ℕ) → from < j → j ≤ n → m j ≡ 0
  unfolding any_taker
  none_takes zero e j u l = absurd (omega arith)
  none_takes (suc n) e j u l = go (λ h. none_takes n (or_parts (any_taker m from n) _ e).0 j u h) (eqb j (suc n)) refl
    where
      last : from < suc n → m (suc n) ≡ 0
      last h =
          let both = (or_parts (any_taker m from n) _ e).1 in
          let some = ltb-false 0 (m (suc n)) (rw (lt-ltb from (suc n) h) at both) in
          omega arith

      go : (j ≤ n → m j ≡ 0) → (b : Bool) → eqb j (suc n) ≡ b → m j ≡ 0
      go before true q = let here = eqb-true j (suc n) q in rw here (last (omega arith))
      go before false q = let other = eqb-false j (suc n) q in before (omega arith)

-- nothing goes on: the pools stay, and all of the pool is left
pub none_passed : {n from output : ℕ} {m : ℕ → ℕ} {pools : List ℕ} → CanPassOn n from output m pools → any_taker m from n ≡ false
    → PassedOn n from output m pools pools (get_or pools from 0)
none_passed {n} {from} {output} {m} {pools} c e =
    let whole : get_or pools from 0 - 0 ≡ get_or pools from 0 = omega arith in
    rw whole at (passing_all (passing_none n (get_or pools from 0) output m pools n c.within all) from refl refl)
  where
    all : (j : ℕ) → 1 ≤ j → j ≤ n → m j ≡ 0
    all j l u =
        elim (dec_le j from) [
          | yes h ↦ c.ahead j l h
          | no h ↦ none_takes m from n e j (lt_of_not-le h) u
        ]
