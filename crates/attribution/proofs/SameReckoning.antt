-- Records with the same sums have the same reckoning. Assumes nothing.
use mathlib.Core.Path.{◌≡◌, refl, sym, ap, ◌∙◌}
use mathlib.Core.List.{List, [], ◌∷◌, ◌++◌}
use Prim.Native.Nat.{ℕ, zero, suc, ◌+◌}
use native.Mathlib.Omega.{arith}
use lib.IntN.{ℤ, pos, ◌+ℤ◌}
use Rattle.lines.specs.Records.{Record}
use Rattle.goods.specs.Sums.{sum_to}
use Rattle.goods.specs.Goods.{pool_of, left_of}
use Rattle.ledger.specs.Raising.{raised_to_zero, grams_added}
use Rattle.attribution.specs.Attribution.{raised, direct, indirect, bought_direct, bought_indirect}
use Rattle.attribution.specs.Reckoning.{process_count, direct_pool, indirect_pool, direct_left, indirect_left}
use Rattle.attribution.specs.Reckoning.{total_left, entered, total_raised, row_of, rows_to, reckoning}
use Rattle.attribution.proofs.Differences.{diff_of, diff_plus, diff_eq}
use Rattle.attribution.proofs.Governing.{More}

plus_none : (z : ℤ) → z +ℤ pos 0 ≡ z
plus_none z = ap (λ x. x +ℤ pos 0) (sym (diff_of z)) ∙ diff_plus _ _ 0 ∙ diff_eq _ _ _ _ (omega arith) ∙ diff_of z

module _ (rs qs : List Record) (m : More rs qs (λ k. 0) (λ k. 0) 0) where
  direct_same : (k : ℕ) → direct qs k ≡ direct rs k
  unfolding direct
  direct_same k = ap raised_to_zero (m.balance_same k)

  raised_same : (k : ℕ) → raised qs k ≡ raised rs k
  unfolding raised
  raised_same k = ap grams_added (m.balance_same k)

  own_direct : (k : ℕ) → direct qs k + bought_direct qs k ≡ direct rs k + bought_direct rs k
  own_direct k = omega (arith, direct_same k, m.bought_direct_is k)

  own_indirect : (k : ℕ) → indirect qs k + bought_indirect qs k ≡ indirect rs k + bought_indirect rs k
  own_indirect k = omega (arith, m.indirect_is k, m.bought_indirect_is k)

  direct_pool_same : (k : ℕ) → direct_pool qs k ≡ direct_pool rs k
  unfolding direct_pool
  direct_pool_same k = λ i. pool_of (m.counted_is i) (λ p. m.output_is p i) (λ f t. m.kilos_is f t i) (λ p. own_direct p i) k

  indirect_pool_same : (k : ℕ) → indirect_pool qs k ≡ indirect_pool rs k
  unfolding indirect_pool
  indirect_pool_same k = λ i. pool_of (m.counted_is i) (λ p. m.output_is p i) (λ f t. m.kilos_is f t i) (λ p. own_indirect p i) k

  direct_left_same : (k : ℕ) → direct_left qs k ≡ direct_left rs k
  unfolding direct_left
  direct_left_same k = λ i. left_of (m.counted_is i) (λ p. m.output_is p i) (λ f t. m.kilos_is f t i) (λ p. own_direct p i) k

  indirect_left_same : (k : ℕ) → indirect_left qs k ≡ indirect_left rs k
  unfolding indirect_left
  indirect_left_same k = λ i. left_of (m.counted_is i) (λ p. m.output_is p i) (λ f t. m.kilos_is f t i) (λ p. own_indirect p i) k

  row_same : (k : ℕ) → row_of qs k ≡ row_of rs k
  row_same k = λ i. record {
    process = k;
    output = m.output_is k i;
    direct = direct_same k i;
    indirect = m.indirect_is k i;
    raised = raised_same k i;
    direct_pool = direct_pool_same k i;
    indirect_pool = indirect_pool_same k i;
    direct_left = direct_left_same k i;
    indirect_left = indirect_left_same k i;
  }

  rows_same : (k : ℕ) → rows_to qs k ≡ rows_to rs k
  unfolding rows_to
  rows_same zero = refl
  rows_same (suc k) = λ i. rows_same k i ++ (row_same (suc k) i ∷ [])

  left_same : total_left qs ≡ total_left rs
  unfolding total_left
  left_same = λ i. sum_to (m.counted_is i) (λ k. direct_left_same k i) + sum_to (m.counted_is i) (λ k. indirect_left_same k i)

  total_raised_same : total_raised qs ≡ total_raised rs
  unfolding total_raised
  total_raised_same = λ i. sum_to (m.counted_is i) (λ k. raised_same k i)

  entered_same : entered qs ≡ entered rs
  entered_same = m.entered_more ∙ plus_none (entered rs)

  all_rows_same : rows_to qs (process_count qs) ≡ rows_to rs (process_count rs)
  all_rows_same = rows_same (process_count qs) ∙ ap (rows_to rs) m.counted_is

  pub reckoning_same : reckoning qs ≡ reckoning rs
  unfolding reckoning
  reckoning_same = λ i. record {
    rows = all_rows_same i;
    totals = record { left = left_same i; entered = entered_same i; raised = total_raised_same i; uncredited = m.uncredited_is i };
  }
