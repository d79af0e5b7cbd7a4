-- The size of the figures, and the lengths of the arrays, as entries are booked. Assumes nothing.
use mathlib.Core.Path.{◌≡◌, ◌∙◌}
use mathlib.Core.List.{List}
use Prim.Native.Nat.{ℕ, zero, suc, ◌+◌, ◌≤◌}
use native.Mathlib.Nat.{le_refl, le_trans, lt_of_not-le}
use native.Mathlib.Decide.{dec_le, ℕ_discrete}
use native.Mathlib.Omega.{arith}
use lib.IntN.{ℤ, pos, nat_abs, ◌+ℤ◌, ◌-ℤ◌}
use lib.ListN.{length, get_or, set, replicate, length-set, length-replicate}
use lib.Seq.{get_or-set_same, get_or-set_other, set_out}
use Rattle.quantity.specs.Limits.{line_grams}
use Rattle.goods.specs.ByProcess.{SIZE}
use Rattle.ledger.specs.declared.Entry.{Entry}
use Rattle.ledger.specs.declared.Ledger.{Ledger}
use Rattle.ledger.specs.Ledger.{added, charged_and_credited, booked, start, Small, Within, Sized}
use Rattle.ledger.proofs.Sizes.{size_plus, size_minus, size_moved}

-- ---- every place of an array

module _ {A : Type 0} (P : A → Type 0) (d : A) where
  pub each_set : (l : List A) (i : ℕ) (v : A) → ((j : ℕ) → P (get_or l j d)) → P v → (j : ℕ) → P (get_or (set l i v) j d)
  each_set l i v all new j =
      elim (ℕ_discrete j i) [
        | yes p ↦
            elim (dec_le (length l) i) [
              | yes o ↦ rw (set_out l i v o) (all j)
              | no n ↦ rw (p, get_or-set_same l i v d (lt_of_not-le n)) new
            ]
        | no n ↦ rw (get_or-set_other l i j v d n) (all j)
      ]

  pub each_same : P d → (n j : ℕ) → P (get_or (replicate n d) j d)
  each_same p zero j = p
  each_same p (suc n) zero = p
  each_same p (suc n) (suc j) = each_same p n j

module _ (k : ℕ) (b : List ℤ) (h : (j : ℕ) → nat_abs (get_or b j (pos 0)) ≤ k) (charged charge : ℕ) where
  -- after the charge
  pub each_charged : (j : ℕ) → nat_abs (get_or (set b charged (get_or b charged (pos 0) +ℤ pos charge)) j (pos 0)) ≤ k + charge
  each_charged =
      each_set (λ (z : ℤ). nat_abs z ≤ k + charge) (pos 0) b charged (get_or b charged (pos 0) +ℤ pos charge)
      (λ j. omega (arith, h j))
      (omega (arith, size_plus (get_or b charged (pos 0)) charge, h charged))

  -- after the credit
  each_credited : (credited credit j : ℕ) → nat_abs (get_or (charged_and_credited b charged charge credited credit) j (pos 0)) ≤ k + charge + credit
  unfolding charged_and_credited
  each_credited credited credit =
      let c : List ℤ = set b charged (get_or b charged (pos 0) +ℤ pos charge) in
      each_set (λ (z : ℤ). nat_abs z ≤ k + charge + credit) (pos 0) c credited (get_or c credited (pos 0) -ℤ pos credit)
      (λ j. omega (arith, each_charged j))
      (omega (arith, size_minus (get_or c credited (pos 0)) credit, each_charged credited))

each_added : (k m : ℕ) (l : List ℕ) (p amount : ℕ) → amount ≤ m → ((j : ℕ) → get_or l j 0 ≤ k)
    → (j : ℕ) → get_or (added l p amount) j 0 ≤ k + m
each_added k m l p amount small h =
    each_set (λ (n : ℕ). n ≤ k + m) 0 l p (get_or l p 0 + amount) (λ j. omega (arith, h j)) (omega (arith, h p))

-- ---- figures

pub within_start : Within 0 start
unfolding start
within_start = record {
  balances = each_same (λ (z : ℤ). nat_abs z ≤ 0) (pos 0) (le_refl 0) SIZE;
  indirect = each_same (λ (n : ℕ). n ≤ 0) 0 (le_refl 0) SIZE;
  bought_direct = each_same (λ (n : ℕ). n ≤ 0) 0 (le_refl 0) SIZE;
  bought_indirect = each_same (λ (n : ℕ). n ≤ 0) 0 (le_refl 0) SIZE;
  entered = le_refl 0;
  uncredited = le_refl 0;
}

pub within_more : {k m : ℕ} {l : Ledger} → k ≤ m → Within k l → Within m l
within_more p w = record {
  balances = λ i. le_trans (w.balances i) p;
  indirect = λ i. le_trans (w.indirect i) p;
  bought_direct = λ i. le_trans (w.bought_direct i) p;
  bought_indirect = λ i. le_trans (w.bought_indirect i) p;
  entered = le_trans w.entered p;
  uncredited = le_trans w.uncredited p;
}

pub within_booked : (k : ℕ) (l : Ledger) (e : Entry) → Within k l → Small e → Within (k + line_grams) (booked l e)
unfolding booked
within_booked k l e w s = record {
  balances = λ i.
      omega (arith, each_credited k l.balances.0 w.balances e.charged e.charge.0 e.credited e.credit.0 i, s.grams.moved);
  indirect = each_added k line_grams l.indirect.0 e.user e.electricity.0 (omega (arith, s.grams.into)) w.indirect;
  bought_direct = each_added k line_grams l.bought_direct.0 e.buyer e.direct.0 (omega (arith, s.grams.into)) w.bought_direct;
  bought_indirect = each_added k line_grams l.bought_indirect.0 e.buyer e.indirect.0 (omega (arith, s.grams.into)) w.bought_indirect;
  entered =
      omega (arith, size_moved line_grams l.totals.entered.0 e.entering.0 e.leaving.0 s.grams.entering s.grams.leaving, w.entered);
  uncredited = omega (arith, w.uncredited, s.grams.uncredited);
}

-- ---- lengths

pub sized_start : Sized start
unfolding start
sized_start = record {
  balances = length-replicate {A = ℤ} SIZE (pos 0);
  indirect = length-replicate {A = ℕ} SIZE 0;
  bought_direct = length-replicate {A = ℕ} SIZE 0;
  bought_indirect = length-replicate {A = ℕ} SIZE 0;
}

length_credited : (b : List ℤ) (charged charge credited credit : ℕ) → length (charged_and_credited b charged charge credited credit) ≡ length b
unfolding charged_and_credited
length_credited b charged charge credited credit = simp length-set

pub sized_booked : (l : Ledger) (e : Entry) → Sized l → Sized (booked l e)
unfolding booked
sized_booked l e s = record {
  balances = length_credited _ _ _ _ _ ∙ s.balances;
  indirect = simp length-set s.indirect;
  bought_direct = simp length-set s.bought_direct;
  bought_indirect = simp length-set s.bought_indirect;
}
