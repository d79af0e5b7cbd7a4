-- When left equals entered: exactly when no process balance is below zero and no waste gas passed between two processes; otherwise left is
-- greater. Assumes nothing.
use mathlib.Core.Path.{◌≡◌, refl, sym, ◌∙◌}
use mathlib.Core.Logic.{◌↔◌}
use mathlib.Core.Bool.{Bool, true, false, cond, ◌||◌}
use mathlib.Core.List.{List, [], ◌∷◌}
use Prim.Native.Nat.{ℕ, suc, ◌+◌, ◌-◌, ◌≤◌, ◌<◌}
use native.Mathlib.Omega.{arith}
use lib.Dec.{eqb, ltb, le→leb, lt→ltb}
use lib.IntN.{ℤ, pos, negsuc}
use lib.Signed.{◌≤ℤ◌, ◌<ℤ◌}
use borrow.Author.Tests.{eqb-true, eqb-false, ltb-true, ltb-false}
use Rattle.decimal.proofs.Bools.{never}
use Rattle.lines.specs.Records.{Record}
use Rattle.sheet.specs.Refusals.{sum_of, from, to}
use Rattle.sheet.specs.Kinds.{is}
use Rattle.sheet.specs.declared.Kind.TheVariants.{WasteGas}
use Rattle.sheet.proofs.Table.{kind_is}
use Rattle.sheet.specs.Verdict.{All}
use Rattle.ledger.specs.Raising.{grams_added}
use Rattle.entries.specs.Weighed.{charge_of, credit_of}
use Rattle.attribution.specs.Attribution.{balance, raised}
use Rattle.attribution.specs.Reckoning.{process_count, total_left, entered, total_raised, uncredited}
use Rattle.attribution.specs.Exact.{GasBetween, NothingAdded}
use Rattle.attribution.proofs.EveryKind.{Valid, Accepted}
use Rattle.attribution.proofs.Differences.{diff, diff_pos, diff_eq, diff_inj, diff_ge, diff_lt}
use Rattle.goods.proofs.Sums.{sum_zero_at, sum_zero_all}
use Rattle.entries.specs.Entries.{entry}
use Rattle.attribution.proofs.EveryKind.{parts_of, gas_credited_lem}
use Rattle.attribution.proofs.Entries.{figures, entered_is}
use Rattle.attribution.proofs.Works.{conserved}

-- ---- uncredited is 0 exactly when no waste gas passed between two processes

uncredited_none : (f t charge credit : ℕ) → credit < charge → (cond (eqb 0 f || eqb 0 t) 0 (charge - credit) ≡ 0) ↔ ((1 ≤ f) → (1 ≤ t) → ⊥)
uncredited_none f t charge credit lt = go (eqb 0 f) refl (eqb 0 t) refl
  where
    go : (a : Bool) → eqb 0 f ≡ a → (b : Bool) → eqb 0 t ≡ b → (cond (a || b) 0 (charge - credit) ≡ 0) ↔ ((1 ≤ f) → (1 ≤ t) → ⊥)
    go true p b q = let u = eqb-true 0 f p in (λ e x y. omega arith, λ h. refl)
    go false p true q = let u = eqb-true 0 t q in (λ e x y. omega arith, λ h. refl)
    go false p false q =
        let u = eqb-false 0 f p in
        let w = eqb-false 0 t q in
        (λ e x y. omega arith, λ h. absurd (h (omega arith) (omega arith)))

uncredited_zero : (n : ℕ) (r : Record) → Valid n r → ((entry r).uncredited.0 ≡ 0) ↔ (¬ GasBetween r)
unfolding charge_of
uncredited_zero n r v = go (is WasteGas r) refl (parts_of 0 r).7
  where
    either : (b : Bool) (credit : ℕ) → cond b 0 (0 - credit) ≡ 0
    either true credit = refl
    either false credit = omega arith

    go : (t : Bool) → is WasteGas r ≡ t → cond (eqb 0 (from r) || eqb 0 (to r)) 0 (charge_of r - credit_of r) ≡ (entry r).uncredited.0
        → ((entry r).uncredited.0 ≡ 0) ↔ (¬ GasBetween r)
    go true e p =
        let k = kind_is WasteGas r e in
        let l = uncredited_none (from r) (to r) (charge_of r) (credit_of r) (gas_credited_lem r k (rw k at v).3) in
        (λ z g. l.0 (p ∙ z) g.from_process g.to_process, λ h. sym p ∙ l.1 (λ f t. h (record { gas = e; from_process = f; to_process = t })))
    go false e p =
        let none : charge_of r ≡ 0 = rw e in
        (λ z g. never (sym e ∙ g.gas), λ h. sym p ∙ rw none (either (eqb 0 (from r) || eqb 0 (to r)) (credit_of r)))

uncredited_all : (n : ℕ) (rs : List Record) → All (Valid n) rs → (sum_of (λ r. (entry r).uncredited.0) rs ≡ 0) ↔ All (λ r. ¬ GasBetween r) rs
unfolding sum_of
uncredited_all n [] v = (λ e. tt, λ h. refl)
uncredited_all n (r ∷ rs) v =
    let a = uncredited_zero n r v.0 in
    let b = uncredited_all n rs v.1 in
    (λ e. (a.0 (omega arith), b.0 (omega arith)), λ h. let x = a.1 h.0 in let y = b.1 h.1 in omega arith)

-- ---- raised is 0 exactly when no balance is below zero

not_below : (z : ℤ) → (grams_added z ≡ 0) ↔ (pos 0 ≤ℤ z)
not_below (pos a) = (λ e. record { le = le→leb 0 a (omega arith) }, λ h. refl)
not_below (negsuc a) = (λ (e : suc a ≡ 0). absurd (omega arith), λ h. absurd h.le)

-- a difference below a number
diff_below : (a b c : ℕ) → a < c + b → diff a b <ℤ pos c
diff_below a b c h = go (ltb a b) refl
  where
    go : (t : Bool) → ltb a b ≡ t → diff a b <ℤ pos c
    go true e = rw (diff_lt a b (ltb-true a b e)) (record { lt = tt })
    go false e = let g = ltb-false a b e in rw (diff_ge a b g) (record { lt = lt→ltb (a - b) c (omega arith) })

-- ---- the theorem

module _ (rs : List Record) (ok : Accepted rs) where
  nothing_added : (total_raised rs + uncredited rs ≡ 0) ↔ NothingAdded rs
  unfolding total_raised raised
  nothing_added =
      let sums = (figures 0 rs).uncredited in
      let l = uncredited_all (process_count rs) rs ok.valid in (
        λ e. record {
          balances = λ k a b. (not_below (balance rs k)).0 (sum_zero_at (process_count rs) (raised rs) (omega arith) k a b);
          no_gas = l.0 (omega arith);
        },
        λ h. let a = sum_zero_all (process_count rs) (raised rs) (λ k i j. (not_below (balance rs k)).1 (h.balances k i j)) in
            let b = l.1 h.no_gas in
            omega arith,
      )

  equal_iff_none : (pos (total_left rs) ≡ entered rs) ↔ (total_raised rs + uncredited rs ≡ 0)
  equal_iff_none =
      let c = conserved rs ok in (
        λ e. let d = diff_inj _ _ _ _ (sym (diff_pos (total_left rs)) ∙ e ∙ entered_is rs) in omega arith,
        λ e. diff_pos (total_left rs) ∙ diff_eq _ _ _ _ (omega arith) ∙ sym (entered_is rs),
      )

  pub left_equals_entered : (pos (total_left rs) ≡ entered rs) ↔ NothingAdded rs
  left_equals_entered =
      (λ e. nothing_added.0 (equal_iff_none.0 e), λ h. equal_iff_none.1 (nothing_added.1 h))

  pub otherwise_greater : ¬ NothingAdded rs → entered rs <ℤ pos (total_left rs)
  otherwise_greater h =
      let some : total_raised rs + uncredited rs ≡ 0 → ⊥ = λ e. h (nothing_added.0 e) in
      let c = conserved rs ok in
      rw (entered_is rs) (diff_below _ _ _ (omega arith))
