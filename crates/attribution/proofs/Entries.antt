-- Double entry: the figures of document 01 are sums over the entries of lines, whatever their kinds. Assumes nothing.
use mathlib.Core.Path.{◌≡◌, refl, ap₂}
use mathlib.Core.Bool.{Bool, true, false, cond}
use mathlib.Core.List.{List, [], ◌∷◌}
use Prim.Native.Nat.{ℕ, ◌+◌, ◌≤◌, ◌<◌}
use native.Mathlib.Omega.{arith}
use lib.Dec.{eqb}
use lib.IntN.{ℤ, pos}
use borrow.Author.Tests.{eqb-true, eqb-false}
use Rattle.lines.specs.Records.{Record, number_at}
use Rattle.sheet.specs.Refusals.{sum_of, process, from, to}
use Rattle.sheet.specs.Kinds.{is}
use Rattle.sheet.specs.declared.Kind.TheVariants.{OwnGood}
use Rattle.sheet.proofs.Table.{kind_is}
use Rattle.sheet.specs.Verdict.{All}
use Rattle.goods.specs.Sums.{only_at}
use Rattle.ledger.specs.Raising.{raised_to_zero, grams_added}
use Rattle.entries.specs.Weighed.{stream_of, charge_of, credit_of, bought_direct_of, bought_indirect_of}
use Rattle.attribution.specs.Attribution.{streams, heat_in, heat_out, gas_charged, gas_credited, electricity_in, electricity_out}
use Rattle.attribution.specs.Attribution.{bought_direct, bought_indirect, balance}
use Rattle.attribution.specs.Reckoning.{kilos_of, kilos_between, entered, uncredited}
use Rattle.entries.specs.Entries.{entry}
use Rattle.attribution.proofs.EveryKind.{Valid}
use Rattle.attribution.proofs.Differences.{diff, diff_plus, diff_minus}
use Rattle.goods.proofs.Sums.{at_other, at_le, at_none}
use Rattle.attribution.proofs.Sums.{of_ℤ_diff}
use Rattle.attribution.proofs.EveryKind.{plus, minus, parts_of}

abbrev stream_at : (k : ℕ) → Record → ℤ
stream_at k r = cond (eqb k (process r)) (stream_of r) (pos 0)

stream_plus : (k p : ℕ) (z : ℤ) → raised_to_zero (cond (eqb k p) z (pos 0)) ≡ only_at k p (raised_to_zero z)
unfolding only_at
stream_plus k p z = go (eqb k p)
  where
    go : (b : Bool) → raised_to_zero (cond b z (pos 0)) ≡ cond b (raised_to_zero z) 0
    go true = refl
    go false = refl

stream_minus : (k p : ℕ) (z : ℤ) → grams_added (cond (eqb k p) z (pos 0)) ≡ only_at k p (grams_added z)
unfolding only_at
stream_minus k p z = go (eqb k p)
  where
    go : (b : Bool) → grams_added (cond b z (pos 0)) ≡ cond b (grams_added z) 0
    go true = refl
    go false = refl

-- ---- THE FIGURES OF DOCUMENT 01 ARE SUMS OVER ENTRIES

-- the sums of document 01 over all lines, part by part
pub record Figures (i : ℕ) (rs : List Record) : Type 0 where
  pub added : sum_of (λ r. raised_to_zero (stream_at i r)) rs + heat_in rs i + gas_charged rs i ≡ sum_of (plus i) rs
  pub taken : sum_of (λ r. grams_added (stream_at i r)) rs + heat_out rs i + gas_credited rs i + electricity_out rs i ≡ sum_of (minus i) rs
  pub used : electricity_in rs i ≡ sum_of (λ r. only_at i (entry r).user (entry r).electricity.0) rs
  pub direct : bought_direct rs i ≡ sum_of (λ r. only_at i (entry r).buyer (entry r).direct.0) rs
  pub indirect : bought_indirect rs i ≡ sum_of (λ r. only_at i (entry r).buyer (entry r).indirect.0) rs
  pub entering :
      sum_of (λ r. raised_to_zero (stream_of r)) rs + heat_out rs 0 + sum_of (λ r. only_at 0 (from r) (charge_of r)) rs + electricity_out rs 0
      + sum_of bought_direct_of rs + sum_of bought_indirect_of rs
      ≡ sum_of (λ r. (entry r).entering.0) rs
  pub leaving :
      sum_of (λ r. grams_added (stream_of r)) rs + heat_in rs 0 + sum_of (λ r. only_at 0 (to r) (credit_of r)) rs + electricity_in rs 0
      ≡ sum_of (λ r. (entry r).leaving.0) rs
  pub uncredited : uncredited rs ≡ sum_of (λ r. (entry r).uncredited.0) rs

pub figures : (i : ℕ) (rs : List Record) → Figures i rs
unfolding sum_of heat_in heat_out gas_charged gas_credited electricity_in electricity_out bought_direct bought_indirect uncredited
figures i [] = omega arith
figures i (r ∷ rs) =
    let p = parts_of i r in
    let up = stream_plus i (process r) (stream_of r) in
    let down = stream_minus i (process r) (stream_of r) in
    let ih = figures i rs in
    omega arith

-- the balance, as the paper writes it, is the sum of what entries put in less the sum of what they take
pub balance_is : (rs : List Record) (i : ℕ) → balance rs i ≡ diff (sum_of (plus i) rs) (sum_of (minus i) rs)
unfolding balance streams
balance_is rs i =
    let f = figures i rs in
    rw (of_ℤ_diff (stream_at i) rs, diff_plus, diff_minus, diff_plus, diff_minus, diff_minus) (ap₂ diff f.added f.taken)

pub entered_is : (rs : List Record) → entered rs ≡ diff (sum_of (λ r. (entry r).entering.0) rs) (sum_of (λ r. (entry r).leaving.0) rs)
unfolding entered
entered_is rs =
    let f = figures 0 rs in
    rw (of_ℤ_diff stream_of rs, diff_plus, diff_plus, diff_plus, diff_plus, diff_plus, diff_minus, diff_minus, diff_minus) (ap₂ diff f.entering f.leaving)

-- ---- goods go from lower to higher numbers

ahead : (i j f t m : ℕ) → f < t → j ≤ i → only_at i f (only_at j t m) ≡ 0
ahead i j f t m l h = go (eqb i f) refl
  where
    go : (b : Bool) → eqb i f ≡ b → only_at i f (only_at j t m) ≡ 0
    go true e = let q = eqb-true i f e in omega (arith, at_le i f (only_at j t m), at_other j t m (λ (u : j ≡ t). omega arith))
    go false e = at_other i f (only_at j t m) (eqb-false i f e)

no_goods : (i j f t : ℕ) → only_at i f (only_at j t 0) ≡ 0
no_goods i j f t = omega (arith, at_le i f (only_at j t 0), at_none j t)

goods_ahead : (n : ℕ) (r : Record) → Valid n r → (i j : ℕ) → j ≤ i → only_at i (from r) (only_at j (to r) (kilos_of r)) ≡ 0
unfolding kilos_of
goods_ahead n r v i j h = go (is OwnGood r) refl
  where
    go : (t : Bool) → is OwnGood r ≡ t → only_at i (from r) (only_at j (to r) (cond t (number_at r 2) 0)) ≡ 0
    go true e = ahead i j _ _ _ (rw (kind_is OwnGood r e) at v).1 h
    go false e = no_goods i j _ _

pub forward : (n : ℕ) (rs : List Record) → All (Valid n) rs → (i j : ℕ) → j ≤ i → kilos_between rs i j ≡ 0
unfolding kilos_between sum_of
forward n [] v i j h = refl
forward n (r ∷ rs) v i j h = omega (arith, goods_ahead n r v.0 i j h, forward n rs v.1 i j h)
