-- THE SUM: left = entered + raised + uncredited on every accepted sheet, and when left equals entered. These do not pin the order of takers,
-- nor that raising comes before precursors are added, nor where roundings stand: the definitions do, with the tables of examples.
-- Assumes nothing.
use mathlib.Core.Path.{◌≡◌, refl, sym, ap, ◌∙◌}
use mathlib.Core.List.{List, [], ◌∷◌}
use Prim.Native.Nat.{ℕ, ◌+◌, ◌-◌}
use native.Mathlib.Omega.{arith}
use lib.IntN.{pos, ◌+ℤ◌}
use Rattle.lines.specs.Records.{Record}
use Rattle.sheet.specs.Refusals.{sum_of}
use Rattle.sheet.specs.Verdict.{All}
use Rattle.goods.specs.Sums.{sum_to, only_at}
use Rattle.ledger.specs.Raising.{grams_added, raised_to_zero}
use Rattle.attribution.specs.Attribution.{raised, direct, indirect, bought_direct, bought_indirect}
use Rattle.attribution.specs.Reckoning.{process_count, output, kilos_between, direct_left, indirect_left, total_left, entered, total_raised, uncredited}
use Rattle.attribution.proofs.EveryKind.{Valid, Accepted}
use Rattle.attribution.proofs.Differences.{diff_pos, diff_plus, diff_eq, raised_diff, added_diff}
use Rattle.goods.proofs.Sums.{sum_add, sum_ext, at_sum}
use Rattle.attribution.proofs.Sums.{sum_swap}
use Rattle.goods.proofs.Pools.{left_sum}
use Rattle.entries.specs.Entries.{entry}
use Rattle.attribution.proofs.EveryKind.{plus, minus, Even, valid_even}
use Rattle.attribution.proofs.Entries.{figures, balance_is, entered_is, forward}

-- ---- raising: direct + what is taken = raised + what is added

pub direct_is : (rs : List Record) (k : ℕ) → direct rs k ≡ sum_of (plus k) rs - sum_of (minus k) rs
unfolding direct
direct_is rs k = ap raised_to_zero (balance_is rs k) ∙ raised_diff _ _

pub raised_is : (rs : List Record) (k : ℕ) → raised rs k ≡ sum_of (minus k) rs - sum_of (plus k) rs
unfolding raised
raised_is rs k = ap grams_added (balance_is rs k) ∙ added_diff _ _

-- ---- all entries in all processes

abbrev used : (k : ℕ) → Record → ℕ
used k r = only_at k (entry r).user (entry r).electricity.0

abbrev bought_d : (k : ℕ) → Record → ℕ
bought_d k r = only_at k (entry r).buyer (entry r).direct.0

abbrev bought_i : (k : ℕ) → Record → ℕ
bought_i k r = only_at k (entry r).buyer (entry r).indirect.0

-- a figure of one record over processes 1 .. n
unfoldable over : ℕ → (ℕ → Record → ℕ) → Record → ℕ
over n f r = sum_to n (λ k. f k r)

each : (n : ℕ) (r : Record) → Even n (entry r)
    → over n plus r + over n used r + over n bought_d r + over n bought_i r + (entry r).leaving.0
    ≡ over n minus r + (entry r).entering.0 + (entry r).uncredited.0
unfolding over
each n r e =
    omega (
      arith,
      e.even,
      at_sum n (entry r).charged (entry r).charge.0 e.charged_in,
      at_sum n (entry r).credited (entry r).credit.0 e.credited_in,
      at_sum n (entry r).user (entry r).electricity.0 e.user_in,
      at_sum n (entry r).buyer (entry r).direct.0 e.buyer_in,
      at_sum n (entry r).buyer (entry r).indirect.0 e.buyer_in,
    )

all_even : (n : ℕ) (rs : List Record) → All (Valid n) rs
    → sum_of (over n plus) rs + sum_of (over n used) rs + sum_of (over n bought_d) rs + sum_of (over n bought_i) rs + sum_of (λ r. (entry r).leaving.0) rs
    ≡ sum_of (over n minus) rs + sum_of (λ r. (entry r).entering.0) rs + sum_of (λ r. (entry r).uncredited.0) rs
unfolding sum_of
all_even n [] v = refl
all_even n (r ∷ rs) v = let a = each n r (valid_even n r v.0) in let b = all_even n rs v.1 in omega arith

-- ---- left = entered + raised + uncredited

module _ (rs : List Record) (ok : Accepted rs) where
  abbrev n : ℕ
  n = process_count rs

  raising : sum_to n (direct rs) + sum_to n (λ k. sum_of (minus k) rs) ≡ sum_to n (raised rs) + sum_to n (λ k. sum_of (plus k) rs)
  raising =
      sym (sum_add n (direct rs) (λ k. sum_of (minus k) rs))
      ∙ sum_ext n _ _ (λ k. let a = direct_is rs k in let b = raised_is rs k in omega arith)
      ∙ sum_add n (raised rs) (λ k. sum_of (plus k) rs)

  -- all that goes into the pools
  into_pools : sum_to n (λ k. direct rs k + bought_direct rs k) + sum_to n (λ k. indirect rs k + bought_indirect rs k) + sum_of (λ r. (entry r).leaving.0) rs
      ≡ sum_of (λ r. (entry r).entering.0) rs + total_raised rs + uncredited rs
  unfolding total_raised indirect over
  into_pools =
      omega (
        arith,
        sum_add n (direct rs) (bought_direct rs),
        sum_add n (indirect rs) (bought_indirect rs),
        sum_ext n (indirect rs) (λ k. sum_of (used k) rs) (λ k. (figures k rs).used),
        sum_ext n (bought_direct rs) (λ k. sum_of (bought_d k) rs) (λ k. (figures k rs).direct),
        sum_ext n (bought_indirect rs) (λ k. sum_of (bought_i k) rs) (λ k. (figures k rs).indirect),
        sum_swap n plus rs,
        sum_swap n minus rs,
        sum_swap n used rs,
        sum_swap n bought_d rs,
        sum_swap n bought_i rs,
        raising,
        all_even n rs ok.valid,
        (figures 0 rs).uncredited,
      )

  pub conserved : total_left rs + sum_of (λ r. (entry r).leaving.0) rs ≡ sum_of (λ r. (entry r).entering.0) rs + total_raised rs + uncredited rs
  unfolding total_left direct_left indirect_left
  conserved =
      omega (
        arith,
        into_pools,
        left_sum n (output rs) (kilos_between rs) (λ k. direct rs k + bought_direct rs k) (forward n rs ok.valid) (λ i l h. ok.within i),
        left_sum n (output rs) (kilos_between rs) (λ k. indirect rs k + bought_indirect rs k) (forward n rs ok.valid) (λ i l h. ok.within i),
      )

  -- THE THIRD PROPERTY
  pub left_is_entered_raised_uncredited : pos (total_left rs) ≡ entered rs +ℤ pos (total_raised rs) +ℤ pos (uncredited rs)
  left_is_entered_raised_uncredited =
      rw (entered_is rs, diff_plus, diff_plus, diff_pos (total_left rs)) (diff_eq _ _ _ _ (let c = conserved in omega arith))
