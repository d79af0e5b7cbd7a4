-- The theorems of the sum, for the totals of every sheet by which no row 1 to 14, 17 or 18 applies: what N lines buy is in entered. Assumes
-- nothing.
use mathlib.Core.Path.{◌≡◌}
use mathlib.Core.Logic.{◌↔◌}
use mathlib.Core.List.{List}
use Prim.Native.Nat.{ℕ}
use lib.IntN.{pos, ◌+ℤ◌}
use lib.Signed.{◌<ℤ◌}
use Rattle.quantity.specs.Limits.{Limits}
use Rattle.lines.specs.Records.{records_of}
use Rattle.sheet.specs.Verdict.{sheet_checks}
use Rattle.sheet.specs.Verdict.{All, Passes}
use Rattle.attribution.specs.Reckoning.{totals_of}
use Rattle.attribution.specs.Reckoning.{reckoning}
use Rattle.attribution.specs.Governing.{governed}
use Rattle.attribution.specs.Exact.{NothingAdded}
use Rattle.attribution.proofs.EveryKind.{Accepted}
use Rattle.attribution.proofs.Governing.{sheet_governed, nothing_added_same}
use Rattle.attribution.proofs.Works.{left_is_entered_raised_uncredited}
use Rattle.attribution.proofs.Exact.{left_equals_entered, otherwise_greater}

module _ (limits : Limits) (sheet : List ℕ) (passed : All Passes (sheet_checks limits sheet)) where
  ok : Accepted (governed (records_of sheet))
  ok = sheet_governed limits sheet passed

  -- left = entered + raised + uncredited
  pub third_property : pos (totals_of sheet).left
      ≡ (totals_of sheet).entered +ℤ pos (totals_of sheet).raised +ℤ pos (totals_of sheet).uncredited
  unfolding reckoning
  third_property = left_is_entered_raised_uncredited (governed (records_of sheet)) ok

  -- left equals entered exactly when no process balance is below zero and no waste gas passed between two processes
  pub third_property_exact : (pos (totals_of sheet).left ≡ (totals_of sheet).entered) ↔ NothingAdded (records_of sheet)
  unfolding reckoning
  third_property_exact =
      let l = left_equals_entered (governed (records_of sheet)) ok in
      let n = nothing_added_same (records_of sheet) in
      (λ e. n.0 (l.0 e), λ h. l.1 (n.1 h))

  -- otherwise left is greater
  pub third_property_greater : ¬ NothingAdded (records_of sheet) → (totals_of sheet).entered <ℤ pos (totals_of sheet).left
  unfolding reckoning
  third_property_greater h = otherwise_greater (governed (records_of sheet)) ok (λ n. h ((nothing_added_same (records_of sheet)).0 n))
