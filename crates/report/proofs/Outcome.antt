-- The verdict of every sheet and report space, the outcome of each verdict, and the report's totals. Assumes nothing.
use mathlib.Core.Path.{◌≡◌, refl}
use mathlib.Core.Logic.{◌↔◌, ◌⊎◌}
use mathlib.Core.List.{List, [], ◌∷◌, ◌++◌}
use Prim.Native.Nat.{ℕ, ◌≤◌}
use native.Mathlib.Omega.{arith}
use borrow.Author.Tests.{ltb-false}
use lib.IntN.{pos, ◌+ℤ◌}
use lib.Signed.{◌<ℤ◌}
use lib.ListN.{length, drop, length-append, length-drop}
use Rattle.quantity.specs.Limits.{Limits}
use Rattle.lines.specs.Records.{records_of}
use Rattle.sheet.specs.Verdict.{check, Verdict, accepted, refused, sheet_checks}
use Rattle.sheet.specs.Verdict.{All, Passes, First}
use Rattle.sheet.proofs.First.{all_append, accepted_iff, refused_iff, decided}
use Rattle.attribution.specs.Exact.{NothingAdded}
use Rattle.attribution.specs.Governing.{governed}
use Rattle.attribution.specs.Reckoning.{reckoning, totals_of}
use Rattle.attribution.specs.Verdict.{figure_too_large, reckoner_checks}
use Rattle.attribution.proofs.Sheet.{third_property, third_property_exact, third_property_greater}
use Rattle.report.specs.Outcome.{sheet_report, space_too_short, all_checks, verdict, outcome}

module _ (limits : Limits) (sheet space : List ℕ) where
  -- ---- the verdict

  -- a sheet is accepted exactly when no row applies to it
  pub verdict_accepted : (verdict limits sheet space ≡ accepted) ↔ All Passes (all_checks limits sheet space)
  unfolding verdict
  verdict_accepted = accepted_iff (all_checks limits sheet space)

  -- it is refused by the first row that applies in the order of judging
  pub verdict_refused : (number line : ℕ) → (verdict limits sheet space ≡ refused number line) ↔ First (all_checks limits sheet space) number line
  unfolding verdict
  verdict_refused = refused_iff (all_checks limits sheet space)

  -- no sheet is without a verdict
  pub verdict_given : All Passes (all_checks limits sheet space) ⊎ ((number line : ℕ) × First (all_checks limits sheet space) number line)
  verdict_given = decided (all_checks limits sheet space)

  -- ---- the outcome of each verdict

  pub refused_untouched : (number line : ℕ) → verdict limits sheet space ≡ refused number line
      → outcome limits sheet space ≡ record { number = number; line = line; length = 0; space = space }
  unfolding outcome
  refused_untouched number line e = rw e

  pub accepted_written : verdict limits sheet space ≡ accepted
      → outcome limits sheet space
      ≡ record { number = 0; line = 0; length = length (sheet_report sheet); space = sheet_report sheet ++ drop (length (sheet_report sheet)) space }
  unfolding outcome
  accepted_written e = rw e

  -- ---- an accepted sheet passes 16, 15 and the rest

  module _ (a : verdict limits sheet space ≡ accepted) where
    pub report_fits : length (sheet_report sheet) ≤ length space
    unfolding all_checks
    report_fits =
        ltb-false (length space) (length (sheet_report sheet))
        (all_append Passes (reckoner_checks limits sheet) (check 16 0 (space_too_short sheet space) ∷ []) (verdict_accepted.0 a)).1.0

    lines_passed : All Passes (sheet_checks limits sheet)
    unfolding all_checks reckoner_checks
    lines_passed =
        let all_but_16 = (all_append Passes (reckoner_checks limits sheet) (check 16 0 (space_too_short sheet space) ∷ []) (verdict_accepted.0 a)).0 in
        (all_append Passes (sheet_checks limits sheet) (check 15 0 (figure_too_large (reckoning (governed (records_of sheet)))) ∷ []) all_but_16).0

    -- THE THIRD PROPERTY, of the report's totals
    pub report_sum : pos (totals_of sheet).left ≡ (totals_of sheet).entered +ℤ pos (totals_of sheet).raised +ℤ pos (totals_of sheet).uncredited
    report_sum = third_property limits sheet lines_passed

    pub report_sum_exact : (pos (totals_of sheet).left ≡ (totals_of sheet).entered) ↔ NothingAdded (records_of sheet)
    report_sum_exact = third_property_exact limits sheet lines_passed

    pub report_sum_greater : ¬ NothingAdded (records_of sheet) → (totals_of sheet).entered <ℤ pos (totals_of sheet).left
    report_sum_greater = third_property_greater limits sheet lines_passed

  -- ---- the space keeps its length

  pub space_kept : length (outcome limits sheet space).space ≡ length space
  space_kept = go (verdict limits sheet space) refl
    where
      go : (v : Verdict) → verdict limits sheet space ≡ v → length (outcome limits sheet space).space ≡ length space
      go accepted e =
          let fits = report_fits e in
          rw (accepted_written e, length-append, length-drop) (omega arith)
      go (refused number line) e = rw (refused_untouched number line e)
