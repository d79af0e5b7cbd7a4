-- Document 02, ticket 4, of the bytes of reports: what K and N lines change in them. Assumes nothing.
use mathlib.Core.Path.{◌≡◌, refl, sym, ap, ◌∙◌}
use mathlib.Core.Bool.{true, false}
use mathlib.Core.List.{List, [], ◌∷◌, ◌++◌}
use Prim.Native.Nat.{ℕ}
use Rattle.decimal.specs.Spelling.{digits, spelling}
use Rattle.decimal.specs.Text.{bytes}
use Rattle.lines.specs.Spelling.{spell_fields, spell_line}
use Rattle.lines.specs.Records.{Record, records_of}
use Rattle.sheet.specs.Kinds.{is}
use Rattle.sheet.specs.declared.Kind.TheVariants.{PrecursorFigures, PrecursorUse}
use Rattle.sheet.specs.Refusals.{any_of, sum_of}
use Rattle.sheet.specs.Verdict.{All}
use Rattle.goods.specs.Sums.{sum_to}
use Rattle.attribution.specs.Sums.{sum_of_ℤ}
use Rattle.attribution.specs.Attribution.{heat_in, heat_out, electricity_in, electricity_out}
use Rattle.attribution.specs.Governing.{as_bought, governed}
use Rattle.attribution.specs.Reckoning.{Reckoning, process_count, output, total_left, entered, total_raised, uncredited, rows_to, reckoning}
use Rattle.attribution.proofs.Governing.{governed_unused}
use Rattle.attribution.proofs.Precursors.{Unneeded, unneeded_figures, figures_alone, weighs_as_bought}
use Rattle.report.specs.Report.{report_of}
use Rattle.report.specs.Spelling.{spell_figure, spell_figures, spell_lines, total_line, report_bytes}
use Rattle.report.specs.Outcome.{sheet_report}

-- records with the same reckoning
same_report : (a b : List ℕ) → reckoning (governed (records_of a)) ≡ reckoning (governed (records_of b)) → sheet_report a ≡ sheet_report b
unfolding sheet_report
same_report a b e = ap (λ (r : Reckoning). report_bytes (report_of r)) e

no_rows : report_bytes (report_of (reckoning (governed []))) ≡ bytes "T,0,0,0,0\n"
unfolding governed process_count output total_left entered total_raised uncredited rows_to reckoning heat_in heat_out electricity_in electricity_out
    sum_of sum_of_ℤ sum_to report_of report_bytes spell_lines total_line spell_figures spell_figure spell_fields spell_line spelling digits
no_rows = refl

-- without N lines the report is that of the records themselves
pub without_uses : (sheet : List ℕ) → any_of (is PrecursorUse) (records_of sheet) ≡ false
    → sheet_report sheet ≡ report_bytes (report_of (reckoning (records_of sheet)))
unfolding sheet_report
without_uses sheet none = ap (λ (rs : List Record). report_bytes (report_of (reckoning rs))) (governed_unused (records_of sheet) none)

module _ (sheet other : List ℕ) (us : List Record) (r : Record) (vs : List Record) (split : records_of sheet ≡ us ++ (r ∷ vs)) where
  -- with a K line that no N line needs, and without it
  pub unneeded_line : is PrecursorFigures r ≡ true → records_of other ≡ us ++ vs → Unneeded (records_of sheet) r → sheet_report sheet ≡ sheet_report other
  unneeded_line figures without h =
      same_report sheet other (
      ap (λ (l : List Record). reckoning (governed l)) split
      ∙ unneeded_figures us r vs figures (rw split at h)
      ∙ ap (λ (l : List Record). reckoning (governed l)) (sym without)
      )

  -- with an N line, and with the B line of the governing figures in its place
  pub bought_instead : records_of other ≡ us ++ (as_bought (records_of sheet) r ∷ vs) → sheet_report other ≡ sheet_report sheet
  bought_instead instead =
      same_report other sheet (
      ap (λ (l : List Record). reckoning (governed l))
      (instead ∙ ap (λ (l : List Record). us ++ (as_bought l r ∷ vs)) split)
      ∙ weighs_as_bought us r vs
      ∙ ap (λ (l : List Record). reckoning (governed l)) (sym split)
      )

-- K lines alone: the report is `T,0,0,0,0`
pub figures_alone_report : (sheet : List ℕ) → All (λ r. is PrecursorFigures r ≡ true) (records_of sheet) → sheet_report sheet ≡ bytes "T,0,0,0,0\n"
unfolding sheet_report
figures_alone_report sheet h = ap (λ (r : Reckoning). report_bytes (report_of r)) (figures_alone (records_of sheet) h) ∙ no_rows
