-- Rows 1 to 14, 17 and 18 have neither the number 15 nor 16. Assumes nothing.
use mathlib.Core.Path.{◌≡◌}
use mathlib.Core.List.{List, [], ◌∷◌}
use Prim.Native.Nat.{ℕ, suc, ◌<◌}
use native.Mathlib.Omega.{arith}
use lib.ListN.{length}
use Rattle.quantity.specs.Limits.{Limits}
use Rattle.lines.specs.Lines.{Line, lines_of}
use Rattle.lines.specs.Records.{Field, Record, record_of, records_of}
use Rattle.sheet.specs.Kinds.{Rule, rules_of, sheet_table}
use Rattle.sheet.specs.Verdict.{Check, field_checks, shape_checks, figures_checks, line_checks, lines_checks, sheet_checks, All}
use Rattle.sheet.proofs.First.{all_join}

module _ (k : ℕ) (over : 14 < k) (under : k < 17) where
  abbrev Another : Check → Type 0
  Another c = c.number ≡ k → ⊥

  fields_another : (line : ℕ) (rules : List Rule) (fields : List Field) → All Another (field_checks line rules fields)
  unfolding field_checks
  fields_another line [] fields = tt
  fields_another line (rule ∷ rules) [] = tt
  fields_another line (rule ∷ rules) (f ∷ fs) = (λ e. omega arith, (λ e. omega arith, fields_another line rules fs))

  module _ (limits : Limits) where
    line_another : (above : List Record) (l : Line) → All Another (line_checks limits above l)
    unfolding line_checks shape_checks
    line_another above l =
        let line : ℕ = suc (length above) in (
          λ e. omega arith,
          all_join Another (shape_checks (sheet_table limits) line l) _
              (λ e. omega arith, (λ e. omega arith, (λ e. omega arith, fields_another line (rules_of limits (record_of l)) (record_of l).said)))
              (λ e. omega arith, (λ e. omega arith, (λ e. omega arith, (λ e. omega arith, (λ e. omega arith, (λ e. omega arith, (λ e. omega arith, tt))))))),
        )

    lines_another : (above : List Record) (ls : List Line) → All Another (lines_checks limits above ls)
    unfolding lines_checks
    lines_another above [] = tt
    lines_another above (l ∷ ls) =
        all_join Another (line_checks limits above l) (lines_checks limits (record_of l ∷ above) ls)
        (line_another above l) (lines_another (record_of l ∷ above) ls)

    figures_another : (records : List Record) (line : ℕ) (rs : List Record) → All Another (figures_checks records line rs)
    unfolding figures_checks
    figures_another records line [] = tt
    figures_another records line (r ∷ rs) = (λ e. omega arith, figures_another records (suc line) rs)

    sheet_all : (sheet : List ℕ) → All Another (sheet_checks limits sheet)
    unfolding sheet_checks
    sheet_all sheet = (
      λ e. omega arith,
      (
        λ e. omega arith,
        all_join Another (lines_checks limits [] (lines_of sheet)) (figures_checks (records_of sheet) 1 (records_of sheet))
            (lines_another [] (lines_of sheet)) (figures_another (records_of sheet) 1 (records_of sheet)),
      ),
    )

-- NO ROW 1 TO 14, 17 OR 18 HAS THE NUMBER k, 15 or 16
pub sheet_another : (k : ℕ) → (14 < k) × (k < 17) → (limits : Limits) (sheet : List ℕ) → All (λ c. c.number ≡ k → ⊥) (sheet_checks limits sheet)
sheet_another k kept limits sheet = sheet_all k kept.0 kept.1 limits sheet
