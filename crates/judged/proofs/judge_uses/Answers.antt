-- `judge_uses` meets its contract. Assumes nothing.
use mathlib.Core.Path.{sym, ap, ap₂, ◌∙◌}
use mathlib.Core.Bool.{Bool, ◌&&◌}
use Prim.Native.Nat.{ℕ, ◌<◌}
use borrow.Author.Tests.{eq-eqb, ne_eqb, ltb-true, ltb-false}
use lib.Dec.{eqb}
use lib.ListN.{length, get_or}
use Rattle.lines.specs.Records.{record_of, records_of}
use Rattle.lines.specs.Words.{line_at}
use Rattle.sheet.specs.Refusals.{no_figures}
use Rattle.works.specs.Works.{ranks_of}
use Rattle.gathering.proofs.Uses.{use_end, use_test, use_refused, uses_accepted}
use Rattle.judged.specs.Judged.{is_lent, bytes_of, list_of, sheet_of}
use Rattle.judged.proofs.Judging.{end_fits}
use Rattle.judged.proofs.Using.{using_start, using_next}
use Rattle.judged.proofs.judge_uses.Goals.{After-line_at-l}
use Rattle.judged.proofs.judge_uses.Goals.{else-l-eq78-via-then-l-eq78+else-ranks-eq0, else-l-eq78-via-else-l-eq78}
use Rattle.judged.proofs.judge_uses.Goals as goal

pub loop-sheet-init : goal.loop-sheet-init
loop-sheet-init c = using_start _ _ _ c.requires.passed

-- a line is there
module _ (c : After-line_at-l) where
  inside : c.loop-sheet.at < length (sheet_of c.args.sheet)
  inside = ltb-true _ _ (sym c.more.ensures ∙ c.loop-sheet-test.true)

  abbrev unstated : Bool
  unstated = no_figures (records_of (sheet_of c.args.sheet)) (record_of (line_at (sheet_of c.args.sheet) c.loop-sheet.at))

pub overflow_add-at : goal.overflow_add-at
overflow_add-at c =
    let d = (goal.at.overflow_add-at c).After-line_at-l in
    let u = c.loop-sheet.invariant.uses in
    record {
      fits =
          end_fits (is_lent c.args.sheet) (bytes_of c.args.sheet) (list_of c.args.sheet) _ u.few _ c.line_at-l.ensures.bounded
          (use_end _ _ _ u (inside d) _ c.line_at-l.ensures.read_at) c.requires.bounded;
    }

pub returns-then-ranks-eq0 : goal.returns-then-ranks-eq0
returns-then-ranks-eq0 c =
    let d = (goal.at.returns-then-ranks-eq0 c).After-line_at-l in
    let u = c.loop-sheet.invariant.uses in
    let read = c.line_at-l.ensures.read_at in
    use_refused _ _ _ u (inside d) _ read
    (use_test _ _ _ u (inside d) _ read c.args.stated.now c.requires.stated
    ∙ ap₂ (λ (s t : Bool). s && t) (eq-eqb _ _ c.if-l-eq78.true) (ap (λ (n : ℕ). eqb n 0) (sym c.ranks.ensures) ∙ eq-eqb _ _ c.if-ranks-eq0.true))

pub loop-sheet-preserved : goal.loop-sheet-preserved
loop-sheet-preserved c =
    let d = (goal.at.loop-sheet-preserved c).After-line_at-l in
    let u = c.loop-sheet.invariant in
    let read = c.line_at-l.ensures.read_at in
    let test = use_test _ _ _ u.uses (inside d) _ read c.args.stated.now c.requires.stated in
    using_next _ _ _ _ _ u (inside d) _ read c.line_at-l.ensures.bounded
    (test ∙ elim c.else-l-eq78.branch [
      | else-l-eq78-via-then-l-eq78+else-ranks-eq0 w ↦
          ap₂ (λ (s t : Bool). s && t) (eq-eqb _ _ w.if-l-eq78.true) (ap (λ (n : ℕ). eqb n 0) (sym w.ranks.ensures) ∙ ne_eqb _ _ w.if-ranks-eq0.false)
      | else-l-eq78-via-else-l-eq78 w ↦ ap (λ (s : Bool). s && eqb (ranks_of c.args.stated.now.ranks (get_or c.line_at-l.result.words 1 0)) 0) (ne_eqb _ _ w.if-l-eq78.false)
    ])

pub returns : goal.returns
returns c = uses_accepted _ _ _ c.loop-sheet.invariant.uses (ltb-false _ _ (sym c.more.ensures ∙ c.loop-sheet-test.false))
