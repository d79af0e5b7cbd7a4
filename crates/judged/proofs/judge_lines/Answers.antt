-- `judge_lines` meets its contract. Assumes nothing.
use mathlib.Core.Path.{◌≡◌, sym, ap, ◌∙◌}
use mathlib.Core.List.{[], ◌++◌}
use Prim.Native.Nat.{◌+◌, ◌≤◌, ◌<◌}
use borrow.Author.Tests.{ltb-true, ltb-false}
use lib.ListN.{length}
use Rattle.std.proofs.Common.{rules}
use Rattle.std.proofs.lemmas.Result.{err_from_is_err_and}
use Rattle.gathering.specs.Gathered.{uses_of}
use Rattle.judged.specs.Judged.{is_lent, bytes_of, list_of, sheet_of, Passed}
use Rattle.quantity.specs.Limits.{limits}
use Rattle.lines.specs.Lines.{lines_of}
use Rattle.sheet.specs.Verdict.{accepted, first_of, lines_checks}
use Rattle.sheet.proofs.First.{first_rest, first_here}
use Rattle.checks.specs.Numbers.{number_judged}
use Rattle.checks.proofs.Judged.{some_number, none_made, some_made}
use Rattle.works.specs.Works.{state_number}
use Rattle.gathering.proofs.Uses.{unused}
use Rattle.judged.proofs.Judging.{judging_start, few, room, judged_refused, judged_keeps, judged_end, judging_next}
use Rattle.judged.proofs.Judging.{judged_accepted, judged_stated, judged_lines, judged_length, end_fits}
use Rattle.judged.proofs.judge_lines.Goals.{In_ok-map_err}
use Rattle.judged.proofs.judge_lines.Goals.{After-loop-size}
use Rattle.judged.proofs.judge_lines.Goals as goal

pub loop-size-init : goal.loop-size-init
loop-size-init c = rw (c.none-noted.ensures, c.none-stated.ensures) (judging_start _ _ _ _ c.size-size.ensures.value)

-- ---- a line is there, and refused

pub returns-in_err-map_err : goal.returns-in_err-map_err
returns-in_err-map_err c =
    let inside = ltb-true _ _ (sym c.more.ensures ∙ c.loop-size-test.true) in
    let some = some_made _ _ _ _ c.map_err.ensures.cases c.in_err-map_err.was in
    let made : c.in_err-map_err.field-0.0 ≡ record { refusal = some.0; line = c.loop-size.noted.lines + 1 } = search (rules, some.2) in
    let given = err_from_is_err_and c.from_residual.result c.from_residual.ensures.1 in
    let number = sym (ap number_judged some.1) ∙ c.judge.ensures in
    rw (given.1, given.2, made)
    (first_here _ _ _ _ (judged_refused c.loop-size.invariant inside _ c.line_at-l.ensures.read_at _ number (some_number some.0)))

-- ---- and accepted: its number by rows 2 to 13 and 17 is 0

module _ (c : In_ok-map_err) where
  inside : c.loop-size.at < length (sheet_of c.args.sheet)
  inside = ltb-true _ _ (sym c.more.ensures ∙ c.loop-size-test.true)

  zero : state_number limits c.loop-size.noted c.loop-size.stated c.loop-size.kilos c.line_at-l.result c.size-size.result ≡ 0
  zero = sym c.judge.ensures ∙ none_made _ _ _ _ c.map_err.ensures.cases c.in_ok-map_err.was

pub overflow_add-at : goal.overflow_add-at
overflow_add-at c =
    let d = (goal.at.overflow_add-at c).In_ok-map_err in
    let l = c.line_at-l.ensures in
    record {
      fits =
          end_fits (is_lent c.args.sheet) (bytes_of c.args.sheet) (list_of c.args.sheet) _ (few c.loop-size.invariant) _ l.bounded
          (judged_end c.loop-size.invariant (inside d) _ l.read_at (zero d)) c.size-size.ensures.bounded;
    }

pub invariant_of-kept : goal.invariant_of-kept
invariant_of-kept c =
    let d = (goal.at.invariant_of-kept c).In_ok-map_err in
    record { keeps = judged_keeps c.loop-size.invariant (inside d) _ c.line_at-l.ensures.read_at (zero d) }

pub note_line-requires : goal.note_line-requires
note_line-requires c = room c.loop-size.invariant

pub loop-size-preserved : goal.loop-size-preserved
loop-size-preserved c =
    let d = (goal.at.loop-size-preserved c).In_ok-map_err in
    judging_next c.loop-size.invariant (inside d) _ c.line_at-l.ensures.read_at (zero d) c.line_at-l.ensures.bounded
    c.note_line.ensures.noted c.note_line.ensures.stated c.note_line.ensures.pairs

-- ---- no line is left

module _ (c : After-loop-size) where
  done : length (sheet_of c.args.sheet) ≤ c.loop-size.at
  done = ltb-false _ _ (sym c.more.ensures ∙ c.loop-size-test.false)

  -- the lines pass, so that row 18 decides
  by_uses : first_of (lines_checks limits [] (lines_of (sheet_of c.args.sheet)) ++ uses_of (sheet_of c.args.sheet)) ≡ first_of (uses_of (sheet_of c.args.sheet))
  by_uses = first_rest _ _ (judged_accepted c.loop-size.invariant done)

  passed : first_of (uses_of (sheet_of c.args.sheet)) ≡ accepted
      → Passed (sheet_of c.args.sheet) (first_of (lines_checks limits [] (lines_of (sheet_of c.args.sheet)) ++ uses_of (sheet_of c.args.sheet)))
      (record { lines = c.loop-size.noted.lines; length = c.loop-size.at })
  passed e =
      let j = c.loop-size.invariant in
      record { passed = by_uses ∙ e; counted = judged_lines j done; few = few j; measured = judged_length j done }

pub judge_uses-requires-clause-passed : goal.judge_uses-requires-clause-passed
judge_uses-requires-clause-passed c = judged_accepted c.loop-size.invariant (done (goal.at.judge_uses-requires-clause-passed c).After-loop-size)

pub judge_uses-requires-clause-stated : goal.judge_uses-requires-clause-stated
judge_uses-requires-clause-stated c = judged_stated c.loop-size.invariant (done (goal.at.judge_uses-requires-clause-stated c).After-loop-size)

pub returns-in_err-judge_uses : goal.returns-in_err-judge_uses
returns-in_err-judge_uses c =
    let d = (goal.at.returns-in_err-judge_uses c).After-loop-size in
    let given = err_from_is_err_and c.from_residual-in_err-judge_uses.result c.from_residual-in_err-judge_uses.ensures.1 in
    rw (given.1, given.2) (by_uses d ∙ c.in_err-judge_uses.ensures)

pub returns-in_ok-judge_uses : goal.returns-in_ok-judge_uses
returns-in_ok-judge_uses c = passed (goal.at.returns-in_ok-judge_uses c).After-loop-size c.in_ok-judge_uses.ensures

-- no N line is there
pub returns-else-stated : goal.returns-else-stated
returns-else-stated c =
    let d = (goal.at.returns-else-stated c).After-loop-size in
    passed d (unused _ _ 1 (sym (judged_stated c.loop-size.invariant (done d)).used ∙ c.if-stated.false))
