-- `writer::report` meets its contract: a refused sheet, and a report where the space has room for every report. Assumes nothing.
use Rattle.std.proofs.lemmas.Result.{err_from_is_err_and}
use Rattle.writer.proofs.Job.{refused_outcome, accepted_written}
use Rattle.writer.proofs.report.Goals as goal

pub returns-in_err-r-clause-space_after : goal.returns-in_err-r-clause-space_after
returns-in_err-r-clause-space_after c =
    let given = err_from_is_err_and c.from_residual.result c.from_residual.ensures.1 in
    rw (given.1, given.2) (refused_outcome _ _ _ c.in_err-r.ensures.reckoned)

pub returns-clause-space_after : goal.returns-clause-space_after
returns-clause-space_after c = accepted_written _ _ _ c.in_ok-r.ensures.reckoned c.if-space-lt-LONGEST.false c.put_report.ensures
