-- `writer::print` meets its contract: the report where no row but 16 applies; shown so that a byte touched past what is printed is
-- refused for the fact. Assumes nothing.
use Rattle.writer.proofs.Job.{printed_report}
use Rattle.writer.proofs.print.Goals as goal

pub returns-in-Ok-clause-put : goal.returns-in-Ok-clause-put
returns-in-Ok-clause-put c = rw (printed_report _ c.args.space.now _ c.in-Ok.ensures.reckoned) c.put_report.ensures
