-- `last_line::put_totals` meets its contract: its four fields are those of the last line; shown so that a wrong field is refused for the fact.
-- Assumes nothing.
use Rattle.report.specs.Spelling.{total_line}
use Rattle.last_line.specs.Totals.{total_fields}
use Rattle.last_line.proofs.put_totals.Goals as goal

pub put_line-requires : goal.put_line-requires
unfolding total_fields total_line
put_line-requires c = rw c.signed_figure.ensures c.requires

pub returns : goal.returns
unfolding total_fields total_line
returns c = rw c.signed_figure.ensures at c.put_line.ensures
