-- `rows::put_report` meets its contract. Assumes nothing.
use native.Mathlib.Omega.{arith}
use Rattle.decimal.proofs.Writing.{then}
use Rattle.rows.proofs.Rows.{report_parts, report_long}
use Rattle.rows.proofs.put_report.Goals as goal

pub returns : goal.returns
returns c = rw (report_parts c.args.r.now) (then (omega (arith, report_long c.args.r.now, c.requires.1)) c.put_rows-at.ensures c.put_totals.ensures)
