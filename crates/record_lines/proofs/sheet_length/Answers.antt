-- `record_lines::sheet_length` meets its contract. Assumes nothing.
use native.Mathlib.Omega.{arith}
use Rattle.record_lines.proofs.Lines.{chunk_more}
use Rattle.record_lines.proofs.sheet_length.Goals as goal

pub returns-then-length-gt-BYTES : goal.returns-then-length-gt-BYTES
returns-then-length-gt-BYTES c =
    let v = c.loop-record.invariant in
    let steps = c.in-Some.ensures.steps in
    let more = chunk_more _ _ _ _ v.size steps.1 in
    omega (arith, c.line_length-length.ensures.value, more, v.measured)
