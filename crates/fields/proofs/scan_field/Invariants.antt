-- The loop of `scan_field`: what is scanned so far.
use Rattle.std.specs.Prelude.{Some}
use Rattle.fields.specs.Scan.{Scanning}
use Rattle.fields.proofs.scan_field.Given as goal

abbrev pub invariant-loop-end : goal.invariant-loop-end
invariant-loop-end l = Scanning l.s l.start (Some l.value) l.end
