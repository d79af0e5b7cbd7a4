-- `leading_digits` meets its contract. Assumes nothing.
use Prim.Native.Nat.{◌-◌, ◌<◌}
use lib.ListN.{length}
use Rattle.std.specs.Prelude.{Some}
use Rattle.lines.specs.Words.{CAP}
use Rattle.fields.specs.Scan.{Scanning}
use Rattle.short_fields.proofs.leading_digits.Given as goal

abbrev pub invariant-loop-value : goal.invariant-loop-value
invariant-loop-value l = Scanning l.s l.start (Some l.value) l.end × (l.end < length l.s) × (l.value < CAP)

abbrev pub decreases-loop-value : goal.decreases-loop-value
decreases-loop-value l = length l.s - l.end
