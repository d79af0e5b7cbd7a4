-- The loop of `read_on`: what is read so far, and how many bytes are left.
use Prim.Native.Nat.{◌-◌}
use lib.ListN.{length}
use Rattle.records.specs.Reading.{ReadSoFar}
use Rattle.records.proofs.read_on.Given as goal

abbrev pub invariant-loop-field : goal.invariant-loop-field
invariant-loop-field l = ReadSoFar l.s l.start l.l

abbrev pub decreases-loop-field : goal.decreases-loop-field
decreases-loop-field l = length l.s - l.l.end
