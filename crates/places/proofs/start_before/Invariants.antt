-- The loop of `start_before`: behind the place there is no LF up to the end.
use mathlib.Core.Path.{◌≡◌}
use Prim.Native.Nat.{◌≤◌}
use Rattle.places.specs.LineStart.{start_of}
use Rattle.places.proofs.start_before.Given as goal

abbrev pub invariant-loop-start : goal.invariant-loop-start
invariant-loop-start l = (l.start ≤ l.end) × (start_of l.s l.start ≡ start_of l.s l.end)

abbrev pub decreases-loop-start : goal.decreases-loop-start
decreases-loop-start l = l.start
