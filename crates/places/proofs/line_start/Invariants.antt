-- `line_start` meets its contract. Assumes nothing.
use mathlib.Core.Path.{◌≡◌}
use Prim.Native.Nat.{◌+◌, ◌-◌}
use lib.ListN.{drop}
use Rattle.lines.specs.Lines.{lines_of, line_start}
use Rattle.places.proofs.line_start.Given as goal

-- the line is that of this number among those from here on
abbrev pub invariant-loop : goal.invariant-loop
invariant-loop l = l.start + line_start (lines_of (drop l.start l.s)) (l.line + 1 - l.counter) ≡ line_start (lines_of l.s) l.line
