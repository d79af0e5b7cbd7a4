-- The loop of `judge_uses`: the lines from the place on are left, and row 18 applies to none above (`UsingAt`). The measure is how many bytes are
-- left.
use Prim.Native.Nat.{◌-◌}
use lib.ListN.{length}
use Rattle.judged.specs.Judged.{is_lent, bytes_of, list_of, sheet_of}
use Rattle.judged.proofs.Using.{UsingAt}
use Rattle.judged.proofs.judge_uses.Given as goal

abbrev pub invariant-loop-sheet : goal.invariant-loop-sheet
invariant-loop-sheet l = UsingAt (is_lent l.sheet) (bytes_of l.sheet) (list_of l.sheet) l.at l.lines

abbrev pub decreases-loop-sheet : goal.decreases-loop-sheet
decreases-loop-sheet l = length (sheet_of l.sheet) - l.at
