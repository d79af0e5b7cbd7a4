-- The loop of `judge_lines`: the lines from the place on are left, and the code holds what those above say (`JudgingAt`). The measure is how many
-- bytes are left.
use Prim.Native.Nat.{◌-◌}
use lib.ListN.{length}
use Rattle.judged.specs.Judged.{is_lent, bytes_of, list_of, sheet_of}
use Rattle.judged.proofs.Judging.{JudgingAt}
use Rattle.judged.proofs.judge_lines.Given as goal

abbrev pub invariant-loop-size : goal.invariant-loop-size
invariant-loop-size l = JudgingAt (is_lent l.sheet) (bytes_of l.sheet) (list_of l.sheet) l.size l.stated l.kilos l.noted l.at

abbrev pub decreases-loop-size : goal.decreases-loop-size
decreases-loop-size l = length (sheet_of l.sheet) - l.at
