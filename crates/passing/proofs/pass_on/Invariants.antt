-- The loop of `passing::pass_on`: processes before `to` have had their portions of both pools.
use Prim.Native.Nat.{◌+◌, ◌-◌, ◌≤◌}
use Rattle.goods.specs.Settling.{pairs}
use Rattle.passing.proofs.Passing.{PassingBoth}
use Rattle.passing.proofs.pass_on.Given as goal

abbrev pub invariant-loop-to : goal.invariant-loop-to
invariant-loop-to l =
    (l.to ≤ l.count + 1) × PassingBoth l.count l.own l.output.0 (pairs l.kilos l.from) l.initial.pools (l.to - 1) l.taken.0 l.given l.pools
