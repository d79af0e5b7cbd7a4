-- The loop of `settling::settle`: processes before `i` have passed their portions of both pools on (`Settling`).
use Prim.Native.Nat.{◌+◌, ◌-◌, ◌≤◌}
use Rattle.goods.specs.ByProcess.{figures}
use Rattle.goods.specs.Settling.{pairs}
use Rattle.settling.proofs.Settling.{Settling}
use Rattle.settling.proofs.settle.Given as goal

abbrev pub invariant-loop-i : goal.invariant-loop-i
invariant-loop-i l = record {
  within : l.i ≤ l.count + 1;
  direct :
      Settling l.count (figures l.outputs.0) (pairs l.kilos) (figures l.initial.pools.direct.0) (l.i - 1) l.pools.direct.0 l.lefts.direct.0;
  indirect :
      Settling l.count (figures l.outputs.0) (pairs l.kilos) (figures l.initial.pools.indirect.0) (l.i - 1) l.pools.indirect.0 l.lefts.indirect.0;
}
