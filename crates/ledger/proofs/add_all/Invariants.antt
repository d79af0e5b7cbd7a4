-- The loop of `add_all`: the figures together of the processes before `k`.
use Prim.Native.Nat.{◌+◌, ◌-◌, ◌≤◌}
use Rattle.goods.specs.ByProcess.{Column}
use Rattle.ledger.specs.Columns.{together}
use Rattle.ledger.proofs.add_all.Given as goal

abbrev pub invariant-loop-k : goal.invariant-loop-k
invariant-loop-k l = record {
  within : l.k ≤ l.count + 1;
  both : Column (l.k - 1) (together l.a.0 l.b.0) l.both.0;
}
