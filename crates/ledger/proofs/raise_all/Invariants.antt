-- The loop of `raise_all`: the outcomes and the grams added of the processes before `k`.
use Prim.Native.Nat.{◌+◌, ◌-◌, ◌≤◌}
use Rattle.goods.specs.ByProcess.{Column}
use Rattle.ledger.specs.Columns.{signed_figures}
use Rattle.ledger.specs.Raising.{raised_to_zero, grams_added}
use Rattle.ledger.proofs.raise_all.Given as goal

abbrev pub invariant-loop-k : goal.invariant-loop-k
invariant-loop-k l = record {
  within : l.k ≤ l.count + 1;
  direct : Column (l.k - 1) (λ k. raised_to_zero (signed_figures l.balances.0 k)) l.direct.0;
  raised : Column (l.k - 1) (λ k. grams_added (signed_figures l.balances.0 k)) l.raised.0;
}
