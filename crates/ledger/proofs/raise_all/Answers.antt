-- `ledger::raise_all` meets its contract: each step adds one process to both columns; shown so that a wrong figure is refused for the fact.
-- Assumes nothing.
use mathlib.Core.Path.{◌≡◌}
use mathlib.Core.List.{List}
use Prim.Native.Nat.{ℕ, ◌+◌, ◌-◌, ◌≤◌, ◌<◌}
use native.Mathlib.Decide.{ℕ_discrete}
use native.Mathlib.Omega.{arith}
use lib.IntN.{pos}
use lib.ListN.{get_or, set, length-set}
use lib.Seq.{get_or-set_same, get_or-set_other}
use Rattle.goods.specs.ByProcess.{SIZE, Column}
use Rattle.ledger.proofs.Sizes.{kept}
use Rattle.ledger.proofs.raise_all.Goals as goal

-- a column up to k, once place k holds its figure
one_more : {figure : ℕ → ℕ} {a : List ℕ} {k v : ℕ} → 1 ≤ k → k < SIZE → Column (k - 1) figure a → v ≡ figure k
    → Column (k + 1 - 1) figure (set a k v)
one_more {figure} {a} {k} {v} low high before is = record {
  size = simp length-set before.size;
  at = λ i g h. elim (ℕ_discrete i k) [
    | yes e ↦ rw (e, get_or-set_same a k v 0 (omega (arith, before.size, high))) is
    | no n ↦ rw (get_or-set_other a k i v 0 n) (before.at i g (omega (arith, n, h)))
  ];
  outside = λ i out. rw (get_or-set_other a k i v 0 (λ e. out (omega (arith, e, low)) (omega (arith, e))))
      (before.outside i (λ g h. out g (omega (arith, h))));
}

pub loop-k-preserved : goal.loop-k-preserved
loop-k-preserved c =
    let r = c.raise-r.ensures in
    let held = kept (get_or c.args.balances.now.0 c.loop-k.k (pos 0)) (omega (arith, c.requires.size_at_most c.loop-k.k)) in
    record {
      within = omega arith;
      direct = one_more c.loop-k.auto.k (omega arith) c.loop-k.invariant.direct (rw held at r.direct);
      raised = one_more c.loop-k.auto.k (omega arith) c.loop-k.invariant.raised (rw held at r.raised);
    }
