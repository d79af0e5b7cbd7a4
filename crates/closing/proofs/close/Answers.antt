-- `closing::close` meets its contract. Assumes nothing.
use mathlib.Core.Path.{◌≡◌, ap, ap₂, ◌∙◌}
use mathlib.Core.List.{List}
use Prim.Native.Nat.{ℕ, ◌+◌, ◌≤◌, ◌<◌}
use native.Mathlib.Omega.{arith}
use borrow.Author.Rules.{rules}
use Rattle.quantity.specs.Limits.{whole_grams}
use Rattle.goods.specs.Sums.{sum_to}
use Rattle.goods.specs.ByProcess.{figures, Column}
use Rattle.goods.proofs.Sums.{sum_cong}
use Rattle.ledger.specs.Columns.{together}
use Rattle.ledger.specs.declared.Ledger.{Ledger}
use Rattle.closing.specs.Closing.{direct_held, own_direct, own_indirect}
use Rattle.closing.proofs.Pooling.{own_fits, Pooled, pooled}
use Rattle.closing.proofs.close.Goals.{After-settle}
use Rattle.closing.proofs.close.Goals as goal

pub add_all-requires-clause-fit_together : goal.add_all-requires-clause-fit_together
add_all-requires-clause-fit_together c = λ k l h. rw (c.raise_all.ensures.direct.at k l h) (own_fits c.requires.direct k l h)

pub add_all-requires-2-clause-fit_together : goal.add_all-requires-2-clause-fit_together
add_all-requires-2-clause-fit_together c = own_fits c.requires.indirect

-- attribution and bought grams of the columns that the code holds
own_is : {count : ℕ} {direct own : List ℕ} (l : Ledger) → Column count (direct_held l) direct → Column count (together direct l.bought_direct.0) own
    → (k : ℕ) → 1 ≤ k → k ≤ count → figures own k ≡ own_direct l k
own_is l d o k a b = o.at k a b ∙ ap (λ (n : ℕ). n + figures l.bought_direct.0 k) (d.at k a b)

pub settle-requires-clause-settleable_direct : goal.settle-requires-clause-settleable_direct
settle-requires-clause-settleable_direct c =
    let total = sum_cong _ _ _ (own_is c.args.l c.raise_all.ensures.direct c.add_all.ensures) in
    grind arith

-- the pools are settled
module _ (c : After-settle) where
  direct : Pooled c.args.outputs.now.0 c.args.kilos.now c.args.count (own_direct c.args.l) c.settle.result.pools.direct.0 c.settle.result.lefts.direct.0
  direct = pooled c.requires.direct (own_is c.args.l c.raise_all.ensures.direct c.add_all.ensures) c.settle.ensures.settled_direct

  indirect : Pooled c.args.outputs.now.0 c.args.kilos.now c.args.count (own_indirect c.args.l) c.settle.result.pools.indirect.0 c.settle.result.lefts.indirect.0
  indirect = pooled c.requires.indirect c.add_all-2.ensures.at c.settle.ensures.settled_indirect

  -- all that is left fits
  left_fits : sum_to c.args.count (figures c.settle.result.lefts.direct.0) + sum_to c.args.count (figures c.settle.result.lefts.indirect.0) < whole_grams
  left_fits = omega (arith, c.requires.own, direct.kept, indirect.kept)

pub total-direct_left-requires-clause-a_bound : goal.total-direct_left-requires-clause-a_bound
total-direct_left-requires-clause-a_bound c = omega (arith, left_fits (goal.at.total-direct_left-requires-clause-a_bound c).After-settle)

pub total-indirect_left-requires-clause-a_bound : goal.total-indirect_left-requires-clause-a_bound
total-indirect_left-requires-clause-a_bound c = omega (arith, left_fits (goal.at.total-indirect_left-requires-clause-a_bound c).After-settle)

pub overflow_add-left : goal.overflow_add-left
overflow_add-left c =
    record { fits = omega (arith, left_fits (goal.at.overflow_add-left c).After-settle, c.total-direct_left.ensures, c.total-indirect_left.ensures) }

pub returns : goal.returns
returns c =
    let settled = (goal.at.returns c).After-settle in
    let d = direct settled in
    let i = indirect settled in
    let left = ap₂ (λ (direct indirect : ℕ). direct + indirect) c.total-direct_left.ensures c.total-indirect_left.ensures in
    record {
      direct = search rules;
      indirect = search rules;
      raised = search rules;
      direct_pools = d.pool;
      indirect_pools = i.pool;
      direct_lefts = d.rest;
      indirect_lefts = i.rest;
      left = left ∙ ap₂ (λ (direct indirect : ℕ). direct + indirect) d.all i.all;
      left_small = rw left (left_fits settled);
      total_raised = grind (arith, sum_cong);
    }
