-- `settling::has_takers` meets its contract. Assumes nothing.
use mathlib.Core.Path.{refl, ◌∙◌}
use Prim.Native.Nat.{◌+◌, ◌-◌}
use native.Mathlib.Omega.{arith}
use borrow.Author.Rules.{rules}
use borrow.Author.Tests.{tests}
use lib.Dec.{ltb}
use Rattle.std.proofs.lemmas.Iterator.{YieldsList-from_range}
use Rattle.std.proofs.lemmas.Iterator.Search.{any_from_yields_List}
use Rattle.goods.specs.Settling.{pairs}
use Rattle.settling.proofs.Takers.{takers_over}
use Rattle.settling.proofs.has_takers.Goals as goal

pub returns : goal.returns
returns c =
    let from = c.args.from in
    let count = c.args.count in
    any_from_yields_List (λ to. ltb 0 (pairs c.args.kilos.now from to)) _ _ c.any.result c.any.ensures.ran
    (YieldsList-from_range (from + 1) (count + 1) (count - from) refl (omega arith)) (λ x b q k. search (rules, tests))
    ∙ takers_over (pairs c.args.kilos.now from) from count c.requires.0
