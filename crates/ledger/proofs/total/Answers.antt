-- `ledger::total` meets its contract: the sum is over processes 1 .. count. Assumes nothing.
use mathlib.Core.Path.{◌∙◌}
use native.Mathlib.Omega.{arith}
use Rattle.std.proofs.lemmas.Iterator.{YieldsList-from_slice}
use Rattle.std.proofs.lemmas.Iterator.Consumers.{sum_from_yields_List, fits_from_yields_list}
use Rattle.ledger.proofs.Inside.{sum_column}
use Rattle.ledger.proofs.total.Goals as goal

pub sum-requires-clause-fits : goal.sum-requires-clause-fits
sum-requires-clause-fits c =
    fits_from_yields_list c.iter.result _ (YieldsList-from_slice _ c.iter.ensures.rest)
    (omega (arith, sum_column c.args.count c.args.a.now.0 (omega arith), c.requires.a_bound))

pub returns : goal.returns
returns c =
    sum_from_yields_List c.iter.result c.sum.result c.sum.ensures.ran (YieldsList-from_slice _ c.iter.ensures.rest)
    ∙ sum_column c.args.count c.args.a.now.0 (omega arith)
