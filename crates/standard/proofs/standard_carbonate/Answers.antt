-- `standard_carbonate` meets its contract: the constant array is `carbonates` divided by 1,000. Assumes nothing.
use Rattle.quantity.specs.Standard.{carbonates}
use Rattle.quantity.proofs.Tables.{carbonate_small}
use Rattle.standard.proofs.Divided.{carbonate_is}
use Rattle.standard.proofs.standard_carbonate.Goals as goal

pub returns : goal.returns
unfolding carbonates
returns c =
    let e = carbonate_is c.args.code c.looked_up.result c.looked_up.ensures.none c.looked_up.ensures.held in
    record { value = e; bounded = rw e (carbonate_small c.args.code) }
