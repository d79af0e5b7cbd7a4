-- `standard_net_calorific_value` meets its contract: the constant array is the first column of `fuels` divided by 10. Assumes nothing.
use Rattle.quantity.specs.Standard.{fuels}
use Rattle.quantity.proofs.Tables.{calorific_small}
use Rattle.standard.proofs.Divided.{net_calorific_value_is}
use Rattle.standard.proofs.standard_net_calorific_value.Goals as goal

pub returns : goal.returns
unfolding fuels
returns c =
    let e = net_calorific_value_is c.args.code c.looked_up.result c.looked_up.ensures.none c.looked_up.ensures.held in
    record { value = e; bounded = rw e (calorific_small c.args.code) }
