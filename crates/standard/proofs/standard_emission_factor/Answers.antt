-- `standard_emission_factor` meets its contract: the constant array is the second column of `fuels` divided by 100. Assumes nothing.
use Rattle.quantity.specs.Standard.{fuels}
use Rattle.quantity.proofs.Tables.{factor_small}
use Rattle.standard.proofs.Divided.{emission_factor_is}
use Rattle.standard.proofs.standard_emission_factor.Goals as goal

pub returns : goal.returns
unfolding fuels
returns c =
    let e = emission_factor_is c.args.code c.looked_up.result c.looked_up.ensures.none c.looked_up.ensures.held in
    record { value = e; bounded = rw e (factor_small c.args.code) }
