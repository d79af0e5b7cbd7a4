-- `line_of` meets its contract: an empty line for a record of no letter of a kind. Assumes nothing.
use Rattle.lent.proofs.Stores.{alone, none_at}
use Rattle.lent.proofs.line_of.Goals as goal

pub returns-in-None-clause-lent_at : goal.returns-in-None-clause-lent_at
returns-in-None-clause-lent_at c = none_at _ _ _ (alone c.args.words.now c.requires.in_bounds.1) _ c.in-None.ensures
