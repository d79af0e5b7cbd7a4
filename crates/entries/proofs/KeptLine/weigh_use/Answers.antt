-- `entries::KeptLine::weigh_use` meets its contract; shown so that another word taken for the kilograms, or grams left out of what enters, is
-- refused for the fact. Assumes nothing.
use mathlib.Core.Path.{◌∙◌}
use Rattle.entries.proofs.Weighing.{use_asked, use_entry}
use Rattle.entries.proofs.KeptLine.weigh_use.Goals as goal

pub weighed-direct-requires : goal.weighed-direct-requires
weighed-direct-requires c = use_asked c.args.self.line.now c.args.self.keeps c.requires.letter c.args.direct c.requires.direct_bound

pub weighed-indirect-requires : goal.weighed-indirect-requires
weighed-indirect-requires c = use_asked c.args.self.line.now c.args.self.keeps c.requires.letter c.args.indirect c.requires.indirect_bound

pub returns : goal.returns
returns c =
    c.bought_entry.ensures
    ∙ use_entry c.args.self.line.now c.args.self.keeps c.requires.letter c.args.direct c.args.indirect c.weighed-direct.ensures c.weighed-indirect.ensures
