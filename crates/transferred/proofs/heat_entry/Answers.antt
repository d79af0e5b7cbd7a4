-- `transferred::heat_entry` meets its contract: it is what is sent, with the charge; shown so that a wrong entry is refused for the fact.
-- Assumes nothing.
use mathlib.Core.Path.{refl}
use Rattle.transferred.proofs.heat_entry.Goals as goal

pub returns : goal.returns
returns c = rw c.sent.ensures refl
