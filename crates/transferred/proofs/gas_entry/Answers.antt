-- `transferred::gas_entry` meets its contract: it is what is sent, with the charge and what stays uncredited; shown so that a wrong entry is
-- refused for the fact. Assumes nothing.
use mathlib.Core.Path.{refl}
use Rattle.transferred.proofs.gas_entry.Goals as goal

pub returns : goal.returns
returns c = rw (c.sent.ensures, c.between.ensures, c.gas_charge.ensures, c.gas_credit.ensures) refl
