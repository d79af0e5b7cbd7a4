-- `ended` of a Result: a fault is no end; shown so that a fault taken for the end is refused for the fact. Assumes nothing.
use mathlib.Core.Path.{refl}
use Rattle.input.proofs.IoResultBoolOneMore.ended.Goals as goal

pub returns-in-Err : goal.returns-in-Err
returns-in-Err c = rw c.in-Err.is refl
