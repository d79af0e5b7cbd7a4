-- `Lines::next` meets its contract, by an answer for each of its facts: a place that is another one is then refused by its own equation, and by no
-- limit of a search. Assumes nothing.
use mathlib.Core.Path.{refl}
use native.Mathlib.Omega.{arith}
use Rattle.records.proofs.LinesIterator.next.Goals as goal

pub returns-clause-steps : goal.returns-clause-steps
returns-clause-steps c = (omega (arith, c.if-self.false), c.read_line-l.ensures.read_at, refl, refl)
