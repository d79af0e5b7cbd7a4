-- `figures::put_three` meets its contract. Assumes nothing.
use Rattle.figures.specs.Figures.{three}
use Rattle.decimal.proofs.Writing.{then}
use borrow.Author.Rules.{rules}
use Rattle.figures.proofs.put_three.Goals as goal

pub returns : goal.returns
unfolding three
returns c =
    then (search rules)
    (then (search rules)
    (then (search rules) c.put_byte-dot.ensures c.put_byte-hundreds.ensures)
    c.put_byte-tens.ensures)
    c.put_byte.ensures
