-- `SheetGiven::line_at` meets its contract. Assumes nothing.
use mathlib.Core.Path.{refl}
use mathlib.Core.Bool.{true}
use mathlib.Core.List.{[]}
use Rattle.judged.proofs.Given.{there, read_lent}
use Rattle.judged.proofs.SheetGiven.line_at.Goals as goal

-- taken from a record, it is the line that would be read from the sheet's bytes
pub returns-in-Lent-clause-read_at : goal.returns-in-Lent-clause-read_at
returns-in-Lent-clause-read_at c =
    let spelt = rw c.in-Lent.is at c.requires.spelt in
    let inside = rw c.in-Lent.is at c.requires.inside in
    rw c.in-Lent.is (read_lent _ _ _ (spelt refl) (there true [] _ _ _ refl spelt inside) _ c.lent_line.ensures.lent_at)
