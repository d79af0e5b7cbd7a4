-- `figures::put_line` meets its contract. Assumes nothing.
use lib.ListN.{take}
use Rattle.decimal.specs.Writing.{Put}
use Rattle.figures.specs.Figures.{tailed}
use Rattle.figures.proofs.put_line.Given as goal

-- the fields up to this one are written
abbrev pub invariant-loop-field : goal.invariant-loop-field
invariant-loop-field l = Put l.initial.space l.initial.next (tailed (take l.field-index l.fields)) l.space l.next
