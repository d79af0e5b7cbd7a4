-- The loop of `figures_of`: the figures of the precursors before this one stand at their numbers (`FiguresBefore`).
use Rattle.lines.specs.Records.{records_of}
use Rattle.gathering.proofs.Placed.{FiguresBefore}
use Rattle.reading.proofs.figures_of.Given as goal

abbrev pub invariant-loop-p : goal.invariant-loop-p
invariant-loop-p l = FiguresBefore (records_of l.s) l.stated.ranks l.p l.direct l.indirect
