-- The loop of `read_lines`: the lines from the place on are left, and the state holds those above (`ReadingAt`).
use mathlib.Core.Path.{◌≡◌}
use Rattle.gathering.proofs.FromBytes.{ReadingAt}
use Rattle.reading.proofs.read_lines.Given as goal

abbrev pub invariant-loop-l : goal.invariant-loop-l
invariant-loop-l l =
    (goal.iterator-loop-l).can_next l.l-iterator
    × (goal.iterator-loop-l).is_finite l.l-iterator
    × (l.l-iterator.sheet.now ≡ l.s)
    × ReadingAt l.s l.l-iterator.at l.works l.stated l.kilos
