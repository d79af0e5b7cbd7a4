-- The loop of `book_uses`: the lines from the place on are left, row 18 applies to none above, and the N lines above are booked (`BookingAt`).
use mathlib.Core.Path.{◌≡◌}
use Rattle.gathering.proofs.Booking.{BookingAt}
use Rattle.reading.proofs.book_uses.Given as goal

abbrev pub invariant-loop-l : goal.invariant-loop-l
invariant-loop-l l =
    (goal.iterator-loop-l).can_next l.l-iterator
    × (goal.iterator-loop-l).is_finite l.l-iterator
    × (l.l-iterator.sheet.now ≡ l.s)
    × BookingAt l.s l.l-iterator.at l.line l.ledger
