-- The loop of `put_records`: the words of the lines above the place are put, and the lines from it on are left (`PutTo`).
use mathlib.Core.Path.{◌≡◌}
use Rattle.sheet_words.proofs.EveryLine.{PutTo}
use Rattle.sheet_words.proofs.put_records.Given as goal

abbrev pub invariant-loop-l : goal.invariant-loop-l
invariant-loop-l l =
    (goal.iterator-loop-l).can_next l.l-iterator
    × (goal.iterator-loop-l).is_finite l.l-iterator
    × (l.l-iterator.sheet.now ≡ l.sheet)
    × PutTo l.initial.list l.sheet l.list l.place l.l-iterator.at
