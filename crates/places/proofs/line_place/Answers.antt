-- `line_place` meets its contract. Assumes nothing.
use Rattle.places.proofs.NextLine.{place_none, place_past, place_of}
use Rattle.places.proofs.line_place.Goals as goal

pub returns-then-line-eq0 : goal.returns-then-line-eq0
returns-then-line-eq0 c = rw c.if-line-eq0.true (place_none _)

pub returns-then-s-start : goal.returns-then-s-start
returns-then-s-start c = place_past _ _ _ c.if-line-eq0.false c.line_start-start.ensures c.if-s-start.true

pub returns : goal.returns
returns c =
    place_of _ _ _ c.if-line-eq0.false c.line_start-start.ensures _ c.if-s-start.false c.line_end-end.ensures.value
