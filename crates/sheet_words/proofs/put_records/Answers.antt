-- `put_records` meets its contract. Assumes nothing.
use Rattle.sheet_words.proofs.EveryLine.{put_start, put_long, put_all, put_room, put_next}
use Rattle.sheet_words.proofs.put_records.Goals as goal

pub loop-l-init : goal.loop-l-init
loop-l-init c =
    let start = put_start c.args.list.now c.args.sheet.now c.requires.sheet_value c.requires.sheet_in_bounds in
    let first = c.new-l-items.ensures in
    rw c.into_iter-l-iterator.ensures.into_iter_gives (tt, tt, first.0, rw first.1 start)

pub put_words-place-requires : goal.put_words-place-requires
put_words-place-requires c =
    let left = c.loop-l.invariant in
    let given = rw left.2 at c.in-Some.ensures.steps in
    put_room _ _ _ _ _ left.3 given.0 _ given.1

pub loop-l-preserved : goal.loop-l-preserved
loop-l-preserved c =
    let left = c.loop-l.invariant in
    let given = rw left.2 at c.in-Some.ensures.steps in
    (tt, tt, given.2, rw given.3 (put_next _ _ _ _ _ left.3 given.0 _ given.1 _ _ c.put_words-place.ensures))

pub shape_of-list : goal.shape_of-list
shape_of-list c = put_long _ _ _ _ _ c.loop-l.invariant.3

pub returns : goal.returns
returns c =
    let left = c.loop-l.invariant in
    put_all _ _ _ _ _ left.3 (rw left.2 at c.in-None.ensures.steps.0)
