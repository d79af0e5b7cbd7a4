-- `read_lines` meets its contract. Assumes nothing.
use mathlib.Core.Path.{◌≡◌, sym, ap, ◌∙◌}
use mathlib.Core.Logic.{inl, inr}
use Prim.Native.Nat.{◌+◌, ◌≤◌, ◌<◌}
use lib.ListN.{length}
use Rattle.std.proofs.Common.{rules}
use Rattle.std.proofs.lemmas.Result.{err_from_is_err_and}
use Rattle.lines.specs.Records.{records_of}
use Rattle.lines.specs.Words.{ReadAt, line_at}
use Rattle.quantity.specs.Limits.{limits}
use Rattle.sheet.specs.Verdict.{accepted, first_of, line_checks}
use Rattle.checks.specs.Numbers.{number_judged}
use Rattle.checks.proofs.Judged.{some_number, none_made, some_made}
use Rattle.entries.specs.Read.{LineKeeps}
use Rattle.attribution.proofs.EveryKind.{small_entry}
use Rattle.gathering.proofs.Standing.{room, room_for_line}
use Rattle.gathering.proofs.FromBytes.{ReadingAt, here, at_start, accepted_at, refused_at_lem, kilos_at}
use Rattle.gathering.proofs.FromBytes.{keeps_at, next_at, verdict_at, gathered_at, stated_in_all, places_in_all}
use Rattle.works.specs.Works.{works_after, stated_after, kilos_after}
use Rattle.gathering.proofs.Booking.{with_uses, without_uses}
use Rattle.gathering.specs.Gathered.{Gathered, StatedIn, LinesPass, LineRefused, UseRefused}
use Rattle.reading.proofs.read_lines.Goals.{In_ok-map_err, In-None}
use Rattle.reading.proofs.read_lines.Goals as goal

-- a line was read, and none of rows 2 to 13 and 17 applies to it
module _ (c : In_ok-map_err) where
  more : c.loop-l.l-iterator.at < length c.args.s.now
  more = rw c.loop-l.invariant.2 at c.in-Some.ensures.steps.0

  read : ReadAt c.args.s.now c.loop-l.l-iterator.at c.in-Some.l
  read = rw c.loop-l.invariant.2 at c.in-Some.ensures.steps.1

  ok : first_of (line_checks limits (here c.args.s.now c.loop-l.l-iterator.at c.loop-l.works c.loop-l.stated c.loop-l.kilos c.loop-l.invariant.3 more c.in-Some.l read).above (line_at c.args.s.now c.loop-l.l-iterator.at)) ≡ accepted
  ok =
      accepted_at _ _ _ _ _ c.loop-l.invariant.3 more _ read
      (sym c.judge.ensures ∙ none_made _ _ _ _ c.map_err.ensures.cases c.in_ok-map_err.was)

  keeps : LineKeeps c.in-Some.l
  keeps = keeps_at _ _ _ _ _ c.loop-l.invariant.3 more _ read ok

  next : ReadingAt c.args.s.now c.next.new.self.at (works_after c.loop-l.works c.in-Some.l) (stated_after c.loop-l.stated c.in-Some.l) (kilos_after c.loop-l.kilos c.in-Some.l)
  next = rw c.in-Some.ensures.steps.3 (next_at _ _ _ _ _ c.loop-l.invariant.3 more _ read ok)

pub loop-l-init : goal.loop-l-init
loop-l-init c =
    let first = c.new-l-items.ensures in
    let start = at_start c.args.s.now c.args.kilos.now c.requires.no_kilos in
    rw (c.none-stated.ensures, c.nothing_read-works.ensures, c.into_iter-l-iterator.ensures.into_iter_gives) (tt, tt, first.0, rw first.1 start)

pub returns-in_err-map_err : goal.returns-in_err-map_err
returns-in_err-map_err c =
    let given = rw c.loop-l.invariant.2 at c.in-Some.ensures.steps in
    let some = some_made _ _ _ _ c.map_err.ensures.cases c.in_err-map_err.was in
    let up = err_from_is_err_and c.from_residual.result c.from_residual.ensures.1 in
    let made : c.in_err-map_err.field-0.0 ≡ record { refusal = some.0; line = c.loop-l.works.noted.lines + 1 } = search (rules, some.2) in
    let refused : LineRefused c.args.s.now c.loop-l.kilos (record { refusal = some.0; line = c.loop-l.works.noted.lines + 1 }) = record {
      verdict =
          refused_at_lem _ _ _ _ _ c.loop-l.invariant.3 given.0 _ given.1 _ (sym (ap number_judged some.1) ∙ c.judge.ensures)
          (some_number some.0);
      kilos_above = kilos_at _ _ _ _ _ c.loop-l.invariant.3 given.0 _ given.1;
    } in
    rw (up.1, up.2, made) (inl refused)

pub invariant_of-kept : goal.invariant_of-kept
invariant_of-kept c = record { keeps = keeps (goal.at.invariant_of-kept c).In_ok-map_err }

pub note_line-requires : goal.note_line-requires
note_line-requires c = room_for_line _ _ _ _ c.loop-l.invariant.3.left.standing

pub book-requires-clause-small : goal.book-requires-clause-small
book-requires-clause-small c =
    let k = keeps (goal.at.book-requires-clause-small c).In_ok-map_err in
    rw c.weigh.ensures (small_entry _ k.ranges)

pub book-requires-clause-room : goal.book-requires-clause-room
book-requires-clause-room c = room _ _ _ _ c.loop-l.invariant.3.left.standing

pub loop-l-preserved : goal.loop-l-preserved
loop-l-preserved c =
    let same = c.in-Some.ensures.steps.2 ∙ c.loop-l.invariant.2 in
    rw (c.note_line.ensures.noted, c.note_line.ensures.stated, c.note_line.ensures.pairs, c.book.ensures, c.weigh.ensures)
    (tt, tt, same, next (goal.at.loop-l-preserved c).In_ok-map_err)

-- no line is left
module _ (c : In-None) where
  done : length c.args.s.now ≤ c.loop-l.l-iterator.at
  done = rw c.loop-l.invariant.2 at c.in-None.ensures.steps.0

  passed : LinesPass c.args.s.now
  passed = verdict_at _ _ _ _ _ c.loop-l.invariant.3 done

  all : Gathered (records_of c.args.s.now) c.loop-l.works c.loop-l.kilos
  all = gathered_at _ _ _ _ _ c.loop-l.invariant.3 done

  stated : StatedIn (records_of c.args.s.now) c.loop-l.stated
  stated = stated_in_all _ _ _ _ _ c.loop-l.invariant.3 done

pub book_uses-requires-clause-passed : goal.book_uses-requires-clause-passed
book_uses-requires-clause-passed c = passed (goal.at.book_uses-requires-clause-passed c).In-None

pub book_uses-requires-clause-stated : goal.book_uses-requires-clause-stated
book_uses-requires-clause-stated c = stated (goal.at.book_uses-requires-clause-stated c).In-None

pub book_uses-requires-clause-places : goal.book_uses-requires-clause-places
book_uses-requires-clause-places c =
    places_in_all _ _ _ _ _ c.loop-l.invariant.3 (done (goal.at.book_uses-requires-clause-places c).In-None) c.requires.bytes

pub book_uses-requires-clause-books : goal.book_uses-requires-clause-books
book_uses-requires-clause-books c = (all (goal.at.book_uses-requires-clause-books c).In-None).books

-- row 18 applies to an N line
pub returns-in_err-book_uses : goal.returns-in_err-book_uses
returns-in_err-book_uses c =
    let d = (goal.at.returns-in_err-book_uses c).In-None in
    let up = err_from_is_err_and c.from_residual-in_err-book_uses.result c.from_residual-in_err-book_uses.ensures.1 in
    let refused : UseRefused c.args.s.now c.loop-l.kilos c.in_err-book_uses.field-0.0 = record { passed = passed d; verdict = c.in_err-book_uses.ensures; kilos_all = (all d).kilos_at } in
    rw (up.1, up.2) (inr refused)

-- or to none
pub returns-in_ok-book_uses : goal.returns-in_ok-book_uses
returns-in_ok-book_uses c =
    let d = (goal.at.returns-in_ok-book_uses c).In-None in
    with_uses (passed d) (all d) _ c.in_ok-book_uses.ensures

-- no N line is there
pub returns-else-stated : goal.returns-else-stated
returns-else-stated c =
    let d = (goal.at.returns-else-stated c).In-None in
    without_uses (passed d) (all d) c.loop-l.stated (stated d) c.if-stated.false
