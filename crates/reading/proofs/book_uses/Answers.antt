-- `book_uses` meets its contract. Assumes nothing.
use mathlib.Core.Path.{◌≡◌, sym, ap, ap₂, ◌∙◌}
use mathlib.Core.Bool.{Bool, false, ◌&&◌}
use Prim.Native.Nat.{ℕ, ◌≤◌, ◌<◌}
use native.Mathlib.Omega.{arith}
use borrow.Author.Tests.{eq-eqb, ne_eqb}
use lib.Dec.{eqb, ltb}
use lib.ListN.{length, get_or}
use Rattle.lines.specs.Records.{record_of, records_of}
use Rattle.lines.specs.Words.{ReadAt, line_at}
use Rattle.sheet.specs.Kinds.{specific_figure}
use Rattle.sheet.specs.Refusals.{no_figures}
use Rattle.works.specs.Works.{PRECURSORS, ranks_of}
use Rattle.attribution.specs.Governing.{governing_direct, governing_indirect}
use Rattle.gathering.proofs.Placed.{ranked, placed_small}
use Rattle.gathering.proofs.Uses.{use_test, use_refused, use_keeps}
use Rattle.gathering.proofs.Booking.{booking_start, booking_room, booking_done, booking_other, booked_small, booking_use}
use Rattle.reading.proofs.book_uses.Goals.{In-Some, Else-ranks-eq0}
use Rattle.reading.proofs.book_uses.Goals as goal

pub loop-l-init : goal.loop-l-init
loop-l-init c =
    let first = c.new-l-items.ensures in
    let start = booking_start c.args.s.now c.args.ledger.now c.requires.passed c.requires.books in
    rw c.into_iter-l-iterator.ensures.into_iter_gives (tt, tt, first.0, rw first.1 start)

-- a line is there
module _ (c : In-Some) where
  more : c.loop-l.l-iterator.at < length c.args.s.now
  more = rw c.loop-l.invariant.2 at c.in-Some.ensures.steps.0

  read : ReadAt c.args.s.now c.loop-l.l-iterator.at c.in-Some.l
  read = rw c.loop-l.invariant.2 at c.in-Some.ensures.steps.1

  -- row 18, by the code's test
  test : no_figures (records_of c.args.s.now) (record_of (line_at c.args.s.now c.loop-l.l-iterator.at))
      ≡ (eqb c.in-Some.l.letter 78 && eqb (ranks_of c.args.stated.now.ranks (get_or c.in-Some.l.words 1 0)) 0)
  test = use_test _ _ _ c.loop-l.invariant.3.uses more _ read c.args.stated.now c.requires.stated

pub figures_of-figures-requires : goal.figures_of-figures-requires
figures_of-figures-requires c = c.requires.places

-- an N line whose precursor is stated
module _ (c : Else-ranks-eq0) where
  some : eqb (ranks_of c.args.stated.now.ranks (get_or c.in-Some.l.words 1 0)) 0 ≡ false
  some = ap (λ (n : ℕ). eqb n 0) (sym c.ranks.ensures) ∙ ne_eqb _ _ c.if-ranks-eq0.false

  direct : get_or c.figures_of-figures.result.direct (get_or c.in-Some.l.words 1 0) 0 ≡ governing_direct (records_of c.args.s.now) (get_or c.in-Some.l.words 1 0)
  direct = c.figures_of-figures.ensures.direct_at _ some

  indirect : get_or c.figures_of-figures.result.indirect (get_or c.in-Some.l.words 1 0) 0 ≡ governing_indirect (records_of c.args.s.now) (get_or c.in-Some.l.words 1 0)
  indirect = c.figures_of-figures.ensures.indirect_at _ some

  -- and both keep their range
  small : (get_or c.figures_of-figures.result.direct (get_or c.in-Some.l.words 1 0) 0 ≤ specific_figure.highest)
      × (get_or c.figures_of-figures.result.indirect (get_or c.in-Some.l.words 1 0) 0 ≤ specific_figure.highest)
  small =
      let w = c.requires.places.some (get_or c.in-Some.l.words 1 0) (ranked _ (ltb (get_or c.in-Some.l.words 1 0) PRECURSORS) some) in
      rw (direct, indirect) (placed_small _ _ _ _ w)

pub returns-then-ranks-eq0 : goal.returns-then-ranks-eq0
returns-then-ranks-eq0 c =
    let d = (goal.at.returns-then-ranks-eq0 c).In-Some in
    let none = ap (λ (n : ℕ). eqb n 0) (sym c.ranks.ensures) ∙ eq-eqb _ _ c.if-ranks-eq0.true in
    use_refused _ _ _ c.loop-l.invariant.3.uses (more d) _ (read d)
    (test d ∙ ap₂ (λ (s t : Bool). s && t) (eq-eqb _ _ c.if-l-eq78.true) none)

pub invariant_of-used : goal.invariant_of-used
invariant_of-used c =
    let d = (goal.at.invariant_of-used c).In-Some in
    record { keeps = use_keeps _ _ _ c.loop-l.invariant.3.uses (more d) _ (read d) }

pub weigh_use-requires-clause-direct_bound : goal.weigh_use-requires-clause-direct_bound
weigh_use-requires-clause-direct_bound c =
    let g = (goal.at.weigh_use-requires-clause-direct_bound c).Else-ranks-eq0 in
    omega (arith, c.from-direct.ensures, (small g).0)

pub weigh_use-requires-clause-indirect_bound : goal.weigh_use-requires-clause-indirect_bound
weigh_use-requires-clause-indirect_bound c =
    let g = (goal.at.weigh_use-requires-clause-indirect_bound c).Else-ranks-eq0 in
    omega (arith, c.from-indirect.ensures, (small g).1)

pub book-requires-clause-small : goal.book-requires-clause-small
book-requires-clause-small c =
    let d = (goal.at.book-requires-clause-small c).In-Some in
    let bounds = small (goal.at.book-requires-clause-small c).Else-ranks-eq0 in
    let here = booked_small _ _ _ _ c.loop-l.invariant.3 (more d) _ (read d) (eq-eqb _ _ c.if-l-eq78.true) in
    rw (c.weigh_use.ensures, c.from-direct.ensures, c.from-indirect.ensures) (here _ _ bounds.0 bounds.1)

pub book-requires-clause-room : goal.book-requires-clause-room
book-requires-clause-room c = booking_room _ _ _ _ c.loop-l.invariant.3

pub loop-l-preserved-then-l-eq78 : goal.loop-l-preserved-then-l-eq78
loop-l-preserved-then-l-eq78 c =
    let d = (goal.at.loop-l-preserved-then-l-eq78 c).In-Some in
    let g = (goal.at.loop-l-preserved-then-l-eq78 c).Else-ranks-eq0 in
    let same = c.in-Some.ensures.steps.2 ∙ c.loop-l.invariant.2 in
    let stated = test d ∙ ap₂ (λ (s t : Bool). s && t) (eq-eqb _ _ c.if-l-eq78.true) (some g) in
    let here = booking_use _ _ _ _ c.loop-l.invariant.3 (more d) _ (read d) (eq-eqb _ _ c.if-l-eq78.true) in
    rw (c.book.ensures, c.weigh_use.ensures, c.from-direct.ensures, c.from-indirect.ensures, c.in-Some.ensures.steps.3)
    (tt, tt, same, here _ _ (direct g) (indirect g) (small g).0 (small g).1 stated)

pub loop-l-preserved : goal.loop-l-preserved
loop-l-preserved c =
    let d = (goal.at.loop-l-preserved c).In-Some in
    let same = c.in-Some.ensures.steps.2 ∙ c.loop-l.invariant.2 in
    let other = ne_eqb _ _ c.if-l-eq78.false in
    let none = test d ∙ ap (λ (s : Bool). s && eqb (ranks_of c.args.stated.now.ranks (get_or c.in-Some.l.words 1 0)) 0) other in
    rw c.in-Some.ensures.steps.3 (tt, tt, same, booking_other _ _ _ _ c.loop-l.invariant.3 (more d) _ (read d) other none)

pub returns : goal.returns
returns c =
    let done = rw c.loop-l.invariant.2 at c.in-None.ensures.steps.0 in
    booking_done _ _ _ _ c.loop-l.invariant.3 done
