-- `governing` meets its contract. Assumes nothing.
use mathlib.Core.Path.{◌≡◌, refl, sym, ap, ◌∙◌}
use Prim.Native.Nat.{ℕ}
use borrow.Author.Tests.{ne_eqb}
use lib.Dec.{eqb, ltb}
use mathlib.Core.Bool.{false}
use Rattle.lines.specs.Records.{records_of}
use Rattle.works.specs.Works.{PRECURSORS, ranks_of}
use Rattle.gathering.specs.Gathered.{PlaceOf}
use Rattle.gathering.proofs.Placed.{ranked, placed_words}
use Rattle.reading.proofs.governing.Goals.{After-start_before}
use Rattle.reading.proofs.governing.Goals as goal

pub start_before-requires : goal.start_before-requires
start_before-requires c = rw c.from-end.ensures (c.requires.within c.args.precursor)

-- a rank is stated, so the K line is there
module _ (c : After-start_before) where
  some : eqb (ranks_of c.args.stated.now.ranks c.args.precursor) 0 ≡ false
  some = ap (λ (n : ℕ). eqb n 0) (sym c.ranks.ensures) ∙ ne_eqb _ _ c.if-ranks-eq0.false

  place : PlaceOf c.args.s.now (records_of c.args.s.now) c.args.precursor c.start_before.result
  place =
      rw (c.start_before.ensures, c.from-end.ensures)
      (c.requires.some c.args.precursor (ranked _ (ltb c.args.precursor PRECURSORS) some))

pub read_line-k-requires : goal.read_line-k-requires
read_line-k-requires c = (place (goal.at.read_line-k-requires c).After-start_before).inside

pub returns : goal.returns
returns c =
    let d = (goal.at.returns c).After-start_before in
    let figures = placed_words _ _ _ _ (place d) c.read_line-k.result c.read_line-k.ensures.read_at in
    rw (some d, figures.0, figures.1) refl
