-- `figures_of` meets its contract. Assumes nothing.
use mathlib.Core.Path.{◌≡◌, sym, ap, ◌∙◌}
use mathlib.Core.Bool.{false}
use Prim.Native.Nat.{ℕ, ◌≤◌}
use native.Mathlib.Omega.{arith}
use lib.Dec.{eqb, ltb}
use Rattle.lines.specs.Records.{records_of}
use Rattle.sheet.specs.Kinds.{specific_figure}
use Rattle.attribution.specs.Governing.{governing_direct, governing_indirect}
use Rattle.works.specs.Works.{PRECURSORS, ranks_of}
use Rattle.gathering.proofs.Placed.{some_cond, ranked, placed_small, figures_start}
use Rattle.reading.proofs.figures_of.Goals.{In-Some}
use Rattle.reading.proofs.figures_of.Goals as goal

pub loop-p-init : goal.loop-p-init
loop-p-init c = figures_start _ _

-- a rank is stated of this precursor
module _ (c : In-Some) where
  chosen : (eqb (ranks_of c.args.stated.now.ranks c.loop-p.p) 0 ≡ false)
      × ◌≡◌ {A = ℕ × ℕ} c.in-Some.figures (governing_direct (records_of c.args.s.now) c.loop-p.p, governing_indirect (records_of c.args.s.now) c.loop-p.p)
  chosen = some_cond _ _ _ (sym c.governing.ensures ∙ c.in-Some.is)

  direct : c.in-Some.figures.0 ≡ governing_direct (records_of c.args.s.now) c.loop-p.p
  direct = ap (λ (x : ℕ × ℕ). x.0) chosen.1

  indirect : c.in-Some.figures.1 ≡ governing_indirect (records_of c.args.s.now) c.loop-p.p
  indirect = ap (λ (x : ℕ × ℕ). x.1) chosen.1

  small : (governing_direct (records_of c.args.s.now) c.loop-p.p ≤ specific_figure.highest)
      × (governing_indirect (records_of c.args.s.now) c.loop-p.p ≤ specific_figure.highest)
  small = placed_small _ _ _ _ (c.requires.some c.loop-p.p (ranked _ (ltb c.loop-p.p PRECURSORS) chosen.0))

pub overflow_cast-direct : goal.overflow_cast-direct
overflow_cast-direct c =
    let d = (goal.at.overflow_cast-direct c).In-Some in
    record { fits = omega (arith, direct d, (small d).0) }

pub overflow_cast-indirect : goal.overflow_cast-indirect
overflow_cast-indirect c =
    let d = (goal.at.overflow_cast-indirect c).In-Some in
    record { fits = omega (arith, indirect d, (small d).1) }
