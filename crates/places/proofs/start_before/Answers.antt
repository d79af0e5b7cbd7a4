-- `start_before` meets its contract. Assumes nothing.
use mathlib.Core.Path.{◌≡◌, sym, ap, ◌∙◌}
use native.Mathlib.Omega.{arith}
use Rattle.places.specs.LineStart.{start_of}
use Rattle.places.proofs.LineStart.{first_starts, starts_before, starts_here}
use Rattle.places.proofs.start_before.Goals as goal

pub loop-start-preserved : goal.loop-start-preserved
loop-start-preserved c =
    let before = starts_before c.args.s.now c.loop-start.start (omega (arith, c.loop-start-test.true)) c.if-s-start-ne10.true in
    (omega (arith, c.loop-start.invariant.0), before ∙ c.loop-start.invariant.1)

pub returns-else-s-start-ne10 : goal.returns-else-s-start-ne10
returns-else-s-start-ne10 c =
    starts_here c.args.s.now c.loop-start.start (omega (arith, c.loop-start-test.true)) c.if-s-start-ne10.false ∙ c.loop-start.invariant.1

pub returns-after-loop-start : goal.returns-after-loop-start
returns-after-loop-start c =
    let none : c.loop-start.start ≡ 0 = omega (arith, c.loop-start-test.false) in
    none ∙ sym (ap (start_of c.args.s.now) none ∙ first_starts c.args.s.now) ∙ c.loop-start.invariant.1
