-- `line_start` meets its contract. Assumes nothing.
use mathlib.Core.Path.{◌≡◌, ◌∙◌}
use Prim.Native.Nat.{◌+◌, ◌-◌, ◌<◌, ◌≤◌}
use native.Mathlib.Omega.{arith}
use lib.ListN.{drop}
use Rattle.lines.specs.Lines.{lines_of}
use Rattle.places.proofs.NextLine.{start_first, start_past, start_later}
use Rattle.places.proofs.line_start.Goals as goal

pub returns-then-s-start : goal.returns-then-s-start
returns-then-s-start c =
    let z = start_past c.args.s.now c.loop.start (c.args.line + 1 - c.loop.counter) c.if-s-start.true in
    omega (arith, c.loop.invariant)

pub loop-preserved : goal.loop-preserved
loop-preserved c =
    let more : 1 < c.args.line + 1 - c.loop.counter = omega arith in
    let left : c.args.line + 1 - (c.loop.counter + 1) ≡ c.args.line + 1 - c.loop.counter - 1 = omega arith in
    rw left (start_later _ c.loop.start _ (c.args.line + 1 - c.loop.counter) c.if-s-start.false c.line_end-start.ensures.value more ∙ c.loop.invariant)

pub returns : goal.returns
returns c =
    let few : c.args.line + 1 - c.loop.counter ≤ 1 = omega arith in
    let z = start_first (lines_of (drop c.loop.start c.args.s.now)) (c.args.line + 1 - c.loop.counter) few in
    omega (arith, c.loop.invariant)
