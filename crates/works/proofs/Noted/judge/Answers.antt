-- `works::Noted::judge` meets its contract: row 3, and the rows below it; shown so that a line counted, or its LF asked for, by something else
-- is refused for the fact. Assumes nothing.
use mathlib.Core.Path.{◌≡◌, refl, sym, ◌∙◌}
use mathlib.Core.Bool.{true, false}
use native.Mathlib.Omega.{arith}
use borrow.Author.Tests.{le-ltb}
use Prim.Native.Nat.{suc}
use Rattle.works.specs.Works.{lacks_lf}
use Rattle.works.proofs.Noted.judge.Goals as goal

pub returns-then-lacks_lf : goal.returns-then-lacks_lf
returns-then-lacks_lf c =
    let few = le-ltb 4096 (suc c.args.self.now.lines) (omega (arith, c.if-self-ge-LINES.false)) in
    let lacks : lacks_lf c.args.l.now.end c.args.size ≡ true = sym c.lacks_lf.ensures ∙ c.if-lacks_lf.true in
    rw (few, lacks) refl

pub returns : goal.returns
returns c =
    let few = le-ltb 4096 (suc c.args.self.now.lines) (omega (arith, c.if-self-ge-LINES.false)) in
    let has : lacks_lf c.args.l.now.end c.args.size ≡ false = sym c.lacks_lf.ensures ∙ c.if-lacks_lf.false in
    rw (few, has, sym c.above.ensures) c.line_refusal.ensures
