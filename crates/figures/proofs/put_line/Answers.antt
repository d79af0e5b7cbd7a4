-- `figures::put_line` meets its contract. Assumes nothing.
use native.Mathlib.Omega.{arith}
use Prim.Native.Nat.{◌+◌, ◌≤◌}
use lib.ListN.{length}
use Rattle.std.proofs.lemmas.List.{take_all}
use Rattle.figures.specs.Figures.{line}
use Rattle.decimal.proofs.Writing.{then, put_none}
use Rattle.figures.specs.declared.Figure.TheVariants.{Whole}
use Rattle.figures.proofs.Widths.{tailed_none, tailed_more, tailed_within, length_more}
use Rattle.figures.proofs.put_line.Goals as goal

pub loop-field-init : goal.loop-field-init
loop-field-init c = rw (tailed_none c.args.fields.now) (put_none _ _)

pub put_figure-next-requires : goal.put_figure-next-requires
put_figure-next-requires c =
    let i = c.loop-field.field-index in
    let fields = c.args.fields.now in
    omega (
      arith,
      c.put_byte-next.ensures.place,
      c.put_byte-next.auto.space,
      c.loop-field.auto.space,
      c.loop-field.invariant.place,
      length_more fields i (Whole 0) (omega arith),
      tailed_within (i + 1) fields,
    )

pub loop-field-preserved : goal.loop-field-preserved
loop-field-preserved c =
    let i = c.loop-field.field-index in
    let fields = c.args.fields.now in
    let p = c.put_byte-next in
    let room = tailed_within i fields in
    let more = then (omega (arith, room, p.auto.space, p.ensures.place)) c.loop-field.invariant c.put_figure-next.ensures in
    rw (tailed_more fields i (Whole 0) (omega arith)) more

pub returns : goal.returns
unfolding line
returns c =
    let p = c.put_byte-next in
    let done : length c.args.fields.now ≤ c.loop-field.field-index = omega arith in
    let whole = rw (take_all c.loop-field.field-index c.args.fields.now done) at c.loop-field.invariant in
    then (omega arith) (then (omega (arith, p.auto.space)) p.ensures whole) c.put_byte.ensures
