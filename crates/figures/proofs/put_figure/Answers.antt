-- `figures::put_figure` meets its contract. Assumes nothing.
use native.Mathlib.Omega.{arith}
use Rattle.decimal.proofs.Writing.{then}
use Rattle.figures.proofs.Widths.{spelt_whole, spelt_minus, spelt_parts, whole_long, minus_long, parts_long}
use Rattle.figures.proofs.put_figure.Goals as goal

pub put-requires : goal.put-requires
put-requires c = omega (arith, whole_long c.in-Whole.is, c.put_byte-start.auto.space)

pub put_byte-next-requires : goal.put_byte-next-requires
put_byte-next-requires c = omega (arith, minus_long c.in-Minus.is, c.put_byte-start.auto.space)

pub put-requires-in-Minus : goal.put-requires-in-Minus
put-requires-in-Minus c = omega (arith, minus_long c.in-Minus.is, c.put_byte-start.auto.space, c.put_byte-next.auto.space)

pub put-next-requires : goal.put-next-requires
put-next-requires c = omega (arith, parts_long c.in-Parts.is, c.put_byte-start.auto.space)

pub put_three-requires : goal.put_three-requires
put_three-requires c = omega (arith, parts_long c.in-Parts.is, c.put_byte-start.auto.space, c.put-next.auto.space)

pub returns-in-Whole : goal.returns-in-Whole
returns-in-Whole c = rw (c.in-Whole.is, spelt_whole) (then (omega arith) c.put_byte-start.ensures c.put.ensures)

pub returns-in-Minus : goal.returns-in-Minus
returns-in-Minus c =
    let h = minus_long c.in-Minus.is in
    rw (c.in-Minus.is, spelt_minus)
    (then (omega (arith, h)) (then (omega arith) c.put_byte-start.ensures c.put_byte-next.ensures) c.put-in-Minus.ensures)

pub returns-in-Parts : goal.returns-in-Parts
returns-in-Parts c =
    let h = parts_long c.in-Parts.is in
    rw (c.in-Parts.is, spelt_parts)
    (then (omega (arith, h)) (then (omega arith) c.put_byte-start.ensures c.put-next.ensures) c.put_three.ensures)
