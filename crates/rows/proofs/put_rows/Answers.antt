-- `rows::put_rows` meets its contract. Assumes nothing.
use mathlib.Core.Path.{◌≡◌}
use native.Mathlib.Omega.{arith}
use Rattle.rows.specs.Held.{row_held, row_fields}
use Rattle.rows.proofs.Rows.{row_room, row_put}
use Rattle.rows.proofs.put_rows.Goals as goal
use Rattle.rows.proofs.put_rows.Goals.{After-row_fields}

-- the fields are those of the process's line
fields_are : (c : After-row_fields) → c.row_fields.result ≡ row_fields c.args.r.now c.loop-k.k
unfolding row_held
fields_are c = c.row_fields.ensures

pub put_line-at-requires : goal.put_line-at-requires
put_line-at-requires c =
    let are = fields_are (goal.at.put_line-at-requires c).After-row_fields in
    let room = row_room c.args.r.now c.loop-k.auto.k c.loop-k-test.true c.requires.1 c.loop-k.invariant.1 are in
    omega (arith, c.loop-k.auto.space, room)

pub loop-k-preserved : goal.loop-k-preserved
loop-k-preserved c =
    let are = fields_are (goal.at.loop-k-preserved c).After-row_fields in
    let put = row_put c.args.r.now c.loop-k.auto.k c.loop-k-test.true c.requires.1 c.loop-k.invariant.1 are c.put_line-at.ensures (omega arith) in
    (omega arith, put)

pub returns-2 : goal.returns-2
returns-2 c =
    let are = fields_are (goal.at.returns-2 c).After-row_fields in
    row_put c.args.r.now c.loop-k.auto.k c.loop-k-test.true c.requires.1 c.loop-k.invariant.1 are c.put_line-at.ensures (omega arith)
