-- `decimal::put` meets its contract. Assumes nothing.
use mathlib.Core.Path.{◌≡◌}
use native.Mathlib.Omega.{arith}
use Rattle.decimal.proofs.put.Goals as goal

pub returns : goal.returns
returns c =
    let p = c.put_before in
    let e : p.result ≡ c.args.at = omega (arith, p.ensures.place, c.width.ensures.value) in
    rw e at p.ensures
