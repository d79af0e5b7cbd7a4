-- `decimal::put_before` meets its contract: the digits behind those that are left are written. Assumes nothing.
use mathlib.Core.Path.{refl}
use Prim.Native.Nat.{◌-◌, ◌≤◌, ◌<◌}
use native.Mathlib.Omega.{arith}
use lib.ListN.{length-set}
use Rattle.decimal.proofs.Digits.{two_written, all_written, last_two}
use Rattle.decimal.proofs.Spelling.{spelling_some}
use Rattle.decimal.proofs.Widths.{length_two}
use Rattle.decimal.proofs.Writing.{behind_none, behind_room}
use Rattle.decimal.proofs.put_before.Goals as goal

pub loop-left-init : goal.loop-left-init
loop-left-init c = record { fits = c.requires.0; inside = c.requires.1; room = refl; written = behind_none _ _ _ }

pub bounds-space-place-in-loop-left : goal.bounds-space-place-in-loop-left
bounds-space-place-in-loop-left c = rw (length-set) (omega (arith, length_two c.loop-left.left (omega arith)))

pub loop-left-preserved : goal.loop-left-preserved
loop-left-preserved c =
    let k = c.loop-left in
    let v = k.invariant in
    let two : 2 ≤ k.place = omega (arith, length_two k.left (omega arith)) in
    let more = two_written _ _ _ v.inside _ _ _ v.written (k.place - 2) (omega arith) c.loop-left-test.true in
    record { fits = v.fits; inside = v.inside; room = behind_room more; written = more }

pub returns-then-left-lt10 : goal.returns-then-left-lt10
returns-then-left-lt10 c =
    let k = c.loop-left in
    let v = k.invariant in
    all_written _ _ _ v.inside _ _ _ v.written (k.place - 1) (omega (arith, spelling_some k.left)) c.if-left-lt10.true

pub bounds-space-place-3 : goal.bounds-space-place-3
bounds-space-place-3 c = rw (length-set) (omega (arith, length_two c.loop-left.left c.if-left-lt10.false))

pub returns : goal.returns
returns c =
    let k = c.loop-left in
    let v = k.invariant in
    let two : 2 ≤ k.place = omega (arith, length_two k.left c.if-left-lt10.false) in
    let few : k.left < 100 = omega (arith, c.loop-left-test.false) in
    last_two _ _ _ v.inside _ _ _ v.written (k.place - 1) (k.place - 2) (omega arith) (omega arith) few c.if-left-lt10.false
