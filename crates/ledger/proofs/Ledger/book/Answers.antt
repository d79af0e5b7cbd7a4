-- `Ledger::book` meets its contract: every signed figure on the way fits 64 bits. Assumes nothing.
use mathlib.Core.Path.{◌≡◌}
use Prim.Native.Nat.{ℕ, ◌+◌, ◌≤◌}
use native.Mathlib.Omega.{arith}
use lib.IntN.{ℤ, pos, nat_abs, ◌+ℤ◌, ◌-ℤ◌}
use lib.ListN.{get_or, set}
use mir.Syntax.{w64}
use mir.Val.{to_z, of_z}
use mir.Facts.{to_z_pos}
use Rattle.quantity.specs.Limits.{line_grams}
use Rattle.ledger.specs.Columns.{BEFORE_ENTRY}
use Rattle.ledger.specs.Ledger.{booked, charged_and_credited}
use Rattle.ledger.proofs.Sizes.{kept, size_plus, size_minus}
use Rattle.ledger.proofs.Bounds.{each_charged}
use Rattle.ledger.proofs.Ledger.book.Goals as goal

amount : (n : ℕ) → n ≤ line_grams → to_z w64 n ≡ pos n
amount n h = to_z_pos w64 (omega (arith, h))

more_fits : (z : ℤ) (n : ℕ) → nat_abs z ≤ BEFORE_ENTRY → n ≤ line_grams → to_z w64 (of_z w64 (z +ℤ pos n)) ≡ z +ℤ pos n
more_fits z n h g = kept (z +ℤ pos n) (omega (arith, size_plus z n, h, g))

less_fits : (z : ℤ) (n : ℕ) → nat_abs z ≤ BEFORE_ENTRY + line_grams → n ≤ line_grams → to_z w64 (of_z w64 (z -ℤ pos n)) ≡ z -ℤ pos n
less_fits z n h g = kept (z -ℤ pos n) (omega (arith, size_minus z n, h, g))

pub returns : goal.returns
unfolding booked charged_and_credited
returns c =
    let b = c.args.self.now.balances.0 in
    let entered = c.args.self.now.totals.entered.0 in
    let e = c.args.e in
    let room = c.requires.room in
    let small = c.requires.small.grams in
    let held : ℤ = get_or b e.charged (pos 0) in
    let left : ℤ = get_or (set b e.charged (held +ℤ pos e.charge.0)) e.credited (pos 0) in
    let left_small : nat_abs left ≤ BEFORE_ENTRY + line_grams =
    omega (arith, each_charged BEFORE_ENTRY b room.balances e.charged e.charge.0 e.credited, small.moved) in
    simp (
      amount e.charge.0 (omega (arith, small.moved)),
      kept held (omega (arith, room.balances e.charged)),
      more_fits held e.charge.0 (room.balances e.charged) (omega (arith, small.moved)),
      amount e.credit.0 (omega (arith, small.moved)),
      kept left (omega (arith, left_small)),
      less_fits left e.credit.0 left_small (omega (arith, small.moved)),
      amount e.entering.0 small.entering,
      kept entered (omega (arith, room.entered)),
      more_fits entered e.entering.0 room.entered small.entering,
      amount e.leaving.0 small.leaving,
      less_fits (entered +ℤ pos e.entering.0) e.leaving.0 (omega (arith, size_plus entered e.entering.0, room.entered, small.entering)) small.leaving,
    )
