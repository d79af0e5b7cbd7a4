-- `decimal::put_before` meets its contract. The loop's invariant: the digits behind those that are left are written. Assumes nothing.
use mathlib.Core.Path.{◌≡◌}
use Prim.Native.Nat.{◌+◌, ◌≤◌}
use lib.ListN.{length}
use Rattle.decimal.specs.Spelling.{spelling}
use Rattle.decimal.proofs.Digits.{Written}
use Rattle.decimal.proofs.put_before.Given as goal

abbrev pub invariant-loop-left : goal.invariant-loop-left
invariant-loop-left l = record {
  fits : length (spelling l.n) ≤ l.end;
  inside : l.end ≤ length l.initial.space;
  room : l.place + length (spelling l.n) ≡ l.end + length (spelling l.left);
  written : Written l.initial.space l.end l.n l.space l.place l.left;
}

abbrev pub decreases-loop-left : goal.decreases-loop-left
decreases-loop-left l = l.left
