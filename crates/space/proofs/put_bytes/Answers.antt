-- `put_bytes` meets its contract: the bytes at the start, and the rest as it was; shown so that other bytes are refused for the fact. Assumes
-- nothing.
use mathlib.Core.Path.{◌≡◌, refl}
use mathlib.Core.List.{List, ◌++◌}
use Prim.Native.Nat.{ℕ}
use native.Mathlib.Nat.{zero-add}
use native.Mathlib.Omega.{arith}
use lib.ListN.{length, drop}
use Rattle.decimal.specs.Writing.{written, Put}
use Rattle.space.proofs.put_bytes.Goals as goal

at_start : (space bytes part : List ℕ) → part ≡ bytes → Put space 0 bytes (part ++ drop (length bytes) space) (length bytes)
unfolding written
at_start space bytes part e = record { place = omega arith; bytes_are = rw (e, zero-add) refl }

pub returns : goal.returns
returns c = at_start c.args.space.now c.args.bytes.now c.copy_from_slice.new.self c.copy_from_slice.ensures.after
