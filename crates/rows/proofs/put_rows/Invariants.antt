-- `rows::put_rows` meets its contract. Assumes nothing.
use Prim.Native.Nat.{◌+◌, ◌-◌, ◌≤◌}
use Rattle.decimal.specs.Writing.{Put}
use Rattle.rows.specs.Held.{rows_bytes}
use Rattle.rows.proofs.put_rows.Given as goal

-- the lines of the processes before this one are written
abbrev pub invariant-loop-k : goal.invariant-loop-k
invariant-loop-k l = (l.k ≤ l.r.count + 1) × (Put l.initial.space 0 (rows_bytes l.r (l.k - 1)) l.space l.at)
