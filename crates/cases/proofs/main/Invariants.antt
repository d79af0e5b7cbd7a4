-- `cases::main` counts no more cases than it reads. Assumes what the toolchain says of reading and writing.
use Rattle.std.proofs.Common.{◌≡◌, ◌≤◌, length}
use Rattle.cases.proofs.main.Given as goal

abbrev pub invariant-loop : goal.invariant-loop
invariant-loop l = (length l.header ≡ 40) × (l.tried ≤ l.counter) × (l.different ≤ l.tried)
