-- `LentRecord::length` meets its contract. The loop's invariant: the letter and the first fields are measured. Assumes nothing.
use mathlib.Core.Path.{◌≡◌}
use Prim.Native.Nat.{◌+◌, ◌*◌, ◌≤◌}
use lib.ListN.{length}
use Rattle.lent.proofs.Lines.{fields_to}
use Rattle.lent.proofs.LentRecord.length.Given as goal

abbrev pub invariant-loop-word : goal.invariant-loop-word
invariant-loop-word l = (l.length ≡ length (fields_to l.self.words.now l.word-index) + 1) × (l.length ≤ 21 * l.word-index + 1)
