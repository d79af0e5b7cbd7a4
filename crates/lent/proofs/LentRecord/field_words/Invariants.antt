-- `LentRecord::field_words` meets its contract. The loop's invariant: the words of the first k words behind the letter are stored. Assumes nothing.
use mathlib.Core.Path.{◌≡◌}
use Rattle.lent.proofs.Full.{held_to}
use Rattle.lent.proofs.LentRecord.field_words.Given as goal

abbrev pub invariant-loop-k : goal.invariant-loop-k
invariant-loop-k l = l.held ≡ held_to l.self.words.now l.k
