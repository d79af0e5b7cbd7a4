-- `LentRecord::of` meets its contract: its letter, and how many fields it has; shown so that a first word of no kind, or another number of
-- fields, is refused for the fact. Assumes nothing.
use native.Mathlib.Omega.{arith}
use Rattle.lent.proofs.Counts.{some_letter}
use Rattle.lent.proofs.LentRecord.of.Goals as goal

pub invariant_of-result-clause-some_letter : goal.invariant_of-result-clause-some_letter
invariant_of-result-clause-some_letter c = some_letter c.args.words.now (λ none. omega (arith, c.in_default, c.field_count.ensures, none))

pub invariant_of-result-clause-count_value : goal.invariant_of-result-clause-count_value
invariant_of-result-clause-count_value c = c.said_count.ensures.value
