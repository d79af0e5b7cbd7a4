-- `field` meets its contract. Assumes nothing.
use mathlib.Core.Path.{◌∙◌}
use Rattle.checks.specs.Steps.{word_number}
use Rattle.checks.proofs.shape.field.Goals as goal

pub returns-then-lowest-word : goal.returns-then-lowest-word
unfolding word_number
returns-then-lowest-word c = simp c.if-lowest-word.true

pub returns-else-lowest-word : goal.returns-else-lowest-word
unfolding word_number
returns-else-lowest-word c = c.outside.ensures ∙ simp c.if-lowest-word.false
