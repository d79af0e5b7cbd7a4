-- `line_head` meets its contract. Assumes nothing.
use mathlib.Core.Path.{sym, ◌∙◌}
use native.Mathlib.Omega.{arith}
use borrow.Author.Tests.{eqb-true}
use Rattle.heads.proofs.Heads.{letter_rest}
use Rattle.heads.proofs.line_head.Goals as goal

pub returns-in-44 : goal.returns-in-44
returns-in-44 c = letter_rest _ _ (eqb-true _ _ (sym c.ends_in_lf.ensures ∙ c.if-ends_in_lf.true)) (omega arith) (omega arith) (omega arith)
