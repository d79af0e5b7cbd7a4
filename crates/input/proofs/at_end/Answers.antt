-- `at_end` meets its contract: more bytes than are allowed, and a read that gave no byte; shown so that another limit is refused for the fact.
-- Assumes nothing.
use mathlib.Core.Path.{refl}
use native.Mathlib.Omega.{arith}
use borrow.Author.Tests.{lt-ltb, le-ltb}
use Rattle.input.proofs.at_end.Goals as goal

pub returns-then-got-gt-BYTES : goal.returns-then-got-gt-BYTES
returns-then-got-gt-BYTES g c = rw (lt-ltb 65536 c.args.got (omega (arith, c.if-got-gt-BYTES.true))) refl

pub returns-else-got-gt-BYTES : goal.returns-else-got-gt-BYTES
returns-else-got-gt-BYTES g c = rw (le-ltb 65536 c.args.got (omega (arith, c.if-got-gt-BYTES.false)), c.ended-ended.ensures) refl
