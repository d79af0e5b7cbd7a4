-- `judge_records` meets its contract: row 1, and the verdict of the lines where it doesn't apply; shown so that a wrong limit of bytes, or
-- another sheet measured, is refused for the fact. Assumes nothing.
use native.Mathlib.Omega.{arith}
use borrow.Author.Rules.{rules}
use borrow.Author.Tests.{tests}
use lib.ListN.{length}
use Rattle.std.specs.Prelude.{Err, ◌≡◌, ◌≤◌}
use Rattle.lent.specs.Lent.{sheet_lent}
use Rattle.judged.proofs.Whole.{too_long, some_spelt, lines_decide}
use Rattle.judged.proofs.judge_records.Goals as goal

pub returns-then-sheet-gt-BYTES : goal.returns-then-sheet-gt-BYTES
returns-then-sheet-gt-BYTES c =
    let long = too_long (sheet_lent c.args.records.now) (omega (arith, c.in-Ok.ensures.measured, c.if-sheet-gt-BYTES.true)) in
    rw (c.from-then-sheet-gt-BYTES.ensures) long

pub returns-else-sheet_length-gt-BYTES : goal.returns-else-sheet_length-gt-BYTES
returns-else-sheet_length-gt-BYTES c =
    let some : length c.args.records.now ≡ 0 → ⊥ = search (rules, tests) in
    let short : length (sheet_lent c.args.records.now) ≤ 65536 = omega (arith, c.sheet_length.ensures, c.if-sheet_length-gt-BYTES.false) in
    lines_decide _ short (some_spelt _ some) (Err c.in-Err.refused) c.in-Err.ensures
