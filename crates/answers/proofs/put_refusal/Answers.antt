-- `answers::put_refusal` writes the four parts one after the other. Assumes nothing.
use mathlib.Core.List.{[], ◌∷◌, ◌++◌, append_assoc}
use native.Mathlib.Omega.{arith}
use lib.ListN.{length-append}
use Rattle.decimal.specs.Spelling.{spelling}
use Rattle.decimal.proofs.Widths.{twenty}
use Rattle.decimal.proofs.Writing.{then}
use Rattle.answers.proofs.put_refusal.Goals as goal

pub returns-clause-put : goal.returns-clause-put
returns-clause-put c =
    let number = twenty c.args.number c.ranges.number.fits in
    let line = twenty c.args.line c.ranges.line.fits in
    let upto_comma = length-append (spelling c.args.number) (44 ∷ []) in
    let upto_line = length-append (spelling c.args.number ++ (44 ∷ [])) (spelling c.args.line) in
    let a = then (omega (arith, number, c.requires)) c.put-comma.ensures c.put_byte-start.ensures in
    let d = then (omega (arith, number, c.requires, upto_comma)) a c.put-end.ensures in
    simp append_assoc at (then (omega (arith, number, line, c.requires, upto_comma, upto_line)) d c.put_byte.ensures)
