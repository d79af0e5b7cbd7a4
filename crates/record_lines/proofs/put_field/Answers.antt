-- `record_lines::put_field` meets its contract. Assumes nothing.
use mathlib.Core.Path.{ap}
use native.Mathlib.Omega.{arith}
use Prim.Native.Nat.{◌+◌, ◌-◌, ◌≤◌}
use lib.ListN.{length}
use Rattle.decimal.specs.Writing.{Put}
use Rattle.decimal.proofs.Writing.{put_one, byte_before}
use Rattle.lines.specs.Spelling.{spell_field}
use Rattle.lent.specs.Lent.{field_lent}
use Rattle.lent.proofs.Lines.{dash_spelt, number_spelt}
use Rattle.record_lines.proofs.put_field.Goals as goal
use Rattle.record_lines.proofs.put_field.Goals.{in-18446744073709551615, in_default}

pub returns : goal.returns
returns c =
    let space = c.args.space.now in
    let end = c.args.end in
    let room : length (spell_field (field_lent c.args.word)) + 1 ≤ end = c.requires.0 in
    let put : Put space c.match-word.first (spell_field (field_lent c.args.word)) c.match-word.space end =
    elim c.match-word.branch [
      | in-18446744073709551615 w ↦
          let few = ap length (dash_spelt _ w.in-18446744073709551615.is) in
          rw (w.space-is, w.first-is, dash_spelt _ w.in-18446744073709551615.is) (put_one space (end - 1) 45 (omega arith) end (omega arith))
      | in_default w ↦ rw (w.space-is, w.first-is, number_spelt c.args.word (λ e. omega arith)) w.put_before-first.ensures
    ] in
    byte_before c.requires.1 put (c.match-word.first - 1) 44 (omega (arith, put.place))
