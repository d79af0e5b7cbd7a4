-- `read_line` meets its contract. Assumes nothing.
use mathlib.Core.Path.{◌≡◌}
use Rattle.std.specs.Prelude.{Some}
use Rattle.std.proofs.Common.{rules}
use Rattle.fields.specs.declared.Stop.TheVariants.{LineEnd}
use Rattle.records.proofs.Fields.{head_step, eight_read, so_far_all}
use Rattle.records.proofs.read_line.Goals as goal

pub next_field-a-requires-clause-ahead : goal.next_field-a-requires-clause-ahead
next_field-a-requires-clause-ahead c = head_step _ _ _ c.line_head-first.ensures _ c.from.ensures

pub returns-in-Some-LineEnd : goal.returns-in-Some-LineEnd
returns-in-Some-LineEnd c =
    let w =
    eight_read _ _ _ _ _ _ _ _ _ _ _ _ c.line_head-first.ensures c.from.ensures c.next_field-a.ensures.value
    c.next_field-b.ensures.value c.next_field-c.ensures.value c.next_field-d.ensures.value c.next_field-e.ensures.value
    c.next_field-f.ensures.value c.next_field-g.ensures.value c.next_field-h.ensures.value c.next_field-h.ensures.bounded.1 in
    let ended : c.next_field-h.result.stop ≡ Some LineEnd = search rules in
    let all = so_far_all _ _ _ w.0 (w.1 ended) in
    record { read_at = all.0; bounded = all.1 }

pub read_on-requires : goal.read_on-requires
read_on-requires c =
    (eight_read _ _ _ _ _ _ _ _ _ _ _ _ c.line_head-first.ensures c.from.ensures c.next_field-a.ensures.value
    c.next_field-b.ensures.value c.next_field-c.ensures.value c.next_field-d.ensures.value c.next_field-e.ensures.value
    c.next_field-f.ensures.value c.next_field-g.ensures.value c.next_field-h.ensures.value c.next_field-h.ensures.bounded.1).0
