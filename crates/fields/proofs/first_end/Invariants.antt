-- The loop of `first_end`: the field that is left where it is ends at the same place.
use Rattle.std.specs.Prelude.{◌≡◌, ◌+◌, drop}
use Rattle.fields.specs.Scan.{field_length}
use Rattle.fields.proofs.first_end.Given as goal

abbrev pub invariant-loop-end : goal.invariant-loop-end
invariant-loop-end l = l.end + field_length (drop l.end l.s) ≡ l.start + field_length (drop l.start l.s)
