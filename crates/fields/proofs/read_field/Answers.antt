-- `read_field` meets its contract. Assumes nothing.
use mathlib.Core.Path.{sym}
use native.Mathlib.Omega.{arith}
use Rattle.std.proofs.lemmas.Bool.Decides.{nat_tests}
use Rattle.fields.specs.declared.Said.TheVariants.{Dash, Other}
use Rattle.fields.proofs.Scanning.{done, done_digits, said_none, said_dash, said_one, said_zero, said_many}
use Rattle.fields.proofs.read_field.Goals as goal
use Rattle.fields.proofs.read_field.Goals.{in_default-via-then-this-lt2+in_default-1, in_default-via-else-this-lt2+in_default-1}

pub returns-in-45 : goal.returns-in-45
returns-in-45 c =
    let d = done _ _ _ c.scan_field-f.ensures Dash (sym (said_dash _ (omega arith) (omega arith))) in
    record { field_read_at = d.0; bounded = d.1 }

pub returns-in_default : goal.returns-in_default
returns-in_default c =
    let d = done_digits _ _ _ c.scan_field-f.ensures
    (elim c.in_default.branch [
      | in_default-via-then-this-lt2+in_default-1 w ↦ said_one _ (grind (arith, nat_tests)) (λ e. grind (arith, nat_tests))
      | in_default-via-else-this-lt2+in_default-1 w ↦ said_many _ (grind (arith, nat_tests)) (λ e. grind (arith, nat_tests))
    ])
    _ c.map_or-said.ensures in
    record { field_read_at = d.0; bounded = d.1 }

pub returns-in-empty : goal.returns-in-empty
returns-in-empty c =
    let d = done _ _ _ c.scan_field-f.ensures Other (sym (said_none _ (omega arith))) in
    record { field_read_at = d.0; bounded = d.1 }

pub returns-in-empty-2 : goal.returns-in-empty-2
returns-in-empty-2 c =
    let d = done _ _ _ c.scan_field-f.ensures Other (sym (said_zero _ (omega arith) (omega arith))) in
    record { field_read_at = d.0; bounded = d.1 }
