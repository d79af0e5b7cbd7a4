-- `next_field` meets its contract. Assumes nothing.
use mathlib.Core.Path.{◌≡◌, refl, sym, ◌∙◌}
use Rattle.std.specs.Prelude.{Some, None}
use Rattle.std.proofs.Common.{rules}
use Rattle.fields.specs.declared.Stop.TheVariants.{Comma, LineEnd}
use Rattle.steps.proofs.Steps.{tried_comma, step_tried, step_none, step_done}
use Rattle.steps.proofs.next_field.Goals as goal

pub returns-in-Some-LineEnd-clause-value : goal.returns-in-Some-LineEnd-clause-value
returns-in-Some-LineEnd-clause-value c =
    let m : c.args.f.stop ≡ Some LineEnd = search rules in
    step_none _ _ (Some LineEnd) m refl

pub returns-in-None-clause-value : goal.returns-in-None-clause-value
returns-in-None-clause-value c =
    let m : c.args.f.stop ≡ None = search rules in
    step_none _ _ None m refl

pub returns-in-Some : goal.returns-in-Some
returns-in-Some c =
    let m : c.args.f.stop ≡ Some Comma = search rules in
    let d = step_done _ _ c.requires.ahead c.requires.count_le_end _
    (step_tried _ _ (tried_comma _ m) _ (sym c.in-Some.is ∙ c.short_field.ensures)) in
    record { value = d.0; bounded = d.1 }

pub returns-in-None-short_field-clause-value : goal.returns-in-None-short_field-clause-value
returns-in-None-short_field-clause-value c =
    let m : c.args.f.stop ≡ Some Comma = search rules in
    step_tried _ _ (tried_comma _ m) _ (sym c.in-None-short_field.is ∙ c.short_field.ensures)
