-- The worked examples of specs/Cases: one theorem that the checker computes over the table. Assumes nothing.
use mathlib.Core.List.{map}
use mathlib.Core.Path.{◌≡◌, refl}
use Rattle.sheet.specs.Verdict.{first_of, sheet_checks, field_checks, shape_checks, line_checks, lines_checks, figures_checks}
use Rattle.decimal.specs.Number.{all_digits, is_number, value_from}
use Rattle.lines.specs.Lines.{lines_of, fields_of}
use Rattle.lines.specs.Records.{field_of, record_of, records_of}
use Rattle.sheet.specs.Kinds.{kind_of, kind_among, method_rules, rules}
use Rattle.sheet.specs.Refusals.{any_of, sum_of}
use Rattle.sheet.specs.Cases.{examples, judged}

pub examples_hold : map judged examples ≡ map (λ e. e.verdict) examples
unfolding examples
    all_digits is_number value_from lines_of fields_of field_of record_of records_of kind_of kind_among method_rules rules
    any_of sum_of first_of field_checks shape_checks line_checks lines_checks figures_checks sheet_checks
examples_hold = refl
