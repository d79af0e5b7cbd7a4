-- The worked examples of specs/Cases: one theorem that the checker computes over the table. Assumes nothing.
use mathlib.Core.List.{map}
use mathlib.Core.Path.{◌≡◌, refl}
use Rattle.decimal.specs.Number.{all_digits, is_number}
use Rattle.decimal.specs.Text.{bytes}
use Rattle.decimal.specs.Cases.{examples}

pub examples_hold : map (λ e. is_number (bytes e.field)) examples ≡ map (λ e. e.is_number) examples
unfolding examples all_digits is_number
examples_hold = refl
