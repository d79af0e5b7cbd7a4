-- The rank of a K line by which rows 5 to 7 do not apply is below 64. Assumes nothing.
use mathlib.Core.Path.{sym, ap, ◌∙◌}
use native.Mathlib.Omega.{arith}
use Rattle.checks.specs.Numbers.{number_judged}
use Rattle.checks.proofs.Fitting.{word_at_most}
use Rattle.kinds.proofs.precursor_figures.Goals as goal

pub unstated-requires : goal.unstated-requires
unstated-requires c = record { rank_range = omega (arith, word_at_most _ _ _ (sym c.field-2.ensures ∙ ap number_judged c.in_ok-field-2.was)) }
