-- `short_field` meets its contract. Assumes nothing.
use mathlib.Core.Path.{◌∙◌}
use native.Mathlib.Omega.{arith}
use lib.ListN.{get_or}
use Rattle.std.proofs.Common.{rules}
use Rattle.short_fields.proofs.Short.{leading_in, number_short, zero_short, dash_short, none_short}
use Rattle.short_fields.proofs.short_field.Goals as goal

pub returns-in-48 : goal.returns-in-48
returns-in-48 c = c.ended_word-in-48.ensures ∙ zero_short _ _ (search rules) c.in-48.is

pub returns-in-45 : goal.returns-in-45
returns-in-45 c = c.ended_word-in-45.ensures ∙ dash_short _ _ (search rules) c.in-45.is

pub returns-in-49-to-57 : goal.returns-in-49-to-57
returns-in-49-to-57 c =
    c.ended_word.ensures
    ∙ number_short _ _ (leading_in (get_or c.args.s.now c.args.start 0) (omega arith) (omega arith)) c.requires.0 _ c.leading_digits-digits.ensures

pub returns-in_default-s : goal.returns-in_default-s
returns-in_default-s c = none_short _ _ c.requires.0 (λ l. grind arith) (λ e. grind arith) (λ e. grind arith)
