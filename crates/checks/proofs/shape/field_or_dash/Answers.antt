-- `field_or_dash` meets its contract: `-` has no number whether or not it is in the range. Assumes nothing.
use mathlib.Core.Path.{◌≡◌, refl, ◌∙◌}
use mathlib.Core.Bool.{Bool, true, false, cond, ◌&&◌}
use Prim.Native.Nat.{ℕ}
use borrow.Author.Tests.{eq-eqb, ne_eqb}
use lib.Dec.{eqb, leb}
use Rattle.lines.specs.Words.{DASH, OTHER}
use Rattle.checks.specs.Steps.{word_number}
use Rattle.checks.proofs.shape.field_or_dash.Goals as goal

-- `-` in the range or not
no_number : (word lowest highest : ℕ) → eqb word DASH ≡ true → 0 ≡ word_number lowest highest true word
unfolding word_number
no_number word lowest highest e = go (leb lowest word && leb word highest)
  where
    go : (t : Bool) → ◌≡◌ {A = ℕ} 0 (cond t 0 (cond (eqb word DASH) 0 (cond (eqb word OTHER) 6 7)))
    go true = refl
    go false = simp e

pub returns-then-word-eq-DASH : goal.returns-then-word-eq-DASH
returns-then-word-eq-DASH c = no_number _ _ _ (eq-eqb _ _ c.if-word-eq-DASH.true)

pub returns-else-word-eq-DASH : goal.returns-else-word-eq-DASH
unfolding word_number
returns-else-word-eq-DASH c = c.field.ensures ∙ simp (ne_eqb _ _ c.if-word-eq-DASH.false)
