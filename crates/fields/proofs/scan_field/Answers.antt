-- `scan_field` meets its contract. Assumes nothing.
use mathlib.Core.Logic.{⊎_elim, inl, inr}
use native.Mathlib.Omega.{arith}
use Rattle.fields.proofs.Scanning.{scanned_end, scanned_stop, other_step, none_left, digit_step}
use Rattle.fields.proofs.scan_field.Goals as goal

pub returns-in-44 : goal.returns-in-44
returns-in-44 c = scanned_stop _ _ _ _ c.loop-end.invariant c.loop-end-test.true (⊎_elim inr inl c.in-44.is)

pub returns-in_default : goal.returns-in_default
returns-in_default c =
    none_left _ _ _ (other_step _ _ _ _ c.loop-end.invariant c.loop-end-test.true (λ e. grind arith) (λ e. grind arith) c.in-None.ensures)
    _ c.first_end.ensures.value c.first_end.ensures.bounded

pub loop-end-preserved : goal.loop-end-preserved
loop-end-preserved c =
    let d = c.in-Some.ensures in
    digit_step _ _ _ _ c.loop-end.invariant c.loop-end-test.true d.0 d.1 _ d.2 _ c.min-value.ensures

pub returns : goal.returns
returns c = scanned_end _ _ _ _ c.loop-end.invariant c.loop-end-test.false
