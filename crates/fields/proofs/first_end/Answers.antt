-- `first_end` meets its contract. Assumes nothing.
use mathlib.Core.Logic.{⊎_elim, inl, inr}
use native.Mathlib.Omega.{arith}
use Rattle.fields.proofs.Scanning.{field_stop, field_over, longer}
use Rattle.fields.proofs.first_end.Goals as goal

pub returns-in-44-clause-value : goal.returns-in-44-clause-value
returns-in-44-clause-value c = omega (arith, field_stop _ _ c.loop-end-test.true (⊎_elim inr inl c.in-44.is), c.loop-end.invariant)

pub loop-end-preserved : goal.loop-end-preserved
loop-end-preserved c = omega (arith, longer _ _ c.loop-end-test.true (λ e. grind arith) (λ e. grind arith), c.loop-end.invariant)

pub returns-clause-value : goal.returns-clause-value
returns-clause-value c =
    omega (arith, field_over c.args.s.now c.loop-end.end (omega (arith, c.loop-end-test.false, c.loop-end.auto.end-end)), c.loop-end.invariant)
