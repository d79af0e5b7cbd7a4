-- `read_on` meets its contract. Assumes nothing.
use mathlib.Core.Path.{◌≡◌, sym, ◌∙◌}
use native.Mathlib.Nat.{le_refl}
use native.Mathlib.Omega.{arith}
use borrow.Author.Tests.{lt-ltb, le-ltb}
use lib.ListN.{get_or}
use Rattle.lines.specs.Lines.{COMMA}
use Rattle.heads.proofs.Left.{comma_at_lem, other_at}
use Rattle.records.proofs.Fields.{so_far_all, so_far_more}
use Rattle.records.proofs.read_on.Goals as goal
use Rattle.records.proofs.read_on.Goals.{then-l-lt-WORDS, else-l-lt-WORDS}

pub loop-field-preserved : goal.loop-field-preserved
loop-field-preserved c =
    let comma : get_or c.args.s.now c.loop-field.l.end 0 ≡ COMMA =
    sym (c.in-Some-eq44.ensures.lookup.4 (le_refl _) 0) ∙ c.in-Some-eq44.field-0-test in
    let more = so_far_more _ _ _ c.loop-field.invariant _ (comma_at_lem c.args.s.now c.loop-field.l.end comma) c.read_field-field.ensures.field_read_at
    c.read_field-field.ensures.bounded in
    elim c.if-l-lt-WORDS.branch [
      | then-l-lt-WORDS w ↦ rw w.l-is (more _ (simp (lt-ltb _ _ w.if-l-lt-WORDS.true) (rw w.into.ensures)))
      | else-l-lt-WORDS w ↦ rw w.l-is (more _ (simp (le-ltb _ _ w.if-l-lt-WORDS.false)))
    ]

pub returns-in_default-clause-read_at : goal.returns-in_default-clause-read_at
returns-in_default-clause-read_at c =
    let item : c.in_default.field-0.now ≡ get_or c.args.s.now c.loop-field.l.end 0 =
    rw c.in_default.is at (c.get.ensures.lookup.4 (le_refl _) 0) in
    (so_far_all _ _ _ c.loop-field.invariant (other_at c.args.s.now c.loop-field.l.end (λ e. grind arith))).0

pub returns-in_default-2-clause-read_at : goal.returns-in_default-2-clause-read_at
returns-in_default-2-clause-read_at c =
    let item : 0 ≡ get_or c.args.s.now c.loop-field.l.end 0 =
    rw c.in_default.is at (c.get.ensures.lookup.4 (le_refl _) 0) in
    (so_far_all _ _ _ c.loop-field.invariant (other_at c.args.s.now c.loop-field.l.end (λ e. omega (arith, item)))).0
