-- `settling::settle` meets its contract. Assumes nothing.
use mathlib.Core.Path.{◌≡◌, refl, sym, ◌∙◌}
use Prim.Native.Nat.{◌+◌, ◌-◌, suc}
use native.Mathlib.Omega.{arith}
use borrow.Author.Rules.{rules}
use Rattle.goods.proofs.Defaults.{zeros_by_default}
use Rattle.settling.proofs.Settling.{settling_none, settling_next, settling_kept, settling_all}
use Rattle.settling.proofs.settle.Goals as goal
use Rattle.settling.proofs.settle.Goals.{then-has_takers, else-has_takers}

pub loop-i-init : goal.loop-i-init
loop-i-init c =
    let own = c.args.own in
    let outside = c.requires.none_outside in
    let lefts = c.default-lefts.ensures in
    rw (zeros_by_default lefts.0, zeros_by_default lefts.1) (record {
      within = omega arith;
      direct = settling_none _ _ _ _ own.direct.0 c.requires.settleable_direct (search rules) outside.0 (λ k. refl);
      indirect = settling_none _ _ _ _ own.indirect.0 c.requires.settleable_indirect (search rules) outside.1 (λ k. refl);
    })

pub loop-i-preserved : goal.loop-i-preserved
loop-i-preserved c =
    let direct = c.requires.settleable_direct in
    let indirect = c.requires.settleable_indirect in
    let inv = c.loop-i.invariant in
    let next : c.loop-i.i ≡ suc (c.loop-i.i - 1) = omega arith in
    let done : c.loop-i.i + 1 - 1 ≡ c.loop-i.i = omega arith in
    rw done (elim c.if-has_takers.branch [
      | then-has_takers w ↦
          let passed = w.pass_on-left.ensures in
          rw (w.pools-is, w.lefts-is) (record {
            within = omega arith;
            direct = settling_next direct inv.direct next (omega arith) (omega arith) passed.passed_on_direct;
            indirect = settling_next indirect inv.indirect next (omega arith) (omega arith) passed.passed_on_indirect;
          })
      | else-has_takers w ↦
          let none = sym c.has_takers.ensures ∙ w.if-has_takers.false in
          rw (w.pools-is, w.lefts-is) (record {
            within = omega arith;
            direct = settling_kept direct inv.direct next (omega arith) (omega arith) none;
            indirect = settling_kept indirect inv.indirect next (omega arith) (omega arith) none;
          })
    ])

pub returns-after-has_takers : goal.returns-after-has_takers
returns-after-has_takers c =
    let direct = c.requires.settleable_direct in
    let indirect = c.requires.settleable_indirect in
    let inv = c.loop-i.invariant in
    let next : c.loop-i.i ≡ suc (c.loop-i.i - 1) = omega arith in
    elim c.if-has_takers.branch [
      | then-has_takers w ↦
          let passed = w.pass_on-left.ensures in
          rw (w.pools-is, w.lefts-is) (record {
            settled_direct =
                settling_all direct (settling_next direct inv.direct next (omega arith) (omega arith) passed.passed_on_direct) (omega arith);
            settled_indirect =
                settling_all indirect (settling_next indirect inv.indirect next (omega arith) (omega arith) passed.passed_on_indirect) (omega arith);
          })
      | else-has_takers w ↦
          let none = sym c.has_takers.ensures ∙ w.if-has_takers.false in
          rw (w.pools-is, w.lefts-is) (record {
            settled_direct = settling_all direct (settling_kept direct inv.direct next (omega arith) (omega arith) none) (omega arith);
            settled_indirect = settling_all indirect (settling_kept indirect inv.indirect next (omega arith) (omega arith) none) (omega arith);
          })
    ]
