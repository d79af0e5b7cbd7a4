-- `passing::pass_on` meets its contract. Assumes nothing.
use mathlib.Core.Path.{◌≡◌, refl}
use Prim.Native.Nat.{◌+◌, ◌-◌, suc}
use native.Mathlib.Omega.{arith}
use Rattle.passing.proofs.Passing.{passing_none, passing_all, both_skip, both_next}
use Rattle.passing.proofs.pass_on.Goals as goal
use Rattle.passing.proofs.pass_on.Goals.{else-loop-to-test, then-loop-to-test+else-to-count, then-kg-gt0, else-kg-gt0}

pub loop-to-init : goal.loop-to-init
loop-to-init c =
    let none : c.args.from + 1 - 1 ≡ c.args.from = omega arith in
    let can = c.requires.can_pass_on_direct in
    rw (none, c.default-taken.ensures, c.default-given.ensures.0, c.default-given.ensures.1) (
      omega arith,
      record { direct = passing_none _ _ _ _ _ c.args.from can.within can.ahead; indirect = passing_none _ _ _ _ _ c.args.from can.within can.ahead },
    )

pub loop-to-preserved : goal.loop-to-preserved
loop-to-preserved c =
    let inv = c.loop-to.invariant.1 in
    let within = c.requires.can_pass_on_direct.within in
    let next : c.loop-to.to ≡ suc (c.loop-to.to - 1) = omega arith in
    let done : c.loop-to.to + 1 - 1 ≡ c.loop-to.to = omega arith in
    rw done (
      omega arith,
      elim c.if-kg-gt0.branch [
        | then-kg-gt0 w ↦
            let portion = w.portions-taker.ensures in
            rw (w.pools-is, w.taken-is, w.given-is)
            (both_next inv next within (omega arith) portion.direct_value portion.indirect_value (omega arith) (omega arith))
        | else-kg-gt0 w ↦ rw (w.pools-is, w.taken-is, w.given-is) (both_skip inv next (omega arith))
      ],
    )

pub returns : goal.returns
returns c =
    let inv = c.loop-to.invariant.1 in
    let within = c.requires.can_pass_on_direct.within in
    let next : c.loop-to.to ≡ suc (c.loop-to.to - 1) = omega arith in
    elim c.loop-to-test.branch [
      | else-loop-to-test w ↦ rw (w.pools-is, w.given-is) (record {
        passed_on_direct = passing_all inv.direct c.args.from refl (omega arith);
        passed_on_indirect = passing_all inv.indirect c.args.from refl (omega arith);
      })
      | then-loop-to-test+else-to-count w ↦ rw (w.pools-is, w.given-is) (elim w.if-kg-gt0.branch [
        | then-kg-gt0 v ↦
            let portion = v.portions-taker.ensures in
            let all = both_next inv next within (omega arith) portion.direct_value portion.indirect_value (omega arith) (omega arith) in
            rw (v.pools-is, v.given-is) (record {
              passed_on_direct = passing_all all.direct c.args.from refl (omega arith);
              passed_on_indirect = passing_all all.indirect c.args.from refl (omega arith);
            })
        | else-kg-gt0 v ↦
            let all = both_skip inv next (omega arith) in
            rw (v.pools-is, v.given-is) (record {
              passed_on_direct = passing_all all.direct c.args.from refl (omega arith);
              passed_on_indirect = passing_all all.indirect c.args.from refl (omega arith);
            })
      ])
    ]
