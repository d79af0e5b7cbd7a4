-- `quotients` meets its contract. Assumes nothing.
use native.Mathlib.Omega.{arith}
use lib.Bits.{or_lt}
use Rattle.shares.proofs.LongDivision.{asked, walked_on, not_walked, or_first, or_second, all_walked}
use Rattle.shares.proofs.quotients.Goals as goal

pub loop-i-init : goal.loop-i-init
loop-i-init c =
    let s = c.args in
    let fits = or_lt 64 s.first s.second c.ranges.first.fits c.ranges.second.fits in
    let part = s.share.part in
    let whole = s.share.whole in
    let some = s.share.range.positive in
    let a = c.default-a.ensures in
    let b = c.default-b.ensures in
    rw (a.0, a.1, b.0, b.1) (record {
      first = not_walked s.first _ part whole (or_first s.first s.second) fits some;
      second = not_walked s.second _ part whole (or_second s.first s.second) fits some;
    })

pub with_bit-a-requires : goal.with_bit-a-requires
with_bit-a-requires c = asked c.loop-i.invariant.first (omega arith) c.ranges.first.fits c.args.share.range

pub with_bit-b-requires : goal.with_bit-b-requires
with_bit-b-requires c = asked c.loop-i.invariant.second (omega arith) c.ranges.second.fits c.args.share.range

pub loop-i-preserved : goal.loop-i-preserved
loop-i-preserved c =
    let a = c.with_bit-a.ensures in
    let b = c.with_bit-b.ensures in record {
      first = walked_on c.loop-i.invariant.first (omega arith) a.remainder_value a.remainder_lt_whole;
      second = walked_on c.loop-i.invariant.second (omega arith) b.remainder_value b.remainder_lt_whole;
    }

pub returns : goal.returns
returns c = (all_walked c.loop-i.invariant.first (omega arith), all_walked c.loop-i.invariant.second (omega arith))
