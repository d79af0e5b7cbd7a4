-- `with_bit` meets its contract, by the laws of long division. Assumes nothing.
use Rattle.shares.proofs.LongDivision.{left_below, dividend, quotient_fits}
use Rattle.shares.proofs.with_bit.Goals as goal

pub overflow_add-result : goal.overflow_add-result
overflow_add-result c = rw (c.from.ensures, c.from-2.ensures) (record { fits = quotient_fits c.args.share.range c.requires })

pub returns : goal.returns
returns c =
    let range = c.args.share.range in
    rw (c.from.ensures, c.from-2.ensures) (record { remainder_value = dividend range c.requires; remainder_lt_whole = left_below range c.requires })
