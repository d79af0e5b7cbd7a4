-- `quotients` meets its contract. The invariant: of both numbers the bits from i up are walked. Assumes nothing.
use Rattle.shares.proofs.LongDivision.{Walked}
use Rattle.shares.proofs.quotients.Given as goal

abbrev pub invariant-loop-i : goal.invariant-loop-i
invariant-loop-i l = record {
  first : Walked l.first l.share.part l.share.whole l.i l.a.quotient l.a.remainder;
  second : Walked l.second l.share.part l.share.whole l.i l.b.quotient l.b.remainder;
}
