-- What the reader gives, by the verdict of rows 1 to 14, 17 and 18. Assumes nothing.
use mathlib.Core.Path.{◌≡◌, refl}
use mathlib.Core.Bool.{cond}
use mathlib.Core.List.{List, ◌++◌}
use Prim.Native.Nat.{ℕ}
use native.Mathlib.Decide.{dec_le}
use native.Mathlib.Nat.{lt_of_not-le}
use borrow.Author.Tests.{lt-ltb, le-ltb}
use lib.Dec.{ltb}
use lib.ListN.{length, drop}
use Rattle.quantity.specs.Limits.{limits}
use Rattle.lines.specs.Records.{records_of}
use Rattle.sheet.specs.Verdict.{Verdict, accepted, refused, first_of, sheet_checks}
use Rattle.report.specs.Outcome.{Outcome}
use Rattle.lent.specs.Lent.{words_of}
use Rattle.record_exchange.specs.Exchange.{records_read}
use Rattle.record_exchange.proofs.RoundTrip.{read_accepted, read_short, read_refused}
use Rattle.record_exchange.proofs.Judged.{judged_as}

module _ (sheet list : List ℕ) where
  -- 16 comes last
  abbrev given : Verdict → Outcome
  given accepted =
      let words : List ℕ = words_of (records_of sheet) in
      cond (ltb (length list) (length words)) (record { number = 16; line = 0; length = 0; space = list })
      (record { number = 0; line = 0; length = length (records_of sheet); space = words ++ drop (length words) list })
  given (refused n k) = record { number = n; line = k; length = 0; space = list }

  by_verdict : (v : Verdict) → first_of (sheet_checks limits sheet) ≡ v → records_read sheet list ≡ given v
  by_verdict accepted e =
      let a = judged_as sheet accepted e in
      elim (dec_le (length (words_of (records_of sheet))) (length list)) [
        | yes fits ↦ rw (le-ltb (length list) (length (words_of (records_of sheet))) fits) (read_accepted sheet list a fits)
        | no long ↦
            let short = lt_of_not-le long in
            rw (lt-ltb (length list) (length (words_of (records_of sheet))) short) (read_short sheet list a short)
      ]
  by_verdict (refused n k) e = read_refused sheet list n k (judged_as sheet (refused n k) e)

  pub read_as : records_read sheet list ≡ given (first_of (sheet_checks limits sheet))
  read_as = by_verdict _ refl
