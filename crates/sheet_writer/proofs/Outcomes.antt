-- What the writer gives, by the verdict of rows 1 to 14, 17 and 18. Assumes nothing.
use mathlib.Core.Path.{◌≡◌, refl}
use mathlib.Core.Bool.{cond}
use mathlib.Core.List.{List, ◌++◌}
use Prim.Native.Nat.{ℕ}
use native.Mathlib.Decide.{dec_le}
use native.Mathlib.Nat.{lt_of_not-le}
use borrow.Author.Tests.{lt-ltb, le-ltb}
use lib.Dec.{ltb}
use lib.ListN.{length, drop}
use Rattle.quantity.specs.Limits.{limits}
use Rattle.sheet.specs.Verdict.{Verdict, accepted, refused, first_of, sheet_checks}
use Rattle.report.specs.Outcome.{Outcome}
use Rattle.lent.specs.Lent.{sheet_lent}
use Rattle.record_exchange.specs.Exchange.{sheet_written}
use Rattle.record_exchange.proofs.RoundTrip.{written_accepted, written_short, written_refused}
use Rattle.record_exchange.proofs.Judged.{judged_as}

module _ (words space : List ℕ) where
  -- 16 comes last
  abbrev given : Verdict → Outcome
  given accepted =
      let sheet : List ℕ = sheet_lent words in
      cond (ltb (length space) (length sheet)) (record { number = 16; line = 0; length = 0; space = space })
      (record { number = 0; line = 0; length = length sheet; space = sheet ++ drop (length sheet) space })
  given (refused n k) = record { number = n; line = k; length = 0; space = space }

  by_verdict : (v : Verdict) → first_of (sheet_checks limits (sheet_lent words)) ≡ v → sheet_written words space ≡ given v
  by_verdict accepted e =
      let a = judged_as (sheet_lent words) accepted e in
      elim (dec_le (length (sheet_lent words)) (length space)) [
        | yes fits ↦ rw (le-ltb (length space) (length (sheet_lent words)) fits) (written_accepted words space a fits)
        | no long ↦
            let short = lt_of_not-le long in
            rw (lt-ltb (length space) (length (sheet_lent words)) short) (written_short words space a short)
      ]
  by_verdict (refused n k) e = written_refused words space n k (judged_as (sheet_lent words) (refused n k) e)

  pub written_as : sheet_written words space ≡ given (first_of (sheet_checks limits (sheet_lent words)))
  written_as = by_verdict _ refl
