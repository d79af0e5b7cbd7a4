-- What is judged by itself: its number is 0 exactly where nothing is refused. Assumes nothing.
use mathlib.Core.Path.{◌≡◌, refl, sym, ap}
use mathlib.Core.Bool.{true≢false}
use native.Mathlib.Omega.{arith}
use Rattle.std.specs.Prelude.{Result, Ok, Err, ⊤}
use Rattle.std.specs.Result.{MatchResult, IsErrAnd, is_ok}
use Rattle.checks.specs.Numbers.{refusal_number, number_judged}
use Rattle.checks.specs.declared.refusals.Refusal.{Refusal}
use Rattle.checks.specs.declared.refusals.Refused.{Refused}
use Rattle.checks.specs.declared.refusals.Refusal.TheVariants.{TooManyBytes, TooManyLines, LacksLF, UnknownKind}
use Rattle.checks.specs.declared.refusals.Refusal.TheVariants.{WrongFieldCount, NotNumber, OutOfRange, ProcessNotNext}
use Rattle.checks.specs.declared.refusals.Refusal.TheVariants.{MissingProcess, EndsNotAllowed, NoStandardValue, SecondOfPair}
use Rattle.checks.specs.declared.refusals.Refusal.TheVariants.{OutputExceeded, EmptySheet, FigureTooLarge, SpaceTooShort}
use Rattle.checks.specs.declared.refusals.Refusal.TheVariants.{SecondOfRank, NoFigures}

-- no refusal has number 0
pub some_number : (r : Refusal) → refusal_number r ≡ 0 → ⊥
some_number TooManyBytes e = absurd (omega (arith, e))
some_number TooManyLines e = absurd (omega (arith, e))
some_number LacksLF e = absurd (omega (arith, e))
some_number UnknownKind e = absurd (omega (arith, e))
some_number WrongFieldCount e = absurd (omega (arith, e))
some_number NotNumber e = absurd (omega (arith, e))
some_number OutOfRange e = absurd (omega (arith, e))
some_number ProcessNotNext e = absurd (omega (arith, e))
some_number MissingProcess e = absurd (omega (arith, e))
some_number EndsNotAllowed e = absurd (omega (arith, e))
some_number NoStandardValue e = absurd (omega (arith, e))
some_number SecondOfPair e = absurd (omega (arith, e))
some_number OutputExceeded e = absurd (omega (arith, e))
some_number EmptySheet e = absurd (omega (arith, e))
some_number FigureTooLarge e = absurd (omega (arith, e))
some_number SpaceTooShort e = absurd (omega (arith, e))
some_number SecondOfRank e = absurd (omega (arith, e))
some_number NoFigures e = absurd (omega (arith, e))

-- what is judged, and the same after `map_err`, where a refusal becomes one with its line
module _ (Made : Refusal → Refused → Type 0) where
  pub none_made : (r : Result ⊤ Refusal) (q : Result ⊤ Refused) (x : ⊤) → MatchResult r (λ z. q ≡ Ok z) (λ e. IsErrAnd q (Made e)) → q ≡ Ok x
      → number_judged r ≡ 0
  none_made (Ok _) q x h e = refl
  none_made (Err d) q x h e = absurd (rw e at h)

  pub some_made : (r : Result ⊤ Refusal) (q : Result ⊤ Refused) (y : Refused) → MatchResult r (λ z. q ≡ Ok z) (λ e. IsErrAnd q (Made e)) → q ≡ Err y
      → (e : Refusal) × (r ≡ Err e) × Made e y
  some_made (Ok x) (Ok z) y h e = absurd (true≢false (ap is_ok e))
  some_made (Ok x) (Err z) y h e = absurd (true≢false (sym (ap is_ok h)))
  some_made (Err d) q y h e = (d, refl, rw e at h)
