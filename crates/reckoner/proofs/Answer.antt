-- The answers of the reckoner: the verdict of all rows but 16, from what the code finds. Assumes nothing.
use mathlib.Core.Path.{◌≡◌, refl, ◌∙◌}
use mathlib.Core.Logic.{◌⊎◌, inl, inr}
use mathlib.Core.Bool.{false}
use mathlib.Core.List.{List, [], ◌++◌}
use Prim.Native.Nat.{ℕ, zero, suc, ◌-◌, ◌≤◌, ◌<◌}
use native.Mathlib.Nat.{le_refl}
use native.Mathlib.Omega.{arith}
use borrow.Author.Tests.{lt-ltb, le-ltb, eq-eqb, ne_eqb, lt-leb}
use lib.IntN.{ℤ, pos, negsuc, neg_ℤ, nat_abs, ◌+ℤ◌}
use lib.Signed.{le_z}
use lib.ListN.{length}
use Rattle.lines.specs.Lines.{lines_of}
use Rattle.lines.specs.Records.{Record, records_of}
use Rattle.quantity.specs.Limits.{limits, whole_grams}
use Rattle.sheet.specs.Verdict.{accepted, refused, first_of, lines_checks, sheet_checks, All, Passes}
use Rattle.checks.specs.Numbers.{refused_by}
use Rattle.checks.specs.declared.refusals.Refused.{Refused}
use Rattle.sheet.proofs.First.{accepted_passes, first_here, first_rest}
use Rattle.goods.specs.ByProcess.{Column, figures}
use Rattle.closing.specs.Closing.{Ready}
use Rattle.reckoning.specs.declared.Reckoning.{Reckoning}
use Rattle.attribution.specs.Governing.{governed}
use Rattle.attribution.specs.Verdict.{reckoner_checks}
use Rattle.gathering.specs.Gathered.{LinesPassed, LineRefused, UseRefused, uses_of}
use Rattle.reckoner.specs.Reckoned.{FiguresOf, Figured}
use Rattle.reckoner.specs.Closed.{ClosedAs}
use Rattle.large_figures.specs.Large.{any_large, large_totals, large}
use Rattle.works.specs.declared.Works.{Works}
use Rattle.attribution.proofs.EveryKind.{Accepted}
use Rattle.attribution.proofs.Governing.{sheet_governed}
use Rattle.attribution.proofs.RowFifteen.{SumsBelow, RowBelow, row_below, left_below_limit, sheet_sums, fifteen_never_given}
use Rattle.attribution.proofs.Works.{left_is_entered_raised_uncredited}
use Rattle.reckoner.proofs.Ready.{ready}
use Rattle.reckoner.proofs.Figured.{figures_is}

-- ---- row 15 over an array

none_large : (count : ℕ) (f : ℕ → ℕ) → ((k : ℕ) → 1 ≤ k → k ≤ count → f k < whole_grams) → any_large count f ≡ false
unfolding any_large
none_large zero f h = refl
none_large (suc n) f h =
    rw (none_large n f (λ k l m. h k l (omega arith)), lt-leb whole_grams (f (suc n)) (h (suc n) (omega arith) (le_refl (suc n))))

-- ---- the verdict with row 15 is that without it

module _ (sheet : List ℕ) where
  too_many : limits.bytes < length sheet → first_of (sheet_checks limits sheet) ≡ refused 1 0
  unfolding sheet_checks first_of
  too_many h = rw (lt-ltb limits.bytes (length sheet) h)

  none_at_all : length sheet ≤ limits.bytes → length sheet ≡ 0 → first_of (sheet_checks limits sheet) ≡ refused 14 0
  unfolding sheet_checks first_of
  none_at_all h e = rw (le-ltb limits.bytes (length sheet) h, eq-eqb (length sheet) 0 e)

  by_lines : length sheet ≤ limits.bytes → 0 < length sheet
      → first_of (sheet_checks limits sheet) ≡ first_of (lines_checks limits [] (lines_of sheet) ++ uses_of sheet)
  unfolding sheet_checks first_of
  by_lines h e = rw (le-ltb limits.bytes (length sheet) h, ne_eqb (length sheet) 0 (λ z. omega arith))

  -- ---- an answer that refuses

  pub refused_bytes : limits.bytes < length sheet → first_of (reckoner_checks limits sheet) ≡ refused 1 0
  refused_bytes h = fifteen_never_given sheet ∙ too_many h

  pub refused_empty : length sheet ≤ limits.bytes → length sheet ≡ 0 → first_of (reckoner_checks limits sheet) ≡ refused 14 0
  refused_empty h z = fifteen_never_given sheet ∙ none_at_all h z

  module _ (short : length sheet ≤ limits.bytes) (some : 0 < length sheet) where
    pub refused_line : {kilos : List ℕ} {e : Refused} → LineRefused sheet kilos e ⊎ UseRefused sheet kilos e
        → first_of (reckoner_checks limits sheet) ≡ refused_by e
    refused_line (inl of) = fifteen_never_given sheet ∙ by_lines short some ∙ first_here _ _ _ _ of.verdict
    refused_line (inr of) = fifteen_never_given sheet ∙ by_lines short some ∙ first_rest _ _ of.passed ∙ of.verdict

    -- ---- an answer that accepts

    module _ {kilos : List ℕ} {works : Works} (of : LinesPassed sheet kilos works) where
      abbrev rs : List Record
      rs = governed (records_of sheet)

      verdict : first_of (sheet_checks limits sheet) ≡ accepted
      verdict = by_lines short some ∙ of.passed

      passed : All Passes (sheet_checks limits sheet)
      passed = accepted_passes (sheet_checks limits sheet) verdict

      ok : Accepted (governed (records_of sheet))
      ok = sheet_governed limits sheet passed

      sums : SumsBelow (governed (records_of sheet))
      sums = sheet_sums limits (omega arith) sheet passed

      pub can_close : Ready works.ledger works.noted.outputs.0 kilos works.noted.count
      can_close = ready rs works kilos of.gathered ok sums

      all_pass : first_of (reckoner_checks limits sheet) ≡ accepted
      all_pass = fifteen_never_given sheet ∙ verdict

      module _ (r : Reckoning) (closed : ClosedAs works kilos r) where
        figured : FiguresOf (governed (records_of sheet)) r
        figured = rw closed.is (figures_is rs works kilos of.gathered ok r.figures closed.closed)

        pub accepted_answer : Figured sheet r
        accepted_answer = record { passed = all_pass; figured = figured }

        -- THE THIRD PROPERTY of the returned totals
        pub accepted_sum : pos r.figures.left.0 ≡ r.entered.0 +ℤ pos r.figures.total_raised.0 +ℤ pos r.uncredited.0
        accepted_sum =
            rw (figured.left_is, figured.entered_is, figured.raised_is, figured.uncredited_is)
            (left_is_entered_raised_uncredited rs ok)

        -- row 15 does not apply
        below : {figure : ℕ → ℕ} {a : List ℕ} → Column r.count figure a
            → ((k : ℕ) → 1 ≤ k → k ≤ r.count → figure k < whole_grams) → any_large r.count (figures a) ≡ false
        below {a = a} col h = none_large r.count (figures a) (λ k l m. let e = col.at k l m in let f = h k l m in omega arith)

        pub not_large : large r ≡ false
        not_large =
            rw (
              below figured.directs (λ k l m. (row k l m).directs),
              below figured.indirects (λ k l m. (row k l m).indirects),
              below figured.raiseds (λ k l m. (row k l m).raiseds),
              below figured.direct_pools (λ k l m. (row k l m).direct_pools),
              below figured.indirect_pools (λ k l m. (row k l m).indirect_pools),
              below figured.direct_lefts (λ k l m. (row k l m).direct_lefts),
              below figured.indirect_lefts (λ k l m. (row k l m).indirect_lefts),
            ) totals
          where
            row : (k : ℕ) → 1 ≤ k → k ≤ r.count → RowBelow (governed (records_of sheet)) k
            row k l m = row_below rs ok sums k l (omega (arith, figured.counted))

            least : (z : ℤ) → nat_abs z < whole_grams → le_z z (neg_ℤ (pos whole_grams)) ≡ false
            least (pos n) h = refl
            least (negsuc n) h = lt-leb (whole_grams - 1) n (omega arith)

            totals : large_totals r.figures.left.0 r.entered.0 r.figures.total_raised.0 r.uncredited.0 ≡ false
            totals =
                rw (
                  lt-leb whole_grams r.figures.left.0 (omega (arith, figured.left_is, left_below_limit rs ok sums)),
                  least r.entered.0 figured.entered_small,
                  lt-leb whole_grams r.figures.total_raised.0 (omega (arith, figured.raised_is, sums.raised)),
                  lt-leb whole_grams r.uncredited.0 (omega (arith, figured.uncredited_is, sums.uncredited)),
                )
