-- The outcome of the whole job from what the reckoner promises. Assumes nothing.
use mathlib.Core.Path.{◌≡◌, refl, sym, ap, ap₂, ◌∙◌}
use mathlib.Core.List.{List, [], ◌∷◌, ◌++◌}
use Prim.Native.Nat.{ℕ, zero, suc, ◌≤◌}
use native.Mathlib.Omega.{arith}
use native.Mathlib.Nat.{le_refl}
use borrow.Author.Tests.{le-ltb}
use lib.ListN.{length}
use Rattle.decimal.specs.Writing.{Put}
use Rattle.decimal.proofs.Writing.{start_bytes, start_place}
use Rattle.quantity.specs.Limits.{limits}
use Rattle.lines.specs.Records.{Record, records_of}
use Rattle.sheet.specs.Verdict.{Check, check, Verdict, first_of}
use Rattle.std.specs.Prelude.{Err}
use Rattle.checks.specs.Numbers.{refusal_number, refused_by}
use Rattle.checks.specs.declared.refusals.Refused.{Refused}
use Rattle.sheet.proofs.First.{accepted_passes}
use Rattle.attribution.specs.Governing.{governed}
use Rattle.attribution.specs.Reckoning as attribution
use Rattle.attribution.specs.Verdict.{reckoner_checks}
use Rattle.report.specs.Report.{report_of}
use Rattle.report.specs.Spelling.{report_bytes}
use Rattle.report.specs.Outcome.{sheet_report, space_too_short, all_checks, verdict, outcome_of, Outcome, outcome, printed, carbon}
use Rattle.report.proofs.Longest.{report_most, never_short}
use Rattle.reckoner.specs.Reckoned.{FiguresOf, Figured}
use Rattle.reckoning.specs.declared.Reckoning.{Reckoning}
use Rattle.sheet.proofs.First.{first_rest, first_here}
use Rattle.answers.specs.Given.{LONGEST, answer_of, gives}
use Rattle.answers.specs.Within.{outcome_within}
use Rattle.rows.specs.Held.{CanBeWritten, row_held, rows_held, reckoning_held, bytes_held}

-- ---- the figures of an accepted sheet

module _ (rs : List Record) (r : Reckoning) (f : FiguresOf rs r) where
  pub can_be_written : CanBeWritten r
  can_be_written = record {
    few = omega (arith, f.few);
    made = λ k l m. let e = f.outputs.at k l m in let h = f.made k l m in omega arith;
    small = λ k l m. let e = f.outputs.at k l m in let h = f.outputs_small k in omega arith;
    sign = f.entered_small;
  }

  row_is : (k : ℕ) → 1 ≤ k → k ≤ r.count → row_held r k ≡ attribution.row_of rs k
  unfolding row_held
  row_is k l m =
      rw (
        f.outputs.at k l m,
        f.directs.at k l m,
        f.indirects.at k l m,
        f.raiseds.at k l m,
        f.direct_pools.at k l m,
        f.indirect_pools.at k l m,
        f.direct_lefts.at k l m,
        f.indirect_lefts.at k l m,
      )

  rows_are : (k : ℕ) → k ≤ r.count → rows_held r k ≡ attribution.rows_to rs k
  unfolding rows_held attribution.rows_to
  rows_are zero h = refl
  rows_are (suc k) h =
      ap₂ (λ (a : List attribution.Row) (b : attribution.Row). a ++ (b ∷ []))
      (rows_are k (let p : k ≤ r.count = omega arith in p))
      (row_is (suc k) (let p : 1 ≤ suc k = omega arith in p) h)

  reckoning_is : reckoning_held r ≡ attribution.reckoning rs
  unfolding reckoning_held attribution.reckoning
  reckoning_is =
      rw (rows_are r.count (le_refl r.count), f.counted, f.left_is, f.entered_is, f.raised_is, f.uncredited_is)

-- ---- 16 is not given to a space of LONGEST bytes

pub long_enough : (sheet space : List ℕ) (given : Outcome) → given ≡ outcome limits sheet space → LONGEST ≤ length space → given.number ≡ 16 → ⊥
long_enough sheet space given e h n = never_short limits (omega arith) sheet space h (sym (ap (λ (o : Outcome). o.number) e) ∙ n)

-- ---- number, line, length and every byte

module _ (sheet space : List ℕ) where
  abbrev last : List Check
  last = check 16 0 (space_too_short sheet space) ∷ []

  -- a row before 16 applies
  module _ (e : Refused) (v : first_of (reckoner_checks limits sheet) ≡ refused_by e) where
    pub printed_refusal : carbon limits sheet ≡ printed (refused_by e) []
    unfolding carbon
    printed_refusal = ap (λ (v : Verdict). printed v (sheet_report sheet)) v

    pub refused_outcome : gives (answer_of (Err e)) space ≡ outcome limits sheet space
    unfolding outcome verdict all_checks
    refused_outcome =
        let w = first_here (reckoner_checks limits sheet) last (refusal_number e.refusal) e.line v in
        sym (ap (λ (v : Verdict). outcome_of v (sheet_report sheet) space) w)

    pub refused_enough : LONGEST ≤ length space → refusal_number e.refusal ≡ 16 → ⊥
    refused_enough = long_enough sheet space _ refused_outcome

  -- none does
  module _ (r : Reckoning) (h : Figured sheet r) where
    pub bytes_are : bytes_held r ≡ sheet_report sheet
    unfolding bytes_held sheet_report
    bytes_are = ap (λ (q : attribution.Reckoning). report_bytes (report_of q)) (reckoning_is (governed (records_of sheet)) r h.figured)

    pub report_short : length (bytes_held r) ≤ LONGEST
    report_short =
        omega (arith, ap length bytes_are, report_most limits (omega arith) sheet (accepted_passes (reckoner_checks limits sheet) h.passed))

    pub printed_report : carbon limits sheet ≡ bytes_held r
    unfolding carbon
    printed_report = ap (λ (v : Verdict). printed v (sheet_report sheet)) h.passed ∙ sym bytes_are

    passes : first_of (reckoner_checks limits sheet ++ last) ≡ first_of last
    passes = first_rest (reckoner_checks limits sheet) last h.passed

    -- row 16 is left to judge
    pub accepted_within : outcome_within (bytes_held r) space ≡ outcome limits sheet space
    unfolding outcome verdict all_checks
    accepted_within =
        ap (λ (report : List ℕ). outcome_within report space) bytes_are ∙ sym (ap (λ (v : Verdict). outcome_of v (sheet_report sheet) space) passes)

    -- and does not apply where there is room for every report
    written_within : {after : List ℕ} {n : ℕ} → length (bytes_held r) ≤ length space → Put space 0 (bytes_held r) after n
        → record { number = 0; line = 0; length = n; space = after } ≡ outcome_within (bytes_held r) space
    unfolding first_of
    written_within fits w = rw (le-ltb (length space) (length (bytes_held r)) fits, start_place w, start_bytes w)

    pub accepted_written : {after : List ℕ} {n : ℕ} → LONGEST ≤ length space → Put space 0 (bytes_held r) after n
        → record { number = 0; line = 0; length = n; space = after } ≡ outcome limits sheet space
    accepted_written room w = written_within (omega (arith, report_short, room)) w ∙ accepted_within
