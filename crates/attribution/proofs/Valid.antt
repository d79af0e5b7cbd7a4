-- What an accepted sheet gives the reckoner: every line is valid, and no more is taken of a good than its output. Assumes nothing.
use mathlib.Core.Path.{◌≡◌, refl}
use mathlib.Core.Logic.{◌⊎◌, inl, inr}
use mathlib.Core.Bool.{Bool, true, false, cond, ◌&&◌, ◌||◌, not}
use mathlib.Core.List.{List, [], ◌∷◌, map}
use Prim.Native.Nat.{ℕ, suc, ◌+◌, ◌≤◌}
use native.Mathlib.Omega.{arith}
use lib.Dec.{eqb, ltb}
use lib.ListN.{length}
use borrow.Author.Tests.{eq-eqb, eqb-true, ltb-false, not-false}
use Rattle.decimal.proofs.Bools.{never, or_neither, or_either}
use Rattle.quantity.specs.Limits.{Limits}
use Rattle.lines.specs.Lines.{Line, lines_of}
use Rattle.lines.specs.Records.{Record, record_of, records_of, number_at}
use Rattle.sheet.specs.Kinds.{kind, is}
use Rattle.sheet.specs.declared.Kind.TheVariants.{Process, OwnGood}
use Rattle.sheet.specs.Refusals.{any_of, sum_of, process, from, to, output_in, taken_in, has_process, process_not_next, output_exceeded}
use Rattle.sheet.specs.Verdict.{sheet_checks, All, Passes}
use Rattle.sheet.proofs.Passed.{PassedLine, PassedLines, sheet_passed}
use Rattle.goods.specs.Sums.{sum_to, only_at}
use Rattle.attribution.proofs.EveryKind.{Valid, Accepted}
use Rattle.attribution.specs.Reckoning.{kilos_of, process_count, output, kilos_between}
use Rattle.goods.proofs.Sums.{sum_none, at_sum_le}
use Rattle.attribution.proofs.Sums.{sum_swap, of_le}
use Rattle.attribution.proofs.EveryKind.{valid_of}

-- ---- processes are numbered 1 .. process_count

-- every process with a P line above is numbered by the count of P lines
abbrev pub Numbered : (above : List Record) → Type 0
Numbered above = (p : ℕ) → any_of (λ r. is Process r && eqb p (process r)) above ≡ true → p ≤ process_count above

all_processes : (above : List Record) → any_of (λ q. not (is Process q)) above ≡ false → process_count above ≡ length above
unfolding process_count any_of sum_of
all_processes [] h = refl
all_processes (r ∷ above) h =
    let q = or_neither (not (is Process r)) (any_of (λ q. not (is Process q)) above) h in
    rw (not-false (is Process r) q.0) (omega (arith, all_processes above q.1))

numbered_next : (above : List Record) (r : Record) → process_not_next above r ≡ false → Numbered above → Numbered (r ∷ above)
unfolding any_of process_count sum_of
numbered_next above r next num p h = go (is Process r) next h
  where
    go : (b : Bool) → (b && (not (eqb (process r) (suc (length above))) || any_of (λ q. not (is Process q)) above)) ≡ false
        → ((b && eqb p (process r)) || any_of (λ q. is Process q && eqb p (process q)) above) ≡ true → p ≤ cond b 1 0 + process_count above
    go false n h = omega (arith, num p h)
    go true n h =
        let q = or_neither (not (eqb (process r) (suc (length above)))) (any_of (λ q. not (is Process q)) above) n in
        let here = eqb-true (process r) (suc (length above)) (not-false (eqb (process r) (suc (length above))) q.0) in
        let all = all_processes above q.1 in
        either (or_either (eqb p (process r)) (any_of (λ q. is Process q && eqb p (process q)) above) h) here all
      where
        either : (eqb p (process r) ≡ true) ⊎ (any_of (λ q. is Process q && eqb p (process q)) above ≡ true)
            → process r ≡ suc (length above) → process_count above ≡ length above → p ≤ 1 + process_count above
        either (inl e) here all = omega (arith, eqb-true p (process r) e)
        either (inr e) here all = omega (arith, num p e)

-- ---- every line is valid

module _ (limits : Limits) (above : List Record) (num : Numbered above) (n : ℕ) (few : process_count above ≤ n) where
  named_in : (p : ℕ) → not (has_process above p) ≡ false → p ≤ n
  named_in p h = go (or_either (eqb p 0) (any_of (λ r. is Process r && eqb p (process r)) above) (not-false (has_process above p) h))
    where
      go : (eqb p 0 ≡ true) ⊎ (any_of (λ r. is Process r && eqb p (process r)) above ≡ true) → p ≤ n
      go (inl e) = omega (arith, eqb-true p 0 e)
      go (inr e) = omega (arith, num p e)

  line_valid : (l : Line) → PassedLine limits above l → process_count (record_of l ∷ above) ≤ n → Valid n (record_of l)
  unfolding any_of
  line_valid l f few' =
      valid_of limits above n named_in (kind (record_of l)) (record_of l) refl f.ranges
      (λ p. omega (arith, numbered_next above (record_of l) f.next num (process (record_of l)) (rw (p, eq-eqb (process (record_of l)) _ refl)), few'))
      f.named f.ends

lines_valid : (limits : Limits) (above : List Record) (ls : List Line) (n : ℕ) → Numbered above
    → process_count above + process_count (map record_of ls) ≤ n → PassedLines limits above ls → All (Valid n) (map record_of ls)
unfolding process_count sum_of
lines_valid limits above [] n num few passed = tt
lines_valid limits above (l ∷ ls) n num few passed = (
  line_valid limits above num n (omega arith) l passed.0 (omega arith),
  lines_valid limits (record_of l ∷ above) ls n (numbered_next above (record_of l) passed.0.next num) (omega arith) passed.1,
)

-- ---- no more is taken of a good than its output

abbrev Within : (above : List Record) → Type 0
Within above = (i : ℕ) → sum_of (taken_in i) above ≤ sum_of (output_in i) above

within_next : (above : List Record) (r : Record) → output_exceeded above r ≡ false → Within above → Within (r ∷ above)
unfolding sum_of
within_next above r h w i = go (is OwnGood r) h (eqb i (from r)) refl
  where
    go : (b : Bool) → (b && ltb (sum_of (output_in (from r)) above) (sum_of (taken_in (from r)) above + number_at r 2)) ≡ false
        → (c : Bool) → eqb i (from r) ≡ c → cond (b && c) (number_at r 2) 0 + sum_of (taken_in i) above ≤ output_in i r + sum_of (output_in i) above
    go false h c e = omega (arith, w i)
    go true h false e = omega (arith, w i)
    go true h true e =
        let q = eqb-true i (from r) e in
        let l = ltb-false (sum_of (output_in (from r)) above) (sum_of (taken_in (from r)) above + number_at r 2) h in
        rw q (omega arith)

lines_within : (limits : Limits) (above : List Record) (ls : List Line) → Within above → PassedLines limits above ls
    → (i : ℕ) → sum_of (taken_in i) above + sum_of (taken_in i) (map record_of ls) ≤ sum_of (output_in i) above + sum_of (output_in i) (map record_of ls)
unfolding sum_of
lines_within limits above [] w passed i = omega (arith, w i)
lines_within limits above (l ∷ ls) w passed i =
    omega (arith, lines_within limits (record_of l ∷ above) ls (within_next above (record_of l) passed.0.within w) passed.1 i)

-- the kilograms that 1 .. n take of a good are taken by its G lines
taken_of : (n i : ℕ) (r : Record) → sum_to n (λ j. only_at i (from r) (only_at j (to r) (kilos_of r))) ≤ taken_in i r
unfolding only_at kilos_of
taken_of n i r = go (eqb i (from r)) (is OwnGood r)
  where
    go : (b c : Bool) → sum_to n (λ j. cond b (only_at j (to r) (cond c (number_at r 2) 0)) 0) ≤ cond (c && b) (number_at r 2) 0
    go false true = omega (arith, sum_none n)
    go false false = omega (arith, sum_none n)
    go true true = at_sum_le n (to r) (number_at r 2)
    go true false = at_sum_le n (to r) 0

kilos_taken : (n i : ℕ) (rs : List Record) → sum_to n (kilos_between rs i) ≤ sum_of (taken_in i) rs
unfolding kilos_between
kilos_taken n i rs =
    rw (sum_swap n (λ j r. only_at i (from r) (only_at j (to r) (kilos_of r))) rs)
    (of_le _ _ rs (λ r. taken_of n i r))

-- ---- what the reckoner may rely on

none_numbered : Numbered []
unfolding any_of
none_numbered p h = absurd (never h)

pub sheet_accepted : (limits : Limits) (sheet : List ℕ) → All Passes (sheet_checks limits sheet) → Accepted (records_of sheet)
unfolding records_of output sum_of process_count
sheet_accepted limits sheet passed =
    let f = sheet_passed limits sheet passed in
    record {
      valid = lines_valid limits [] (lines_of sheet) (process_count (map record_of (lines_of sheet))) none_numbered (omega arith) f.lines;
      within = λ i. omega (
        arith,
        kilos_taken (process_count (map record_of (lines_of sheet))) i (map record_of (lines_of sheet)),
        lines_within limits [] (lines_of sheet) (λ j. omega arith) f.lines i,
      );
    }
