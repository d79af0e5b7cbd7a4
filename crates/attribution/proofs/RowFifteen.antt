-- ROW 15 NEVER APPLIES: where as many lines as are allowed, each of at most `line_grams`, stay below 2^63, so does every whole-gram figure of a
-- sheet by which no row 1 to 14, 17 or 18 applies. Stated over the definitions alone. Assumes nothing.
use mathlib.Core.Path.{◌≡◌, refl, sym, ap, ◌∙◌}
use mathlib.Core.Bool.{false}
use mathlib.Core.List.{List, [], ◌∷◌, ◌++◌, map}
use Prim.Native.Nat.{ℕ, zero, suc, ◌+◌, ◌*◌, ◌≤◌, ◌<◌}
use native.Mathlib.Nat.{le_refl}
use native.Mathlib.Omega.{arith}
use borrow.Author.Tests.{lt-leb, ltb-false}
use lib.IntN.{nat_abs}
use lib.ListN.{length, length-map}
use Rattle.quantity.specs.Limits.{Limits, limits, whole_grams, line_grams}
use Rattle.lines.specs.Lines.{Line, lines_of}
use Rattle.lines.specs.Records.{Record, record_of, records_of}
use Rattle.sheet.specs.Refusals.{sum_of}
use Rattle.sheet.specs.Verdict.{check, Verdict, accepted, refused, first_of, sheet_checks, All, Passes}
use Rattle.sheet.proofs.First.{all_join, never_by, accepted_passes, first_rest, first_here}
use Rattle.sheet.proofs.Numbers.{sheet_another}
use Rattle.sheet.proofs.Passed.{PassedLines, sheet_passed}
use Rattle.goods.specs.Sums.{sum_to}
use Rattle.goods.specs.Goods.{pool_of, left_of}
use Rattle.goods.proofs.Sums.{sum_mono, sum_suc}
use Rattle.goods.proofs.Pools.{pool_le, left_is, left_sum}
use Rattle.ledger.specs.Ledger.{SmallGrams}
use Rattle.entries.specs.Entries.{entry}
use Rattle.attribution.specs.Attribution.{direct, indirect, raised, bought_direct, bought_indirect}
use Rattle.attribution.specs.Reckoning.{Row, process_count, output, kilos_between, direct_pool, indirect_pool, direct_left, indirect_left}
use Rattle.attribution.specs.Reckoning.{total_left, entered, total_raised, uncredited, row_of, rows_to, reckoning}
use Rattle.attribution.specs.Governing.{as_bought, governed}
use Rattle.attribution.proofs.EveryKind.{Accepted}
use Rattle.attribution.specs.Verdict.{row_grams, rows_grams, any_from, figure_too_large, reckoner_checks}
use Rattle.attribution.proofs.Differences.{diff_size}
use Rattle.attribution.proofs.Entries.{figures, entered_is, forward}
use Rattle.attribution.proofs.Governing.{sheet_governed}
use Rattle.attribution.proofs.Stated.{StatedWell, sheet_stated, bought_grams}
use Rattle.attribution.proofs.Bounds.{into_processes, out_of_processes, into_pools_le, raised_le, sum_within}

-- ---- the sums of all lines

pub record SumsBelow (rs : List Record) : Type 0 where
  -- what goes into all pools
  pub into :
      sum_to (process_count rs) (λ k. direct rs k + bought_direct rs k) + sum_to (process_count rs) (λ k. indirect rs k + bought_indirect rs k)
      < whole_grams
  pub raised : total_raised rs < whole_grams
  pub entered : nat_abs (entered rs) < whole_grams
  pub uncredited : uncredited rs < whole_grams

module _ (rs : List Record) (small : All (λ r. SmallGrams (entry r)) rs) (room : length rs * line_grams < whole_grams) where
  sum_below : (f : Record → ℕ) → ((r : Record) → SmallGrams (entry r) → f r ≤ line_grams) → sum_of f rs < whole_grams
  sum_below f h = omega (arith, sum_within f h rs small, room)

  sums_below : SumsBelow rs
  sums_below = record {
    into = omega (arith, into_pools_le (process_count rs) rs, sum_below into_processes (λ r s. s.into));
    raised = omega (arith, raised_le rs, sum_below out_of_processes (λ r s. omega (arith, s.moved)));
    entered = rw (entered_is rs) (diff_size _ _ _ (sum_below _ (λ r s. s.entering)) (sum_below _ (λ r s. s.leaving)));
    uncredited = omega (arith, (figures 0 rs).uncredited, sum_below (λ r. (entry r).uncredited.0) (λ r s. s.uncredited));
  }

-- ---- figures of a process: each is at most a sum over all of them

sum_at : (n : ℕ) (f : ℕ → ℕ) (k : ℕ) → 1 ≤ k → k ≤ n → f k ≤ sum_to n f
sum_at n f zero l h = absurd (omega arith)
sum_at n f (suc k) l h = omega (arith, sum_mono (suc k) n f h, sum_suc k f)

pub record RowBelow (rs : List Record) (k : ℕ) : Type 0 where
  pub directs : direct rs k < whole_grams
  pub indirects : indirect rs k < whole_grams
  pub raiseds : raised rs k < whole_grams
  pub direct_pools : direct_pool rs k < whole_grams
  pub indirect_pools : indirect_pool rs k < whole_grams
  pub direct_lefts : direct_left rs k < whole_grams
  pub indirect_lefts : indirect_left rs k < whole_grams

module _ (rs : List Record) (ok : Accepted rs) where
  abbrev n : ℕ
  n = process_count rs

  pool_below : (own : ℕ → ℕ) → sum_to n own < whole_grams → (k : ℕ) → 1 ≤ k → k ≤ n → pool_of n (output rs) (kilos_between rs) own k < whole_grams
  pool_below own small zero l h = absurd (omega arith)
  pool_below own small (suc k) l h =
      omega (
        arith,
        pool_le n (output rs) (kilos_between rs) own (λ i j a b c. forward n rs ok.valid i j b) (λ i a b. ok.within i) k h,
        sum_mono (suc k) n own h,
      )

  left_below : (own : ℕ → ℕ) → sum_to n own < whole_grams → (k : ℕ) → 1 ≤ k → k ≤ n → left_of n (output rs) (kilos_between rs) own k < whole_grams
  left_below own small k l h = omega (arith, left_is n (output rs) (kilos_between rs) own k, pool_below own small k l h)

  module _ (sums : SumsBelow rs) where
    pub row_below : (k : ℕ) → 1 ≤ k → k ≤ n → RowBelow rs k
    unfolding direct_pool indirect_pool direct_left indirect_left total_raised
    row_below k l h = record {
      directs = omega (arith, sum_at n (λ i. direct rs i + bought_direct rs i) k l h, sums.into);
      indirects = omega (arith, sum_at n (λ i. indirect rs i + bought_indirect rs i) k l h, sums.into);
      raiseds = omega (arith, sum_at n (raised rs) k l h, sums.raised);
      direct_pools = pool_below _ (omega (arith, sums.into)) k l h;
      indirect_pools = pool_below _ (omega (arith, sums.into)) k l h;
      direct_lefts = left_below _ (omega (arith, sums.into)) k l h;
      indirect_lefts = left_below _ (omega (arith, sums.into)) k l h;
    }

    pub left_below_limit : total_left rs < whole_grams
    unfolding total_left direct_left indirect_left
    left_below_limit =
        omega (
          arith,
          left_sum n (output rs) (kilos_between rs) (λ k. direct rs k + bought_direct rs k) (forward n rs ok.valid) (λ i a b. ok.within i),
          left_sum n (output rs) (kilos_between rs) (λ k. indirect rs k + bought_indirect rs k) (forward n rs ok.valid) (λ i a b. ok.within i),
          sums.into,
        )

-- ---- row 15

abbrev Below : ℕ → Type 0
Below g = g < whole_grams

none_from : (gs : List ℕ) → All Below gs → any_from whole_grams gs ≡ false
unfolding any_from
none_from [] h = refl
none_from (g ∷ gs) h = rw (lt-leb whole_grams g h.0) (none_from gs h.1)

rows_join : (a : List Row) (r : Row) → rows_grams (a ++ (r ∷ [])) ≡ rows_grams a ++ row_grams r
unfolding rows_grams
rows_join [] r = refl
rows_join (q ∷ a) r = ap (λ (l : List ℕ). row_grams q ++ l) (rows_join a r)

module _ (rs : List Record) (ok : Accepted rs) (sums : SumsBelow rs) where
  rows_below : (k : ℕ) → k ≤ process_count rs → All Below (rows_grams (rows_to rs k))
  unfolding rows_to rows_grams
  rows_below zero h = tt
  rows_below (suc k) h =
      let b = row_below rs ok sums (suc k) (omega arith) h in
      rw (rows_join (rows_to rs k) (row_of rs (suc k)))
      (all_join Below (rows_grams (rows_to rs k)) _ (rows_below k (omega arith))
      (b.directs, (b.indirects, (b.raiseds, (b.direct_pools, (b.indirect_pools, (b.direct_lefts, (b.indirect_lefts, tt))))))))

  none_too_large : figure_too_large (reckoning rs) ≡ false
  unfolding figure_too_large reckoning
  none_too_large =
      none_from _ (all_join Below (rows_grams (rows_to rs (process_count rs))) _ (rows_below (process_count rs) (le_refl (process_count rs)))
      (left_below_limit rs ok sums, (sums.entered, (sums.raised, (sums.uncredited, tt)))))

-- ---- of every sheet

module _ (limits : Limits) where
  pub lines_few : (above : List Record) (ls : List Line) → length above ≤ limits.lines → PassedLines limits above ls
      → length above + length (map record_of ls) ≤ limits.lines
  lines_few above [] h p = omega arith
  lines_few above (l ∷ ls) h p =
      omega (arith, lines_few (record_of l ∷ above) ls (ltb-false limits.lines (suc (length above)) p.0.few) p.1)

  lines_small : (rs : List Record) → StatedWell rs → (above : List Record) (ls : List Line) → PassedLines limits above ls
      → All (λ r. SmallGrams (entry r)) (map (as_bought rs) (map record_of ls))
  lines_small rs s above [] p = tt
  lines_small rs s above (l ∷ ls) p = (bought_grams rs s (record_of l) limits p.0.ranges, lines_small rs s (record_of l ∷ above) ls p.1)

  module _ (room : limits.lines * line_grams < whole_grams) (sheet : List ℕ) where
    module _ (passed : All Passes (sheet_checks limits sheet)) where
      pub sheet_sums : SumsBelow (governed (records_of sheet))
      unfolding records_of governed
      sheet_sums =
          let rs = records_of sheet in
          let lines = (sheet_passed limits sheet passed).lines in
          let few = lines_few [] (lines_of sheet) (omega arith) lines in
          sums_below (map (as_bought rs) rs) (lines_small rs (sheet_stated limits sheet passed) [] (lines_of sheet) lines)
          (omega (arith, length-map rs (as_bought rs)))

      -- NO FIGURE IS 2^63 OR MORE
      pub no_figure_too_large : figure_too_large (reckoning (governed (records_of sheet))) ≡ false
      no_figure_too_large = none_too_large (governed (records_of sheet)) (sheet_governed limits sheet passed) sheet_sums

    -- the verdict with row 15 is that without it
    pub never_fifteen : first_of (reckoner_checks limits sheet) ≡ first_of (sheet_checks limits sheet)
    unfolding reckoner_checks first_of
    never_fifteen = go (first_of (sheet_checks limits sheet)) refl
      where
        go : (v : Verdict) → first_of (sheet_checks limits sheet) ≡ v → first_of (reckoner_checks limits sheet) ≡ v
        go accepted e =
            first_rest (sheet_checks limits sheet) (check 15 0 (figure_too_large (reckoning (governed (records_of sheet)))) ∷ []) e
            ∙ rw (no_figure_too_large (accepted_passes (sheet_checks limits sheet) e))
        go (refused number line) e = first_here (sheet_checks limits sheet) _ number line e

-- with document 01's limits: 4,096 lines
pub fifteen_never_given : (sheet : List ℕ) → first_of (reckoner_checks limits sheet) ≡ first_of (sheet_checks limits sheet)
fifteen_never_given = never_fifteen limits (omega arith)

-- no sheet is refused by row 15
pub no_fifteen : (sheet : List ℕ) (line : ℕ) → first_of (reckoner_checks limits sheet) ≡ refused 15 line → ⊥
no_fifteen sheet line r =
    never_by 15 (sheet_checks limits sheet) (sheet_another 15 (omega arith, omega arith) limits sheet) line (sym (fifteen_never_given sheet) ∙ r)
