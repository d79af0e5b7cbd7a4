-- For the reader. Document 01, "Goods and precursors" and "The report": the figures of each process, and the four totals.
use Rattle.std.specs.Prelude.{cond, ◌||◌, List, [], ◌∷◌, ◌++◌, ℕ, zero, suc, ◌+◌, ◌-◌, eqb, ℤ, pos, ◌+ℤ◌, ◌-ℤ◌}
use Rattle.lines.specs.Records.{Record, number_at, records_of}
use Rattle.sheet.specs.Refusals.{sum_of, from, to, output_in}
use Rattle.sheet.specs.Kinds.{is}
use Rattle.sheet.specs.declared.Kind.TheVariants.{Process, OwnGood}
use Rattle.goods.specs.Sums.{sum_to, only_at}
use Rattle.attribution.specs.Sums.{sum_of_ℤ}
use Rattle.entries.specs.Weighed.{stream_of, charge_of, credit_of, bought_direct_of, bought_indirect_of}
use Rattle.attribution.specs.Attribution.{heat_in, heat_out, electricity_in, electricity_out, bought_direct, bought_indirect, raised, direct, indirect}
use Rattle.attribution.specs.Governing.{governed}
use Rattle.goods.specs.Goods.{pool_of, left_of}

-- `G,from,to,kg`
unfoldable pub kilos_of : Record → ℕ
kilos_of r = cond (is OwnGood r) (number_at r 2) 0

module _ (records : List Record) where
  -- how many processes the works has
  unfoldable pub process_count : ℕ
  process_count = sum_of (λ r. cond (is Process r) 1 0) records

  -- the output of process k
  unfoldable pub output : (k : ℕ) → ℕ
  output k = sum_of (output_in k) records

  -- the kilograms that j takes of the good of i
  unfoldable pub kilos_between : (i j : ℕ) → ℕ
  kilos_between i j = sum_of (λ r. only_at i (from r) (only_at j (to r) (kilos_of r))) records

  -- the direct pool is the direct attribution, the bought direct grams and the direct portions of own goods; the indirect pool likewise
  -- (CBAM annex III, equation 57)
  unfoldable pub direct_pool : (k : ℕ) → ℕ
  direct_pool k = pool_of process_count output kilos_between (λ i. direct records i + bought_direct records i) k

  unfoldable pub indirect_pool : (k : ℕ) → ℕ
  indirect_pool k = pool_of process_count output kilos_between (λ i. indirect records i + bought_indirect records i) k

  unfoldable pub direct_left : (k : ℕ) → ℕ
  direct_left k = left_of process_count output kilos_between (λ i. direct records i + bought_direct records i) k

  unfoldable pub indirect_left : (k : ℕ) → ℕ
  indirect_left k = left_of process_count output kilos_between (λ i. indirect records i + bought_indirect records i) k

  -- ---- the four totals

  -- every process's direct left and indirect left, added
  unfoldable pub total_left : ℕ
  total_left = sum_to process_count direct_left + sum_to process_count indirect_left

  -- all streams (method 4 minus) + H, W charges and E from 0 + both figures of B, weighed, − H, W credits and E to 0
  unfoldable pub entered : ℤ
  entered =
      sum_of_ℤ stream_of records
      +ℤ pos (heat_out records 0) +ℤ pos (sum_of (λ r. only_at 0 (from r) (charge_of r)) records) +ℤ pos (electricity_out records 0)
      +ℤ pos (sum_of bought_direct_of records) +ℤ pos (sum_of bought_indirect_of records)
      -ℤ pos (heat_in records 0) -ℤ pos (sum_of (λ r. only_at 0 (to r) (credit_of r)) records) -ℤ pos (electricity_in records 0)

  -- every process's raised, added
  unfoldable pub total_raised : ℕ
  total_raised = sum_to process_count (raised records)

  -- charge minus credit over W lines between two processes
  unfoldable pub uncredited : ℕ
  uncredited = sum_of (λ r. cond (eqb 0 (from r) || eqb 0 (to r)) 0 (charge_of r - credit_of r)) records

-- ---- the figures as values

pub record Row : Type 0 where
  pub process : ℕ
  pub output : ℕ
  pub direct : ℕ
  pub indirect : ℕ
  pub raised : ℕ
  pub direct_pool : ℕ
  pub indirect_pool : ℕ
  pub direct_left : ℕ
  pub indirect_left : ℕ

pub record Totals : Type 0 where
  pub left : ℕ
  pub entered : ℤ
  pub raised : ℕ
  pub uncredited : ℕ

pub record Reckoning : Type 0 where
  pub rows : List Row
  pub totals : Totals

module _ (records : List Record) where
  abbrev pub row_of : (k : ℕ) → Row
  row_of k = record {
    process = k;
    output = output records k;
    direct = direct records k;
    indirect = indirect records k;
    raised = raised records k;
    direct_pool = direct_pool records k;
    indirect_pool = indirect_pool records k;
    direct_left = direct_left records k;
    indirect_left = indirect_left records k;
  }

  -- the rows of processes 1 .. k
  unfoldable pub rows_to : (k : ℕ) → List Row
  rows_to zero = []
  rows_to (suc k) = rows_to k ++ (row_of (suc k) ∷ [])

  unfoldable pub reckoning : Reckoning
  reckoning = record {
    rows = rows_to (process_count records);
    totals = record {
      left = total_left records;
      entered = entered records;
      raised = total_raised records;
      uncredited = uncredited records;
    };
  }

-- the totals of a sheet: those of its records with the governing figures
abbrev pub totals_of : (sheet : List ℕ) → Totals
totals_of sheet = (reckoning (governed (records_of sheet))).totals
