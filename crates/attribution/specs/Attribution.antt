-- For the reader. Document 01, "Attribution": balance, raised, direct and indirect attribution.
use Rattle.std.specs.Prelude.{cond, List, ℕ, eqb, ℤ, pos, ◌+ℤ◌, ◌-ℤ◌}
use Rattle.lines.specs.Records.{Record}
use Rattle.ledger.specs.Raising.{raised_to_zero, grams_added}
use Rattle.entries.specs.Weighed.{stream_of, heat_of, charge_of, credit_of, electricity_of, bought_direct_of, bought_indirect_of}
use Rattle.sheet.specs.Refusals.{sum_of, process, from, to}
use Rattle.goods.specs.Sums.{only_at}
use Rattle.attribution.specs.Sums.{sum_of_ℤ}

-- ---- the grams of process k over all lines

module _ (records : List Record) (k : ℕ) where
  unfoldable pub streams : ℤ
  streams = sum_of_ℤ (λ r. cond (eqb k (process r)) (stream_of r) (pos 0)) records

  unfoldable pub heat_in : ℕ
  heat_in = sum_of (λ r. only_at k (to r) (heat_of r)) records

  unfoldable pub heat_out : ℕ
  heat_out = sum_of (λ r. only_at k (from r) (heat_of r)) records

  unfoldable pub gas_charged : ℕ
  gas_charged = sum_of (λ r. only_at k (to r) (charge_of r)) records

  unfoldable pub gas_credited : ℕ
  gas_credited = sum_of (λ r. only_at k (from r) (credit_of r)) records

  unfoldable pub electricity_in : ℕ
  electricity_in = sum_of (λ r. only_at k (to r) (electricity_of r)) records

  unfoldable pub electricity_out : ℕ
  electricity_out = sum_of (λ r. only_at k (from r) (electricity_of r)) records

  unfoldable pub bought_direct : ℕ
  bought_direct = sum_of (λ r. only_at k (process r) (bought_direct_of r)) records

  unfoldable pub bought_indirect : ℕ
  bought_indirect = sum_of (λ r. only_at k (process r) (bought_indirect_of r)) records

-- ---- balance, raised, direct and indirect attribution

module _ (records : List Record) (k : ℕ) where
  -- its streams + heat in − heat out + gas charged − gas credited − power out (CBAM annex III, equation 48)
  unfoldable pub balance : ℤ
  balance =
      streams records k +ℤ pos (heat_in records k) -ℤ pos (heat_out records k)
      +ℤ pos (gas_charged records k) -ℤ pos (gas_credited records k) -ℤ pos (electricity_out records k)

  -- raised
  unfoldable pub raised : ℕ
  raised = grams_added balance

  -- direct attribution: the outcome
  unfoldable pub direct : ℕ
  direct = raised_to_zero balance

  -- indirect attribution: power in (equation 49)
  unfoldable pub indirect : ℕ
  indirect = electricity_in records k
