-- For the code only: the figures of all processes once every line is booked, over the arrays that the code holds. Reckoner's laws show that
-- they are document 01's.
use Rattle.std.specs.Prelude.{◌≡◌, List, ℕ, ◌+◌, ◌≤◌, ◌<◌, ℤ}
use Rattle.quantity.specs.Limits.{whole_grams}
use Rattle.goods.specs.Sums.{sum_to}
use Rattle.goods.specs.ByProcess.{PROCESSES, figures, Column}
use Rattle.goods.specs.Settling.{pairs, Settleable, pool_held, left_held}
use Rattle.ledger.specs.Columns.{BEFORE_ENTRY, SizeAtMost, signed_figures}
use Rattle.ledger.specs.Raising.{raised_to_zero, grams_added}
use Rattle.ledger.specs.declared.Ledger.{Ledger}
use Rattle.reckoning.specs.declared.Closing.{Closing}

-- ---- one process

abbrev balance_held : Ledger → (k : ℕ) → ℤ
balance_held l k = signed_figures l.balances.0 k

-- direct attribution
abbrev pub direct_held : Ledger → (k : ℕ) → ℕ
direct_held l k = raised_to_zero (balance_held l k)

-- indirect attribution
abbrev pub indirect_held : Ledger → (k : ℕ) → ℕ
indirect_held l k = figures l.indirect.0 k

abbrev pub raised_held : Ledger → (k : ℕ) → ℕ
raised_held l k = grams_added (balance_held l k)

-- attribution and bought grams
abbrev pub own_direct : Ledger → (k : ℕ) → ℕ
own_direct l k = direct_held l k + figures l.bought_direct.0 k

abbrev pub own_indirect : Ledger → (k : ℕ) → ℕ
own_indirect l k = indirect_held l k + figures l.bought_indirect.0 k

-- ---- the works

-- all lines are booked, and the works can be closed: what closing asks of the ledger, the outputs and the kilograms of own goods
pub record Ready (l : Ledger) (outputs kilos : List ℕ) (count : ℕ) : Type 0 where
  pub few : count ≤ PROCESSES
  pub balances : SizeAtMost BEFORE_ENTRY l.balances.0
  pub direct : Settleable count (figures outputs) (pairs kilos) (own_direct l)
  pub indirect : Settleable count (figures outputs) (pairs kilos) (own_indirect l)
  pub own : sum_to count (own_direct l) + sum_to count (own_indirect l) < whole_grams
  pub raised : sum_to count (raised_held l) < whole_grams
  -- of processes that the works does not have
  pub none_beyond : (k : ℕ) → count < k → indirect_held l k ≡ 0

pub record Closed (l : Ledger) (outputs kilos : List ℕ) (count : ℕ) (r : Closing) : Type 0 where
  pub direct : Column count (direct_held l) r.attributed.direct.0
  pub indirect : Column count (indirect_held l) r.attributed.indirect.0
  pub raised : Column count (raised_held l) r.raised.0
  pub direct_pools : Column count (pool_held outputs kilos count (own_direct l)) r.pools.direct.0
  pub indirect_pools : Column count (pool_held outputs kilos count (own_indirect l)) r.pools.indirect.0
  pub direct_lefts : Column count (left_held outputs kilos count (own_direct l)) r.lefts.direct.0
  pub indirect_lefts : Column count (left_held outputs kilos count (own_indirect l)) r.lefts.indirect.0
  pub left : r.left.0 ≡ sum_to count (left_held outputs kilos count (own_direct l)) + sum_to count (left_held outputs kilos count (own_indirect l))
  pub left_small : r.left.0 < whole_grams
  pub total_raised : r.total_raised.0 ≡ sum_to count (raised_held l)
