-- THE BOUND: what goes into all pools is at most what the lines put into processes, and what is raised at most what they take from them;
-- and a sum over lines of small grams is small. Stated over entries, for any kinds of lines. Assumes nothing.
use mathlib.Core.List.{List, [], ◌∷◌}
use Prim.Native.Nat.{ℕ, ◌+◌, ◌*◌, ◌≤◌}
use native.Mathlib.Omega.{arith}
use lib.ListN.{length}
use Rattle.quantity.specs.Limits.{line_grams}
use Rattle.lines.specs.Records.{Record}
use Rattle.sheet.specs.Refusals.{sum_of}
use Rattle.sheet.specs.Verdict.{All}
use Rattle.goods.specs.Sums.{sum_to, only_at}
use Rattle.goods.proofs.Sums.{sum_add, sum_ext, sum_le, at_sum_le}
use Rattle.ledger.specs.Ledger.{SmallGrams}
use Rattle.attribution.specs.Attribution.{direct, indirect, raised, bought_direct, bought_indirect}
use Rattle.attribution.specs.Reckoning.{process_count, total_raised}
use Rattle.entries.specs.Entries.{entry}
use Rattle.attribution.proofs.Sums.{of_add, of_le, sum_swap}
use Rattle.attribution.proofs.EveryKind.{plus, minus}
use Rattle.attribution.proofs.Entries.{figures}
use Rattle.attribution.proofs.Works.{direct_is, raised_is}

-- the grams that a line puts into processes, and those that it takes from them
abbrev pub into_processes : Record → ℕ
into_processes r = (entry r).charge.0 + (entry r).electricity.0 + (entry r).direct.0 + (entry r).indirect.0

abbrev pub out_of_processes : Record → ℕ
out_of_processes r = (entry r).credit.0

-- an amount at one process, over all processes and all lines
over_all : (n : ℕ) (p amount : Record → ℕ) (rs : List Record)
    → sum_to n (λ k. sum_of (λ r. only_at k (p r) (amount r)) rs) ≤ sum_of amount rs
over_all n p amount rs = rw (sum_swap n (λ k r. only_at k (p r) (amount r)) rs) (of_le _ _ rs (λ r. at_sum_le n (p r) (amount r)))

pub into_pools_le : (n : ℕ) (rs : List Record)
    → sum_to n (λ k. direct rs k + bought_direct rs k) + sum_to n (λ k. indirect rs k + bought_indirect rs k) ≤ sum_of into_processes rs
unfolding indirect
into_pools_le n rs =
    omega (
      arith,
      sum_add n (direct rs) (bought_direct rs),
      sum_add n (indirect rs) (bought_indirect rs),
      sum_le n (direct rs) (λ k. sum_of (plus k) rs) (λ k l h. omega (arith, direct_is rs k)),
      sum_ext n (indirect rs) (λ k. sum_of (λ r. only_at k (entry r).user (entry r).electricity.0) rs) (λ k. (figures k rs).used),
      sum_ext n (bought_direct rs) (λ k. sum_of (λ r. only_at k (entry r).buyer (entry r).direct.0) rs) (λ k. (figures k rs).direct),
      sum_ext n (bought_indirect rs) (λ k. sum_of (λ r. only_at k (entry r).buyer (entry r).indirect.0) rs) (λ k. (figures k rs).indirect),
      over_all n (λ r. (entry r).charged) (λ r. (entry r).charge.0) rs,
      over_all n (λ r. (entry r).user) (λ r. (entry r).electricity.0) rs,
      over_all n (λ r. (entry r).buyer) (λ r. (entry r).direct.0) rs,
      over_all n (λ r. (entry r).buyer) (λ r. (entry r).indirect.0) rs,
      of_add (λ r. (entry r).charge.0) (λ r. (entry r).electricity.0) rs,
      of_add (λ r. (entry r).charge.0 + (entry r).electricity.0) (λ r. (entry r).direct.0) rs,
      of_add (λ r. (entry r).charge.0 + (entry r).electricity.0 + (entry r).direct.0) (λ r. (entry r).indirect.0) rs,
    )

pub raised_le : (rs : List Record) → total_raised rs ≤ sum_of out_of_processes rs
unfolding total_raised
raised_le rs =
    omega (
      arith,
      sum_le (process_count rs) (raised rs) (λ k. sum_of (minus k) rs) (λ k l h. omega (arith, raised_is rs k)),
      over_all (process_count rs) (λ r. (entry r).credited) (λ r. (entry r).credit.0) rs,
    )

-- a figure of at most `line_grams` a line
pub sum_within : (f : Record → ℕ) → ((r : Record) → SmallGrams (entry r) → f r ≤ line_grams)
    → (rs : List Record) → All (λ r. SmallGrams (entry r)) rs → sum_of f rs ≤ length rs * line_grams
unfolding sum_of
sum_within f h [] s = omega arith
sum_within f h (r ∷ rs) s = omega (arith, h r s.0, sum_within f h rs s.1)
