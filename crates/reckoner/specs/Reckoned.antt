-- For the reader. Document 01, "The report" and "Sheets sent back", and document 02, ticket 4: the verdict and its line, and the figures of an
-- accepted sheet.
use Rattle.std.specs.Prelude.{◌≡◌, List, ℕ, ◌≤◌, ◌<◌, nat_abs, Result, MatchResult}
use Rattle.lines.specs.Records.{Record, records_of}
use Rattle.goods.specs.ByProcess.{Column}
use Rattle.quantity.specs.Limits.{limits, whole_grams}
use Rattle.sheet.specs.Verdict.{accepted, first_of}
use Rattle.checks.specs.Numbers.{refused_by}
use Rattle.checks.specs.declared.refusals.Refused.{Refused}
use Rattle.attribution.specs.Attribution.{direct, indirect, raised}
use Rattle.attribution.specs.Governing.{governed}
use Rattle.attribution.specs.Reckoning.{process_count, output, direct_pool, indirect_pool, direct_left, indirect_left, total_left, entered, total_raised, uncredited}
use Rattle.attribution.specs.Verdict.{reckoner_checks}
use Rattle.sheet.specs.Most.{MOST}
use Rattle.reckoning.specs.declared.Reckoning.{Reckoning}

-- the figures of an accepted sheet; in every array the places of no process have 0
pub record FiguresOf (rs : List Record) (r : Reckoning) : Type 0 where
  pub counted : r.count ≡ process_count rs
  pub few : r.count ≤ limits.processes
  pub made : (k : ℕ) → 1 ≤ k → k ≤ r.count → 1 ≤ output rs k
  pub outputs_small : (k : ℕ) → output rs k ≤ MOST
  pub outputs : Column r.count (output rs) r.outputs.0
  pub directs : Column r.count (direct rs) r.figures.attributed.direct.0
  pub indirects : Column r.count (indirect rs) r.figures.attributed.indirect.0
  pub raiseds : Column r.count (raised rs) r.figures.raised.0
  pub direct_pools : Column r.count (direct_pool rs) r.figures.pools.direct.0
  pub indirect_pools : Column r.count (indirect_pool rs) r.figures.pools.indirect.0
  pub direct_lefts : Column r.count (direct_left rs) r.figures.lefts.direct.0
  pub indirect_lefts : Column r.count (indirect_left rs) r.figures.lefts.indirect.0
  pub left_is : r.figures.left.0 ≡ total_left rs
  pub entered_is : r.entered.0 ≡ entered rs
  pub raised_is : r.figures.total_raised.0 ≡ total_raised rs
  pub uncredited_is : r.uncredited.0 ≡ uncredited rs
  -- its sign aside, below 2^63
  pub entered_small : nat_abs r.entered.0 < whole_grams

-- no row applies: the figures, each N line weighed by those that govern its precursor
pub record Figured (sheet : List ℕ) (r : Reckoning) : Type 0 where
  pub passed : first_of (reckoner_checks limits sheet) ≡ accepted
  pub figured : FiguresOf (governed (records_of sheet)) r

-- the figures, or number and line of the first row that applies, and no figures
abbrev pub Reckoned : (sheet : List ℕ) → Result Reckoning Refused → Type 0
Reckoned sheet r = MatchResult r (Figured sheet) (λ e. first_of (reckoner_checks limits sheet) ≡ refused_by e)
