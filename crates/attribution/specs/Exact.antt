-- For the reader. Document 01, "The report": when left equals entered.
use Rattle.std.specs.Prelude.{◌≡◌, true, List, ℕ, ◌≤◌, pos, ◌≤ℤ◌}
use Rattle.lines.specs.Records.{Record}
use Rattle.sheet.specs.Kinds.{is}
use Rattle.sheet.specs.declared.Kind.TheVariants.{WasteGas}
use Rattle.sheet.specs.Refusals.{from, to}
use Rattle.sheet.specs.Verdict.{All}
use Rattle.attribution.specs.Attribution.{balance}
use Rattle.attribution.specs.Reckoning.{process_count}

-- a W line between two processes
pub record GasBetween (r : Record) : Type 0 where
  pub gas : is WasteGas r ≡ true
  pub from_process : 1 ≤ from r
  pub to_process : 1 ≤ to r

-- no process balance is below zero, and no waste gas passed between two processes
pub record NothingAdded (rs : List Record) : Type 0 where
  pub balances : (k : ℕ) → 1 ≤ k → k ≤ process_count rs → pos 0 ≤ℤ balance rs k
  pub no_gas : All (λ r. ¬ GasBetween r) rs
