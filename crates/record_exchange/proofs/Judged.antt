-- The verdict with row 15 is that without it. Assumes nothing.
use mathlib.Core.Path.{◌≡◌, ◌∙◌}
use mathlib.Core.List.{List}
use Prim.Native.Nat.{ℕ}
use Rattle.quantity.specs.Limits.{limits}
use Rattle.sheet.specs.Verdict.{Verdict, first_of, sheet_checks}
use Rattle.attribution.proofs.RowFifteen.{fifteen_never_given}
use Rattle.record_exchange.specs.Exchange.{judged}

pub judged_as : (sheet : List ℕ) (v : Verdict) → first_of (sheet_checks limits sheet) ≡ v → judged sheet ≡ v
judged_as sheet v e = fifteen_never_given sheet ∙ e
