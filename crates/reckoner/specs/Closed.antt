-- For the code only: the works closed.
use Rattle.std.specs.Prelude.{◌≡◌, List, ℕ}
use Rattle.closing.specs.Closing.{Closed}
use Rattle.reckoning.specs.declared.Closing.{Closing}
use Rattle.works.specs.declared.Works.{Works}
use Rattle.reckoning.specs.declared.Reckoning.{Reckoning}

-- an accepted sheet, closed
abbrev pub accepted_as : Works → Closing → Reckoning
accepted_as w c = record {
  count = w.noted.count;
  outputs = w.noted.outputs;
  figures = c;
  entered = w.ledger.totals.entered;
  uncredited = w.ledger.totals.uncredited;
}

pub record ClosedAs (w : Works) (kilos : List ℕ) (r : Reckoning) : Type 0 where
  pub is : r ≡ accepted_as w r.figures
  pub closed : Closed w.ledger w.noted.outputs.0 kilos w.noted.count r.figures
