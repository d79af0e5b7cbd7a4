-- For the code only: each line as one entry, which the code books: the grams it moves between processes, and what of them enters the works,
-- leaves it and stays uncredited. Process 0 is outside the works. Laws join it to Attribution and Reckoning.
use Rattle.std.specs.Prelude.{ℕ}
use Rattle.lines.specs.Records.{Record, number_at}
use Rattle.sheet.specs.Kinds.{kind}
use Rattle.sheet.specs.declared.Kind.{Kind}
use Rattle.sheet.specs.declared.Kind.TheVariants.{Process, SourceStream, MeasurableHeat, WasteGas, Electricity, BoughtPrecursor, OwnGood}
use Rattle.sheet.specs.declared.Kind.TheVariants.{PrecursorFigures, PrecursorUse, Unknown}
use Rattle.sheet.specs.Refusals.{process, from, to}
use Rattle.quantity.specs.Weights.{weight}
use Rattle.ledger.specs.Moved.{no_grams_moved, stream_moved, heat_moved, gas_moved, electricity_moved, bought_moved}
use Rattle.entries.specs.Weighed.{stream_of, heat_of, charge_of, credit_of, electricity_of, bought_direct_of, bought_indirect_of}
use Rattle.ledger.specs.declared.Entry.{Entry}

-- the entry of each kind of line by itself. That of an N line moves no grams: `used_entry` has what its precursor's figures make of it
abbrev pub entry_of : Kind → Record → Entry
entry_of Process r = no_grams_moved
entry_of SourceStream r = stream_moved (process r) (stream_of r)
entry_of MeasurableHeat r = heat_moved (from r) (to r) (heat_of r)
entry_of WasteGas r = gas_moved (from r) (to r) (charge_of r) (credit_of r)
entry_of Electricity r = electricity_moved (from r) (to r) (electricity_of r)
entry_of BoughtPrecursor r = bought_moved (process r) (bought_direct_of r) (bought_indirect_of r)
entry_of OwnGood r = no_grams_moved
entry_of PrecursorFigures r = no_grams_moved
entry_of PrecursorUse r = no_grams_moved
entry_of Unknown r = no_grams_moved

abbrev pub entry : Record → Entry
entry r = entry_of (kind r) r

-- the entry of an N line by the figures that govern its precursor: that of the B line with them
abbrev pub used_entry : (direct indirect : ℕ) → Record → Entry
used_entry direct indirect r = bought_moved (process r) (weight (number_at r 2) direct) (weight (number_at r 2) indirect)
