-- For the reader. Document 01, "Source streams" and "Attribution": the grams of one line, 0 for a line of another kind.
use Rattle.std.specs.Prelude.{cond, ℕ, ℤ, pos}
use Rattle.quantity.specs.Streams.{stream_grams}
use Rattle.quantity.specs.Standard.{standard_a, standard_b}
use Rattle.quantity.specs.Weights.{weight, waste_gas_charge, waste_gas_credit}
use Rattle.lines.specs.Records.{Field, number, dash, other, Record, field, number_at}
use Rattle.sheet.specs.Kinds.{is}
use Rattle.sheet.specs.declared.Kind.TheVariants.{SourceStream, MeasurableHeat, WasteGas, Electricity, BoughtPrecursor}

-- `-` means the standard value; a number written there governs over the table
abbrev pub or_standard : Field → (standard : ℕ) → ℕ
or_standard (number n) standard = n
or_standard dash standard = standard
or_standard other standard = standard

-- `S,n,method,code,kg,a,b,c,d`
unfoldable pub stream_of : Record → ℤ
stream_of r =
    cond (is SourceStream r)
    (stream_grams (number_at r 1) (number_at r 3)
    (or_standard (field r 4) (standard_a (number_at r 1) (number_at r 2)))
    (or_standard (field r 5) (standard_b (number_at r 2)))
    (number_at r 6) (number_at r 7))
    (pos 0)

-- `H,from,to,MJ,factor`
unfoldable pub heat_of : Record → ℕ
heat_of r = cond (is MeasurableHeat r) (weight (number_at r 2) (number_at r 3)) 0

-- `W,from,to,MJ`: what its receiver is charged, and what its sender is credited
unfoldable pub charge_of : Record → ℕ
charge_of r = cond (is WasteGas r) (waste_gas_charge (number_at r 2)) 0

unfoldable pub credit_of : Record → ℕ
credit_of r = cond (is WasteGas r) (waste_gas_credit (number_at r 2)) 0

-- `E,from,to,kWh,factor`
unfoldable pub electricity_of : Record → ℕ
electricity_of r = cond (is Electricity r) (weight (number_at r 2) (number_at r 3)) 0

-- `B,n,kg,direct,indirect`
unfoldable pub bought_direct_of : Record → ℕ
bought_direct_of r = cond (is BoughtPrecursor r) (weight (number_at r 1) (number_at r 2)) 0

unfoldable pub bought_indirect_of : Record → ℕ
bought_indirect_of r = cond (is BoughtPrecursor r) (weight (number_at r 1) (number_at r 3)) 0
