-- The worked examples of specs/Cases: one theorem that the checker computes over the table. Assumes nothing.
use mathlib.Core.List.{map}
use mathlib.Core.Path.{◌≡◌, refl}
use Rattle.quantity.specs.Rounding.{round}
use Rattle.quantity.specs.Streams.{combustion_grams, process_grams, carbon_grams, stream_grams, fossil_grams}
use Rattle.quantity.specs.Standard.{fuels, carbonates, fuel_of, carbonate_of}
use Rattle.quantity.specs.Weights.{weight, waste_gas_charge, waste_gas_credit}
use Rattle.quantity.specs.Cases.{examples}

pub examples_hold : map (λ e. e.found) examples ≡ map (λ e. e.expected) examples
unfolding examples round fossil_grams combustion_grams process_grams carbon_grams stream_grams
    fuels carbonates fuel_of carbonate_of weight waste_gas_charge waste_gas_credit
examples_hold = refl
