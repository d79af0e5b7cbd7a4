-- The worked examples of specs/Cases: one theorem that the checker computes over the table. Assumes nothing.
use mathlib.Core.List.{map}
use mathlib.Core.Path.{◌≡◌, refl}
use Rattle.lines.specs.Records.{records_of, field_of, record_of}
use Rattle.attribution.specs.Reckoning.{reckoning, kilos_of, process_count, output, kilos_between, direct_pool, indirect_pool}
use Rattle.attribution.specs.Reckoning.{direct_left, indirect_left, total_left, entered, total_raised, uncredited, rows_to}
use Rattle.attribution.specs.Verdict.{rows_grams}
use Rattle.decimal.specs.Number.{all_digits, is_number, value_from}
use Rattle.quantity.specs.Rounding.{round}
use Rattle.quantity.specs.Streams.{fossil_grams, combustion_grams, process_grams, carbon_grams, stream_grams}
use Rattle.quantity.specs.Standard.{fuels, carbonates, fuel_of, carbonate_of}
use Rattle.quantity.specs.Weights.{weight, waste_gas_charge, waste_gas_credit}
use Rattle.lines.specs.Lines.{lines_of, fields_of}
use Rattle.sheet.specs.Kinds.{kind_of, kind_among}
use Rattle.sheet.specs.Refusals.{any_of, sum_of}
use Rattle.goods.specs.Sums.{sum_to, only_at}
use Rattle.attribution.specs.Sums.{sum_of_ℤ}
use Rattle.entries.specs.Weighed.{stream_of, heat_of, charge_of, credit_of, electricity_of, bought_direct_of, bought_indirect_of}
use Rattle.attribution.specs.Attribution.{streams, heat_in, heat_out, gas_charged, gas_credited, electricity_in}
use Rattle.attribution.specs.Attribution.{electricity_out, bought_direct, bought_indirect, balance, raised, direct, indirect}
use Rattle.goods.specs.Goods.{takers, total_kilos, portion, left, portion_of, portions_taken, pools_to, pool_of, left_of}
use Rattle.attribution.specs.Governing.{governing_direct, governing_indirect, as_bought, governed}
use Rattle.attribution.specs.Cases.{found, examples}

pub examples_hold : map found examples ≡ map (λ e. e.expected) examples
unfolding examples
    all_digits is_number value_from
    round fossil_grams combustion_grams process_grams carbon_grams stream_grams fuels carbonates fuel_of carbonate_of weight waste_gas_charge waste_gas_credit
    lines_of fields_of field_of record_of records_of kind_of kind_among any_of sum_of
    sum_to sum_of_ℤ only_at stream_of heat_of charge_of credit_of electricity_of bought_direct_of bought_indirect_of
    streams heat_in heat_out gas_charged gas_credited electricity_in electricity_out bought_direct bought_indirect balance raised direct indirect
    takers total_kilos portion left portion_of portions_taken pools_to pool_of left_of
    kilos_of process_count output kilos_between direct_pool indirect_pool direct_left indirect_left total_left entered total_raised uncredited rows_to reckoning
    governing_direct governing_indirect as_bought governed rows_grams
examples_hold = refl
