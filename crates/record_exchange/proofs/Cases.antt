-- The worked examples of specs/Cases: one theorem that the checker computes over the tables. Assumes nothing.
use mathlib.Core.List.{map}
use mathlib.Core.Path.{◌≡◌, refl}
use Rattle.quantity.specs.Rounding.{round}
use Rattle.quantity.specs.Streams.{combustion_grams, process_grams, carbon_grams, stream_grams, fossil_grams}
use Rattle.quantity.specs.Standard.{fuels, carbonates, fuel_of, carbonate_of}
use Rattle.quantity.specs.Weights.{weight, waste_gas_charge, waste_gas_credit}
use Rattle.decimal.specs.Number.{all_digits, is_number, value_from}
use Rattle.decimal.specs.Spelling.{digits, spelling}
use Rattle.decimal.specs.Text.{bytes}
use Rattle.lines.specs.Lines.{lines_of, fields_of}
use Rattle.lines.specs.Records.{field_of, record_of, records_of}
use Rattle.lines.specs.Spelling.{spell_fields, spell_line}
use Rattle.sheet.specs.Kinds.{kind_of, kind_among, method_rules, rules}
use Rattle.sheet.specs.Refusals.{any_of, sum_of}
use Rattle.sheet.specs.Verdict.{first_of, field_checks, shape_checks, line_checks, lines_checks, figures_checks, sheet_checks}
use Rattle.goods.specs.Sums.{sum_to, only_at}
use Rattle.goods.specs.Goods.{takers, portion, left, total_kilos, portion_of, portions_taken, pools_to, pool_of, left_of}
use Rattle.entries.specs.Weighed.{stream_of, heat_of, charge_of, credit_of, electricity_of, bought_direct_of, bought_indirect_of}
use Rattle.attribution.specs.Sums.{sum_of_ℤ}
use Rattle.attribution.specs.Attribution.{streams, heat_in, heat_out, gas_charged, gas_credited, electricity_in}
use Rattle.attribution.specs.Attribution.{electricity_out, bought_direct, bought_indirect, balance, raised, direct, indirect}
use Rattle.attribution.specs.Governing.{governing_direct, governing_indirect, as_bought, governed}
use Rattle.attribution.specs.Reckoning.{kilos_of, process_count, output, kilos_between, direct_pool, indirect_pool, direct_left}
use Rattle.attribution.specs.Reckoning.{indirect_left, total_left, entered, total_raised, uncredited, rows_to, reckoning}
use Rattle.attribution.specs.Verdict.{rows_grams, any_from, figure_too_large, reckoner_checks}
use Rattle.lent.specs.Lent.{all_zero, record_lent, records_lent_to, records_lent, spell_all, sheet_lent, record_words, words_of}
use Rattle.record_exchange.specs.Exchange.{exchange_checks, sheet_written, records_read}
use Rattle.record_exchange.specs.Cases.{written, given}

pub examples_hold :
    (map (λ w. sheet_lent w.words) written ≡ map (λ w. bytes w.sheet) written)
    × (map (λ w. sheet_written w.words (bytes w.space)) written ≡ map (λ w. w.outcome) written)
    × (map (λ g. records_read (bytes g.sheet) g.list) given ≡ map (λ g. g.outcome) given)
unfolding written given
    all_digits is_number value_from digits spelling
    round fossil_grams combustion_grams process_grams carbon_grams stream_grams fuels carbonates fuel_of carbonate_of weight waste_gas_charge waste_gas_credit
    lines_of fields_of field_of record_of records_of spell_fields spell_line kind_of kind_among method_rules rules
    any_of sum_of first_of field_checks shape_checks line_checks lines_checks figures_checks sheet_checks
    sum_to sum_of_ℤ only_at stream_of heat_of charge_of credit_of electricity_of bought_direct_of bought_indirect_of
    streams heat_in heat_out gas_charged gas_credited electricity_in electricity_out bought_direct bought_indirect balance raised direct indirect
    takers total_kilos portion left portion_of portions_taken pools_to pool_of left_of
    kilos_of process_count output kilos_between direct_pool indirect_pool direct_left indirect_left total_left entered total_raised uncredited rows_to reckoning
    governing_direct governing_indirect as_bought governed
    rows_grams any_from figure_too_large reckoner_checks
    all_zero record_lent records_lent_to records_lent spell_all sheet_lent record_words words_of exchange_checks sheet_written records_read
examples_hold = (refl, refl, refl)
