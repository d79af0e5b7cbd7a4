-- The worked examples of specs/Cases: one theorem that the checker computes over each table. Assumes nothing.
use mathlib.Core.List.{map}
use mathlib.Core.Path.{◌≡◌, refl}
use Rattle.std.specs.Prelude.{is_some}
use Rattle.quantity.specs.Rounding.{round}
use Rattle.quantity.specs.Streams.{combustion_grams, process_grams, carbon_grams, stream_grams, fossil_grams}
use Rattle.quantity.specs.Standard.{fuels, carbonates, fuel_of, carbonate_of}
use Rattle.quantity.specs.Weights.{weight, waste_gas_charge, waste_gas_credit}
use Rattle.goods.specs.Goods.{takers, portion, left, total_kilos, portion_of, portions_taken, pools_to, pool_of, left_of}
use Rattle.report.specs.Outcome.{all_checks, verdict, outcome, carbon, sheet_report}
use Rattle.decimal.specs.Number.{all_digits, is_number, value_from}
use Rattle.decimal.specs.Spelling.{digits, spelling}
use Rattle.lines.specs.Lines.{lines_of, fields_of}
use Rattle.lines.specs.Records.{field_of, record_of, records_of}
use Rattle.sheet.specs.Kinds.{kind_of, kind_among, method_rules, rules}
use Rattle.sheet.specs.Refusals.{any_of, sum_of}
use Rattle.sheet.specs.Verdict.{first_of, field_checks, shape_checks, line_checks, lines_checks, figures_checks, sheet_checks}
use Rattle.goods.specs.Sums.{sum_to, only_at}
use Rattle.attribution.specs.Sums.{sum_of_ℤ}
use Rattle.entries.specs.Weighed.{stream_of, heat_of, charge_of, credit_of, electricity_of, bought_direct_of, bought_indirect_of}
use Rattle.attribution.specs.Attribution.{streams, heat_in, heat_out, gas_charged, gas_credited, electricity_in}
use Rattle.attribution.specs.Attribution.{electricity_out, bought_direct, bought_indirect, balance, raised, direct, indirect}
use Rattle.attribution.specs.Governing.{governing_direct, governing_indirect, as_bought, governed}
use Rattle.attribution.specs.Reckoning.{kilos_of, process_count, output, kilos_between, direct_pool, indirect_pool, direct_left}
use Rattle.attribution.specs.Reckoning.{indirect_left, total_left, entered, total_raised, uncredited, rows_to, reckoning}
use Rattle.attribution.specs.Verdict.{rows_grams, any_from, figure_too_large, reckoner_checks}
use Rattle.report.specs.Report.{specific, report_of}
use Rattle.report.specs.Spelling.{three_digits, spell_figure, spell_figures, spell_lines, row_line, total_line, report_bytes}
use Rattle.report.specs.Reading.{is_signed, is_specific, pass, is_row, is_totals, read_lines, read_report}
use Rattle.report.specs.Cases.{printed, given, readings}
use Rattle.decimal.specs.Text.{bytes}
use Rattle.quantity.specs.Limits.{limits}

pub printed_hold : map (λ p. carbon limits (bytes p.sheet)) printed ≡ map (λ p. bytes p.text) printed
unfolding printed
    all_digits is_number value_from digits spelling
    round fossil_grams combustion_grams process_grams carbon_grams stream_grams fuels carbonates fuel_of carbonate_of weight waste_gas_charge waste_gas_credit
    lines_of fields_of field_of record_of records_of kind_of kind_among method_rules rules
    any_of sum_of first_of field_checks shape_checks line_checks lines_checks figures_checks sheet_checks
    sum_to sum_of_ℤ only_at stream_of heat_of charge_of credit_of electricity_of bought_direct_of bought_indirect_of
    streams heat_in heat_out gas_charged gas_credited electricity_in electricity_out bought_direct bought_indirect balance raised direct indirect
    takers total_kilos portion left portion_of portions_taken pools_to pool_of left_of
    kilos_of process_count output kilos_between direct_pool indirect_pool direct_left indirect_left total_left entered total_raised uncredited rows_to reckoning
    governing_direct governing_indirect as_bought governed
    rows_grams any_from figure_too_large reckoner_checks
    specific report_of three_digits spell_figure spell_figures spell_lines row_line total_line report_bytes sheet_report carbon
printed_hold = refl

pub given_hold : map (λ g. outcome limits (bytes g.sheet) (bytes g.space)) given ≡ map (λ g. g.outcome) given
unfolding given all_checks verdict outcome
    all_digits is_number value_from digits spelling
    round fossil_grams combustion_grams process_grams carbon_grams stream_grams fuels carbonates fuel_of carbonate_of weight waste_gas_charge waste_gas_credit
    lines_of fields_of field_of record_of records_of kind_of kind_among method_rules rules
    any_of sum_of first_of field_checks shape_checks line_checks lines_checks figures_checks sheet_checks
    sum_to sum_of_ℤ only_at stream_of heat_of charge_of credit_of electricity_of bought_direct_of bought_indirect_of
    streams heat_in heat_out gas_charged gas_credited electricity_in electricity_out bought_direct bought_indirect balance raised direct indirect
    takers total_kilos portion left portion_of portions_taken pools_to pool_of left_of
    kilos_of process_count output kilos_between direct_pool indirect_pool direct_left indirect_left total_left entered total_raised uncredited rows_to reckoning
    governing_direct governing_indirect as_bought governed
    rows_grams any_from figure_too_large reckoner_checks
    specific report_of three_digits spell_figure spell_figures spell_lines row_line total_line report_bytes sheet_report carbon
given_hold = refl

pub readings_hold : map (λ e. is_some (read_report (bytes e.text))) readings ≡ map (λ e. e.is_report) readings
unfolding readings all_digits is_number value_from lines_of fields_of is_signed is_specific pass is_row is_totals read_lines read_report
readings_hold = refl
