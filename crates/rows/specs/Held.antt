-- For the code only: the report of what the reckoner gives, in the report's definitions. Laws join it to the report of the sheet.
use Rattle.std.specs.Prelude.{List, [], ◌∷◌, ◌++◌, map, ℕ, zero, suc, ◌≤◌, ◌<◌, nat_abs}
use Rattle.quantity.specs.Limits.{whole_grams}
use Rattle.goods.specs.ByProcess.{SIZE, figures}
use Rattle.attribution.specs.Reckoning as attribution
use Rattle.report.specs.Report.{report_row, report_of}
use Rattle.report.specs.Spelling.{row_line, spell_lines, report_bytes}
use Rattle.figures.specs.Figures.{held}
use Rattle.figures.specs.declared.Figure.{Figure}
use Rattle.sheet.specs.Most.{MOST}
use Rattle.reckoning.specs.declared.Reckoning.{Reckoning}
use Rattle.last_line.specs.Totals.{totals_said}
use Rattle.last_line.specs.declared.LastLine.{LastLine}
use Rattle.rows.specs.declared.Row.{Row}

-- what the writer asks of a reckoning
pub record CanBeWritten (r : Reckoning) : Type 0 where
  pub few : r.count < SIZE
  pub made : (k : ℕ) → 1 ≤ k → k ≤ r.count → 1 ≤ figures r.outputs.0 k
  pub small : (k : ℕ) → 1 ≤ k → k ≤ r.count → figures r.outputs.0 k ≤ MOST
  pub sign : nat_abs r.entered.0 < whole_grams

-- the figures of process k
unfoldable pub row_held : Reckoning → (k : ℕ) → attribution.Row
row_held r k = record {
  process = k;
  output = figures r.outputs.0 k;
  direct = figures r.figures.attributed.direct.0 k;
  indirect = figures r.figures.attributed.indirect.0 k;
  raised = figures r.figures.raised.0 k;
  direct_pool = figures r.figures.pools.direct.0 k;
  indirect_pool = figures r.figures.pools.indirect.0 k;
  direct_left = figures r.figures.lefts.direct.0 k;
  indirect_left = figures r.figures.lefts.indirect.0 k;
}

-- the totals as the code passes them on
abbrev pub last_held : Reckoning → LastLine
last_held r = record { left = r.figures.left; entered = r.entered; raised = r.figures.total_raised; uncredited = r.uncredited }

-- of processes 1 .. k
unfoldable pub rows_held : Reckoning → (k : ℕ) → List attribution.Row
rows_held r zero = []
rows_held r (suc k) = rows_held r k ++ (row_held r (suc k) ∷ [])

unfoldable pub reckoning_held : Reckoning → attribution.Reckoning
reckoning_held r = record { rows = rows_held r r.count; totals = totals_said (last_held r) }

-- a process's figures as the code passes them on
abbrev pub row_said : Row → attribution.Row
row_said row = record {
  process = row.process;
  output = row.output.0;
  direct = row.direct.0;
  indirect = row.indirect.0;
  raised = row.raised.0;
  direct_pool = row.direct_pool.0;
  indirect_pool = row.indirect_pool.0;
  direct_left = row.direct_left.0;
  indirect_left = row.indirect_left.0;
}

-- the fields of a line
unfoldable pub fields_of : attribution.Row → List Figure
fields_of row = map held (row_line (report_row row)).fields

abbrev pub row_fields : Reckoning → (k : ℕ) → List Figure
row_fields r k = fields_of (row_held r k)

-- the bytes of the lines of processes 1 .. k, and of all lines
unfoldable pub rows_bytes : Reckoning → (k : ℕ) → List ℕ
rows_bytes r k = spell_lines (map row_line (map report_row (rows_held r k)))

unfoldable pub bytes_held : Reckoning → List ℕ
bytes_held r = report_bytes (report_of (reckoning_held r))
