-- For the code only: the fields of the last line, from the totals as the code passes them on.
use Rattle.std.specs.Prelude.{List, map}
use Rattle.attribution.specs.Reckoning as attribution
use Rattle.report.specs.Spelling.{total_line}
use Rattle.figures.specs.Figures.{held}
use Rattle.figures.specs.declared.Figure.{Figure}
use Rattle.last_line.specs.declared.LastLine.{LastLine}

abbrev pub totals_said : LastLine → attribution.Totals
totals_said last = record {
  left = last.left.0;
  entered = last.entered.0;
  raised = last.raised.0;
  uncredited = last.uncredited.0;
}

unfoldable pub total_fields : LastLine → List Figure
total_fields last = map held (total_line (totals_said last)).fields
