-- For the reader. Document 01, "The report": its values.
use Rattle.std.specs.Prelude.{List, map, ℕ, ◌*◌, ◌/◌}
use Rattle.attribution.specs.Reckoning.{Row, Totals, Reckoning}

-- pool/output in g/kg, in thousandths, cut down (CBAM annex III, equations 50, 51 and 57)
unfoldable pub specific : (pool output : ℕ) → ℕ
specific pool output = pool * 1000 / output

-- `R,n,direct,indirect,raised,direct pool,indirect pool,direct left,indirect left,direct specific,indirect specific`
pub record ReportRow : Type 0 where
  pub process : ℕ
  pub direct : ℕ
  pub indirect : ℕ
  pub raised : ℕ
  pub direct_pool : ℕ
  pub indirect_pool : ℕ
  pub direct_left : ℕ
  pub indirect_left : ℕ
  pub direct_specific : ℕ
  pub indirect_specific : ℕ

-- `T,left,entered,raised,uncredited` last
pub record Report : Type 0 where
  pub rows : List ReportRow
  pub totals : Totals

abbrev pub report_row : Row → ReportRow
report_row r = record {
  process = r.process;
  direct = r.direct;
  indirect = r.indirect;
  raised = r.raised;
  direct_pool = r.direct_pool;
  indirect_pool = r.indirect_pool;
  direct_left = r.direct_left;
  indirect_left = r.indirect_left;
  direct_specific = specific r.direct_pool r.output;
  indirect_specific = specific r.indirect_pool r.output;
}

unfoldable pub report_of : Reckoning → Report
report_of r = record { rows = map report_row r.rows; totals = r.totals }
