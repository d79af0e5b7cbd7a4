-- For the reader. Document 01, "The report": its bytes.
use Rattle.std.specs.Prelude.{List, [], ◌∷◌, ◌++◌, map, ℕ, suc, ◌+◌, ◌/◌, ◌%◌, ℤ, pos, negsuc}
use Rattle.decimal.specs.Spelling.{spelling}
use Rattle.attribution.specs.Reckoning.{Totals}
use Rattle.report.specs.Report.{ReportRow, Report}

-- a field of the report: a whole figure, one below zero, or thousandths shown with a dot
pub data Figure : Type 0 where
  whole : ℕ → Figure
  minus : ℕ → Figure
  thousandths : ℕ → Figure

-- may carry `-`, and 0 never
abbrev pub signed : ℤ → Figure
signed (pos n) = whole n
signed (negsuc n) = minus (suc n)

-- three digits, also where the first are 0
unfoldable pub three_digits : ℕ → List ℕ
three_digits n = (48 + n / 100) ∷ (48 + n / 10 % 10) ∷ (48 + n % 10) ∷ []

-- whole figures and whole parts are spelt as the sheet's numbers
unfoldable pub spell_figure : Figure → List ℕ
spell_figure (whole n) = spelling n
spell_figure (minus n) = 45 ∷ spelling n
spell_figure (thousandths n) = spelling (n / 1000) ++ (46 ∷ three_digits (n % 1000))

-- a line of the report: a letter and its fields
pub record ReportLine : Type 0 where
  pub letter : ℕ
  pub fields : List Figure

abbrev pub report_line : ℕ → List Figure → ReportLine
report_line letter fields = record { letter = letter; fields = fields }

-- each field after a comma
unfoldable pub spell_figures : List Figure → List ℕ
spell_figures [] = []
spell_figures (f ∷ fs) = 44 ∷ (spell_figure f ++ spell_figures fs)

-- each line ending in LF
unfoldable pub spell_lines : List ReportLine → List ℕ
spell_lines [] = []
spell_lines (l ∷ ls) = l.letter ∷ (spell_figures l.fields ++ (10 ∷ spell_lines ls))

-- `R`, per process
unfoldable pub row_line : ReportRow → ReportLine
row_line r =
    report_line 82
    (whole r.process ∷ whole r.direct ∷ whole r.indirect ∷ whole r.raised
    ∷ whole r.direct_pool ∷ whole r.indirect_pool ∷ whole r.direct_left ∷ whole r.indirect_left
    ∷ thousandths r.direct_specific ∷ thousandths r.indirect_specific ∷ [])

-- `T`, last
unfoldable pub total_line : Totals → ReportLine
total_line t = report_line 84 (whole t.left ∷ signed t.entered ∷ whole t.raised ∷ whole t.uncredited ∷ [])

unfoldable pub report_bytes : Report → List ℕ
report_bytes r = spell_lines (map row_line r.rows ++ (total_line r.totals ∷ []))
