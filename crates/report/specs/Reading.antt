-- For the reader. Document 01, "The report": bytes read as a report, which accepts one spelling alone.
use Rattle.std.specs.Prelude.{◌≡◌, Bool, true, false, cond, ◌&&◌, ◌||◌, not, List, [], ◌∷◌, Option, Some, None, option_map, ℕ, suc, ◌+◌, ◌-◌, ◌*◌, eqb, ℤ, pos, neg_ℤ, length, get_or, take, drop}
use Rattle.decimal.specs.Number.{all_digits, is_number, value}
use Rattle.lines.specs.Lines.{Line, lines_of, fields_of}
use Rattle.lines.specs.Records.{letter_in}
use Rattle.attribution.specs.Reckoning.{Totals}
use Rattle.report.specs.Report.{ReportRow, Report}

-- ---- fields: a test of what may stand there, and what it says. Whole figures and whole parts are the sheet's numbers, `is_number` and `value`

-- the letter, and nothing else
abbrev pub is_letter : (letter : ℕ) → (field : List ℕ) → Bool
is_letter letter field = eqb (letter_in field) letter

-- the number of process k
abbrev pub is_process : (k : ℕ) → (field : List ℕ) → Bool
is_process k field = is_number field && eqb (value field) k

-- `entered` may carry `-`, and 0 never
abbrev pub is_below_zero : (field : List ℕ) → Bool
is_below_zero field = eqb (get_or field 0 0) 45 && (is_number (drop 1 field) && not (eqb (value (drop 1 field)) 0))

unfoldable pub is_signed : (field : List ℕ) → Bool
is_signed field = is_number field || is_below_zero field

unfoldable pub signed_in : (field : List ℕ) → ℤ
signed_in field = cond (is_number field) (pos (value field)) (neg_ℤ (pos (value (drop 1 field))))

-- a specific figure is its whole part, a dot, and the last three bytes, which are digits
abbrev pub whole_part : (field : List ℕ) → List ℕ
whole_part field = take (length field - 4) field

abbrev pub dot : (field : List ℕ) → ℕ
dot field = get_or field (length field - 4) 0

abbrev pub last_three : (field : List ℕ) → List ℕ
last_three field = drop (length field - 3) field

unfoldable pub is_specific : (field : List ℕ) → Bool
is_specific field = is_number (whole_part field) && (eqb (dot field) 46 && all_digits (last_three field))

-- its thousandths
unfoldable pub specific_in : (field : List ℕ) → ℕ
specific_in field = value (whole_part field) * 1000 + value (last_three field)

-- ---- lines

-- as many fields as tests, and each passes its own
unfoldable pub pass : (tests : List (List ℕ → Bool)) → (fields : List (List ℕ)) → Bool
pass [] [] = true
pass [] (field ∷ fields) = false
pass (test ∷ tests) [] = false
pass (test ∷ tests) (field ∷ fields) = test field && pass tests fields

-- a line ended by LF whose fields pass
abbrev pub is_line : Line → (tests : List (List ℕ → Bool)) → Bool
is_line l tests = l.ended && pass tests (fields_of l.bytes)

-- the k-th field after the letter, counted from 1
abbrev pub field_at : Line → (k : ℕ) → List ℕ
field_at l k = get_or (fields_of l.bytes) k []

-- `R,n,direct,indirect,raised,direct pool,indirect pool,direct left,indirect left,direct specific,indirect specific` of process n
unfoldable pub is_row : (n : ℕ) → Line → Bool
is_row n l =
    is_line l
    (is_letter 82 ∷ is_process n ∷ is_number ∷ is_number ∷ is_number ∷ is_number ∷ is_number ∷ is_number ∷ is_number ∷ is_specific ∷ is_specific ∷ [])

unfoldable pub row_in : Line → ReportRow
row_in l = record {
  process = value (field_at l 1);
  direct = value (field_at l 2);
  indirect = value (field_at l 3);
  raised = value (field_at l 4);
  direct_pool = value (field_at l 5);
  indirect_pool = value (field_at l 6);
  direct_left = value (field_at l 7);
  indirect_left = value (field_at l 8);
  direct_specific = specific_in (field_at l 9);
  indirect_specific = specific_in (field_at l 10);
}

-- `T,left,entered,raised,uncredited`
unfoldable pub is_totals : Line → Bool
is_totals l = is_line l (is_letter 84 ∷ is_number ∷ is_signed ∷ is_number ∷ is_number ∷ [])

unfoldable pub totals_in : Line → Totals
totals_in l = record {
  left = value (field_at l 1);
  entered = signed_in (field_at l 2);
  raised = value (field_at l 3);
  uncredited = value (field_at l 4);
}

-- ---- the report

-- a row put in front of the others
abbrev pub row_before : ReportRow → Report → Report
row_before row r = record { rows = row ∷ r.rows; totals = r.totals }

-- the last line has the totals, and each line before it is a row: the first that of process n, the next that of process n + 1, and so on
unfoldable pub read_lines : (n : ℕ) → List Line → Option Report
read_lines n [] = None
read_lines n (l ∷ []) = cond (is_totals l) (Some (record { rows = []; totals = totals_in l })) None
read_lines n (l ∷ next ∷ ls) = cond (is_row n l) (option_map (row_before (row_in l)) (read_lines (suc n) (next ∷ ls))) None

unfoldable pub read_report : (bytes : List ℕ) → Option Report
read_report bytes = read_lines 1 (lines_of bytes)

-- ---- the k-th row of a report is that of process k

-- the rows of process n, of process n + 1, and so on
unfoldable pub NumberedFrom : (n : ℕ) → List ReportRow → Type 0
NumberedFrom n [] = Unit
NumberedFrom n (row ∷ rows) = (row.process ≡ n) × NumberedFrom (suc n) rows

-- the first row is that of process 1
abbrev pub Numbered : Report → Type 0
Numbered r = NumberedFrom 1 r.rows
