-- Bytes are read as a report exactly when they are the report's bytes, so the report's bytes are its only spelling. Assumes nothing.
use mathlib.Core.Path.{◌≡◌, refl, sym, ap, subst, ◌∙◌}
use mathlib.Core.Logic.{◌↔◌}
use mathlib.Core.Bool.{Bool, true, false, cond}
use mathlib.Core.List.{List, [], ◌∷◌, ◌++◌, map, map-append}
use Prim.Native.Nat.{ℕ, zero, suc, ◌+◌}
use native.Mathlib.Omega.{arith}
use lib.ListN.{length, length-append, length-map}
use Rattle.std.specs.Prelude.{Option, Some, None, option_map}
use Rattle.std.proofs.lemmas.Option.{none-some, same_Some}
use Rattle.lines.specs.Lines.{Line, lines_of}
use Rattle.lines.specs.Records.{Record, records_of}
use Rattle.lines.proofs.OneRecord.{join_lines, join_lines_lem}
use Rattle.attribution.specs.Governing.{governed}
use Rattle.attribution.specs.Reckoning.{Totals, row_of, rows_to, process_count, reckoning}
use Rattle.report.specs.Report.{ReportRow, Report, report_row, report_of}
use Rattle.report.specs.Spelling.{ReportLine, spell_lines, row_line, total_line, report_bytes}
use Rattle.report.specs.Reading.{is_row, row_in, is_totals, totals_in, row_before, read_lines, read_report, NumberedFrom, Numbered}
use Rattle.report.specs.Outcome.{sheet_report}
use Rattle.report.proofs.Reading.{spell_line, row_spelt, row_process, totals_spelt, line_joined}
use Rattle.report.proofs.Reading.{spelt, line_back, row_passes, row_back, totals_pass, totals_back}

-- the lines of a report: one for each row, then the totals
abbrev lines_in : Report → List ReportLine
lines_in r = map row_line r.rows ++ (total_line r.totals ∷ [])

-- ---- SPELT AFTER READ

abbrev Spelt : (n : ℕ) → List Line → Report → Type 0
Spelt n ls r = (join_lines ls ≡ spell_lines (lines_in r)) × NumberedFrom n r.rows

-- a line that is ended and spelt as `l`, before lines that are spelt as `rest`
line_before : (x : Line) (xs : List Line) (l : ReportLine) (rest : List ReportLine) → (x.ended ≡ true) × (x.bytes ≡ spell_line l)
    → join_lines xs ≡ spell_lines rest → join_lines (x ∷ xs) ≡ spell_lines (l ∷ rest)
unfolding join_lines
line_before x xs l rest h e = rw (h.0, h.1, e) (sym (line_joined l rest))

map_some : (f : Report → Report) (o : Option Report) (r : Report) → option_map f o ≡ Some r → (q : Report) × (o ≡ Some q) × (f q ≡ r)
map_some f None r e = absurd (none-some r e)
map_some f (Some q) r e = (q, refl, same_Some (f q) r e)

lines_spelt : (n : ℕ) (ls : List Line) (r : Report) → read_lines n ls ≡ Some r → Spelt n ls r
unfolding read_lines NumberedFrom join_lines spell_lines
lines_spelt n [] r e = absurd (none-some r e)
lines_spelt n (l ∷ []) r e = go (is_totals l) refl e
  where
    go : (t : Bool) → is_totals l ≡ t → cond t (Some (record { rows = []; totals = totals_in l })) None ≡ Some r → Spelt n (l ∷ []) r
    go false h e = absurd (none-some r e)
    go true h e =
        subst (Spelt n (l ∷ [])) (same_Some (record { rows = []; totals = totals_in l }) r e)
        (line_before l [] (total_line (totals_in l)) [] (totals_spelt l h) refl, tt)
lines_spelt n (l ∷ next ∷ ls) r e = go (is_row n l) refl e (lines_spelt (suc n) (next ∷ ls))
  where
    go : (t : Bool) → is_row n l ≡ t → cond t (option_map (row_before (row_in l)) (read_lines (suc n) (next ∷ ls))) None ≡ Some r
        → ((q : Report) → read_lines (suc n) (next ∷ ls) ≡ Some q → Spelt (suc n) (next ∷ ls) q) → Spelt n (l ∷ next ∷ ls) r
    go false h e ih = absurd (none-some r e)
    go true h e ih =
        let m = map_some (row_before (row_in l)) (read_lines (suc n) (next ∷ ls)) r e in
        let after = ih m.0 m.1 in
        subst (Spelt n (l ∷ next ∷ ls)) m.2
        (line_before l (next ∷ ls) (row_line (row_in l)) (lines_in m.0) (row_spelt n l h) after.0, (row_process n l h, after.1))

-- ---- READ AFTER SPELT

abbrev report_with : List ReportRow → Totals → Report
report_with rows totals = record { rows = rows; totals = totals }

row_first : (n : ℕ) (row : ReportRow) (next : Line) (ls : List Line) (r : Report) → row.process ≡ n
    → read_lines (suc n) (next ∷ ls) ≡ Some r → read_lines n (spelt (row_line row) ∷ next ∷ ls) ≡ Some (row_before row r)
unfolding read_lines
row_first n row next ls r h e = rw (row_passes n row h, e, row_back row)

module _ (totals : Totals) where
  lines_back : (rows : List ReportRow)
      → lines_of (spell_lines (lines_in (report_with rows totals))) ≡ map spelt (lines_in (report_with rows totals))
  unfolding row_line total_line lines_of spell_lines
  lines_back [] = line_back (total_line totals) [] (omega arith)
  lines_back (row ∷ rows) =
      line_back (row_line row) (lines_in (report_with rows totals)) (omega arith)
      ∙ ap (λ (ls : List Line). spelt (row_line row) ∷ ls) (lines_back rows)

  lines_read : (n : ℕ) (rows : List ReportRow) → NumberedFrom n rows
      → read_lines n (map spelt (lines_in (report_with rows totals))) ≡ Some (report_with rows totals)
  unfolding read_lines NumberedFrom
  lines_read n [] h = rw (totals_pass totals, totals_back totals)
  lines_read n (row ∷ []) h =
      row_first n row (spelt (total_line totals)) [] (report_with [] totals) h.0 (lines_read (suc n) [] h.1)
  lines_read n (row ∷ next ∷ rows) h =
      row_first n row (spelt (row_line next)) (map spelt (lines_in (report_with rows totals))) (report_with (next ∷ rows) totals) h.0
      (lines_read (suc n) (next ∷ rows) h.1)

-- ---- the theorem

pub read_iff_spelt : (bytes : List ℕ) (r : Report) → (read_report bytes ≡ Some r) ↔ ((bytes ≡ report_bytes r) × Numbered r)
unfolding read_report report_bytes
read_iff_spelt bytes r = (
  (λ e. let s = lines_spelt 1 (lines_of bytes) r e in (sym (join_lines_lem bytes) ∙ s.0, s.1)),
  (λ h. ap (λ (b : List ℕ). read_lines 1 (lines_of b)) h.0 ∙ ap (read_lines 1) (lines_back r.totals r.rows)
      ∙ lines_read r.totals 1 r.rows h.1),
)

-- ---- the report of a reckoning is numbered

numbered_append : (n : ℕ) (rows : List ReportRow) (row : ReportRow) → NumberedFrom n rows → row.process ≡ n + length rows
    → NumberedFrom n (rows ++ (row ∷ []))
unfolding NumberedFrom
numbered_append n [] row h e = (omega arith, tt)
numbered_append n (x ∷ rows) row h e = (h.0, numbered_append (suc n) rows row h.1 (omega arith))

module _ (records : List Record) where
  rows_long : (k : ℕ) → length (rows_to records k) ≡ k
  unfolding rows_to
  rows_long zero = refl
  rows_long (suc k) = length-append (rows_to records k) (row_of records (suc k) ∷ []) ∙ let e = rows_long k in omega arith

  rows_numbered : (k : ℕ) → NumberedFrom 1 (map report_row (rows_to records k))
  unfolding rows_to NumberedFrom
  rows_numbered zero = tt
  rows_numbered (suc k) =
      rw (map-append report_row (rows_to records k) (row_of records (suc k) ∷ []))
      (numbered_append 1 (map report_row (rows_to records k)) (report_row (row_of records (suc k))) (rows_numbered k)
      (omega (arith, length-map (rows_to records k) report_row, rows_long k)))

  pub reckoning_numbered : Numbered (report_of (reckoning records))
  unfolding report_of reckoning
  reckoning_numbered = rows_numbered (process_count records)

-- ---- the report of a sheet, and what follows of reports and of bytes

-- bytes are read as the values of a sheet's report exactly when they are its bytes
pub sheet_report_read : (sheet bytes : List ℕ)
    → (read_report bytes ≡ Some (report_of (reckoning (governed (records_of sheet))))) ↔ (bytes ≡ sheet_report sheet)
unfolding sheet_report
sheet_report_read sheet bytes =
    let r : Report = report_of (reckoning (governed (records_of sheet))) in
    let h = read_iff_spelt bytes r in
    ((λ e. (h.0 e).0), (λ e. h.1 (e, reckoning_numbered (governed (records_of sheet)))))

-- numbered reports of the same bytes have the same values
pub one_report : (a b : Report) → Numbered a → Numbered b → report_bytes a ≡ report_bytes b → a ≡ b
one_report a b p q e =
    same_Some a b (sym ((read_iff_spelt (report_bytes a) a).1 (refl, p)) ∙ (read_iff_spelt (report_bytes a) b).1 (e, q))

-- bytes that are read as the same report are the same bytes
pub one_reading : (x y : List ℕ) (r : Report) → read_report x ≡ Some r → read_report y ≡ Some r → x ≡ y
one_reading x y r p q = ((read_iff_spelt x r).0 p).0 ∙ sym ((read_iff_spelt y r).0 q).0
