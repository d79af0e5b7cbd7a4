-- No report has more than `longest` bytes, so a space of that length is never too short. Assumes nothing.
use mathlib.Core.Path.{◌≡◌, refl, ap, ◌∙◌}
use mathlib.Core.Bool.{Bool, true, false, cond}
use mathlib.Core.List.{List, [], ◌∷◌, ◌++◌, map}
use Prim.Native.Nat.{ℕ, zero, suc, ◌+◌, ◌*◌, ◌/◌, ◌%◌, ◌^◌, ◌≤◌, ◌<◌}
use native.Mathlib.Nat.{div-div-eq-div-mul, mul-div-mul_right, div-le_self}
use native.Mathlib.Omega.{arith}
use borrow.Author.Tests.{leb-false}
use lib.Dec.{leb}
use lib.IntN.{ℤ, pos, negsuc, nat_abs}
use lib.ListN.{length, length-append}
use Rattle.decimal.specs.Spelling.{spelling}
use Rattle.decimal.proofs.Bools.{or_neither}
use Rattle.decimal.proofs.Widths.{nineteen}
use Rattle.quantity.specs.Limits.{Limits, whole_grams}
use Rattle.lines.specs.Lines.{Line, lines_of}
use Rattle.lines.specs.Records.{Record, record_of, records_of}
use Rattle.sheet.specs.Kinds.{is}
use Rattle.sheet.specs.declared.Kind.TheVariants.{Process}
use Rattle.sheet.specs.Refusals.{sum_of}
use Rattle.sheet.specs.Verdict.{line_checks, lines_checks, sheet_checks}
use Rattle.sheet.specs.Verdict.{All, Passes}
use Rattle.sheet.proofs.First.{all_append, all_join, passes_accepted}
use Rattle.sheet.proofs.Held.{Held, held_none, held_next, processes_after}
use Rattle.attribution.specs.Governing.{governed}
use Rattle.attribution.proofs.Governing.{governed_more}
use Rattle.attribution.specs.Reckoning.{Row, Totals, process_count, row_of, rows_to, reckoning}
use Rattle.attribution.specs.Verdict.{row_grams, total_grams, rows_grams, any_from, figure_too_large, reckoner_checks}
use Rattle.report.specs.Report.{specific, report_row, report_of}
use Rattle.report.specs.Spelling.{Figure, whole, thousandths, signed, three_digits, spell_figure, spell_figures}
use Rattle.report.specs.Spelling.{ReportLine, spell_lines, row_line, total_line, report_bytes}
use Rattle.report.specs.Outcome.{longest, sheet_report, outcome}
use Rattle.report.proofs.Sixteen.{short_only}

-- ---- a field

abbrev Below : ℕ → Type 0
Below n = n < 2 ^ 63

whole_most : (n : ℕ) → Below n → length (spell_figure (whole n)) ≤ 19
unfolding spell_figure
whole_most n h = nineteen n h

-- the whole part of a specific figure is no more than the pool
specific_most : (pool output : ℕ) → Below pool → length (spell_figure (thousandths (specific pool output))) ≤ 23
unfolding specific spell_figure three_digits
specific_most p o h =
    let k : 0 < 1000 = omega arith in
    let e : p * 1000 / o / 1000 ≡ p / o = div-div-eq-div-mul (p * 1000) o 1000 ∙ mul-div-mul_right p o k in
    let q : p * 1000 / o / 1000 < 2 ^ 63 = omega (arith, div-le_self p o) in
    omega (arith, length-append (spelling (p * 1000 / o / 1000)) (46 ∷ three_digits (p * 1000 / o % 1000)), nineteen (p * 1000 / o / 1000) q)

signed_most : (z : ℤ) → Below (nat_abs z) → length (spell_figure (signed z)) ≤ 20
unfolding spell_figure
signed_most (pos n) h = omega (arith, nineteen n h)
signed_most (negsuc n) h = omega (arith, nineteen (suc n) h)

-- ---- fields, each after a comma

no_more : length (spell_figures []) ≤ 0
unfolding spell_figures
no_more = omega arith

one_more : (f : Figure) (fs : List Figure) (k m : ℕ) → length (spell_figure f) ≤ k → length (spell_figures fs) ≤ m → length (spell_figures (f ∷ fs)) ≤ m + (k + 1)
unfolding spell_figures
one_more f fs k m p q = omega (arith, length-append (spell_figure f) (spell_figures fs))

row_most : (r : Row) → Below r.process → All Below (row_grams r) → length (spell_figures (row_line (report_row r)).fields) ≤ 208
unfolding row_line
row_most r n h =
    one_more _ _ 19 188 (whole_most _ n)
    (one_more _ _ 19 168 (whole_most _ h.0)
    (one_more _ _ 19 148 (whole_most _ h.1.0)
    (one_more _ _ 19 128 (whole_most _ h.1.1.0)
    (one_more _ _ 19 108 (whole_most _ h.1.1.1.0)
    (one_more _ _ 19 88 (whole_most _ h.1.1.1.1.0)
    (one_more _ _ 19 68 (whole_most _ h.1.1.1.1.1.0)
    (one_more _ _ 19 48 (whole_most _ h.1.1.1.1.1.1.0)
    (one_more _ _ 23 24 (specific_most r.direct_pool r.output h.1.1.1.0)
    (one_more _ _ 23 0 (specific_most r.indirect_pool r.output h.1.1.1.1.0) no_more)))))))))

total_most : (t : Totals) → All Below (total_grams t) → length (spell_figures (total_line t).fields) ≤ 81
unfolding total_line
total_most t h =
    one_more _ _ 19 61 (whole_most _ h.0)
    (one_more _ _ 20 40 (signed_most t.entered h.1.0)
    (one_more _ _ 19 20 (whole_most _ h.1.1.0)
    (one_more _ _ 19 0 (whole_most _ h.1.1.1.0) no_more)))

-- ---- lines

line_long : (l : ReportLine) (ls : List ReportLine) → length (spell_lines (l ∷ ls)) ≡ length (spell_figures l.fields) + 2 + length (spell_lines ls)
unfolding spell_lines
line_long l ls = ap suc (length-append (spell_figures l.fields) (10 ∷ spell_lines ls)) ∙ omega arith

none_long : length (spell_lines []) ≡ 0
unfolding spell_lines
none_long = refl

lines_most : (rows : List Row) (t : Totals) → All (λ r. Below r.process) rows → All Below (rows_grams rows ++ total_grams t)
    → length (spell_lines (map row_line (map report_row rows) ++ (total_line t ∷ []))) ≤ 210 * length rows + 83
unfolding rows_grams
lines_most [] t n h = omega (arith, line_long (total_line t) [], none_long, total_most t h)
lines_most (r ∷ rows) t n h =
    let g : All Below (row_grams r) × All Below (rows_grams rows ++ total_grams t) = split (row_grams r) (rows_grams rows) h in
    omega (
      arith,
      line_long (row_line (report_row r)) (map row_line (map report_row rows) ++ (total_line t ∷ [])),
      row_most r n.0 g.0,
      lines_most rows t n.1 g.1,
    )
  where
    split : (a b : List ℕ) → All Below ((a ++ b) ++ total_grams t) → All Below a × All Below (b ++ total_grams t)
    split [] b h = (tt, h)
    split (x ∷ a) b h = let s = split a b h.1 in ((h.0, s.0), s.1)

-- ---- the figures of a sheet

none_from : (limit : ℕ) (gs : List ℕ) → any_from limit gs ≡ false → All (λ g. g < limit) gs
unfolding any_from
none_from limit [] h = tt
none_from limit (g ∷ gs) h =
    let q = or_neither (leb limit g) (any_from limit gs) h in
    (leb-false limit g q.0, none_from limit gs q.1)

rows_long : (rs : List Record) (k : ℕ) → length (rows_to rs k) ≡ k
unfolding rows_to
rows_long rs zero = refl
rows_long rs (suc k) = length-append (rows_to rs k) (row_of rs (suc k) ∷ []) ∙ omega (arith, rows_long rs k)

rows_numbered : (rs : List Record) (k : ℕ) → k < 2 ^ 63 → All (λ r. Below r.process) (rows_to rs k)
unfolding rows_to
rows_numbered rs zero h = tt
rows_numbered rs (suc k) h =
    all_join (λ r. Below r.process) (rows_to rs k) (row_of rs (suc k) ∷ []) (rows_numbered rs k (let p : k < 2 ^ 63 = omega arith in p)) (h, tt)

module _ (limits : Limits) where
  -- processes are numbered 1 to their count, which is no more than the highest number
  few_below : (above : List Record) (ls : List Line) (processes : ℕ) → Held limits above processes → All Passes (lines_checks limits above ls)
      → processes + process_count (map record_of ls) ≤ limits.processes
  unfolding lines_checks process_count sum_of
  few_below above [] n held p = omega (arith, held.most)
  few_below above (l ∷ ls) n held p =
      let both = all_append Passes (line_checks limits above l) (lines_checks limits (record_of l ∷ above) ls) p in
      let next = held_next limits above l n held (passes_accepted (line_checks limits above l) both.0) in
      go (is Process (record_of l)) (few_below (record_of l ∷ above) ls (processes_after limits l n) next both.1)
    where
      go : (b : Bool) → cond b (suc n) n + process_count (map record_of ls) ≤ limits.processes
          → n + (cond b 1 0 + process_count (map record_of ls)) ≤ limits.processes
      go true h = omega arith
      go false h = omega arith

  module _ (small : limits.processes < 2 ^ 63) (sheet : List ℕ) (passed : All Passes (reckoner_checks limits sheet)) where
    few : process_count (records_of sheet) ≤ limits.processes
    unfolding reckoner_checks sheet_checks records_of
    few =
        let both = all_append Passes (sheet_checks limits sheet) _ passed in
        let lines = (all_append Passes (lines_checks limits [] (lines_of sheet)) _ both.0.1.1).0 in
        let h = few_below [] (lines_of sheet) 0 (held_none limits) lines in
        omega arith

    grams_below : All Below
        (rows_grams (reckoning (governed (records_of sheet))).rows ++ total_grams (reckoning (governed (records_of sheet))).totals)
    unfolding reckoner_checks figure_too_large
    grams_below = none_from whole_grams _ (all_append Passes (sheet_checks limits sheet) _ passed).1.0

    -- the report of a sheet that no row but 16 refuses
    pub report_most : length (sheet_report sheet) ≤ longest limits
    unfolding sheet_report report_bytes report_of reckoning
    report_most =
        let rs : List Record = governed (records_of sheet) in
        let n : process_count rs ≤ limits.processes = rw (governed_more (records_of sheet)).counted_is few in
        let small : process_count rs < 2 ^ 63 = omega arith in
        let m = lines_most (rows_to rs (process_count rs)) (reckoning rs).totals (rows_numbered rs (process_count rs) small) grams_below in
        omega (arith, rows_long rs (process_count rs))

  -- A SPACE OF `longest` BYTES IS NEVER TOO SHORT
  pub never_short : limits.processes < 2 ^ 63 → (sheet space : List ℕ) → longest limits ≤ length space → (outcome limits sheet space).number ≡ 16 → ⊥
  never_short small sheet space h e =
      let s = short_only limits sheet space e in
      let m = report_most small sheet s.1 in
      let q = s.0 in
      omega arith
