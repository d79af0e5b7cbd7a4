-- Each field and each line of a report: what is spelt is read, and what is read is spelt as it was. Assumes nothing.
use mathlib.Core.Path.{◌≡◌, refl, sym, ap, ap₂, ◌∙◌}
use mathlib.Core.Bool.{Bool, true, false, cond, ◌&&◌, ◌||◌, not}
use mathlib.Core.List.{List, [], ◌∷◌, ◌++◌, map}
use Prim.Native.Nat.{ℕ, zero, suc, ◌+◌, ◌-◌, ◌*◌, ◌/◌, ◌%◌, ◌≤◌, ◌<◌}
use native.Mathlib.Omega.{arith}
use borrow.Author.Tests.{eq-eqb, ne_eqb, eqb-true, eqb-false, leb-true, not-true}
use lib.Dec.{eqb, leb}
use lib.IntN.{ℤ, pos, negsuc, neg_ℤ}
use lib.ListN.{length, get_or, drop, length-append, length-take, length-drop}
use lib.Seq.{split_at, take_at, get_or_at, drop-append-add}
use Rattle.decimal.specs.Number.{is_digit, all_digits, is_number, value_from, value}
use Rattle.decimal.specs.Spelling.{spelling}
use Rattle.decimal.proofs.Bools.{never, and_both}
use Rattle.decimal.proofs.Spelling.{one_digit, spelling_digits, spelling_value, spelling_some}
use Rattle.decimal.proofs.OneSpelling.{spelling_number, number_spelling}
use Rattle.lines.specs.Lines.{LF, COMMA, Line, line, lines_of, fields_of}
use Rattle.lines.proofs.OneRecord.{lacks, lacks_append, digits_lack, all_lack, spelt_lack, commas_lack_lf, lines_then}
use Rattle.lines.proofs.OneRecord.{after_commas, join_fields, fields_joined, join_fields_lem}
use Rattle.attribution.specs.Reckoning.{Totals}
use Rattle.report.specs.Report.{ReportRow}
use Rattle.report.specs.Spelling.{Figure, whole, minus, thousandths, signed, three_digits, spell_figure}
use Rattle.report.specs.Spelling.{ReportLine, spell_figures, spell_lines, row_line, total_line}
use Rattle.report.specs.Reading.{is_letter, is_process, is_below_zero, is_signed, signed_in, whole_part, dot, last_three, is_specific, specific_in}
use Rattle.report.specs.Reading.{pass, is_line, field_at, is_row, row_in, is_totals, totals_in}

-- ---- a whole figure

whole_passes : (n : ℕ) → is_number (spell_figure (whole n)) ≡ true
unfolding spell_figure
whole_passes = spelling_number

whole_value : (n : ℕ) → value (spell_figure (whole n)) ≡ n
unfolding spell_figure
whole_value = spelling_value

-- ---- three digits

three_pass : (m : ℕ) → m < 1000 → all_digits (three_digits m) ≡ true
unfolding three_digits all_digits
three_pass m h = simp (one_digit (m / 100) (omega arith), one_digit (m / 10 % 10) (omega arith), one_digit (m % 10) (omega arith))

three_value : (m : ℕ) → m < 1000 → value (three_digits m) ≡ m
unfolding three_digits value_from
three_value m h = omega arith

three_long : (m : ℕ) → length (three_digits m) ≡ 3
unfolding three_digits
three_long m = refl

digit_range : (b : ℕ) → is_digit b ≡ true → (48 ≤ b) × (b ≤ 57)
digit_range b h = let q = and_both (leb 48 b) (leb b 57) h in (leb-true 48 b q.0, leb-true b 57 q.1)

three_spelt : (bs : List ℕ) → length bs ≡ 3 → all_digits bs ≡ true → (value bs < 1000) × (three_digits (value bs) ≡ bs)
unfolding three_digits all_digits value_from
three_spelt [] l h = absurd (omega arith)
three_spelt (a ∷ []) l h = absurd (omega arith)
three_spelt (a ∷ b ∷ []) l h = absurd (omega arith)
three_spelt (a ∷ b ∷ c ∷ []) l h =
    let p = and_both (is_digit a) (is_digit b && (is_digit c && true)) h in
    let q = and_both (is_digit b) (is_digit c && true) p.1 in
    let r = and_both (is_digit c) true q.1 in
    let x = digit_range a p.0 in
    let y = digit_range b q.0 in
    let z = digit_range c r.0 in
    let v : ℕ = value (a ∷ b ∷ c ∷ []) in
    let first : 48 + v / 100 ≡ a = omega arith in
    let tens : v / 10 ≡ (a - 48) * 10 + (b - 48) = omega arith in
    let second : 48 + v / 10 % 10 ≡ b = rw tens (omega arith) in
    let third : 48 + v % 10 ≡ c = omega arith in
    (omega arith, cc)
three_spelt (a ∷ b ∷ c ∷ d ∷ bs) l h = absurd (omega arith)

-- ---- a specific figure

module _ (s d : List ℕ) (h : length d ≡ 3) where
  long : length (s ++ (46 ∷ d)) ≡ length s + 4
  long = length-append s (46 ∷ d) ∙ omega arith

  whole_part_lem : whole_part (s ++ (46 ∷ d)) ≡ s
  whole_part_lem = take_at s (46 ∷ d) (length (s ++ (46 ∷ d)) - 4) (omega (arith, long))

  the_dot : dot (s ++ (46 ∷ d)) ≡ 46
  the_dot = get_or_at s 46 d 0 (length (s ++ (46 ∷ d)) - 4) (omega (arith, long))

  last_three_lem : last_three (s ++ (46 ∷ d)) ≡ d
  last_three_lem =
      let e : length (s ++ (46 ∷ d)) - 3 ≡ length s + 1 = omega (arith, long) in
      ap (λ (k : ℕ). drop k (s ++ (46 ∷ d))) e ∙ drop-append-add s (46 ∷ d) 1

specific_passes : (n : ℕ) → is_specific (spell_figure (thousandths n)) ≡ true
unfolding spell_figure is_specific
specific_passes n =
    let s = spelling (n / 1000) in
    let d = three_digits (n % 1000) in
    let l = three_long (n % 1000) in
    rw (whole_part_lem s d l, the_dot s d l, last_three_lem s d l, spelling_number (n / 1000)) (three_pass (n % 1000) (omega arith))

specific_value : (n : ℕ) → specific_in (spell_figure (thousandths n)) ≡ n
unfolding spell_figure specific_in
specific_value n =
    let s = spelling (n / 1000) in
    let d = three_digits (n % 1000) in
    let l = three_long (n % 1000) in
    rw (whole_part_lem s d l, last_three_lem s d l, spelling_value (n / 1000), three_value (n % 1000) (omega arith)) (omega arith)

specific_spelt : (f : List ℕ) → is_specific f ≡ true → spell_figure (thousandths (specific_in f)) ≡ f
unfolding spell_figure is_specific specific_in
specific_spelt f h =
    let p = and_both (is_number (whole_part f)) (eqb (dot f) 46 && all_digits (last_three f)) h in
    let q = and_both (eqb (dot f) 46) (all_digits (last_three f)) p.1 in
    let some_byte : 1 ≤ length (whole_part f) = rw (number_spelling (whole_part f) p.0) at (spelling_some (value (whole_part f))) in
    let enough : 5 ≤ length f = omega (arith, length-take (length f - 4) f) in
    let t = three_spelt (last_three f) (length-drop (length f - 3) f ∙ omega arith) q.1 in
    let w : ℕ = value (whole_part f) in
    let m : ℕ = value (last_three f) in
    let quotient : (w * 1000 + m) / 1000 ≡ w = omega arith in
    let rest : (w * 1000 + m) % 1000 ≡ m = omega arith in
    let after : suc (length f - 4) ≡ length f - 3 = omega arith in
    rw (quotient, rest, number_spelling (whole_part f) p.0, t.1)
    (sym (split_at f (length f - 4) 0 (omega arith) ∙ rw (after, eqb-true (dot f) 46 q.0)))

-- ---- `entered`

minus_no_number : (s : List ℕ) → is_number (45 ∷ s) ≡ false
unfolding is_number all_digits
minus_no_number [] = refl
minus_no_number (b ∷ s) = refl

signed_passes : (z : ℤ) → is_signed (spell_figure (signed z)) ≡ true
unfolding spell_figure is_signed
signed_passes (pos n) = rw (spelling_number n)
signed_passes (negsuc n) =
    let m : ℕ = suc n in rw (minus_no_number (spelling m), spelling_number m, spelling_value m, ne_eqb m 0 (λ e. omega arith))

signed_value : (z : ℤ) → signed_in (spell_figure (signed z)) ≡ z
unfolding spell_figure signed_in
signed_value (pos n) = rw (spelling_number n, spelling_value n)
signed_value (negsuc n) = rw (minus_no_number (spelling (suc n)), spelling_value (suc n))

minus_spelt : (n : ℕ) → 1 ≤ n → signed (neg_ℤ (pos n)) ≡ minus n
minus_spelt zero h = absurd (omega arith)
minus_spelt (suc n) h = refl

below_zero_spelt : (f : List ℕ) → is_below_zero f ≡ true → spell_figure (signed (neg_ℤ (pos (value (drop 1 f))))) ≡ f
unfolding spell_figure
below_zero_spelt [] h = absurd (never h)
below_zero_spelt (b ∷ s) h =
    let p = and_both (eqb b 45) (is_number s && not (eqb (value s) 0)) h in
    let q = and_both (is_number s) (not (eqb (value s) 0)) p.1 in
    let ne = eqb-false (value s) 0 (not-true (eqb (value s) 0) q.1) in
    ap spell_figure (minus_spelt (value s) (omega arith))
    ∙ ap₂ (λ (x : ℕ) (l : List ℕ). x ∷ l) (sym (eqb-true b 45 p.0)) (number_spelling s q.0)

signed_spelt : (f : List ℕ) → is_signed f ≡ true → spell_figure (signed (signed_in f)) ≡ f
unfolding spell_figure is_signed signed_in
signed_spelt f h = go (is_number f) refl h
  where
    go : (t : Bool) → is_number f ≡ t → (t || is_below_zero f) ≡ true
        → spell_figure (signed (cond t (pos (value f)) (neg_ℤ (pos (value (drop 1 f)))))) ≡ f
    go true e h = number_spelling f e
    go false e h = below_zero_spelt f h

-- ---- a letter

letter_spelt : (letter : ℕ) → 1 ≤ letter → (f : List ℕ) → is_letter letter f ≡ true → letter ∷ [] ≡ f
letter_spelt letter h [] e = let z = eqb-true 0 letter e in absurd (omega arith)
letter_spelt letter h (b ∷ []) e = ap (λ (x : ℕ). x ∷ []) (sym (eqb-true b letter e))
letter_spelt letter h (b ∷ c ∷ f) e = let z = eqb-true 0 letter e in absurd (omega arith)

-- ---- fields that pass are those that their values spell

-- a test of a field, what a field says spelt again, and that this is the field where it passes
record Form : Type 0 where
  test : List ℕ → Bool
  respelt : List ℕ → List ℕ
  same : (f : List ℕ) → test f ≡ true → respelt f ≡ f

abbrev tests : List Form → List (List ℕ → Bool)
tests forms = map (λ p. p.test) forms

-- fields of these forms, each spelt again
unfoldable respelt_all : List Form → (field_at : ℕ → List ℕ) → List (List ℕ)
respelt_all [] f = []
respelt_all (p ∷ ps) f = p.respelt (f 0) ∷ respelt_all ps (λ k. f (suc k))

passed : (ps : List Form) (fs : List (List ℕ)) → pass (tests ps) fs ≡ true → respelt_all ps (λ k. get_or fs k []) ≡ fs
unfolding pass respelt_all
passed [] [] h = refl
passed [] (f ∷ fs) h = absurd (never h)
passed (p ∷ ps) [] h = absurd (never h)
passed (p ∷ ps) (f ∷ fs) h =
    let q = and_both (p.test f) (pass (tests ps) fs) h in
    ap₂ (λ (x : List ℕ) (l : List (List ℕ)). x ∷ l) (p.same f q.0) (passed ps fs q.1)

second_passes : (s t : List ℕ → Bool) (ts : List (List ℕ → Bool)) (fs : List (List ℕ)) → pass (s ∷ t ∷ ts) fs ≡ true
    → t (get_or fs 1 []) ≡ true
unfolding pass
second_passes s t ts [] h = absurd (never h)
second_passes s t ts (f ∷ []) h = absurd (never (and_both (s f) false h).1)
second_passes s t ts (f ∷ g ∷ fs) h = (and_both (t g) (pass ts fs) (and_both (s f) (t g && pass ts fs) h).1).0

abbrev letter_form : (letter : ℕ) → 1 ≤ letter → Form
letter_form letter h = record { test = is_letter letter; respelt = λ f. letter ∷ []; same = letter_spelt letter h }

abbrev process_form : (n : ℕ) → Form
process_form n = record {
  test = is_process n;
  respelt = λ f. spelling (value f);
  same = λ f h. number_spelling f (and_both (is_number f) (eqb (value f) n) h).0;
}

abbrev whole_form : Form
whole_form = record { test = is_number; respelt = λ f. spelling (value f); same = number_spelling }

abbrev specific_form : Form
specific_form = record { test = is_specific; respelt = λ f. spell_figure (thousandths (specific_in f)); same = specific_spelt }

abbrev signed_form : Form
signed_form = record { test = is_signed; respelt = λ f. spell_figure (signed (signed_in f)); same = signed_spelt }

-- ---- a line

-- the fields of a line, its letter the first
abbrev fields_in : ReportLine → List (List ℕ)
fields_in l = (l.letter ∷ []) ∷ map spell_figure l.fields

-- a line without its LF
abbrev pub spell_line : ReportLine → List ℕ
spell_line l = join_fields (fields_in l)

-- ---- SPELT AFTER READ: a line

line_passed : (ps : List Form) (l : Line) → is_line l (tests ps) ≡ true
    → (l.ended ≡ true) × (l.bytes ≡ join_fields (respelt_all ps (field_at l)))
line_passed ps l h =
    let q = and_both l.ended (pass (tests ps) (fields_of l.bytes)) h in
    (q.0, sym (join_fields_lem l.bytes) ∙ ap join_fields (sym (passed ps (fields_of l.bytes) q.1)))

abbrev figure_forms : List Form
figure_forms = whole_form ∷ whole_form ∷ whole_form ∷ whole_form ∷ whole_form ∷ whole_form ∷ whole_form ∷ specific_form ∷ specific_form ∷ []

abbrev row_forms : (n : ℕ) → List Form
row_forms n = letter_form 82 (omega arith) ∷ process_form n ∷ figure_forms

pub row_spelt : (n : ℕ) (l : Line) → is_row n l ≡ true → (l.ended ≡ true) × (l.bytes ≡ spell_line (row_line (row_in l)))
unfolding is_row row_in row_line spell_figure respelt_all
row_spelt n l h = line_passed (row_forms n) l h

pub row_process : (n : ℕ) (l : Line) → is_row n l ≡ true → (row_in l).process ≡ n
unfolding is_row row_in
row_process n l h =
    let f : List ℕ = field_at l 1 in
    let p = and_both l.ended (pass (tests (row_forms n)) (fields_of l.bytes)) h in
    let q = second_passes (is_letter 82) (is_process n) (tests figure_forms) (fields_of l.bytes) p.1 in
    eqb-true (value f) n (and_both (is_number f) (eqb (value f) n) q).1

pub totals_spelt : (l : Line) → is_totals l ≡ true → (l.ended ≡ true) × (l.bytes ≡ spell_line (total_line (totals_in l)))
unfolding is_totals totals_in total_line spell_figure respelt_all
totals_spelt l h = line_passed (letter_form 84 (omega arith) ∷ whole_form ∷ signed_form ∷ whole_form ∷ whole_form ∷ []) l h

-- ---- READ AFTER SPELT: a line

figure_lacks : (byte : ℕ) → byte < 45 → (f : Figure) → lacks byte (spell_figure f) ≡ true
unfolding spell_figure lacks
figure_lacks byte low (whole n) = digits_lack byte low (spelling n) (spelling_digits n)
figure_lacks byte low (minus n) = simp (ne_eqb 45 byte (λ e. omega arith)) (digits_lack byte low (spelling n) (spelling_digits n))
figure_lacks byte low (thousandths n) =
    lacks_append byte (spelling (n / 1000)) (46 ∷ three_digits (n % 1000)) (digits_lack byte low (spelling (n / 1000)) (spelling_digits (n / 1000)))
    (simp (ne_eqb 46 byte (λ e. omega arith)) (digits_lack byte low (three_digits (n % 1000)) (three_pass (n % 1000) (omega arith))))

module _ (l : ReportLine) (h : 45 ≤ l.letter) where
  figures_lack : (byte : ℕ) → byte < 45 → all_lack byte (map spell_figure l.fields) ≡ true
  figures_lack byte low = spelt_lack byte spell_figure (figure_lacks byte low) l.fields

  letter_lacks : (byte : ℕ) → byte < 45 → lacks byte (l.letter ∷ []) ≡ true
  unfolding lacks
  letter_lacks byte low = simp (ne_eqb l.letter byte (λ e. omega arith))

  fields_back : fields_of (spell_line l) ≡ fields_in l
  fields_back =
      fields_joined (l.letter ∷ []) (map spell_figure l.fields) (letter_lacks COMMA (omega arith)) (figures_lack COMMA (omega arith))

  spelt_lacks_lf : lacks LF (spell_line l) ≡ true
  spelt_lacks_lf =
      lacks_append LF (l.letter ∷ []) (after_commas (map spell_figure l.fields)) (letter_lacks LF (omega arith))
      (commas_lack_lf (map spell_figure l.fields) (figures_lack LF (omega arith)))

figures_joined : (fs : List Figure) → spell_figures fs ≡ after_commas (map spell_figure fs)
unfolding spell_figures after_commas
figures_joined [] = refl
figures_joined (f ∷ fs) = ap (λ (s : List ℕ). COMMA ∷ (spell_figure f ++ s)) (figures_joined fs)

pub line_joined : (l : ReportLine) (ls : List ReportLine) → spell_lines (l ∷ ls) ≡ spell_line l ++ (LF ∷ spell_lines ls)
unfolding spell_lines
line_joined l ls = ap (λ (s : List ℕ). l.letter ∷ (s ++ (LF ∷ spell_lines ls))) (figures_joined l.fields)

-- the first line of what is spelt
pub line_back : (l : ReportLine) (ls : List ReportLine) → 45 ≤ l.letter
    → lines_of (spell_lines (l ∷ ls)) ≡ line (spell_line l) true ∷ lines_of (spell_lines ls)
line_back l ls h = ap lines_of (line_joined l ls) ∙ lines_then (spell_line l) (spell_lines ls) (spelt_lacks_lf l h)

-- what is read of a line with its LF
abbrev pub spelt : ReportLine → Line
spelt l = line (spell_line l) true

pub row_passes : (n : ℕ) (row : ReportRow) → row.process ≡ n → is_row n (spelt (row_line row)) ≡ true
unfolding is_row row_line pass
row_passes n row e = rw (fields_back (row_line row) (omega arith)) (simp (whole_passes, whole_value, specific_passes, eq-eqb row.process n e))

pub row_back : (row : ReportRow) → row_in (spelt (row_line row)) ≡ row
unfolding row_in row_line
row_back row = rw (fields_back (row_line row) (omega arith)) (simp (whole_value, specific_value))

pub totals_pass : (t : Totals) → is_totals (spelt (total_line t)) ≡ true
unfolding is_totals total_line pass
totals_pass t = rw (fields_back (total_line t) (omega arith)) (simp (whole_passes, signed_passes))

pub totals_back : (t : Totals) → totals_in (spelt (total_line t)) ≡ t
unfolding totals_in total_line
totals_back t = rw (fields_back (total_line t) (omega arith)) (simp (whole_value, signed_value))
