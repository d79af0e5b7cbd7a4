-- The bytes of the report line by line, and how long they are. Assumes nothing.
use mathlib.Core.Path.{◌≡◌, refl, sym, ap, ◌∙◌}
use mathlib.Core.List.{List, [], ◌∷◌, ◌++◌, map, map-append, append_assoc}
use Prim.Native.Nat.{ℕ, zero, suc, ◌+◌, ◌-◌, ◌/◌, ◌%◌, ◌≤◌, ◌<◌}
use native.Mathlib.Numerals.{add-one}
use native.Mathlib.Decide.{dec_le}
use native.Mathlib.Omega.{arith}
use lib.ListN.{length, length-append}
use Rattle.decimal.specs.Spelling.{spelling}
use Rattle.decimal.specs.Writing.{Put}
use Rattle.decimal.proofs.Writing.{then}
use Rattle.report.specs.Report.{report_row, report_of}
use Rattle.report.specs.Spelling.{Figure, whole, minus, thousandths, three_digits, spell_figure, spell_figures, ReportLine, report_line}
use Rattle.report.specs.Spelling.{spell_lines, row_line, total_line, report_bytes}
use Rattle.figures.specs.Figures.{three, spelt, tailed, line, held}
use Rattle.figures.proofs.Widths.{length_line}
use Rattle.reckoning.specs.declared.Reckoning.{Reckoning}
use Rattle.rows.specs.Held.{row_held, rows_held, last_held, reckoning_held, fields_of, row_fields, rows_bytes, bytes_held}
use Rattle.last_line.specs.Totals.{totals_said, total_fields}

-- ---- fields as the code holds them

three_is : (n : ℕ) → n < 1000 → three n ≡ three_digits n
unfolding three three_digits
three_is n h = let e : n / 100 % 10 ≡ n / 100 = omega arith in rw e

held_spelt : (f : Figure) → spelt (held f) ≡ spell_figure f
unfolding spelt spell_figure
held_spelt (whole n) = refl
held_spelt (minus n) = refl
held_spelt (thousandths n) = ap (λ (l : List ℕ). spelling (n / 1000) ++ (46 ∷ l)) (three_is (n % 1000) (let h : n % 1000 < 1000 = omega arith in h))

tailed_held : (fs : List Figure) → tailed (map held fs) ≡ spell_figures fs
unfolding tailed spell_figures
tailed_held [] = refl
tailed_held (f ∷ fs) = rw (held_spelt f, tailed_held fs)

-- ---- lines

lines_append : (a b : List ReportLine) → spell_lines (a ++ b) ≡ spell_lines a ++ spell_lines b
unfolding spell_lines
lines_append [] b = refl
lines_append (l ∷ a) b =
    ap (λ (x : List ℕ). l.letter ∷ (spell_figures l.fields ++ (10 ∷ x))) (lines_append a b)
    ∙ ap (λ (x : List ℕ). l.letter ∷ x) (sym (append_assoc (spell_figures l.fields) (10 ∷ spell_lines a) (spell_lines b)))

line_is : (letter : ℕ) (fs : List Figure) → spell_lines (report_line letter fs ∷ []) ≡ line letter (map held fs)
unfolding spell_lines line
line_is letter fs = rw (tailed_held fs)

row_line_lem : (r : Reckoning) (k : ℕ) → spell_lines (row_line (report_row (row_held r k)) ∷ []) ≡ line 82 (row_fields r k)
unfolding fields_of row_line
row_line_lem r k = line_is 82 _

-- ---- the lines of processes

pub rows_none : (r : Reckoning) → rows_bytes r 0 ≡ []
unfolding rows_bytes rows_held spell_lines
rows_none r = refl

pub rows_more : (r : Reckoning) (k : ℕ) → rows_bytes r (k + 1) ≡ rows_bytes r k ++ line 82 (row_fields r (k + 1))
unfolding rows_bytes rows_held
rows_more r k =
    rw (
      add-one k,
      map-append report_row (rows_held r k) (row_held r (suc k) ∷ []),
      map-append row_line (map report_row (rows_held r k)) (report_row (row_held r (suc k)) ∷ []),
    )
    (lines_append (map row_line (map report_row (rows_held r k))) (row_line (report_row (row_held r (suc k))) ∷ [])
    ∙ ap (λ (l : List ℕ). spell_lines (map row_line (map report_row (rows_held r k))) ++ l) (row_line_lem r (suc k)))

pub report_parts : (r : Reckoning) → bytes_held r ≡ rows_bytes r r.count ++ line 84 (total_fields (last_held r))
unfolding bytes_held report_bytes report_of reckoning_held rows_bytes total_fields total_line
report_parts r =
    lines_append (map row_line (map report_row (rows_held r r.count))) (total_line (totals_said (last_held r)) ∷ [])
    ∙ ap (λ (l : List ℕ). spell_lines (map row_line (map report_row (rows_held r r.count))) ++ l) (line_is 84 _)

-- ---- how long

pub rows_long : (r : Reckoning) (k : ℕ) → length (rows_bytes r (k + 1)) ≡ length (rows_bytes r k) + (length (tailed (row_fields r (k + 1))) + 2)
rows_long r k =
    ap length (rows_more r k) ∙ length-append (rows_bytes r k) (line 82 (row_fields r (k + 1)))
    ∙ ap (λ (n : ℕ). length (rows_bytes r k) + n) (length_line 82 (row_fields r (k + 1)))

pub report_long : (r : Reckoning) → length (bytes_held r) ≡ length (rows_bytes r r.count) + (length (tailed (total_fields (last_held r))) + 2)
report_long r =
    ap length (report_parts r) ∙ length-append (rows_bytes r r.count) (line 84 (total_fields (last_held r)))
    ∙ ap (λ (n : ℕ). length (rows_bytes r r.count) + n) (length_line 84 (total_fields (last_held r)))

-- the lines of the first processes are no longer than those of more
pub rows_within : (r : Reckoning) (i n : ℕ) → i ≤ n → length (rows_bytes r i) ≤ length (rows_bytes r n)
rows_within r i zero h = let e : i ≡ 0 = omega arith in rw e (omega arith)
rows_within r i (suc n) h =
    elim (dec_le (suc n) i) [
      | yes p ↦ let e : i ≡ suc n = omega arith in rw e (omega arith)
      | no p ↦
          let s : n + 1 ≡ suc n = omega arith in
          omega (arith, rows_within r i n (let q : i ≤ n = omega arith in q), rw s at (rows_long r n))
    ]

-- ---- one line more

module _ (r : Reckoning) {space m : List ℕ} {at k : ℕ} (some : 1 ≤ k) (one : k ≤ r.count) (all : length (bytes_held r) ≤ length space)
    (put : Put space 0 (rows_bytes r (k - 1)) m at) {fields : List _} (are : fields ≡ row_fields r k) where
  next : k - 1 + 1 ≡ k
  next = omega arith

  -- it has its room
  pub row_room : at + (length (tailed fields) + 2) ≤ length space
  row_room = rw are (omega (arith, put.place, rw next at (rows_long r (k - 1)), rows_within r k r.count one, report_long r))

  -- it stands behind the lines before it
  pub row_put : {n : List ℕ} {i j : ℕ} → Put m at (line 82 fields) n j → i ≡ k → Put space 0 (rows_bytes r i) n j
  row_put line_put same =
      let before : k - 1 ≤ r.count = omega arith in
      let room : 0 + length (rows_bytes r (k - 1)) ≤ length space = omega (arith, rows_within r (k - 1) r.count before, report_long r) in
      let more = rw next at (rows_more r (k - 1)) in
      rw (same, more) (then room put (rw are at line_put))
