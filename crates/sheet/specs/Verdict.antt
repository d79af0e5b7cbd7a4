-- For the reader. Document 01, "Sheets sent back", and document 02, ticket 4: the order of judging, and the verdict. Rows 15 and 16 come after all
-- others and are added where the report's figures and its space are known.
use Rattle.std.specs.Prelude.{Bool, true, false, cond, ◌≡◌, List, [], ◌∷◌, ◌++◌, ℕ, suc, length}
use Rattle.quantity.specs.Limits.{Limits}
use Rattle.lines.specs.Lines.{Line, lines_of}
use Rattle.lines.specs.Records.{Field, Record, record_of, records_of}
use Rattle.sheet.specs.Kinds.{Rule, Table, sheet_table}
use Rattle.sheet.specs.Refusals.{too_many_bytes, too_many_lines, lacks_lf, unknown_kind, wrong_field_count}
use Rattle.sheet.specs.Refusals.{not_number, out_of_range, process_not_next, missing_process, ends_not_allowed}
use Rattle.sheet.specs.Refusals.{no_standard_value, second_of_pair, output_exceeded, empty_sheet, second_of_rank, no_figures}

-- a row of the table tried at a line: its number, the line, and whether it applies there
pub record Check : Type 0 where
  pub number : ℕ
  pub line : ℕ
  pub applies : Bool

abbrev pub check : (number line : ℕ) → Bool → Check
check number line applies = record { number = number; line = line; applies = applies }

-- accepted, or refused by a number at a line
pub data Verdict : Type 0 where
  accepted : Verdict
  refused : (number line : ℕ) → Verdict

-- the first row that applies
unfoldable pub first_of : List Check → Verdict
first_of [] = accepted
first_of (c ∷ cs) = cond c.applies (refused c.number c.line) (first_of cs)

-- an accepted sheet gives number 0
abbrev pub number_of : Verdict → ℕ
number_of accepted = 0
number_of (refused number line) = number

-- ---- what it means that a row is the first that applies

-- what holds of every one of a list
abbrev pub All : {A : Type 0} → (A → Type 0) → List A → Type 0
All P [] = Unit {0}
All P (x ∷ xs) = P x × All P xs

-- a row that does not apply
abbrev pub Passes : Check → Type 0
Passes c = c.applies ≡ false

-- the row `number` at `line` applies, and none before it in the order of judging does
pub record First (cs : List Check) (number line : ℕ) : Type 0 where
  pub before : List Check
  pub found : Check
  pub after : List Check
  pub split : cs ≡ before ++ (found ∷ after)
  pub earlier : All Passes before
  pub applies : found.applies ≡ true
  pub its_number : found.number ≡ number
  pub its_line : found.line ≡ line

-- ---- the order of judging

-- 6 and 7 go field by field from the left
unfoldable pub field_checks : (line : ℕ) → List Rule → List Field → List Check
field_checks k [] fields = []
field_checks k (rule ∷ rules) [] = []
field_checks k (rule ∷ rules) (f ∷ fs) = check 6 k (not_number rule f) ∷ check 7 k (out_of_range rule f) ∷ field_checks k rules fs

-- 3 to 7 of line k, by a table of kinds
unfoldable pub shape_checks : Table → (k : ℕ) → Line → List Check
shape_checks table k l =
    let r = record_of l in
    check 3 k (lacks_lf l)
    ∷ check 4 k (unknown_kind table r)
    ∷ check 5 k (wrong_field_count table r)
    ∷ field_checks k (table.rules r) r.said

-- 8 to 13 and 17 of line k
abbrev pub order_checks : (k : ℕ) → (above : List Record) → Record → List Check
order_checks k above r =
    check 8 k (process_not_next above r)
    ∷ check 9 k (missing_process above r)
    ∷ check 10 k (ends_not_allowed r)
    ∷ check 11 k (no_standard_value r)
    ∷ check 12 k (second_of_pair above r)
    ∷ check 13 k (output_exceeded above r)
    ∷ check 17 k (second_of_rank above r)
    ∷ []

-- 18 of the lines from line k on; `records` are those of all lines of the sheet
unfoldable pub figures_checks : (records : List Record) → (k : ℕ) → List Record → List Check
figures_checks records k [] = []
figures_checks records k (r ∷ rs) = check 18 k (no_figures records r) ∷ figures_checks records (suc k) rs

module _ (limits : Limits) where
  -- within a line the lower number is given, except that 6 and 7 go field by field
  unfoldable pub line_checks : (above : List Record) → Line → List Check
  line_checks above l =
      let k : ℕ = suc (length above) in
      check 2 k (too_many_lines limits k) ∷ (shape_checks (sheet_table limits) k l ++ order_checks k above (record_of l))

  -- lines are judged from the top
  unfoldable pub lines_checks : (above : List Record) → List Line → List Check
  lines_checks above [] = []
  lines_checks above (l ∷ ls) = line_checks above l ++ lines_checks (record_of l ∷ above) ls

  -- 1 and 14 come before any line, 18 once all lines have passed, again from the top
  unfoldable pub sheet_checks : (sheet : List ℕ) → List Check
  sheet_checks sheet =
      check 1 0 (too_many_bytes limits sheet)
      ∷ check 14 0 (empty_sheet sheet)
      ∷ (lines_checks [] (lines_of sheet) ++ figures_checks (records_of sheet) 1 (records_of sheet))
