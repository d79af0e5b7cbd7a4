-- For the code only: a sheet judged from its bytes or from lent records.
use Rattle.std.specs.Prelude.{◌≡◌, Bool, true, false, cond, ⊤, List, [], ◌++◌, Option, None, Some, ℕ, ◌*◌, ◌≤◌, length, drop, Result, MatchResult}
use Rattle.quantity.specs.Limits.{limits}
use Rattle.lines.specs.Lines.{lines_of}
use Rattle.lines.specs.Records.{records_of}
use Rattle.sheet.specs.Verdict.{Verdict, accepted, first_of, lines_checks, sheet_checks}
use Rattle.checks.specs.Numbers.{refused_by}
use Rattle.checks.specs.declared.refusals.Refused.{Refused}
use Rattle.gathering.specs.Gathered.{uses_of}
use Rattle.lent.specs.Lent.{RECORD, sheet_lent}
use Rattle.judged.specs.declared.SheetGiven.{SheetGiven}
use Rattle.judged.specs.declared.SheetGiven.TheVariants.{Bytes, Lent}
use Rattle.judged.specs.declared.Judged.{Judged}

-- the sheet: its bytes, or what lent records spell
abbrev pub sheet_given : (lent : Bool) → (bytes list : List ℕ) → List ℕ
sheet_given lent bytes list = cond lent (sheet_lent list) bytes

abbrev pub is_lent : SheetGiven → Bool
is_lent (Bytes s) = false
is_lent (Lent records) = true

abbrev pub bytes_of : SheetGiven → List ℕ
bytes_of (Bytes s) = s.now
bytes_of (Lent records) = []

abbrev pub list_of : SheetGiven → List ℕ
list_of (Bytes s) = []
list_of (Lent records) = records.now

abbrev pub sheet_of : SheetGiven → List ℕ
sheet_of given = sheet_given (is_lent given) (bytes_of given) (list_of given)

-- how many bytes the sheet has, None where each of its lines has its LF: those of lent records do
abbrev pub size_given : (lent : Bool) → (bytes : List ℕ) → Option ℕ
size_given lent bytes = cond lent None (Some (length bytes))

-- behind so many lines, what the records from there on spell starts at the place
abbrev pub Spelt : (lent : Bool) → (list : List ℕ) → (at lines : ℕ) → Type 0
Spelt lent list at lines = lent ≡ true → drop at (sheet_lent list) ≡ sheet_lent (drop (lines * RECORD) list)

-- the bound that keeps a place inside 64 bits: no line of lent records has more than 170 bytes
abbrev pub Near : (lent : Bool) → (at lines : ℕ) → Type 0
Near lent at lines = lent ≡ true → at ≤ 170 * lines

-- no row applies: how many lines and how many bytes the sheet has
pub record Passed (sheet : List ℕ) (v : Verdict) (j : Judged) : Type 0 where
  pub passed : v ≡ accepted
  pub counted : j.lines ≡ length (records_of sheet)
  pub few : j.lines ≤ limits.lines
  pub measured : j.length ≡ length sheet

-- what is found by a list of rows, with this verdict
abbrev pub Found : (sheet : List ℕ) → Verdict → Result Judged Refused → Type 0
Found sheet v r = MatchResult r (Passed sheet v) (λ e. v ≡ refused_by e)

-- row 18 over all lines
abbrev pub UsesJudged : (sheet : List ℕ) → Result ⊤ Refused → Type 0
UsesJudged sheet r = MatchResult r (λ _. first_of (uses_of sheet) ≡ accepted) (λ e. first_of (uses_of sheet) ≡ refused_by e)

-- rows 2 to 13 and 17, and then row 18
abbrev pub LinesJudged : (sheet : List ℕ) → Result Judged Refused → Type 0
LinesJudged sheet r = Found sheet (first_of (lines_checks limits [] (lines_of sheet) ++ uses_of sheet)) r

-- rows 1 to 14, 17 and 18
abbrev pub SheetJudged : (sheet : List ℕ) → Result Judged Refused → Type 0
SheetJudged sheet r = Found sheet (first_of (sheet_checks limits sheet)) r
