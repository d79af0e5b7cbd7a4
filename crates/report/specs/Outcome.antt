-- For the reader. Document 01, "Sheets sent back" and "What the contracts say", a: number, line, report length and each byte of the report
-- space.
use Rattle.std.specs.Prelude.{Bool, List, [], ◌∷◌, ◌++◌, ℕ, ◌+◌, ◌*◌, ltb, length, drop}
use Rattle.decimal.specs.Spelling.{spelling}
use Rattle.quantity.specs.Limits.{Limits}
use Rattle.lines.specs.Records.{records_of}
use Rattle.sheet.specs.Verdict.{Check, check, Verdict, accepted, refused, first_of}
use Rattle.attribution.specs.Governing.{governed}
use Rattle.attribution.specs.Reckoning.{reckoning}
use Rattle.attribution.specs.Verdict.{reckoner_checks}
use Rattle.report.specs.Report.{report_of}
use Rattle.report.specs.Spelling.{report_bytes}

-- the report of a sheet: the reckoning of its records with the governing figures
unfoldable pub sheet_report : (sheet : List ℕ) → List ℕ
sheet_report sheet = report_bytes (report_of (reckoning (governed (records_of sheet))))

-- no report has more bytes. A number below 2^63 has at most 19 digits, so behind its comma a whole figure has at most 20 bytes, a specific
-- figure 24 and `entered` 21: with letter and LF a process's line has 2 + 8 * 20 + 2 * 24, the last line 2 + 3 * 20 + 21
abbrev pub longest : Limits → ℕ
longest limits = 210 * limits.processes + 83

-- 16: report space too short
abbrev pub space_too_short : (sheet space : List ℕ) → Bool
space_too_short sheet space = ltb (length space) (length (sheet_report sheet))

-- every row of the table in the order of judging, 16 last
unfoldable pub all_checks : Limits → (sheet space : List ℕ) → List Check
all_checks limits sheet space = reckoner_checks limits sheet ++ (check 16 0 (space_too_short sheet space) ∷ [])

unfoldable pub verdict : Limits → (sheet space : List ℕ) → Verdict
verdict limits sheet space = first_of (all_checks limits sheet space)

-- what the job gives: number, line, report length, and the report space afterwards
pub record Outcome : Type 0 where
  pub number : ℕ
  pub line : ℕ
  pub length : ℕ
  pub space : List ℕ

-- an accepted sheet gives number 0, line 0 and the report's length, and the space past that length is unchanged; a refusal gives length 0,
-- and the space keeps each byte it had
abbrev pub outcome_of : Verdict → (report space : List ℕ) → Outcome
outcome_of accepted report space =
    record { number = 0; line = 0; length = length report; space = report ++ drop (length report) space }
outcome_of (refused number line) report space = record { number = number; line = line; length = 0; space = space }

unfoldable pub outcome : Limits → (sheet space : List ℕ) → Outcome
outcome limits sheet space = outcome_of (verdict limits sheet space) (sheet_report sheet) space

-- what `carbon` prints of a sheet: the report, or the refusal's number, a comma, its line number and LF. It has room for every report.
abbrev pub printed : Verdict → (report : List ℕ) → List ℕ
printed accepted report = report
printed (refused number line) report = spelling number ++ (44 ∷ (spelling line ++ (10 ∷ [])))

unfoldable pub carbon : Limits → (sheet : List ℕ) → List ℕ
carbon limits sheet = printed (first_of (reckoner_checks limits sheet)) (sheet_report sheet)
