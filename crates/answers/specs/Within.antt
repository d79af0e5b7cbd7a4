-- For the code only: the outcome where row 16 is left to be judged.
use Rattle.std.specs.Prelude.{List, [], ◌∷◌, ℕ, ltb, length}
use Rattle.sheet.specs.Verdict.{check, first_of}
use Rattle.report.specs.Outcome.{Outcome, outcome_of}

-- what the job gives where no row but 16 applies
abbrev pub outcome_within : (report space : List ℕ) → Outcome
outcome_within report space = outcome_of (first_of (check 16 0 (ltb (length space) (length report)) ∷ [])) report space
