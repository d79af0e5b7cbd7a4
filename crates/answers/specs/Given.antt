-- For the reader. Document 01, "What the contracts say", a: number, line, report length, and the report space afterwards.
use Rattle.std.specs.Prelude.{List, ℕ, Result, Ok, Err}
use Rattle.quantity.specs.Limits.{limits}
use Rattle.report.specs.Outcome.{Outcome, longest}
use Rattle.checks.specs.Numbers.{refusal_number}
use Rattle.checks.specs.declared.refusals.Refused.{Refused}
use Rattle.answers.specs.declared.Answer.{Answer}

-- number, line and length of what is given: 0 and 0 where nothing is refused, and length 0 for a refusal
abbrev pub answer_of : Result ℕ Refused → Answer
answer_of (Ok length) = record { number = 0; line = 0; length = length }
answer_of (Err r) = record { number = refusal_number r.refusal; line = r.line; length = 0 }

abbrev pub gives : Answer → (after : List ℕ) → Outcome
gives a after = record { number = a.number; line = a.line; length = a.length; space = after }

-- no report has more bytes
abbrev pub LONGEST : ℕ
LONGEST = longest limits
