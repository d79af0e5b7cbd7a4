-- For the reader. Document 01, "Sheets sent back", and document 02, ticket 4: the number of each refusal, and 0 where nothing is refused.
use Rattle.std.specs.Prelude.{ℕ, Result, Ok, Err, ⊤}
use Rattle.sheet.specs.Verdict.{Verdict, refused}
use Rattle.checks.specs.declared.refusals.Refusal.{Refusal}
use Rattle.checks.specs.declared.refusals.Refused.{Refused}
use Rattle.checks.specs.declared.refusals.Refusal.TheVariants.{TooManyBytes, TooManyLines, LacksLF, UnknownKind}
use Rattle.checks.specs.declared.refusals.Refusal.TheVariants.{WrongFieldCount, NotNumber, OutOfRange, ProcessNotNext}
use Rattle.checks.specs.declared.refusals.Refusal.TheVariants.{MissingProcess, EndsNotAllowed, NoStandardValue, SecondOfPair}
use Rattle.checks.specs.declared.refusals.Refusal.TheVariants.{OutputExceeded, EmptySheet, FigureTooLarge, SpaceTooShort}
use Rattle.checks.specs.declared.refusals.Refusal.TheVariants.{SecondOfRank, NoFigures}

abbrev pub refusal_number : Refusal → ℕ
refusal_number TooManyBytes = 1
refusal_number TooManyLines = 2
refusal_number LacksLF = 3
refusal_number UnknownKind = 4
refusal_number WrongFieldCount = 5
refusal_number NotNumber = 6
refusal_number OutOfRange = 7
refusal_number ProcessNotNext = 8
refusal_number MissingProcess = 9
refusal_number EndsNotAllowed = 10
refusal_number NoStandardValue = 11
refusal_number SecondOfPair = 12
refusal_number OutputExceeded = 13
refusal_number EmptySheet = 14
refusal_number FigureTooLarge = 15
refusal_number SpaceTooShort = 16
refusal_number SecondOfRank = 17
refusal_number NoFigures = 18

-- of what is judged by itself
abbrev pub number_judged : Result ⊤ Refusal → ℕ
number_judged (Ok _) = 0
number_judged (Err r) = refusal_number r

-- the verdict of a refusal and its line
abbrev pub refused_by : Refused → Verdict
refused_by r = refused (refusal_number r.refusal) r.line
