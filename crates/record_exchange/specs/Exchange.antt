-- For the reader. Document 02, ticket 1: what the writer gives of lent records and a lent space, and what the reader gives of a sheet and a lent
-- list of numbers. Each is judged as the reckoner judges a sheet, report space aside; then 16, line 0, last.
use Rattle.std.specs.Prelude.{List, [], ◌∷◌, ◌++◌, ℕ, zero, suc, ◌*◌, ◌/◌, ltb, length, take, drop}
use Rattle.quantity.specs.Limits.{limits}
use Rattle.lines.specs.Records.{records_of}
use Rattle.sheet.specs.Verdict.{Check, check, Verdict, first_of}
use Rattle.attribution.specs.Verdict.{reckoner_checks}
use Rattle.report.specs.Outcome.{Outcome, outcome_of}
use Rattle.lent.specs.Lent.{RECORD, record_lent, spell_lent, sheet_lent, words_of}

-- the verdict of every row but 16: report space aside
abbrev pub judged : (sheet : List ℕ) → Verdict
judged sheet = first_of (reckoner_checks limits sheet)

-- every row but 16 of a sheet, then 16: what is to be put into the lent space or list is longer than it
unfoldable pub exchange_checks : (sheet put lent : List ℕ) → List Check
exchange_checks sheet put lent = reckoner_checks limits sheet ++ (check 16 0 (ltb (length lent) (length put)) ∷ [])

-- THE WRITER: the sheet that the records spell stands first in the space, and the k-th record is its line k. Bytes past the sheet stay, and on a
-- refusal all do
unfoldable pub sheet_written : (words space : List ℕ) → Outcome
sheet_written words space = outcome_of (first_of (exchange_checks (sheet_lent words) (sheet_lent words) space)) (sheet_lent words) space

-- as many records as there are nine words
abbrev pub in_records : Outcome → Outcome
in_records o = record { number = o.number; line = o.line; length = o.length / RECORD; space = o.space }

-- THE READER: the words of the sheet's records stand first in the list, and `length` is how many records they are. Numbers past them stay, and on
-- a refusal all do
unfoldable pub records_read : (sheet list : List ℕ) → Outcome
records_read sheet list =
    in_records (outcome_of (first_of (exchange_checks sheet (words_of (records_of sheet)) list)) (words_of (records_of sheet)) list)

-- ---- the k-th record is line k

-- the spelling of the k-th lent record, counted from 1: it starts at nine times k - 1. Nothing for 0, and nothing past the last
abbrev pub kth_spelt : (words : List ℕ) → (k : ℕ) → List ℕ
kth_spelt words zero = []
kth_spelt words (suc n) = spell_lent (record_lent (take RECORD (drop (n * RECORD) words)))
