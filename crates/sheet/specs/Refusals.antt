-- For the reader. Document 01, "Sheets sent back": each row of its table, in order, as a test, and then the rows of document 02, ticket 4.
-- `above` holds the records of the lines above, the nearest first.
use Rattle.std.specs.Prelude.{Bool, true, false, cond, ◌&&◌, ◌||◌, not, List, [], ◌∷◌, ℕ, suc, ◌+◌, eqb, ltb, length}
use Rattle.quantity.specs.Limits.{Limits}
use Rattle.lines.specs.Lines.{Line}
use Rattle.lines.specs.Records.{Field, number, dash, other, Record, field, number_at}
use Rattle.sheet.specs.Kinds.{kind, is, Rule, Table, named_fields, ends_of}
use Rattle.sheet.specs.declared.Kind.TheVariants.{Process, SourceStream, OwnGood, PrecursorFigures, PrecursorUse}

-- ---- what the lines above say

unfoldable pub any_of : (Record → Bool) → List Record → Bool
any_of test [] = false
any_of test (r ∷ rs) = test r || any_of test rs

unfoldable pub sum_of : (Record → ℕ) → List Record → ℕ
sum_of figure [] = 0
sum_of figure (r ∷ rs) = figure r + sum_of figure rs

-- n of P, S and B, and `process` of N; from and to of H, W, E and G
abbrev pub process : Record → ℕ
process r = number_at r 0

abbrev pub from : Record → ℕ
from r = number_at r 0

abbrev pub to : Record → ℕ
to r = number_at r 1

-- precursor and rank of K; precursor of N
abbrev pub stated_precursor : Record → ℕ
stated_precursor r = number_at r 0

abbrev pub rank : Record → ℕ
rank r = number_at r 1

abbrev pub used_precursor : Record → ℕ
used_precursor r = number_at r 1

-- kilograms of output that a line states for process n
abbrev pub output_in : (n : ℕ) → Record → ℕ
output_in n r = cond (is Process r && eqb n (process r)) (number_at r 1) 0

-- kilograms of the output of process n that a line takes
abbrev pub taken_in : (n : ℕ) → Record → ℕ
taken_in n r = cond (is OwnGood r && eqb n (from r)) (number_at r 2) 0

-- process n may be named: it is outside the works, or has a P line above
abbrev pub has_process : (above : List Record) → (n : ℕ) → Bool
has_process above n = eqb n 0 || any_of (λ r. is Process r && eqb n (process r)) above

-- 1: over 65,536 bytes
abbrev pub too_many_bytes : Limits → (sheet : List ℕ) → Bool
too_many_bytes limits sheet = ltb limits.bytes (length sheet)

-- 2: over 4,096 lines
abbrev pub too_many_lines : Limits → (line_number : ℕ) → Bool
too_many_lines limits line_number = ltb limits.lines line_number

-- 3: line lacks its LF
abbrev pub lacks_lf : Line → Bool
lacks_lf l = not l.ended

-- 4: first field unknown
abbrev pub unknown_kind : Table → Record → Bool
unknown_kind table r = table.unknown r

-- 5: field count
abbrev pub wrong_field_count : Table → Record → Bool
wrong_field_count table r = not (eqb (length r.said) (length (table.rules r)))

-- 6: not a number, or `-` elsewhere
abbrev pub not_number : Rule → Field → Bool
not_number rule (number n) = false
not_number rule dash = not rule.dash_allowed
not_number rule other = true

-- 7: out of range
abbrev pub out_of_range : Rule → Field → Bool
out_of_range rule (number n) = ltb n rule.lowest || ltb rule.highest n
out_of_range rule dash = false
out_of_range rule other = false

-- 8: P not next, or after another kind
abbrev pub process_not_next : (above : List Record) → Record → Bool
process_not_next above r = is Process r && (not (eqb (process r) (suc (length above))) || any_of (λ q. not (is Process q)) above)

-- 9: process without a P line above it
abbrev pub missing_process : (above : List Record) → Record → Bool
missing_process above r =
    ltb 0 (named_fields (kind r)) && not (has_process above (number_at r 0))
    || ltb 1 (named_fields (kind r)) && not (has_process above (number_at r 1))

-- 10: ends not allowed
abbrev pub ends_not_allowed : Record → Bool
ends_not_allowed r = ends_of (kind r) (from r) (to r)

-- 11: `-` with code 0
abbrev pub says_dash : Field → Bool
says_dash (number n) = false
says_dash dash = true
says_dash other = false

abbrev pub no_standard_value : Record → Bool
no_standard_value r = is SourceStream r && (eqb (number_at r 2) 0 && (says_dash (field r 4) || says_dash (field r 5)))

-- 12: second G line of a pair
abbrev pub second_of_pair : (above : List Record) → Record → Bool
second_of_pair above r = is OwnGood r && any_of (λ q. is OwnGood q && (eqb (from q) (from r) && eqb (to q) (to r))) above

-- 13: output exceeded, at that G
abbrev pub output_exceeded : (above : List Record) → Record → Bool
output_exceeded above r =
    is OwnGood r && ltb (sum_of (output_in (from r)) above) (sum_of (taken_in (from r)) above + number_at r 2)

-- 14: empty sheet
abbrev pub empty_sheet : (sheet : List ℕ) → Bool
empty_sheet sheet = eqb (length sheet) 0

-- 17: second K line of a precursor and rank
abbrev pub second_of_rank : (above : List Record) → Record → Bool
second_of_rank above r =
    is PrecursorFigures r
    && any_of (λ q. is PrecursorFigures q && (eqb (stated_precursor q) (stated_precursor r) && eqb (rank q) (rank r))) above

-- 18: N line whose precursor has no K line; `records` are those of all lines of the sheet
abbrev pub no_figures : (records : List Record) → Record → Bool
no_figures records r =
    is PrecursorUse r && not (any_of (λ q. is PrecursorFigures q && eqb (stated_precursor q) (used_precursor r)) records)
