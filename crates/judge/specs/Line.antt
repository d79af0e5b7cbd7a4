-- For the code only: the number that judging a line gives, 0 for none. Laws join it to the rows of the table of refusals.
use Rattle.std.specs.Prelude.{Bool, cond, List, ℕ, suc, eqb, length}
use Rattle.quantity.specs.Limits.{Limits}
use Rattle.sheet.specs.Kinds.{Rule, kind_of}
use Rattle.sheet.specs.Refusals.{too_many_lines}
use Rattle.checks.specs.Steps.{words_number}
use Rattle.checks.specs.declared.above.Above.{Above}
use Rattle.checks.specs.Judged.{kind_number}

-- 3 to 7 of a line under any table of kinds: whether it has its LF, whether no kind has its letter, and the rules of its fields
abbrev pub shape_number : (ended unknown : Bool) → List Rule → (count : ℕ) → (words : List ℕ) → ℕ
shape_number ended unknown rs count words = cond ended (cond unknown 4 (cond (eqb count (length rs)) (words_number 0 rs words) 5)) 3

-- 2 to 13 and 17 of a line of a sheet
abbrev pub line_number : Limits → (ended : Bool) → (letter count : ℕ) → (words : List ℕ) → Above → ℕ
line_number limits ended letter count words above =
    cond (too_many_lines limits (suc above.lines)) 2 (cond ended (kind_number limits (kind_of letter) count words above) 3)
