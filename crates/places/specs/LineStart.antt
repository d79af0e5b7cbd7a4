-- For the code only: the place where a line starts, from the place where it ends.
use Rattle.std.specs.Prelude.{cond, List, ℕ, zero, suc, eqb, get_or}
use Rattle.lines.specs.Lines.{LF}

-- behind the last LF before the line's end
unfoldable pub start_of : List ℕ → (end : ℕ) → ℕ
start_of sheet zero = zero
start_of sheet (suc n) = cond (eqb (get_or sheet n 0) LF) (suc n) (start_of sheet n)
