-- For the reader. Document 01, "Attribution" and "The report": sums over records, with signs.
use Rattle.std.specs.Prelude.{List, [], ◌∷◌, ℤ, pos, ◌+ℤ◌}
use Rattle.lines.specs.Records.{Record}

unfoldable pub sum_of_ℤ : (Record → ℤ) → List Record → ℤ
sum_of_ℤ figure [] = pos 0
sum_of_ℤ figure (r ∷ rs) = figure r +ℤ sum_of_ℤ figure rs
