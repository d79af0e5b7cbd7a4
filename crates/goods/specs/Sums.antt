-- For the reader. Document 01, "Attribution" and "Goods and precursors": sums over processes.
use Rattle.std.specs.Prelude.{cond, ℕ, zero, suc, ◌+◌, eqb}

-- figure 1 + .. + figure n: process 0, outside the works, is not counted
unfoldable pub sum_to : (n : ℕ) → (figure : ℕ → ℕ) → ℕ
sum_to zero figure = 0
sum_to (suc n) figure = sum_to n figure + figure (suc n)

-- the amount of a line that names process p, as it counts for process k
unfoldable pub only_at : (k p amount : ℕ) → ℕ
only_at k p amount = cond (eqb k p) amount 0
