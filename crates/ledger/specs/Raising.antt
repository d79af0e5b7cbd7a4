-- For the reader. Document 01, "Attribution": "Below zero it is raised to 0; the grams added are `raised`."
use Rattle.std.specs.Prelude.{ℕ, suc, ℤ, pos, negsuc}

-- below zero a balance is raised to 0
abbrev pub raised_to_zero : ℤ → ℕ
raised_to_zero (pos n) = n
raised_to_zero (negsuc n) = 0

-- the grams added
abbrev pub grams_added : ℤ → ℕ
grams_added (pos n) = 0
grams_added (negsuc n) = suc n
