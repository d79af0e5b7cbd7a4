-- For the reader. Document 01, "The sheet" and "The report": a number as it is spelt.
use Rattle.std.specs.Prelude.{Bool, true, false, List, [], ◌∷◌, ◌++◌, ℕ, zero, suc, ◌+◌, ◌/◌, ◌%◌, ltb}

-- the digits of n, which is below ten or not; `most` of them at most
unfoldable pub digits : (most : ℕ) → (below_ten : Bool) → (n : ℕ) → List ℕ
digits zero below_ten n = []
digits (suc most) true n = (48 + n) ∷ []
digits (suc most) false n = digits most (ltb (n / 10) 10) (n / 10) ++ ((48 + n % 10) ∷ [])

-- n in decimal
unfoldable pub spelling : ℕ → List ℕ
spelling n = digits (suc n) (ltb n 10) n
