-- For the code only: a field and a line of the report as the code holds them, and their bytes. Laws join them to the report's definitions.
use Rattle.std.specs.Prelude.{List, [], ◌∷◌, ◌++◌, ℕ, ◌+◌, ◌/◌, ◌%◌}
use Rattle.decimal.specs.Spelling.{spelling}
use Rattle.report.specs.Spelling as report
use Rattle.figures.specs.declared.Figure.{Figure}
use Rattle.figures.specs.declared.Figure.TheVariants.{Whole, Minus, Parts}

-- the last three digits, also where the first are 0
unfoldable pub three : ℕ → List ℕ
three t = (48 + t / 100 % 10) ∷ (48 + t / 10 % 10) ∷ (48 + t % 10) ∷ []

unfoldable pub spelt : Figure → List ℕ
spelt (Whole n) = spelling n
spelt (Minus n) = 45 ∷ spelling n
spelt (Parts w t) = spelling w ++ (46 ∷ three t)

-- each field after a comma
unfoldable pub tailed : List Figure → List ℕ
tailed [] = []
tailed (f ∷ fs) = (44 ∷ spelt f) ++ tailed fs

-- a line: its letter, its fields, LF
unfoldable pub line : (letter : ℕ) → List Figure → List ℕ
line letter fs = letter ∷ (tailed fs ++ (10 ∷ []))

-- a field of the report as the code holds it
abbrev pub held : report.Figure → Figure
held (report.whole n) = Whole n
held (report.minus n) = Minus n
held (report.thousandths n) = Parts (n / 1000) (n % 1000)
