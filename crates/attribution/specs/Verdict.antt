-- For the reader. Document 01, "Sheets sent back": row 15, after all lines and row 18.
use Rattle.std.specs.Prelude.{Bool, false, ◌||◌, List, [], ◌∷◌, ◌++◌, ℕ, leb, nat_abs}
use Rattle.quantity.specs.Limits.{Limits, whole_grams}
use Rattle.lines.specs.Records.{records_of}
use Rattle.sheet.specs.Verdict.{Check, check, sheet_checks}
use Rattle.attribution.specs.Governing.{governed}
use Rattle.attribution.specs.Reckoning.{Row, Totals, Reckoning, reckoning}

-- the whole-gram figures of the report, their signs aside
abbrev pub row_grams : Row → List ℕ
row_grams r = r.direct ∷ r.indirect ∷ r.raised ∷ r.direct_pool ∷ r.indirect_pool ∷ r.direct_left ∷ r.indirect_left ∷ []

abbrev pub total_grams : Totals → List ℕ
total_grams t = t.left ∷ nat_abs t.entered ∷ t.raised ∷ t.uncredited ∷ []

unfoldable pub rows_grams : List Row → List ℕ
rows_grams [] = []
rows_grams (r ∷ rs) = row_grams r ++ rows_grams rs

unfoldable pub any_from : (limit : ℕ) → List ℕ → Bool
any_from limit [] = false
any_from limit (g ∷ gs) = leb limit g || any_from limit gs

-- 15: a whole-gram figure of the report, its sign aside, is 2^63 or more
unfoldable pub figure_too_large : Reckoning → Bool
figure_too_large r = any_from whole_grams (rows_grams r.rows ++ total_grams r.totals)

-- 1 to 14, 17 and 18, then 15
unfoldable pub reckoner_checks : Limits → (sheet : List ℕ) → List Check
reckoner_checks limits sheet = sheet_checks limits sheet ++ (check 15 0 (figure_too_large (reckoning (governed (records_of sheet)))) ∷ [])
