-- For the code only: row 15 over what the code holds of a reckoning.
use Rattle.std.specs.Prelude.{Bool, false, ◌||◌, ℕ, zero, suc, leb, ℤ, pos, neg_ℤ}
use Rattle.std.specs.Int.Signed.{le_z}
use Rattle.quantity.specs.Limits.{whole_grams}
use Rattle.goods.specs.ByProcess.{figures}
use Rattle.reckoning.specs.declared.Closing.{Closing}
use Rattle.reckoning.specs.declared.Reckoning.{Reckoning}

-- a figure of a process 1 .. count is 2^63 or more
unfoldable pub any_large : (count : ℕ) → (figure : ℕ → ℕ) → Bool
any_large zero figure = false
any_large (suc n) figure = any_large n figure || leb whole_grams (figure (suc n))

-- the figures of processes 1 .. count
abbrev pub large_rows : Closing → (count : ℕ) → Bool
large_rows c count =
    (((any_large count (figures c.attributed.direct.0) || any_large count (figures c.attributed.indirect.0)) || any_large count (figures c.raised.0))
    || (any_large count (figures c.pools.direct.0) || any_large count (figures c.pools.indirect.0)))
    || (any_large count (figures c.lefts.direct.0) || any_large count (figures c.lefts.indirect.0))

-- an i64 is so large, its sign aside, only where it is the least of them
abbrev pub large_totals : (left : ℕ) → (entered : ℤ) → (raised uncredited : ℕ) → Bool
large_totals left entered raised uncredited =
    ((leb whole_grams left || le_z entered (neg_ℤ (pos whole_grams))) || leb whole_grams raised) || leb whole_grams uncredited

abbrev pub large : Reckoning → Bool
large r = large_rows r.figures r.count || large_totals r.figures.left.0 r.entered.0 r.figures.total_raised.0 r.uncredited.0
