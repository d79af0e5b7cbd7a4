-- For the reader. Document 01, "Source streams": rounding.
use Rattle.std.specs.Prelude.{ℕ, ◌+◌, ◌/◌}

-- round(u/v) is the whole part of (u + v/2)/v, v 1,000 or 10,000
unfoldable pub round : (u v : ℕ) → ℕ
round u v = (u + v / 2) / v
