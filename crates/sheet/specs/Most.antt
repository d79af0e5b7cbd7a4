-- For the code only: bounds of the kilograms that it holds.
use Rattle.std.specs.Prelude.{ℕ, ◌*◌}
use Rattle.quantity.specs.Limits.{limits}
use Rattle.sheet.specs.Kinds.{kilos}

-- the most kilograms of one field, and of one field of every line
abbrev pub KILOS : ℕ
KILOS = kilos.highest

abbrev pub MOST : ℕ
MOST = limits.lines * KILOS
