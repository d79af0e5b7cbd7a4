-- For the reader. Document 01, "Attribution": weights in grams.
use Rattle.std.specs.Prelude.{ℕ, ◌*◌}
use Rattle.quantity.specs.Rounding.{round}

-- H and E lines and each figure of B weigh round(quantity × factor/1,000) (CBAM annex III, equations 52, 44 and 58)
unfoldable pub weight : (quantity factor : ℕ) → ℕ
weight quantity factor = round (quantity * factor) 1000

-- a W line charges its receiver round(MJ × 56,100/1,000) (equation 53)
unfoldable pub waste_gas_charge : (megajoules : ℕ) → ℕ
waste_gas_charge megajoules = round (megajoules * 56100) 1000

-- and credits its sender round(charge × 667/1,000) (equation 54)
unfoldable pub waste_gas_credit : (megajoules : ℕ) → ℕ
waste_gas_credit megajoules = round (waste_gas_charge megajoules * 667) 1000
