-- For the reader. Document 01, "The sheet" and "Sheets sent back": its limits. Definitions take those of a sheet as a parameter, and the values
-- stand here alone.
use Rattle.std.specs.Prelude.{ℕ, ◌^◌}

pub record Limits : Type 0 where
  -- processes are numbered 1 to this
  pub processes : ℕ
  -- bytes of a sheet
  pub bytes : ℕ
  -- lines of a sheet
  pub lines : ℕ

abbrev pub limits : Limits
limits = record { processes = 16; bytes = 65536; lines = 4096 }

-- row 15: whole-gram figures of the report stay below it
abbrev pub whole_grams : ℕ
whole_grams = 2 ^ 63

-- the most grams that one line moves: a B line of 10,000,000,000 kg at 100,000,000 mg per kg has half of them direct and half indirect
abbrev pub line_grams : ℕ
line_grams = 2000000000000000
