-- For the reader. Document 01, "The sheet": bytes, lines and fields.
use Rattle.std.specs.Prelude.{Bool, true, false, cond, List, [], ◌∷◌, ℕ, zero, suc, ◌+◌, eqb, length}

abbrev pub LF : ℕ
LF = 10

abbrev pub COMMA : ℕ
COMMA = 44

-- a line: its bytes without the LF, and whether it had one
pub record Line : Type 0 where
  pub bytes : List ℕ
  pub ended : Bool

abbrev pub line : List ℕ → Bool → Line
line bytes ended = record { bytes = bytes; ended = ended }

-- a byte put in front of the first line
abbrev pub before_line : ℕ → List Line → List Line
before_line byte [] = line (byte ∷ []) false ∷ []
before_line byte (l ∷ ls) = line (byte ∷ l.bytes) l.ended ∷ ls

-- each line ends in LF; bytes after the last LF count as a line
unfoldable pub lines_of : (sheet : List ℕ) → List Line
lines_of [] = []
lines_of (byte ∷ bytes) = cond (eqb byte LF) (line [] true ∷ lines_of bytes) (before_line byte (lines_of bytes))

-- a byte put in front of the first field
abbrev pub before_field : ℕ → List (List ℕ) → List (List ℕ)
before_field byte [] = (byte ∷ []) ∷ []
before_field byte (f ∷ fs) = (byte ∷ f) ∷ fs

-- the fields of a line, parted by commas
unfoldable pub fields_of : (line : List ℕ) → List (List ℕ)
fields_of [] = [] ∷ []
fields_of (byte ∷ bytes) = cond (eqb byte COMMA) ([] ∷ fields_of bytes) (before_field byte (fields_of bytes))

-- Line 1 is the first. The bytes of line n, without its LF: none for line 0
unfoldable pub line_bytes : List Line → (n : ℕ) → List ℕ
line_bytes ls zero = []
line_bytes [] (suc n) = []
line_bytes (l ∷ ls) (suc zero) = l.bytes
line_bytes (l ∷ ls) (suc (suc n)) = line_bytes ls (suc n)

-- the place in the sheet where line n starts: 0 for line 0
unfoldable pub line_start : List Line → (n : ℕ) → ℕ
line_start ls zero = 0
line_start [] (suc n) = 0
line_start (l ∷ ls) (suc zero) = 0
line_start (l ∷ ls) (suc (suc n)) = suc (length l.bytes) + line_start ls (suc n)
