-- Examples. The whole job: what `carbon` prints, and the outcome with a report space. Bytes that are read as a report, and others.
use Rattle.std.specs.Prelude.{Bool, true, false, List, [], ◌∷◌, ℕ}
use Prim.Native.String.{String}
use Rattle.decimal.specs.Text.{bytes}
use Rattle.report.specs.Outcome.{Outcome}

-- ---- what `carbon` prints

pub record Printed : Type 0 where
  pub sheet : String
  pub text : String

abbrev prints : String → String → Printed
prints sheet text = record { sheet = sheet; text = text }

unfoldable pub printed : List Printed
printed =
    -- a specific figure is cut down: 2 g of 3 kg
    prints "P,1,3\nS,1,2,0,1,2000,0,10000,0\n" "R,1,2,0,0,2,0,2,0,0.666,0.000\nT,2,2,0,0\n"
    -- three digits after the dot, also where the first are 0: 12 g of 8 kg and 7 g of 1,000 kg
    ∷ prints "P,1,8\nS,1,2,0,1,12000,0,10000,0\nE,0,1,1,1000\n" "R,1,12,1,0,12,1,12,1,1.500,0.125\nT,13,13,0,0\n"
    ∷ prints "P,1,1000\nS,1,2,0,1,7000,0,10000,0\n" "R,1,7,0,0,7,0,7,0,0.007,0.000\nT,7,7,0,0\n"
    -- a process with nothing, and a works of two processes
    ∷ prints "P,1,1\n" "R,1,0,0,0,0,0,0,0,0.000,0.000\nT,0,0,0,0\n"
    ∷ prints "P,1,1\nP,2,1\nW,1,2,10\n" "R,1,0,0,374,0,0,0,0,0.000,0.000\nR,2,561,0,0,561,0,561,0,561.000,0.000\nT,561,0,374,187\n"
    -- the refusal's number, a comma, its line number and LF
    ∷ prints "P,1,0\n" "7,1\n"
    ∷ prints "" "14,0\n"
    ∷ prints "P,1,5\nW,1,2,9\n" "9,2\n"
    -- K and N lines: a second line of one rank, no figures, also above a line that is refused by another row, N without its P, K above P
    ∷ prints "P,1,5\nK,1,1,0,0\nK,1,2,0,0\nK,1,1,0,0\n" "17,4\n"
    ∷ prints "P,1,5\nK,1,1,0,0\nN,1,1,5\nN,1,2,5\nN,1,3,5\n" "18,4\n"
    ∷ prints "P,1,5\nN,1,2,5\nG,1,1,5\n" "10,3\n"
    ∷ prints "N,1,1,5\n" "9,1\n"
    ∷ prints "K,1,1,0,0\nP,1,5\n" "8,2\n"
    ∷ []

-- ---- the outcome with a report space

pub record Given : Type 0 where
  pub sheet : String
  pub space : String
  pub outcome : Outcome

abbrev gives : (sheet space : String) → (number line length : ℕ) → (after : String) → Given
gives sheet space number line length after = record {
  sheet = sheet;
  space = space;
  outcome = record { number = number; line = line; length = length; space = bytes after };
}

unfoldable pub given : List Given
given =
    -- a report of 40 bytes: into a space of as many, into a longer one, and into one a byte too short
    gives "P,1,1\n" "........................................" 0 0 40 "R,1,0,0,0,0,0,0,0,0.000,0.000\nT,0,0,0,0\n"
    ∷ gives "P,1,1\n" ".............................................." 0 0 40 "R,1,0,0,0,0,0,0,0,0.000,0.000\nT,0,0,0,0\n......"
    ∷ gives "P,1,1\n" "......................................." 16 0 0 "......................................."
    -- a refused sheet leaves every byte, and its own number comes before 16
    ∷ gives "P,1,0\n" "......................................................" 7 1 0 "......................................................"
    ∷ gives "P,1,0\n" ".." 7 1 0 ".."
    ∷ gives "P,1,1\nN,1,1,1\n" ".." 18 2 0 ".."
    ∷ gives "" "" 14 0 0 ""
    ∷ []

-- ---- bytes read as a report

pub record Reading : Type 0 where
  pub text : String
  pub is_report : Bool

abbrev reads : String → Bool → Reading
reads text is_report = record { text = text; is_report = is_report }

unfoldable pub readings : List Reading
readings =
    reads "R,1,12,1,0,12,1,12,1,1.500,0.125\nR,2,0,0,0,0,0,0,0,0.000,0.000\nT,13,13,0,0\n" true
    ∷ reads "T,0,-1,1,0\n" true
    -- a leading zero, in a whole figure, a process number and a whole part
    ∷ reads "T,0,00,0,0\n" false
    ∷ reads "R,01,12,1,0,12,1,12,1,1.500,0.125\nT,13,13,0,0\n" false
    ∷ reads "R,1,12,1,0,12,1,12,1,01.500,0.125\nT,13,13,0,0\n" false
    -- `-` before 0, and before a figure other than `entered`
    ∷ reads "T,0,-0,0,0\n" false
    ∷ reads "T,-1,0,0,0\n" false
    -- two digits and four behind the dot, another byte among them, no dot, no whole part, a dot in a whole figure
    ∷ reads "R,1,12,1,0,12,1,12,1,1.50,0.125\nT,13,13,0,0\n" false
    ∷ reads "R,1,12,1,0,12,1,12,1,1.5000,0.125\nT,13,13,0,0\n" false
    ∷ reads "R,1,12,1,0,12,1,12,1,1.a50,0.125\nT,13,13,0,0\n" false
    ∷ reads "R,1,12,1,0,12,1,12,1,1500,0.125\nT,13,13,0,0\n" false
    ∷ reads "R,1,12,1,0,12,1,12,1,.500,0.125\nT,13,13,0,0\n" false
    ∷ reads "T,13.000,13,0,0\n" false
    -- a field too few, a field too many, an empty field
    ∷ reads "R,1,12,1,0,12,1,12,1,1.500\nT,13,13,0,0\n" false
    ∷ reads "T,13,13,0,0,0\n" false
    ∷ reads "T,13,13,0,\n" false
    -- rows that do not start at 1, and rows with a gap
    ∷ reads "R,2,12,1,0,12,1,12,1,1.500,0.125\nT,13,13,0,0\n" false
    ∷ reads "R,1,12,1,0,12,1,12,1,1.500,0.125\nR,3,0,0,0,0,0,0,0,0.000,0.000\nT,13,13,0,0\n" false
    -- no totals, totals before a row, totals twice
    ∷ reads "R,1,12,1,0,12,1,12,1,1.500,0.125\n" false
    ∷ reads "T,13,13,0,0\nR,1,12,1,0,12,1,12,1,1.500,0.125\n" false
    ∷ reads "T,13,13,0,0\nT,13,13,0,0\n" false
    -- no LF at the end, an empty line behind it, no bytes
    ∷ reads "T,13,13,0,0" false
    ∷ reads "T,13,13,0,0\n\n" false
    ∷ reads "" false
    ∷ []
