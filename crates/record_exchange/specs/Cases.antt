-- Examples. Words that are lent as records and the sheet that they spell; what the writer gives of them and of a space; what the reader gives of a
-- sheet and of a list.
use Rattle.std.specs.Prelude.{List, [], ◌∷◌, ◌++◌, ℕ, ◌-◌, ◌^◌, replicate}
use Prim.Native.String.{String}
use Rattle.decimal.specs.Text.{bytes}
use Rattle.report.specs.Outcome.{Outcome}

-- `-` among lent words
abbrev D : ℕ
D = 2 ^ 64 - 1

-- `P,1,1000` and `S,1,1,16,1000,-,-,10000,0`
abbrev process : List ℕ
process = 80 ∷ 1 ∷ 1000 ∷ 0 ∷ 0 ∷ 0 ∷ 0 ∷ 0 ∷ 0 ∷ []

abbrev stream : List ℕ
stream = 83 ∷ 1 ∷ 1 ∷ 16 ∷ 1000 ∷ D ∷ D ∷ 10000 ∷ 0 ∷ []

-- `K,7,1,2000,500` and `N,1,7,3`
abbrev figures : List ℕ
figures = 75 ∷ 7 ∷ 1 ∷ 2000 ∷ 500 ∷ 0 ∷ 0 ∷ 0 ∷ 0 ∷ []

abbrev precursor_use : List ℕ
precursor_use = 78 ∷ 1 ∷ 7 ∷ 3 ∷ 0 ∷ 0 ∷ 0 ∷ 0 ∷ 0 ∷ []

-- ---- the sheet that words spell, and what the writer gives of them and of a space

pub record Written : Type 0 where
  pub words : List ℕ
  pub sheet : String
  pub space : String
  pub outcome : Outcome

abbrev writes : (words : List ℕ) → (sheet space : String) → (number line length : ℕ) → (after : String) → Written
writes words sheet space number line length after = record {
  words = words;
  sheet = sheet;
  space = space;
  outcome = record { number = number; line = line; length = length; space = bytes after };
}

unfoldable pub written : List Written
written =
    -- 9 bytes and 26: a space of as many, one with two bytes to spare, and one a byte too short
    writes (process ++ stream) "P,1,1000\nS,1,1,16,1000,-,-,10000,0\n" "..................................." 0 0 35 "P,1,1000\nS,1,1,16,1000,-,-,10000,0\n"
    ∷ writes (process ++ stream) "P,1,1000\nS,1,1,16,1000,-,-,10000,0\n" "....................................." 0 0 35 "P,1,1000\nS,1,1,16,1000,-,-,10000,0\n.."
    ∷ writes (process ++ stream) "P,1,1000\nS,1,1,16,1000,-,-,10000,0\n" ".................................." 16 0 0 ".................................."
    -- a last record cut short, with all its fields; with further words that are 0; and without a field
    ∷ writes (80 ∷ 1 ∷ 5 ∷ []) "P,1,5\n" "......" 0 0 6 "P,1,5\n"
    ∷ writes (80 ∷ 1 ∷ 5 ∷ 0 ∷ 0 ∷ []) "P,1,5\n" "......." 0 0 6 "P,1,5\n."
    ∷ writes (80 ∷ 1 ∷ 5 ∷ []) "P,1,5\n" "....." 16 0 0 "....."
    ∷ writes (80 ∷ 1 ∷ []) "P,1\n" "......" 5 1 0 "......"
    ∷ writes (80 ∷ []) "P\n" "......" 5 1 0 "......"
    -- a spare word that is not 0: every word is a field
    ∷ writes (80 ∷ 1 ∷ 5 ∷ 0 ∷ 0 ∷ 0 ∷ 0 ∷ 0 ∷ 7 ∷ []) "P,1,5,0,0,0,0,0,7\n" "....................." 5 1 0 "....................."
    -- no letter of a kind: 80 + 256, 0, and X
    ∷ writes (336 ∷ 1 ∷ 5 ∷ []) "\n" "......" 4 1 0 "......"
    ∷ writes (0 ∷ 1 ∷ 5 ∷ []) "\n" "......" 4 1 0 "......"
    ∷ writes (88 ∷ 1 ∷ 5 ∷ 0 ∷ 0 ∷ 0 ∷ 0 ∷ 0 ∷ 0 ∷ process) "\nP,1,1000\n" ".........." 4 1 0 ".........."
    -- no words
    ∷ writes [] "" "......" 14 0 0 "......"
    -- the highest word that is a number has 20 digits and is out of range; the next is `-`, which P does not allow
    ∷ writes (80 ∷ 1 ∷ (2 ^ 64 - 2) ∷ []) "P,1,18446744073709551614\n" "........................." 7 1 0 "........................."
    ∷ writes (80 ∷ 1 ∷ D ∷ []) "P,1,-\n" "......" 6 1 0 "......"
    -- the k-th record is line k: the second P is not the next process
    ∷ writes (process ++ (80 ∷ 1 ∷ 5 ∷ [])) "P,1,1000\nP,1,5\n" "................" 8 2 0 "................"
    -- lines K and N, and an N line with no figures: a refusal after all lines has its line too
    ∷ writes (process ++ (precursor_use ++ figures)) "P,1,1000\nN,1,7,3\nK,7,1,2000,500\n" "................................" 0 0 32 "P,1,1000\nN,1,7,3\nK,7,1,2000,500\n"
    ∷ writes (process ++ precursor_use) "P,1,1000\nN,1,7,3\n" ".................." 18 2 0 ".................."
    -- a refused sheet's own number comes before 16
    ∷ writes (80 ∷ 1 ∷ 0 ∷ []) "P,1,0\n" "" 7 1 0 ""
    ∷ writes [] "" "" 14 0 0 ""
    ∷ []

-- ---- what the reader gives of a sheet and of a list

pub record Given : Type 0 where
  pub sheet : String
  pub list : List ℕ
  pub outcome : Outcome

abbrev reads : (sheet : String) → (list : List ℕ) → (number line length : ℕ) → (after : List ℕ) → Given
reads sheet list number line length after = record {
  sheet = sheet;
  list = list;
  outcome = record { number = number; line = line; length = length; space = after };
}

-- a list of so many sevens
abbrev sevens : ℕ → List ℕ
sevens n = replicate n 7

unfoldable pub given : List Given
given =
    -- two records: a list of 18 numbers, one with one to spare, and one too short by one
    reads "P,1,1000\nS,1,1,16,1000,-,-,10000,0\n" (sevens 18) 0 0 2 (process ++ stream)
    ∷ reads "P,1,1000\nS,1,1,16,1000,-,-,10000,0\n" (sevens 19) 0 0 2 (process ++ (stream ++ sevens 1))
    ∷ reads "P,1,1000\nS,1,1,16,1000,-,-,10000,0\n" (sevens 17) 16 0 0 (sevens 17)
    -- one record
    ∷ reads "P,1,1000\n" (sevens 9) 0 0 1 process
    ∷ reads "P,1,1000\n" (sevens 8) 16 0 0 (sevens 8)
    -- lines K and N
    ∷ reads "P,1,1000\nN,1,7,3\nK,7,1,2000,500\n" (sevens 27) 0 0 3 (process ++ (precursor_use ++ figures))
    ∷ reads "P,1,1000\nN,1,7,3\n" (sevens 27) 18 2 0 (sevens 27)
    -- a refused sheet leaves every number, and its own number comes before 16
    ∷ reads "P,1,-\n" (sevens 9) 6 1 0 (sevens 9)
    ∷ reads "P,1,1000\nX" (sevens 18) 3 2 0 (sevens 18)
    ∷ reads "P,1,0\n" [] 7 1 0 []
    ∷ reads "" [] 14 0 0 []
    ∷ []
