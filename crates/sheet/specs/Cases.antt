-- Examples. Sheets and their verdicts: the examples of document 01's table of refusals, worked examples of the order of judging, both sides of
-- each limit, and the same of the rows and kinds of document 02, ticket 4.
use Rattle.std.specs.Prelude.{List, [], ◌∷◌}
use Prim.Native.String.{String}
use Rattle.decimal.specs.Text.{bytes}
use Rattle.quantity.specs.Limits.{Limits, limits}
use Rattle.sheet.specs.Verdict.{Verdict, accepted, refused, first_of, sheet_checks}

pub record Example : Type 0 where
  pub within : Limits
  pub sheet : String
  pub verdict : Verdict

abbrev gives : String → Verdict → Example
gives sheet verdict = record { within = limits; sheet = sheet; verdict = verdict }

-- under smaller limits, so that rows 1 and 2 can be tried on short sheets
abbrev gives_within : Limits → String → Verdict → Example
gives_within within sheet verdict = record { within = within; sheet = sheet; verdict = verdict }

abbrev small : Limits
small = record { processes = 2; bytes = 18; lines = 2 }

unfoldable pub examples : List Example
examples =
    -- the table's own, 3 to 14
    gives "P,1,5" (refused 3 1)
    ∷ gives "\n" (refused 4 1)
    ∷ gives "P,1\n" (refused 5 1)
    ∷ gives "P,1,05\n" (refused 6 1)
    ∷ gives "P,1,0\n" (refused 7 1)
    ∷ gives "P,2,5\n" (refused 8 1)
    ∷ gives "P,1,5\nW,1,2,9\n" (refused 9 2)
    ∷ gives "P,1,5\nW,1,1,9\n" (refused 10 2)
    ∷ gives "P,1,5\nS,1,1,0,1,-,1,1,0\n" (refused 11 2)
    ∷ gives "P,1,5\nP,2,5\nG,1,2,1\nG,1,2,1\n" (refused 12 4)
    ∷ gives "P,1,5\nP,2,5\nG,1,2,6\n" (refused 13 3)
    ∷ gives "" (refused 14 0)
    -- accepted: output 1, G taking all output
    ∷ gives "P,1,1\n" accepted
    ∷ gives "P,1,5\nP,2,5\nG,1,2,5\n" accepted
    -- 6 and 7 go field by field from the left
    ∷ gives "P,x,0\n" (refused 6 1)
    ∷ gives "P,0,x\n" (refused 7 1)
    -- of two rows that apply to one line the lower number: 4 before 5, 5 before 6 and 7
    ∷ gives "X,1\n" (refused 4 1)
    ∷ gives "P,x\n" (refused 5 1)
    ∷ gives "P,0\n" (refused 5 1)
    -- 6 and 7 before 8
    ∷ gives "P,2,x\n" (refused 6 1)
    ∷ gives "P,2,0\n" (refused 7 1)
    -- before 9
    ∷ gives "P,1,5\nW,1,2,x\n" (refused 6 2)
    ∷ gives "P,1,5\nW,1,2,0\n" (refused 7 2)
    -- before 10
    ∷ gives "P,1,5\nW,1,1,x\n" (refused 6 2)
    ∷ gives "P,1,5\nW,1,1,0\n" (refused 7 2)
    -- before 11
    ∷ gives "P,1,5\nS,1,1,0,x,-,1,1,0\n" (refused 6 2)
    ∷ gives "P,1,5\nS,1,1,0,0,-,1,1,0\n" (refused 7 2)
    -- before 12
    ∷ gives "P,1,5\nP,2,5\nG,1,2,1\nG,1,2,x\n" (refused 6 4)
    ∷ gives "P,1,5\nP,2,5\nG,1,2,1\nG,1,2,0\n" (refused 7 4)
    -- before 13
    ∷ gives "P,1,5\nG,1,x,6\n" (refused 6 2)
    ∷ gives "P,1,5\nG,1,17,6\n" (refused 7 2)
    -- 9 before 10, 11 and 13; where 12 applies, neither 9 nor 10 does, since they would refuse the first line of the pair
    ∷ gives "P,1,5\nW,2,2,9\n" (refused 9 2)
    ∷ gives "P,1,5\nS,2,1,0,1,-,1,1,0\n" (refused 9 2)
    ∷ gives "P,1,5\nG,1,2,6\n" (refused 9 2)
    -- 10 and 12 before 13
    ∷ gives "P,1,5\nG,1,0,9\n" (refused 10 2)
    ∷ gives "P,1,5\nP,2,5\nG,1,2,3\nG,1,2,3\n" (refused 12 4)
    -- the upper line before the lower number
    ∷ gives "P,1,0\nP\n" (refused 7 1)
    -- 3 before what the line holds
    ∷ gives "P,1,5\nX" (refused 3 2)
    -- a P line after another kind, and out of turn
    ∷ gives "P,1,5\nE,1,1,1,1\nP,2,5\n" (refused 8 3)
    ∷ gives "P,1,5\nP,1,5\n" (refused 8 2)
    -- `-` in a of method 3, in b of method 2, another number than 10,000 in c of method 3
    ∷ gives "P,1,5\nS,1,3,0,1,-,0,10000,0\n" (refused 6 2)
    ∷ gives "P,1,5\nS,1,2,1,1,-,-,1,0\n" (refused 6 2)
    ∷ gives "P,1,5\nS,1,3,0,1,1,0,9999,0\n" (refused 7 2)
    ∷ gives "P,1,5\nS,1,5,0,1,1,0,1,0\n" (refused 7 2)
    -- process 0 in an S line is out of range; 0 as an end of a G line is not allowed
    ∷ gives "P,1,5\nS,0,1,1,1,-,-,1,0\n" (refused 7 2)
    ∷ gives "P,1,5\nG,0,1,1\n" (refused 10 2)
    -- E may feed itself, but not go from outside to outside
    ∷ gives "P,1,5\nE,0,0,1,1\n" (refused 10 2)
    ∷ gives "P,1,5\nE,1,1,1,1\n" accepted
    -- all G lines of one process count against its output
    ∷ gives "P,1,5\nP,2,5\nP,3,5\nG,1,2,3\nG,1,3,3\n" (refused 13 5)
    ∷ gives "P,1,5\nP,2,5\nP,3,5\nG,1,2,3\nG,1,3,2\n" accepted
    -- over the bytes and over the lines of a sheet
    ∷ gives_within small "P,1,12345\nP,2,123\n" accepted
    ∷ gives_within small "P,1,12345\nP,2,1234\n" (refused 1 0)
    -- the bytes before what the lines hold, and an upper line before the number of lines
    ∷ gives_within small "P,1,12345\nP,2,12345" (refused 1 0)
    ∷ gives_within small "P,1,0\nP,2,1\nP,3,1\n" (refused 7 1)
    ∷ gives_within small "P,1,1\nP,2,1\nX" (refused 2 3)
    ∷ gives_within small "P,1,1\nP,3,1\n" (refused 7 2)
    -- both sides of each limit: P
    ∷ gives "P,1,10000000000\n" accepted
    ∷ gives "P,1,10000000001\n" (refused 7 1)
    ∷ gives "P,16,5\n" (refused 8 1)
    ∷ gives "P,17,5\n" (refused 7 1)
    -- S: process, method, code, kg
    ∷ gives "P,1,5\nS,16,1,1,1,-,-,1,0\n" (refused 9 2)
    ∷ gives "P,1,5\nS,17,1,1,1,-,-,1,0\n" (refused 7 2)
    ∷ gives "P,1,5\nS,1,0,1,1,-,-,1,0\n" (refused 7 2)
    ∷ gives "P,1,5\nS,1,1,16,1,-,-,1,0\n" accepted
    ∷ gives "P,1,5\nS,1,1,17,1,-,-,1,0\n" (refused 7 2)
    ∷ gives "P,1,5\nS,1,2,9,1,-,0,1,0\n" accepted
    ∷ gives "P,1,5\nS,1,2,10,1,-,0,1,0\n" (refused 7 2)
    ∷ gives "P,1,5\nS,1,4,1,1,1,0,10000,0\n" (refused 7 2)
    ∷ gives "P,1,5\nS,1,1,1,0,-,-,1,0\n" (refused 7 2)
    ∷ gives "P,1,5\nS,1,1,1,10000000001,-,-,1,0\n" (refused 7 2)
    -- S: a, b, c and d of each method at their highest, and one above
    ∷ gives "P,1,5\nS,1,1,0,10000000000,200000,400000,10000,10000\nS,1,2,0,1,4000000,0,0,0\nS,1,3,0,1,1000000,0,10000,10000\n" accepted
    ∷ gives "P,1,5\nS,1,1,0,1,0,1,1,0\n" (refused 7 2)
    ∷ gives "P,1,5\nS,1,1,0,1,200001,1,1,0\n" (refused 7 2)
    ∷ gives "P,1,5\nS,1,1,0,1,1,400001,1,0\n" (refused 7 2)
    ∷ gives "P,1,5\nS,1,1,0,1,1,1,10001,0\n" (refused 7 2)
    ∷ gives "P,1,5\nS,1,1,0,1,1,1,1,10001\n" (refused 7 2)
    ∷ gives "P,1,5\nS,1,2,0,1,4000001,0,1,0\n" (refused 7 2)
    ∷ gives "P,1,5\nS,1,2,0,1,1,1,1,0\n" (refused 7 2)
    ∷ gives "P,1,5\nS,1,3,0,1,1000001,0,10000,0\n" (refused 7 2)
    ∷ gives "P,1,5\nS,1,4,0,1,1,1,10000,0\n" (refused 7 2)
    -- H, W, E and B at their highest, and one above
    ∷ gives "P,1,5\nH,0,1,1000000000000,400000\nW,1,0,1000000000000\nE,0,1,100000000000,2000000\nB,1,10000000000,100000000,100000000\n" accepted
    ∷ gives "P,1,5\nH,0,1,1000000000001,1\n" (refused 7 2)
    ∷ gives "P,1,5\nH,0,1,0,1\n" (refused 7 2)
    ∷ gives "P,1,5\nH,0,1,1,400001\n" (refused 7 2)
    ∷ gives "P,1,5\nH,17,1,1,1\n" (refused 7 2)
    ∷ gives "P,1,5\nW,0,1,1000000000001\n" (refused 7 2)
    ∷ gives "P,1,5\nW,0,1,0\n" (refused 7 2)
    ∷ gives "P,1,5\nE,0,1,100000000001,1\n" (refused 7 2)
    ∷ gives "P,1,5\nE,0,1,0,1\n" (refused 7 2)
    ∷ gives "P,1,5\nE,0,1,1,2000001\n" (refused 7 2)
    ∷ gives "P,1,5\nB,1,10000000001,1,1\n" (refused 7 2)
    ∷ gives "P,1,5\nB,1,1,100000001,1\n" (refused 7 2)
    ∷ gives "P,1,5\nB,1,1,1,100000001\n" (refused 7 2)
    ∷ gives "P,1,5\nB,0,1,1,1\n" (refused 7 2)
    -- G: the highest kilograms
    ∷ gives "P,1,10000000000\nP,2,1\nG,1,2,10000000000\n" accepted
    ∷ gives "P,1,10000000000\nP,2,1\nG,1,2,10000000001\n" (refused 7 3)
    -- a number of many digits is out of range, and is a number
    ∷ gives "P,1,100000000000000000000000000000000000000000\n" (refused 7 1)
    -- document 02, ticket 4: 17 and 18
    ∷ gives "K,1,1,5,5\nK,1,1,6,6\n" (refused 17 2)
    ∷ gives "P,1,5\nN,1,1,9\n" (refused 18 2)
    -- accepted: K lines alone, another rank of the same precursor, another precursor of the same rank, and a K line below the use
    ∷ gives "K,1,1,5,5\n" accepted
    ∷ gives "K,1,3,5,5\nK,1,1,6,6\nK,1,2,7,7\nK,2,1,5,5\n" accepted
    ∷ gives "P,1,5\nN,1,1,9\nK,1,3,5,5\n" accepted
    -- a K line above the P lines makes the next P line 8; an N line without its P line is 9
    ∷ gives "K,1,1,5,5\nP,1,5\n" (refused 8 2)
    ∷ gives "P,1,5\nN,2,1,9\n" (refused 9 2)
    ∷ gives "P,1,5\nN,2,1,x\n" (refused 6 2)
    ∷ gives "P,1,5\nN,2,1,0\n" (refused 7 2)
    -- 6 and 7 before 17, and an upper 13 before it
    ∷ gives "K,1,1,5,5\nK,1,1,x,6\n" (refused 6 2)
    ∷ gives "K,1,1,5,5\nK,1,1,6,100000001\n" (refused 7 2)
    ∷ gives "P,1,5\nP,2,5\nK,1,1,5,5\nG,1,2,6\nK,1,1,6,6\n" (refused 13 4)
    -- 17 before a lower line's refusal, though that has the lower number
    ∷ gives "K,1,1,5,5\nK,1,1,6,6\nX\n" (refused 17 2)
    -- 18 once all lines have passed: after every refusal of a line, 17 too
    ∷ gives "P,1,5\nN,1,1,9\nX\n" (refused 4 3)
    ∷ gives "P,1,5\nN,1,1,9\nK,2,1,5,5\nK,2,1,6,6\n" (refused 17 4)
    ∷ gives "P,1,5\nN,1,1,9\nK,1,1,5,5" (refused 3 3)
    -- 18 at the first such line, where the N line above it has its K line below, and K lines of other precursors stand everywhere
    ∷ gives "P,1,5\nK,3,1,5,5\nN,1,1,9\nN,1,2,9\nN,1,4,9\nK,1,3,5,5\n" (refused 18 4)
    -- K and N at their highest, and one above or below
    ∷ gives "P,1,5\nK,255,3,100000000,100000000\nK,1,1,0,0\nN,1,255,10000000000\nN,1,1,1\n" accepted
    ∷ gives "K,256,1,1,1\n" (refused 7 1)
    ∷ gives "K,0,1,1,1\n" (refused 7 1)
    ∷ gives "K,1,4,1,1\n" (refused 7 1)
    ∷ gives "K,1,0,1,1\n" (refused 7 1)
    ∷ gives "K,1,1,100000001,1\n" (refused 7 1)
    ∷ gives "K,1,1,1,100000001\n" (refused 7 1)
    ∷ gives "P,1,5\nN,0,1,1\n" (refused 7 2)
    ∷ gives "P,1,5\nN,17,1,1\n" (refused 7 2)
    ∷ gives "P,1,5\nN,1,0,1\n" (refused 7 2)
    ∷ gives "P,1,5\nN,1,256,1\n" (refused 7 2)
    ∷ gives "P,1,5\nN,1,1,0\n" (refused 7 2)
    ∷ gives "P,1,5\nN,1,1,10000000001\n" (refused 7 2)
    -- no `-` in either, and their counts of fields
    ∷ gives "K,1,1,-,1\n" (refused 6 1)
    ∷ gives "P,1,5\nN,1,1,-\n" (refused 6 2)
    ∷ gives "K,1,1,1\n" (refused 5 1)
    ∷ gives "P,1,5\nN,1,1,1,1\n" (refused 5 2)
    ∷ []

-- what the definitions say of a sheet
abbrev pub judged : Example → Verdict
judged e = first_of (sheet_checks e.within (bytes e.sheet))
