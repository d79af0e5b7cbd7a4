-- Examples. They tell document 01's attributions, raising, pools and portions apart, and document 02's governing figures, with figures worked out
-- by hand.
use Rattle.std.specs.Prelude.{List, [], ◌∷◌, ◌++◌, ℕ, ℤ, pos, negsuc}
use Prim.Native.String.{String}
use Rattle.decimal.specs.Text.{bytes}
use Rattle.lines.specs.Records.{records_of}
use Rattle.attribution.specs.Governing.{governed}
use Rattle.attribution.specs.Reckoning.{Reckoning, reckoning}
use Rattle.attribution.specs.Verdict.{rows_grams}

-- the grams of each row (direct, indirect, raised, both pools, both lefts), then left, raised and uncredited; and what entered
pub record Figures : Type 0 where
  pub grams : List ℕ
  pub entered : ℤ

abbrev pub figures : List ℕ → ℤ → Figures
figures grams entered = record { grams = grams; entered = entered }

abbrev figures_of : Reckoning → Figures
figures_of r = figures (rows_grams r.rows ++ (r.totals.left ∷ r.totals.raised ∷ r.totals.uncredited ∷ [])) r.totals.entered

pub record Example : Type 0 where
  pub sheet : String
  pub expected : Figures

abbrev gives : String → List ℕ → ℤ → Example
gives sheet grams entered = record { sheet = sheet; expected = figures grams entered }

abbrev pub found : Example → Figures
found e = figures_of (reckoning (governed (records_of (bytes e.sheet))))

unfoldable pub examples : List Example
examples =
    -- heat of 30 g passes from 1 to 2, out of 100,000 g
    gives "P,1,10\nP,2,10\nS,1,2,0,100,1000000,0,10000,0\nH,1,2,30,1000\n"
    (99970 ∷ 0 ∷ 0 ∷ 99970 ∷ 0 ∷ 99970 ∷ 0
    ∷ 30 ∷ 0 ∷ 0 ∷ 30 ∷ 0 ∷ 30 ∷ 0
    ∷ 100000 ∷ 0 ∷ 0 ∷ []) (pos 100000)
    -- power of 50 g passes from 1 to 2: it leaves the direct balance and enters the indirect one
    ∷ gives "P,1,10\nP,2,10\nS,1,2,0,100,1000000,0,10000,0\nE,1,2,50,1000\n"
    (99950 ∷ 0 ∷ 0 ∷ 99950 ∷ 0 ∷ 99950 ∷ 0
    ∷ 0 ∷ 50 ∷ 0 ∷ 0 ∷ 50 ∷ 0 ∷ 50
    ∷ 100000 ∷ 0 ∷ 0 ∷ []) (pos 100000)
    -- a process feeds itself
    ∷ gives "P,1,10\nS,1,2,0,100,1000000,0,10000,0\nE,1,1,50,1000\n"
    (99950 ∷ 50 ∷ 0 ∷ 99950 ∷ 50 ∷ 99950 ∷ 50 ∷ 100000 ∷ 0 ∷ 0 ∷ []) (pos 100000)
    -- waste gas of 10 MJ from 1 to 2: 561 g charged, 374 g credited, 187 g uncredited
    ∷ gives "P,1,10\nP,2,10\nS,1,2,0,100,1000000,0,10000,0\nW,1,2,10\n"
    (99626 ∷ 0 ∷ 0 ∷ 99626 ∷ 0 ∷ 99626 ∷ 0
    ∷ 561 ∷ 0 ∷ 0 ∷ 561 ∷ 0 ∷ 561 ∷ 0
    ∷ 100187 ∷ 0 ∷ 187 ∷ []) (pos 100000)
    -- waste gas out of the works, and into it
    ∷ gives "P,1,10\nS,1,2,0,100,1000000,0,10000,0\nW,1,0,10\n"
    (99626 ∷ 0 ∷ 0 ∷ 99626 ∷ 0 ∷ 99626 ∷ 0 ∷ 99626 ∷ 0 ∷ 0 ∷ []) (pos 99626)
    ∷ gives "P,1,10\nS,1,2,0,100,1000000,0,10000,0\nW,0,1,10\n"
    (100561 ∷ 0 ∷ 0 ∷ 100561 ∷ 0 ∷ 100561 ∷ 0 ∷ 100561 ∷ 0 ∷ 0 ∷ []) (pos 100561)
    -- heat and power out of the works, and into it
    ∷ gives "P,1,10\nS,1,2,0,100,1000000,0,10000,0\nH,1,0,30,1000\nE,1,0,20,1000\n"
    (99950 ∷ 0 ∷ 0 ∷ 99950 ∷ 0 ∷ 99950 ∷ 0 ∷ 99950 ∷ 0 ∷ 0 ∷ []) (pos 99950)
    ∷ gives "P,1,10\nH,0,1,30,1000\nE,0,1,20,1000\n"
    (30 ∷ 20 ∷ 0 ∷ 30 ∷ 20 ∷ 30 ∷ 20 ∷ 50 ∷ 0 ∷ 0 ∷ []) (pos 50)
    -- a balance of −1 g is raised before 5 bought grams are added; raising after it would leave 4 and raise none
    ∷ gives "P,1,5\nE,1,0,1,1000\nB,1,1,5000,7000\n"
    (0 ∷ 0 ∷ 1 ∷ 5 ∷ 7 ∷ 5 ∷ 7 ∷ 12 ∷ 1 ∷ 0 ∷ []) (pos 11)
    -- carbon going out counts minus: 4 g out of 100
    ∷ gives "P,1,10\nS,1,2,0,1,100000,0,10000,0\nS,1,4,0,1,1000,0,10000,0\n"
    (96 ∷ 0 ∷ 0 ∷ 96 ∷ 0 ∷ 96 ∷ 0 ∷ 96 ∷ 0 ∷ 0 ∷ []) (pos 96)
    -- ticket 2: coke of 11 g, charcoal that is all biomass, and 4 g out in the iron, half of them biomass: 11 + 0 − 2
    ∷ gives "P,1,10\nS,1,3,0,3,1000,0,10000,0\nS,1,3,0,100,800000,0,10000,10000\nS,1,4,0,1,1000,0,10000,5000\n"
    (9 ∷ 0 ∷ 0 ∷ 9 ∷ 0 ∷ 9 ∷ 0 ∷ 9 ∷ 0 ∷ 0 ∷ []) (pos 9)
    -- charcoal alone, and 11 g out in the iron, half of them biomass: 5.5 rounded is 6, and the balance of −6 g is raised
    ∷ gives "P,1,10\nS,1,3,0,100,800000,0,10000,10000\nS,1,4,0,3,1000,0,10000,5000\n"
    (0 ∷ 0 ∷ 6 ∷ 0 ∷ 0 ∷ 0 ∷ 0 ∷ 0 ∷ 6 ∷ 0 ∷ []) (negsuc 5)
    -- pool 2,000, output 3, all of it taken: the portion is the pool; from the printed 666.666 g/kg it would be 1,999
    ∷ gives "P,1,3\nP,2,1\nS,1,2,0,1,2000000,0,10000,0\nG,1,2,3\n"
    (2000 ∷ 0 ∷ 0 ∷ 2000 ∷ 0 ∷ 0 ∷ 0
    ∷ 0 ∷ 0 ∷ 0 ∷ 2000 ∷ 0 ∷ 2000 ∷ 0
    ∷ 2000 ∷ 0 ∷ 0 ∷ []) (pos 2000)
    -- takers stand by rising process number, whatever the order of the lines: 1 kg and 2 kg of 7, pool 10: portions 1 and 3, left 6
    ∷ gives "P,1,7\nP,2,1\nP,3,1\nS,1,2,0,1,10000,0,10000,0\nG,1,3,2\nG,1,2,1\n"
    (10 ∷ 0 ∷ 0 ∷ 10 ∷ 0 ∷ 6 ∷ 0
    ∷ 0 ∷ 0 ∷ 0 ∷ 1 ∷ 0 ∷ 1 ∷ 0
    ∷ 0 ∷ 0 ∷ 0 ∷ 3 ∷ 0 ∷ 3 ∷ 0
    ∷ 10 ∷ 0 ∷ 0 ∷ []) (pos 10)
    -- a good passes on what its process took itself: 8 g, half to 2, and half of those to 3; power likewise
    ∷ gives "P,1,2\nP,2,2\nP,3,1\nS,1,2,0,1,8000,0,10000,0\nE,0,1,4,1000\nG,1,2,1\nG,2,3,1\n"
    (8 ∷ 4 ∷ 0 ∷ 8 ∷ 4 ∷ 4 ∷ 2
    ∷ 0 ∷ 0 ∷ 0 ∷ 4 ∷ 2 ∷ 2 ∷ 1
    ∷ 0 ∷ 0 ∷ 0 ∷ 2 ∷ 1 ∷ 2 ∷ 1
    ∷ 12 ∷ 0 ∷ 0 ∷ []) (pos 12)
    -- ticket 4: figures at three ranks, of which 1 governs, in two orders, and above and below the use: 3 kg are 6 g and round(1.5) g
    ∷ gives "P,1,10\nK,7,3,9000,900\nK,7,1,2000,500\nK,7,2,4000,700\nN,1,7,3\n"
    (0 ∷ 0 ∷ 0 ∷ 6 ∷ 2 ∷ 6 ∷ 2 ∷ 8 ∷ 0 ∷ 0 ∷ []) (pos 8)
    ∷ gives "P,1,10\nN,1,7,3\nK,7,1,2000,500\nK,7,2,4000,700\nK,7,3,9000,900\n"
    (0 ∷ 0 ∷ 0 ∷ 6 ∷ 2 ∷ 6 ∷ 2 ∷ 8 ∷ 0 ∷ 0 ∷ []) (pos 8)
    -- 2 governs over 3, also where it is stated after the use: 12 g and round(2.1) g; 3 alone: 27 g and round(2.7) g
    ∷ gives "P,1,10\nK,7,3,9000,900\nN,1,7,3\nK,7,2,4000,700\n"
    (0 ∷ 0 ∷ 0 ∷ 12 ∷ 2 ∷ 12 ∷ 2 ∷ 14 ∷ 0 ∷ 0 ∷ []) (pos 14)
    ∷ gives "P,1,10\nK,7,3,9000,900\nN,1,7,3\n"
    (0 ∷ 0 ∷ 0 ∷ 27 ∷ 3 ∷ 27 ∷ 3 ∷ 30 ∷ 0 ∷ 0 ∷ []) (pos 30)
    -- each line is rounded for itself: twice round(0.5) and twice round(0.4); the kilograms added first would give 1 g and round(0.8)
    ∷ gives "P,1,10\nK,7,1,500,400\nN,1,7,1\nN,1,7,1\n"
    (0 ∷ 0 ∷ 0 ∷ 2 ∷ 0 ∷ 2 ∷ 0 ∷ 2 ∷ 0 ∷ 0 ∷ []) (pos 2)
    -- two precursors, each with its own figures, whichever process uses them
    ∷ gives "P,1,10\nP,2,10\nK,1,2,3000,0\nK,2,1,5000,1000\nN,1,1,1\nN,2,2,2\nN,2,1,1\n"
    (0 ∷ 0 ∷ 0 ∷ 3 ∷ 0 ∷ 3 ∷ 0
    ∷ 0 ∷ 0 ∷ 0 ∷ 13 ∷ 2 ∷ 13 ∷ 2
    ∷ 18 ∷ 0 ∷ 0 ∷ []) (pos 18)
    -- a balance of −1 g is raised before what an N line buys is added, as with a B line
    ∷ gives "P,1,5\nE,1,0,1,1000\nK,9,1,5000,7000\nN,1,9,1\n"
    (0 ∷ 0 ∷ 1 ∷ 5 ∷ 7 ∷ 5 ∷ 7 ∷ 12 ∷ 1 ∷ 0 ∷ []) (pos 11)
    -- a good passes on what an N line buys: half of 8 g and of 4 g
    ∷ gives "P,1,2\nP,2,2\nK,3,1,4000,2000\nN,1,3,2\nG,1,2,1\n"
    (0 ∷ 0 ∷ 0 ∷ 8 ∷ 4 ∷ 4 ∷ 2
    ∷ 0 ∷ 0 ∷ 0 ∷ 4 ∷ 2 ∷ 4 ∷ 2
    ∷ 12 ∷ 0 ∷ 0 ∷ []) (pos 12)
    -- a K line that no N line needs, and K lines alone
    ∷ gives "P,1,5\nK,9,1,5000,7000\n" (0 ∷ 0 ∷ 0 ∷ 0 ∷ 0 ∷ 0 ∷ 0 ∷ 0 ∷ 0 ∷ 0 ∷ []) (pos 0)
    ∷ gives "K,9,1,5000,7000\nK,9,2,5000,7000\n" (0 ∷ 0 ∷ 0 ∷ []) (pos 0)
    ∷ []
