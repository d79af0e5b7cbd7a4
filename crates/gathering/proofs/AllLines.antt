-- Reading all lines from the top: the verdict of the lines that are left is that of all, and what is held is of the lines above.
-- Assumes nothing.
use mathlib.Core.Path.{◌≡◌, refl, sym, ap, ◌∙◌}
use mathlib.Core.Bool.{true}
use mathlib.Core.List.{List, [], ◌∷◌, map}
use Prim.Native.Nat.{ℕ, zero, suc, ◌+◌}
use native.Mathlib.Omega.{arith}
use lib.ListN.{length, replicate, take, drop}
use lib.Seq.{drop-drop}
use native.Mathlib.Numerals.{add-one}
use Rattle.lines.specs.Lines.{Line}
use Rattle.lines.specs.Records.{Record, record_of}
use Rattle.lines.specs.declared.LineRead.{LineRead}
use Rattle.goods.specs.Settling.{PAIRS}
use Rattle.quantity.specs.Limits.{limits}
use Rattle.sheet.specs.Refusals.{sum_of}
use Rattle.sheet.specs.Verdict.{accepted, refused, first_of, line_checks, lines_checks}
use Rattle.sheet.proofs.First.{accepted_passes, first_rest, first_here}
use Rattle.sheet.proofs.Passed.{line_passed}
use Rattle.judge.specs.Line.{line_number}
use Rattle.judge.proofs.Line.{AboveHeld, given, line_accepted, line_refused}
use Rattle.entries.specs.Read.{LineKeeps}
use Rattle.works.specs.Works.{works_at_start, nothing_stated, works_after, stated_after, kilos_after, above_of}
use Rattle.works.specs.declared.Works.{Works}
use Rattle.works.specs.declared.Stated.{Stated}
use Rattle.gathering.specs.Gathered.{NoKilos}
use Rattle.gathering.proofs.HeldLedger.{held_start}
use Rattle.gathering.proofs.HeldGoods.{goods_start}
use Rattle.gathering.proofs.HeldStated.{stated_start}
use Rattle.gathering.proofs.Standing.{Standing, Says, small_limits, standing_start, standing_next, above_held, line_keeps}

-- of all lines those in `left` are not read yet
pub record Reading (all left : List Line) (w : Works) (stated : Stated) (kilos : List ℕ) : Type 0 where
  pub above : List Record
  pub standing : Standing above w stated kilos
  pub verdict : first_of (lines_checks limits above left) ≡ first_of (lines_checks limits [] all)
  pub sums : (f : Record → ℕ) → sum_of f above + sum_of f (map record_of left) ≡ sum_of f (map record_of all)
  pub place : drop (length above) all ≡ left

pub reading_start : (all : List Line) (kilos : List ℕ) → NoKilos kilos → Reading all all works_at_start nothing_stated kilos
unfolding sum_of
reading_start all kilos e = record {
  above = [];
  standing = rw e (standing_start works_at_start nothing_stated (replicate PAIRS 0) refl refl goods_start stated_start held_start);
  verdict = refl;
  sums = λ f. omega arith;
  place = refl;
}

-- a sum over the first n lines and the others
sums_parted : (f : Record → ℕ) (n : ℕ) (all : List Line)
    → sum_of f (map record_of (take n all)) + sum_of f (map record_of (drop n all)) ≡ sum_of f (map record_of all)
unfolding sum_of
sums_parted f zero all = omega arith
sums_parted f (suc n) [] = omega arith
sums_parted f (suc n) (l ∷ all) = omega (arith, sums_parted f n all)

-- every sum over the lines above is that over the first lines of all
pub sums_first : {all left : List Line} {w : Works} {stated : Stated} {kilos : List ℕ} (rd : Reading all left w stated kilos) (f : Record → ℕ)
    → sum_of f rd.above ≡ sum_of f (map record_of (take (length rd.above) all))
sums_first {all} rd f =
    let s = rw rd.place at (sums_parted f (length rd.above) all) in
    omega (arith, rd.sums f, s)

-- the number that the code gives a line of words l, under the state
abbrev pub line_given : Line → Works → Stated → (kilos : List ℕ) → LineRead → ℕ
line_given line w stated kilos l = line_number limits line.ended l.letter l.count l.words (above_of w stated kilos l)

module _ (all rest : List Line) (line : Line) (w : Works) (stated : Stated) (kilos : List ℕ) (rd : Reading all (line ∷ rest) w stated kilos)
    (l : LineRead) (says : Says l (record_of line)) where
  given_is : line_given line w stated kilos l ≡ given limits line (above_of w stated kilos l)
  given_is = rw (says.letter, says.count, says.words)

  held : AboveHeld limits rd.above (record_of line) (above_of w stated kilos l)
  held = above_held rd.above w stated kilos rd.standing l (record_of line) says

  pub accepted_here : line_given line w stated kilos l ≡ 0 → first_of (line_checks limits rd.above line) ≡ accepted
  accepted_here z = line_accepted limits small_limits rd.above line (above_of w stated kilos l) held (sym given_is ∙ z)

  pub refused_here : (n : ℕ) → line_given line w stated kilos l ≡ n → (n ≡ 0 → ⊥) → first_of (lines_checks limits [] all) ≡ refused n (w.noted.lines + 1)
  unfolding lines_checks
  refused_here n e some =
      let number : suc (length rd.above) ≡ w.noted.lines + 1 = omega (arith, rd.standing.lines) in
      sym rd.verdict
      ∙ first_here (line_checks limits rd.above line) (lines_checks limits (record_of line ∷ rd.above) rest) n (w.noted.lines + 1)
      (line_refused limits small_limits rd.above line (above_of w stated kilos l) held n (sym given_is ∙ e) some
      ∙ ap (refused n) number)

  -- ---- the line accepted

  module _ (ok : first_of (line_checks limits rd.above line) ≡ accepted) where
    pub keeps_here : LineKeeps l
    keeps_here = line_keeps line l says rd.above ok

    pub ended_here : line.ended ≡ true
    ended_here = (line_passed limits rd.above line (accepted_passes _ ok)).ended

    pub reading_next : Reading all rest (works_after w l) (stated_after stated l) (kilos_after kilos l)
    unfolding sum_of lines_checks
    reading_next = record {
      above = record_of line ∷ rd.above;
      standing = standing_next line l says rd.above ok w stated kilos rd.standing;
      verdict = sym (first_rest (line_checks limits rd.above line) _ ok) ∙ rd.verdict;
      sums = λ f. let s = rd.sums f in omega arith;
      place = ap (λ (n : ℕ). drop n all) (sym (add-one (length rd.above))) ∙ sym (drop-drop 1 (length rd.above) all) ∙ ap (drop 1) rd.place;
    }

    -- every sum with this line is that over the first lines of all
    pub sums_next : (f : Record → ℕ) → sum_of f (record_of line ∷ rd.above) ≡ sum_of f (map record_of (take (length (record_of line ∷ rd.above)) all))
    unfolding reading_next
    sums_next f = sums_first reading_next f

-- no line is left
pub reading_verdict : (all : List Line) (w : Works) (stated : Stated) (kilos : List ℕ) → Reading all [] w stated kilos → first_of (lines_checks limits [] all) ≡ accepted
unfolding lines_checks first_of
reading_verdict all w stated kilos rd = sym rd.verdict
