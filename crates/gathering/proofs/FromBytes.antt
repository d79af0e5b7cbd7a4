-- Lines read from the sheet's bytes: the line that starts at a place is the first of those that are left there. Assumes nothing.
use mathlib.Core.Path.{◌≡◌, refl, sym, ap, ◌∙◌}
use mathlib.Core.Bool.{not}
use mathlib.Core.List.{List, [], ◌∷◌, map}
use Prim.Native.Nat.{ℕ, suc, ◌+◌, ◌-◌, ◌≤◌, ◌<◌}
use native.Mathlib.Omega.{arith}
use borrow.Author.Tests.{ltb-true}
use lib.Dec.{eqb, ltb}
use lib.ListN.{length, take, drop}
use Rattle.std.proofs.lemmas.Bool.Decides.{nat_tests}
use Rattle.lines.specs.Lines.{Line, lines_of}
use Rattle.lines.specs.Records.{record_of, records_of}
use Rattle.lines.specs.Words.{ReadAt, line_at, line_length}
use Rattle.lines.specs.declared.LineRead.{LineRead}
use Rattle.places.specs.LineStart.{start_of}
use Rattle.places.proofs.NextLine.{lines_step, lines_done, line_ended, end_in}
use Rattle.places.proofs.LineStart.{first_starts, start_kept, start_next}
use Rattle.std.specs.Prelude.{Some}
use Rattle.quantity.specs.Limits.{limits}
use Rattle.sheet.specs.Refusals.{sum_of, from, to}
use Rattle.sheet.specs.Verdict.{accepted, refused, first_of, line_checks, lines_checks}
use Rattle.entries.specs.Read.{LineKeeps}
use Rattle.goods.specs.Settling.{SIZE, pairs}
use Rattle.goods.specs.Sums.{only_at}
use Rattle.attribution.specs.Reckoning.{kilos_of, kilos_between}
use Rattle.works.specs.Works.{works_at_start, nothing_stated, stated_after, kilos_after, works_after, above_of, read_number}
use Rattle.works.specs.declared.Works.{Works}
use Rattle.works.specs.declared.Stated.{Stated}
use Rattle.gathering.specs.Gathered.{Gathered, StatedIn, PlacesIn, NoKilos, records_above}
use Rattle.gathering.proofs.AnyOrder.{SameSums, places_same}
use Rattle.gathering.proofs.HeldPlaces.{places_start}
use Rattle.gathering.proofs.Standing.{Says, places_next}
use Rattle.gathering.proofs.AllLines.{Reading, line_given, reading_start, sums_first, accepted_here, refused_here}
use Rattle.gathering.proofs.AllLines.{keeps_here, ended_here, reading_next, sums_next, reading_verdict}
use Rattle.gathering.proofs.Gathering.{gathered, stated_all}

-- a line starts at a place, the lines from there on are left, and the ends that are held are those of K lines above it
pub record ReadingAt (sheet : List ℕ) (at : ℕ) (w : Works) (stated : Stated) (kilos : List ℕ) : Type 0 where
  pub inside : at ≤ length sheet
  pub starts : start_of sheet at ≡ at
  pub left : Reading (lines_of sheet) (lines_of (drop at sheet)) w stated kilos
  pub places : length sheet ≤ limits.bytes → PlacesIn sheet (records_above sheet (w.noted.lines + 1)) stated

pub at_start : (sheet kilos : List ℕ) → NoKilos kilos → ReadingAt sheet 0 works_at_start nothing_stated kilos
at_start sheet kilos e = record {
  inside = omega arith;
  starts = first_starts sheet;
  left = reading_start (lines_of sheet) kilos e;
  places = λ short. places_start sheet;
}

not_equal : (a b : ℕ) → a ≤ b → not (eqb a b) ≡ ltb a b
not_equal a b h = grind (arith, nat_tests)

module _ (sheet : List ℕ) (at : ℕ) (w : Works) (stated : Stated) (kilos : List ℕ) (rd : ReadingAt sheet at w stated kilos) (more : at < length sheet)
    (l : LineRead) (read : ReadAt sheet at l) where
  abbrev line : Line
  line = line_at sheet at

  abbrev rest : List Line
  rest = lines_of (drop (suc (at + line_length (drop at sheet))) sheet)

  pub here : Reading (lines_of sheet) (line_at sheet at ∷ lines_of (drop (suc (at + line_length (drop at sheet))) sheet)) w stated kilos
  here = rw (lines_step sheet at more) at rd.left

  says : Says l (record_of (line_at sheet at))
  says = record { letter = read.letter; count = read.count; words = read.words }

  number_is : read_number limits l (Some (length sheet)) (above_of w stated kilos l) ≡ line_given (line_at sheet at) w stated kilos l
  number_is =
      let last : l.end ≤ length sheet = omega (arith, read.end, end_in sheet at rd.inside) in
      rw (not_equal l.end (length sheet) last ∙ sym (line_ended sheet at l.end rd.inside read.end))

  pub accepted_at : read_number limits l (Some (length sheet)) (above_of w stated kilos l) ≡ 0 → first_of (line_checks limits here.above (line_at sheet at)) ≡ accepted
  accepted_at z = accepted_here (lines_of sheet) rest line w stated kilos here l says (sym number_is ∙ z)

  pub refused_at_lem : (n : ℕ) → n ≡ read_number limits l (Some (length sheet)) (above_of w stated kilos l) → (n ≡ 0 → ⊥)
      → first_of (lines_checks limits [] (lines_of sheet)) ≡ refused n (w.noted.lines + 1)
  refused_at_lem n e some = refused_here (lines_of sheet) rest line w stated kilos here l says n (sym number_is ∙ sym e) some

  -- what stands there is of the lines above
  same_above : SameSums here.above (records_above sheet (w.noted.lines + 1))
  same_above f =
      let n : length here.above ≡ w.noted.lines + 1 - 1 = omega (arith, here.standing.lines) in
      sums_first here f ∙ ap (λ (k : ℕ). sum_of f (map record_of (take k (lines_of sheet)))) n

  pub kilos_at : (i j : ℕ) → j < SIZE → pairs kilos i j ≡ kilos_between (records_above sheet (w.noted.lines + 1)) i j
  unfolding kilos_between
  kilos_at i j h = here.standing.goods.kilos_at i j h ∙ same_above (λ r. only_at i (from r) (only_at j (to r) (kilos_of r)))

  module _ (ok : first_of (line_checks limits here.above (line_at sheet at)) ≡ accepted) where
    pub keeps_at : LineKeeps l
    keeps_at = keeps_here (lines_of sheet) rest line w stated kilos here l says ok

    pub end_at : l.end < length sheet
    end_at =
        ltb-true l.end (length sheet)
        (sym (line_ended sheet at l.end rd.inside read.end) ∙ ended_here (lines_of sheet) rest line w stated kilos here l says ok)

    -- the ends that are held, with this line
    places_at : length sheet ≤ limits.bytes → PlacesIn sheet (records_above sheet (w.noted.lines + 1 + 1)) (stated_after stated l)
    places_at short =
        let above = places_same _ here.above (λ f. sym (same_above f)) (rd.places short) in
        let with = places_next line l says here.above ok w stated kilos here.standing sheet at refl more (omega (arith, end_at, short)) end_at (start_kept sheet at l.end read.end rd.starts) above in
        let n : length (record_of line ∷ here.above) ≡ w.noted.lines + 1 + 1 - 1 = omega (arith, here.standing.lines) in
        let same : SameSums (record_of line ∷ here.above) (records_above sheet (w.noted.lines + 1 + 1)) = λ f.
        sums_next (lines_of sheet) rest line w stated kilos here l says ok f ∙ ap (λ (k : ℕ). sum_of f (map record_of (take k (lines_of sheet)))) n in
        places_same _ _ same with

    pub next_at : ReadingAt sheet (l.end + 1) (works_after w l) (stated_after stated l) (kilos_after kilos l)
    next_at =
        let next : l.end + 1 ≡ suc (at + line_length (drop at sheet)) = omega (arith, read.end) in
        record {
          inside = omega (arith, end_at);
          starts = start_next sheet at l.end read.end more end_at;
          left = rw next (reading_next (lines_of sheet) rest line w stated kilos here l says ok);
          places = places_at;
        }

-- nothing is left
module _ (sheet : List ℕ) (at : ℕ) (w : Works) (stated : Stated) (kilos : List ℕ) (rd : ReadingAt sheet at w stated kilos) (done : length sheet ≤ at) where
  none : Reading (lines_of sheet) [] w stated kilos
  none = rw (lines_done sheet at done) at rd.left

  pub verdict_at : first_of (lines_checks limits [] (lines_of sheet)) ≡ accepted
  verdict_at = reading_verdict (lines_of sheet) w stated kilos none

  pub gathered_at : Gathered (records_of sheet) w kilos
  gathered_at = gathered sheet w stated kilos none

  pub stated_in_all : StatedIn (records_of sheet) stated
  stated_in_all = stated_all sheet w stated kilos none

  pub places_in_all : length sheet ≤ limits.bytes → PlacesIn sheet (records_of sheet) stated
  unfolding sum_of records_of
  places_in_all short =
      let n : length none.above ≡ w.noted.lines + 1 - 1 = omega (arith, none.standing.lines) in
      let same : SameSums (records_above sheet (w.noted.lines + 1)) (records_of sheet) = λ f.
      sym (sums_first none f ∙ ap (λ (k : ℕ). sum_of f (map record_of (take k (lines_of sheet)))) n)
      ∙ (let s : sum_of f none.above ≡ sum_of f (map record_of (lines_of sheet)) = omega (arith, none.sums f) in s) in
      places_same _ _ same (rd.places short)
