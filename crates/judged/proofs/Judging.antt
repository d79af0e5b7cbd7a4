-- Lines judged one after the other, from a sheet's bytes or from lent records; the books are kept in thought only. Assumes nothing.
use mathlib.Core.Path.{◌≡◌, refl, sym, ap, ◌∙◌}
use mathlib.Core.Bool.{Bool, true, false}
use mathlib.Core.List.{List, []}
use Prim.Native.Nat.{ℕ, ◌+◌, ◌*◌, ◌^◌, ◌≤◌, ◌<◌}
use native.Mathlib.Omega.{arith}
use borrow.Author.Tests.{ne_eqb}
use lib.Dec.{eqb}
use lib.ListN.{length, drop, replicate}
use Rattle.std.specs.Prelude.{Option, Some}
use Rattle.decimal.proofs.Bools.{never}
use Rattle.quantity.specs.Limits.{limits}
use Rattle.lines.specs.Lines.{lines_of}
use Rattle.lines.specs.Records.{records_of}
use Rattle.lines.specs.Words.{ReadAt, line_at}
use Rattle.lines.specs.declared.LineRead.{LineRead}
use Rattle.sheet.specs.Refusals.{sum_of}
use Rattle.sheet.specs.Verdict.{accepted, refused, first_of, line_checks, lines_checks}
use Rattle.ledger.specs.Ledger.{start}
use Rattle.ledger.specs.declared.Ledger.{Ledger}
use Rattle.entries.specs.Read.{LineKeeps}
use Rattle.goods.specs.Settling.{PAIRS}
use Rattle.works.specs.Works.{above_at, above_of, lacks_lf, read_number, noted_after, stated_after, kilos_after, nothing_noted, nothing_stated, RoomForLine}
use Rattle.works.specs.declared.Noted.{Noted}
use Rattle.works.specs.declared.Stated.{Stated}
use Rattle.works.specs.declared.Works.{Works}
use Rattle.places.proofs.NextLine.{lines_done}
use Rattle.gathering.specs.Gathered.{StatedIn}
use Rattle.gathering.proofs.AnyOrder.{SameSums, same_length}
use Rattle.gathering.proofs.AllLines.{Reading}
use Rattle.gathering.proofs.Standing.{room_for_line}
use Rattle.gathering.proofs.FromBytes.{ReadingAt, here, at_start, accepted_at, refused_at_lem, keeps_at, end_at, next_at, verdict_at, stated_in_all}
use Rattle.lent.specs.Lent.{RECORD, sheet_lent}
use Rattle.judged.specs.Judged.{sheet_given, size_given, Spelt, Near}
use Rattle.judged.proofs.Given.{there, next_lent, ended_lent}

-- a line's end fits in 64 bits, and so does the place after it
pub end_fits : (lent : Bool) (bytes list : List ℕ) (lines : ℕ) → lines ≤ limits.lines → (end : ℕ) → Near lent (end + 1) (lines + 1)
    → end < length (sheet_given lent bytes list) → length bytes < 2 ^ 64 → end + 1 < 2 ^ 64
end_fits true bytes list lines few end near inside long = let low = near refl in omega arith
end_fits false bytes list lines few end near inside long = omega arith

-- the lines above are judged and noted, those from a place on are left
pub record JudgingAt (lent : Bool) (bytes list : List ℕ) (size : Option ℕ) (stated : Stated) (kilos : List ℕ) (noted : Noted) (at : ℕ) : Type 0 where
  pub sized : size ≡ size_given lent bytes
  pub books : Ledger
  pub reading : ReadingAt (sheet_given lent bytes list) at (record { noted = noted; ledger = books }) stated kilos
  pub spelt : Spelt lent list at noted.lines
  pub near : Near lent at noted.lines

pub judging_start : (lent : Bool) (bytes list : List ℕ) (size : Option ℕ) → size ≡ size_given lent bytes
    → JudgingAt lent bytes list size nothing_stated (replicate PAIRS 0) nothing_noted 0
judging_start lent bytes list size long = record {
  sized = long;
  books = start;
  reading = at_start (sheet_given lent bytes list) (replicate PAIRS 0) refl;
  spelt = λ e. refl;
  near = λ e. omega arith;
}

module _ {lent : Bool} {bytes list : List ℕ} {size : Option ℕ} {stated : Stated} {kilos : List ℕ} {noted : Noted} {at : ℕ}
    (j : JudgingAt lent bytes list size stated kilos noted at) where
  abbrev sheet : List ℕ
  sheet = sheet_given lent bytes list

  abbrev works : Works
  works = record { noted = noted; ledger = j.books }

  abbrev lines : ℕ
  lines = noted.lines

  pub few : noted.lines ≤ limits.lines
  few = omega (arith, j.reading.left.standing.lines, j.reading.left.standing.few)

  pub room : RoomForLine noted kilos
  room = room_for_line _ _ _ _ j.reading.left.standing

  -- ---- a line is there

  module _ (more : at < length (sheet_given lent bytes list)) (l : LineRead) (read : ReadAt (sheet_given lent bytes list) at l) where
    -- a line of lent records has its LF, so that its end is not the sheet's
    ended : lacks_lf l.end size ≡ eqb l.end (length sheet)
    ended = ap (lacks_lf l.end) j.sized ∙ go lent j.spelt more read
      where
        go : (b : Bool) → Spelt b list at lines → at < length (sheet_given b bytes list) → ReadAt (sheet_given b bytes list) at l
            → lacks_lf l.end (size_given b bytes) ≡ eqb l.end (length (sheet_given b bytes list))
        go false spelt more read = refl
        go true spelt more read =
            let some = there true bytes list at lines refl spelt more in
            let inside = ended_lent list at lines (spelt refl) some l.end read.end in
            sym (ne_eqb l.end (length (sheet_lent list)) (λ z. omega arith))

    number_is : read_number limits l size (above_of works stated kilos l) ≡ read_number limits l (Some (length sheet)) (above_of works stated kilos l)
    number_is = rw ended

    pub judged_refused : (n : ℕ) → n ≡ read_number limits l size (above_at noted stated kilos l) → (n ≡ 0 → ⊥)
        → first_of (lines_checks limits [] (lines_of (sheet_given lent bytes list))) ≡ refused n (noted.lines + 1)
    judged_refused n e some = refused_at_lem sheet at works stated kilos j.reading more l read n (e ∙ number_is) some

    module _ (zero : read_number limits l size (above_at noted stated kilos l) ≡ 0) where
      ok : first_of (line_checks limits (here sheet at works stated kilos j.reading more l read).above (line_at sheet at)) ≡ accepted
      ok = accepted_at sheet at works stated kilos j.reading more l read (sym number_is ∙ zero)

      pub judged_keeps : LineKeeps l
      judged_keeps = keeps_at sheet at works stated kilos j.reading more l read ok

      pub judged_end : l.end < length (sheet_given lent bytes list)
      judged_end = end_at sheet at works stated kilos j.reading more l read ok

      next_spelt : Spelt lent list (l.end + 1) (lines + 1)
      next_spelt e = go lent e j.spelt more read
        where
          go : (b : Bool) → b ≡ true → Spelt b list at lines → at < length (sheet_given b bytes list) → ReadAt (sheet_given b bytes list) at l
              → drop (l.end + 1) (sheet_lent list) ≡ sheet_lent (drop ((lines + 1) * RECORD) list)
          go true e spelt more read =
              next_lent list at lines (spelt refl) (there true bytes list at lines refl spelt more) l.end read.end
          go false e spelt more read = absurd (never e)

      -- the next place
      pub judging_next : Near lent (l.end + 1) (noted.lines + 1) → {noted' : Noted} {stated' : Stated} {kilos' : List ℕ} → noted' ≡ noted_after noted l
          → stated' ≡ stated_after stated l → kilos' ≡ kilos_after kilos l → JudgingAt lent bytes list size stated' kilos' noted' (l.end + 1)
      judging_next near noted-are stated-are kilos-are =
          rw (noted-are, stated-are, kilos-are) (record {
            sized = j.sized;
            books = _;
            reading = next_at sheet at works stated kilos j.reading more l read ok;
            spelt = next_spelt;
            near = near;
          })

  -- ---- no line is left

  module _ (done : length (sheet_given lent bytes list) ≤ at) where
    pub judged_accepted : first_of (lines_checks limits [] (lines_of (sheet_given lent bytes list))) ≡ accepted
    judged_accepted = verdict_at sheet at works stated kilos j.reading done

    none : Reading (lines_of sheet) [] works stated kilos
    none = rw (lines_done sheet at done) at j.reading.left

    same : SameSums none.above (records_of sheet)
    unfolding sum_of records_of
    same f = let s = none.sums f in omega arith

    pub judged_lines : noted.lines ≡ length (records_of (sheet_given lent bytes list))
    judged_lines = none.standing.lines ∙ same_length none.above (records_of sheet) same

    pub judged_stated : StatedIn (records_of (sheet_given lent bytes list)) stated
    judged_stated = stated_in_all sheet at works stated kilos j.reading done

    pub judged_length : at ≡ length (sheet_given lent bytes list)
    judged_length = omega (arith, j.reading.inside, done)
