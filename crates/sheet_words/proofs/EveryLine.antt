-- The words of a sheet's records, put line by line: those that are put and those of the lines that are left are the words of all. Assumes nothing.
use mathlib.Core.Path.{◌≡◌, refl, sym, ap, ◌∙◌}
use mathlib.Core.List.{List, [], ◌∷◌, ◌++◌, map, append_assoc, append-nil}
use Prim.Native.Nat.{ℕ, suc, ◌+◌, ◌≤◌, ◌<◌}
use native.Mathlib.Omega.{arith}
use borrow.Author.Tests.{ltb-true}
use lib.ListN.{length, drop, length-append}
use Rattle.quantity.specs.Limits.{limits}
use Rattle.decimal.specs.Writing.{Put}
use Rattle.decimal.proofs.Writing.{then, put_none, put_kept}
use Rattle.lines.specs.Lines.{Line, lines_of}
use Rattle.lines.specs.Records.{Record, record_of, records_of}
use Rattle.lines.specs.Words.{line_length, line_at, ReadAt}
use Rattle.lines.specs.declared.LineRead.{LineRead}
use Rattle.places.proofs.NextLine.{lines_step, lines_done, line_ended}
use Rattle.sheet.specs.Verdict.{accepted, first_of, sheet_checks}
use Rattle.sheet.proofs.First.{accepted_passes}
use Rattle.sheet.proofs.Passed.{PassedLine, PassedLines, sheet_passed}
use Rattle.lent.specs.Lent.{RECORD, record_words, words_of}
use Rattle.lent.proofs.ReadBack.{record_long}
use Rattle.sheet_words.specs.LineWords.{line_words}
use Rattle.sheet_words.proofs.RecordWords.{line_words_lem}

-- the words of the records of these lines
abbrev words_left : List Line → List ℕ
words_left ls = words_of (map record_of ls)

-- the lines from a place of an accepted sheet on are left, and the words of those above are put in a list that has room for all
pub record PutTo (list sheet after : List ℕ) (place at : ℕ) : Type 0 where
  pub inside : at ≤ length sheet
  pub room : length (words_of (records_of sheet)) ≤ length list
  pub above : List Record
  pub passed : PassedLines limits above (lines_of (drop at sheet))
  pub done : List ℕ
  pub written : Put list 0 done after place
  pub all : done ++ words_left (lines_of (drop at sheet)) ≡ words_of (records_of sheet)

pub put_start : (list sheet : List ℕ) → first_of (sheet_checks limits sheet) ≡ accepted → length (words_of (records_of sheet)) ≤ length list
    → PutTo list sheet list 0 0
unfolding records_of
put_start list sheet a h = record {
  inside = omega arith;
  room = h;
  above = [];
  passed = (sheet_passed limits sheet (accepted_passes (sheet_checks limits sheet) a)).lines;
  done = [];
  written = put_none list 0;
  all = refl;
}

module _ (list sheet after : List ℕ) (place at : ℕ) (p : PutTo list sheet after place at) where
  fits : length p.done + length (words_left (lines_of (drop at sheet))) ≤ length list
  fits = omega (arith, p.room, ap length p.all, length-append p.done (words_left (lines_of (drop at sheet))))

  -- the list stays as long as it was
  pub put_long : length after ≡ length list
  put_long = put_kept (omega (arith, fits)) p.written

  -- no line is left
  pub put_all : length sheet ≤ at → Put list 0 (words_of (records_of sheet)) after place
  unfolding words_of
  put_all h =
      let none : p.done ++ [] ≡ words_of (records_of sheet) = rw (lines_done sheet at h) at p.all in
      rw (sym (append-nil p.done) ∙ none) at p.written

  -- a line was read
  module _ (more : at < length sheet) (l : LineRead) (read : ReadAt sheet at l) where
    abbrev line : Line
    line = line_at sheet at

    abbrev rest : List Line
    rest = lines_of (drop (suc (at + line_length (drop at sheet))) sheet)

    here : PassedLine limits p.above line × PassedLines limits (record_of line ∷ p.above) rest
    here = rw (lines_step sheet at more) at p.passed

    next : p.done ++ (record_words (record_of line) ++ words_left rest) ≡ words_of (records_of sheet)
    unfolding words_of
    next = rw (lines_step sheet at more) at p.all

    its_words : line_words l ≡ record_words (record_of line)
    its_words = line_words_lem l (record_of line) here.0.ranges read.letter read.words

    words_fit : length p.done + RECORD ≤ length list
    words_fit =
        omega (
          arith,
          p.room,
          ap length next,
          length-append p.done (record_words (record_of line) ++ words_left rest),
          length-append (record_words (record_of line)) (words_left rest),
          record_long (record_of line) here.0.ranges,
        )

    pub put_room : place + RECORD ≤ length after
    put_room = omega (arith, words_fit, put_long, p.written.place)

    pub put_end : l.end < length sheet
    put_end = ltb-true l.end (length sheet) (sym (line_ended sheet at l.end p.inside read.end) ∙ here.0.ended)

    pub put_next : (longer : List ℕ) (stop : ℕ) → Put after place (line_words l) longer stop → PutTo list sheet longer stop (l.end + 1)
    put_next longer stop q =
        let e : l.end + 1 ≡ suc (at + line_length (drop at sheet)) = omega (arith, read.end) in
        record {
          inside = omega (arith, put_end);
          room = p.room;
          above = record_of line ∷ p.above;
          passed = rw e here.1;
          done = p.done ++ line_words l;
          written = then (omega (arith, words_fit)) p.written q;
          all = rw (e, its_words, append_assoc p.done (record_words (record_of line)) (words_left rest)) next;
        }
