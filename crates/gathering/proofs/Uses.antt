-- Row 18 over the lines of a sheet, once all have passed: the first N line from the top whose precursor no K line states. Assumes nothing.
use mathlib.Core.Path.{◌≡◌, refl, sym, ap, ap₂, ◌∙◌}
use mathlib.Core.Bool.{Bool, true, false, true≢false, cond, not, ◌&&◌, ◌||◌}
use mathlib.Core.List.{List, [], ◌∷◌}
use Prim.Native.Nat.{ℕ, suc, ◌+◌, ◌≤◌, ◌<◌}
use native.Mathlib.Omega.{arith}
use lib.Dec.{eqb}
use lib.ListN.{length, get_or, drop}
use native.Mathlib.Numerals.{add-one}
use borrow.Author.Tests.{ltb-true, ltb-false, lt-ltb}
use Rattle.lines.specs.Lines.{Line, lines_of}
use Rattle.lines.specs.Records.{Record, record_of, records_of}
use Rattle.lines.specs.Words.{ReadAt, line_at, line_length}
use Rattle.lines.specs.declared.LineRead.{LineRead}
use Rattle.places.proofs.NextLine.{lines_step, lines_done, line_ended}
use Rattle.quantity.specs.Limits.{limits}
use Rattle.sheet.specs.Kinds.{letter, is, rules}
use Rattle.sheet.specs.declared.Kind.TheVariants.{PrecursorFigures, PrecursorUse}
use Rattle.sheet.specs.Refusals.{any_of, used_precursor, stated_precursor, no_figures}
use Rattle.sheet.specs.Verdict.{Passes, accepted, refused, first_of, figures_checks, line_checks, lines_checks}
use Rattle.sheet.proofs.First.{all_append, accepted_passes, passes_accepted}
use Rattle.sheet.proofs.Passed.{PassedLine, line_passed}
use Rattle.sheet.proofs.Table.{kind_is, letter_is}
use Rattle.entries.specs.Read.{LineKeeps, record_read}
use Rattle.entries.proofs.Ranges.{in_rules, are_words}
use Rattle.works.specs.Works.{PRECURSORS, ranks_of}
use Rattle.works.specs.declared.Stated.{Stated}
use Rattle.gathering.specs.Gathered.{StatedIn}
use Rattle.gathering.proofs.Standing.{Says, line_keeps, read_record}

-- all lines pass, those above a place are looked at again, and those from there on are left
pub record UsesAt (sheet : List ℕ) (at lines : ℕ) : Type 0 where
  pub inside : at ≤ length sheet
  pub above : List Record
  pub count : lines ≡ length above
  pub few : lines ≤ limits.lines
  pub passed : first_of (lines_checks limits above (lines_of (drop at sheet))) ≡ accepted
  pub verdict : first_of (figures_checks (records_of sheet) (suc lines) (records_of (drop at sheet)))
      ≡ first_of (figures_checks (records_of sheet) 1 (records_of sheet))

pub uses_start : (sheet : List ℕ) → first_of (lines_checks limits [] (lines_of sheet)) ≡ accepted → UsesAt sheet 0 0
uses_start sheet ok = record { inside = omega arith; above = []; count = refl; few = omega arith; passed = ok; verdict = refl }

-- no N line is there
pub unused : (all rs : List Record) (k : ℕ) → any_of (is PrecursorUse) rs ≡ false → first_of (figures_checks all k rs) ≡ accepted
unfolding any_of first_of figures_checks
unused all [] k h = refl
unused all (r ∷ rs) k h = go (is PrecursorUse r) h (unused all rs (suc k))
  where
    any : Bool
    any = any_of (λ q. is PrecursorFigures q && eqb (stated_precursor q) (used_precursor r)) all

    go : (b : Bool) → (b || any_of (is PrecursorUse) rs) ≡ false
        → (any_of (is PrecursorUse) rs ≡ false → first_of (figures_checks all (suc k) rs) ≡ accepted)
        → cond (b && not any) (refused 18 k) (first_of (figures_checks all (suc k) rs)) ≡ accepted
    go true h ih = absurd (true≢false h)
    go false h ih = ih h

-- no line is left
pub uses_accepted : (sheet : List ℕ) (at lines : ℕ) → UsesAt sheet at lines → length sheet ≤ at
    → first_of (figures_checks (records_of sheet) 1 (records_of sheet)) ≡ accepted
unfolding first_of figures_checks records_of
uses_accepted sheet at lines u done = sym u.verdict ∙ rw (lines_done sheet at done) refl

module _ (sheet : List ℕ) (at lines : ℕ) (u : UsesAt sheet at lines) (more : at < length sheet) (l : LineRead) (read : ReadAt sheet at l) where
  abbrev line : Line
  line = line_at sheet at

  abbrev rest : List Line
  rest = lines_of (drop (suc (at + line_length (drop at sheet))) sheet)

  says : Says l (record_of (line_at sheet at))
  says = record { letter = read.letter; count = read.count; words = read.words }

  both : (first_of (line_checks limits u.above line) ≡ accepted) × (first_of (lines_checks limits (record_of line ∷ u.above) rest) ≡ accepted)
  unfolding lines_checks
  both =
      let q = all_append Passes (line_checks limits u.above line) (lines_checks limits (record_of line ∷ u.above) rest)
      (accepted_passes _ (rw (lines_step sheet at more) at u.passed)) in
      (passes_accepted _ q.0, passes_accepted _ q.1)

  pub use_keeps : LineKeeps l
  use_keeps = line_keeps line l says u.above both.0

  pub use_record : record_read l ≡ record_of (line_at sheet at)
  use_record = read_record line l says u.above both.0

  here_passed : PassedLine limits u.above (line_at sheet at)
  here_passed = line_passed limits u.above line (accepted_passes _ both.0)

  pub use_end : l.end < length sheet
  use_end = ltb-true l.end (length sheet) (sym (line_ended sheet at l.end u.inside read.end) ∙ here_passed.ended)

  -- the verdict from this line on
  here : first_of (figures_checks (records_of sheet) (suc lines) (record_of line ∷ records_of (drop (suc (at + line_length (drop at sheet))) sheet)))
      ≡ first_of (figures_checks (records_of sheet) 1 (records_of sheet))
  unfolding records_of
  here = rw (lines_step sheet at more) at u.verdict

  pub use_refused : no_figures (records_of sheet) (record_of (line_at sheet at)) ≡ true
      → first_of (figures_checks (records_of sheet) 1 (records_of sheet)) ≡ refused 18 (lines + 1)
  unfolding first_of figures_checks
  use_refused e = sym here ∙ rw e (ap (refused 18) (sym (add-one lines)))

  pub use_next : no_figures (records_of sheet) (record_of (line_at sheet at)) ≡ false → UsesAt sheet (l.end + 1) (lines + 1)
  unfolding first_of figures_checks
  use_next e =
      let next : l.end + 1 ≡ suc (at + line_length (drop at sheet)) = omega (arith, read.end) in
      let later = rw e at here in
      record {
        inside = omega (arith, use_end);
        above = record_of line ∷ u.above;
        count = omega (arith, u.count);
        few = omega (arith, u.count, ltb-false limits.lines (suc (length u.above)) here_passed.few);
        passed = rw next both.1;
        verdict = rw (next, add-one) later;
      }

  -- ---- the code's test

  pub use_letter : is PrecursorUse (record_of (line_at sheet at)) ≡ eqb l.letter (letter PrecursorUse)
  use_letter = letter_is (record_of line).letter PrecursorUse refl ∙ ap (λ (b : ℕ). eqb b (letter PrecursorUse)) (sym read.letter)

  pub use_inside : eqb l.letter (letter PrecursorUse) ≡ true → get_or l.words 1 0 < PRECURSORS
  unfolding rules
  use_inside e =
      let k = kind_is PrecursorUse (record_read l) (rw use_record (use_letter ∙ e)) in
      let n = in_rules limits (record_read l) use_keeps.ranges PrecursorUse k in
      let v = are_words l use_keeps PrecursorUse k in
      omega (arith, (n.1.0 refl).high, v.1.0 refl)

  pub use_precursor : is PrecursorUse (record_of (line_at sheet at)) ≡ true → used_precursor (record_of (line_at sheet at)) ≡ get_or l.words 1 0
  unfolding rules
  use_precursor e = rw use_record at ((are_words l use_keeps PrecursorUse (kind_is PrecursorUse (record_read l) (rw use_record e))).1.0 refl)

  pub use_test : (s : Stated) → StatedIn (records_of sheet) s → no_figures (records_of sheet) (record_of (line_at sheet at))
      ≡ (eqb l.letter (letter PrecursorUse) && eqb (ranks_of s.ranks (get_or l.words 1 0)) 0)
  use_test s h = go (is PrecursorUse (record_of line)) refl
    where
      any : ℕ → Bool
      any p = any_of (λ q. is PrecursorFigures q && eqb (stated_precursor q) p) (records_of sheet)

      inside : eqb l.letter (letter PrecursorUse) ≡ true → ranks_of s.ranks (get_or l.words 1 0) ≡ get_or s.ranks (get_or l.words 1 0) 0
      inside e = rw (lt-ltb _ PRECURSORS (use_inside e)) refl

      go : (b : Bool) → is PrecursorUse (record_of (line_at sheet at)) ≡ b
          → (is PrecursorUse (record_of (line_at sheet at)) && not (any (used_precursor (record_of (line_at sheet at)))))
          ≡ (eqb l.letter (letter PrecursorUse) && eqb (ranks_of s.ranks (get_or l.words 1 0)) 0)
      go true e =
          ap₂ (λ (t : Bool) (p : ℕ). t && not (any p)) use_letter (use_precursor e)
          ∙ ap (λ (t : Bool). eqb l.letter (letter PrecursorUse) && t)
          (sym (h.none_at (get_or l.words 1 0)) ∙ ap (λ (n : ℕ). eqb n 0) (sym (inside (sym use_letter ∙ e))))
      go false e = rw (e, sym use_letter ∙ e)
