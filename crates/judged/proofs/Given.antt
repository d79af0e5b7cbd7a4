-- Lent records one after the other in the sheet that they spell: the line that starts at a place is the next record's. Assumes nothing.
use mathlib.Core.Path.{◌≡◌, refl, sym, ap, ◌∙◌}
use mathlib.Core.Bool.{Bool, true, false, not}
use mathlib.Core.List.{List, [], ◌∷◌, ◌++◌}
use Prim.Native.Nat.{ℕ, suc, ◌+◌, ◌*◌, ◌<◌}
use native.Mathlib.Decide.{dec_le}
use native.Mathlib.Nat.{lt_of_not-le}
use native.Mathlib.Omega.{arith}
use borrow.Author.Tests.{lt-ltb, le-ltb, ltb-true, not-true}
use lib.Dec.{eqb, ltb}
use lib.ListN.{length, drop, length-append, length-drop}
use lib.Seq.{take_at, drop-drop, drop-append-add}
use Rattle.decimal.proofs.Bools.{never, and_both}
use Rattle.lines.specs.Lines.{LF}
use Rattle.lines.specs.Records.{Record, record_of}
use Rattle.lines.specs.Words.{words, ReadAt, line_at, line_length}
use Rattle.lines.specs.declared.LineRead.{LineRead}
use Rattle.lines.proofs.OneRecord.{lacks}
use Rattle.lent.specs.Lent.{RECORD, record_lent, spell_lent, sheet_lent}
use Rattle.lent.specs.AsRead.{words_at, LentAt}
use Rattle.lent.proofs.Spelt.{line_lent, lent_read, lent_lacks_lf}
use Rattle.lent.proofs.Steps.{sheet_first, sheet_none}
use Rattle.judged.specs.Judged.{sheet_given, Spelt}

-- a line ends at its first LF
first_lf : (bytes rest : List ℕ) → lacks LF bytes ≡ true → line_length (bytes ++ (LF ∷ rest)) ≡ length bytes
unfolding line_length lacks
first_lf [] rest h = refl
first_lf (byte ∷ bytes) rest h =
    let both = and_both (not (eqb byte LF)) (lacks LF bytes) h in
    rw (not-true (eqb byte LF) both.0) (ap suc (first_lf bytes rest both.1))

module _ (list : List ℕ) (at lines : ℕ) (spelt : drop at (sheet_lent list) ≡ sheet_lent (drop (lines * RECORD) list)) where
  abbrev place : ℕ
  place = lines * RECORD

  abbrev sheet : List ℕ
  sheet = sheet_lent list

  -- a line starts there where a record does
  pub more_lent : ltb (lines * RECORD) (length list) ≡ ltb at (length (sheet_lent list))
  more_lent =
      let left = length-drop at sheet in
      elim (dec_le (length list) place) [
        | yes h ↦
            let none = ap length (spelt ∙ sheet_none list place h) in
            le-ltb place (length list) h ∙ sym (le-ltb at (length sheet) (omega (arith, none, left)))
        | no h ↦
            let some : place < length list = lt_of_not-le h in
            let r : List ℕ = spell_lent (record_lent (words_at list place)) in
            let rest : List ℕ = LF ∷ sheet_lent (drop (place + RECORD) list) in
            let long = ap length (spelt ∙ sheet_first list place some) ∙ length-append r rest in
            lt-ltb place (length list) some ∙ sym (lt-ltb at (length sheet) (omega (arith, long, left)))
      ]

  module _ (some : lines * RECORD < length list) where
    abbrev record_there : Record
    record_there = record_lent (words_at list place)

    abbrev spelling : List ℕ
    spelling = spell_lent record_there

    abbrev others : List ℕ
    others = sheet_lent (drop (place + RECORD) list)

    starts : drop at (sheet_lent list) ≡ spelling ++ (LF ∷ others)
    starts = spelt ∙ sheet_first list place some

    ends : line_length (drop at (sheet_lent list)) ≡ length spelling
    ends = ap line_length starts ∙ first_lf spelling others (lent_lacks_lf (words_at list place))

    -- the line is the record's
    line_is : line_at (sheet_lent list) at ≡ line_lent record_there
    unfolding line_at
    line_is =
        let long : length spelling < length (spelling ++ (LF ∷ others)) = omega (arith, length-append spelling (LF ∷ others)) in
        rw (
          starts,
          first_lf spelling others (lent_lacks_lf (words_at list place)),
          take_at spelling (LF ∷ others) (length spelling) refl,
          lt-ltb (length spelling) (length (spelling ++ (LF ∷ others))) long,
        )

    same : record_of (line_at (sheet_lent list) at) ≡ record_there
    same = ap record_of line_is ∙ lent_read (words_at list place)

    -- WHAT IS TAKEN FROM THE RECORD IS WHAT WOULD BE READ FROM THE SHEET'S BYTES
    pub read_lent : (l : LineRead) → LentAt list (lines * RECORD) at l → ReadAt (sheet_lent list) at l
    read_lent l r = record {
      letter = r.letter ∙ ap (λ (q : Record). q.letter) (sym same);
      count = r.count ∙ ap (λ (q : Record). length q.said) (sym same);
      words = r.words ∙ ap (λ (q : Record). words q.said) (sym same);
      end = r.end ∙ ap (λ (n : ℕ). at + n) (sym ends);
    }

    -- the next record's line starts behind its LF
    pub next_lent : (end : ℕ) → end ≡ at + line_length (drop at (sheet_lent list))
        → drop (end + 1) (sheet_lent list) ≡ sheet_lent (drop ((lines + 1) * RECORD) list)
    next_lent end e =
        let far : end + 1 ≡ at + (length spelling + 1) = omega (arith, e, ends) in
        let next : place + RECORD ≡ (lines + 1) * RECORD = omega arith in
        ap (λ (n : ℕ). drop n sheet) far ∙ sym (drop-drop (length spelling + 1) at sheet) ∙ ap (drop (length spelling + 1)) starts
        ∙ drop-append-add spelling (LF ∷ others) 1 ∙ ap (λ (n : ℕ). sheet_lent (drop n list)) next

    -- the line has its LF
    pub ended_lent : (end : ℕ) → end ≡ at + line_length (drop at (sheet_lent list)) → end < length (sheet_lent list)
    ended_lent end e =
        let long = ap length starts ∙ length-append spelling (LF ∷ others) in
        omega (arith, e, ends, long, length-drop at sheet)

-- where a line is there a record is
pub there : (lent : Bool) (bytes list : List ℕ) (at lines : ℕ) → lent ≡ true → Spelt lent list at lines → at < length (sheet_given lent bytes list)
    → lines * RECORD < length list
there true bytes list at lines e spelt more =
    ltb-true (lines * RECORD) (length list) (more_lent list at lines (spelt refl) ∙ lt-ltb at (length (sheet_lent list)) more)
there false bytes list at lines e spelt more = absurd (never e)
