-- The lines that lent records spell, record by record. Assumes nothing.
use mathlib.Core.Path.{◌≡◌, refl, sym, ap, ap₂, ◌∙◌}
use mathlib.Core.List.{List, [], ◌∷◌, ◌++◌}
use Prim.Native.Nat.{ℕ, ◌+◌, ◌-◌, min, ◌<◌}
use native.Mathlib.Decide.{dec_le}
use native.Mathlib.Nat.{lt_of_not-le}
use native.Mathlib.Omega.{arith}
use lib.ListN.{length, take, drop, length-append, length-drop, drop_of_length-le}
use lib.Seq.{take_all, take_at, drop_at}
use Rattle.lines.specs.Lines.{LF}
use Rattle.lent.specs.Lent.{RECORD, record_lent, spell_lent, sheet_lent}
use Rattle.lent.proofs.Steps.{sheet_first, sheet_none}

-- ---- the records of a sheet

-- the words of a record, and those after it
pub record_words_lem : (words : List ℕ) (at stop : ℕ) → at < length words → stop ≡ min (at + RECORD) (length words)
    → (take RECORD (drop at words) ≡ take (stop - at) (drop at words)) × (drop (at + RECORD) words ≡ drop stop words)
record_words_lem words at stop h e =
    let long = length-drop at words in
    elim (dec_le (at + RECORD) (length words)) [
      | yes k ↦ let n : RECORD ≡ stop - at = omega arith in
          let m : at + RECORD ≡ stop = omega arith in
          (ap (λ (j : ℕ). take j (drop at words)) n, ap (λ (j : ℕ). drop j words) m)
      | no k ↦ let cut = lt_of_not-le k in (
        take_all RECORD (drop at words) (omega arith) ∙ sym (take_all (stop - at) (drop at words) (omega arith)),
        drop_of_length-le words {i = at + RECORD} (omega arith) ∙ sym (drop_of_length-le words {i = stop} (omega arith)),
      )
    ]

-- ONE RECORD MORE: the last one has the words that are there
pub sheet_more : (words : List ℕ) (at stop : ℕ) → at < length words → stop ≡ min (at + RECORD) (length words)
    → sheet_lent (drop at words) ≡ spell_lent (record_lent (take (stop - at) (drop at words))) ++ (LF ∷ sheet_lent (drop stop words))
sheet_more words at stop h e =
    let parts = record_words_lem words at stop h e in
    sheet_first words at h
    ∙ ap₂ (λ (a b : List ℕ). spell_lent (record_lent a) ++ (LF ∷ sheet_lent b)) parts.0 parts.1

-- the bytes of a record's line and of those after it
pub length_sheet : (words : List ℕ) (at stop : ℕ) → at < length words → stop ≡ min (at + RECORD) (length words)
    → length (sheet_lent (drop at words)) ≡ length (spell_lent (record_lent (take (stop - at) (drop at words)))) + 1 + length (sheet_lent (drop stop words))
length_sheet words at stop h e =
    let line = spell_lent (record_lent (take (stop - at) (drop at words))) in
    ap length (sheet_more words at stop h e) ∙ length-append line (LF ∷ sheet_lent (drop stop words)) ∙ omega arith

-- ---- the records of a sheet, one after the other

pub sheet_none_left : (words : List ℕ) → length words ≡ 0 → sheet_lent words ≡ []
sheet_none_left words e = sheet_none words 0 (omega arith)

-- the bytes of the first record's line and of those after it
pub chunk_more : (words first rest : List ℕ) (size : ℕ) → size ≡ RECORD
    → (words ≡ first ++ rest) × (length first ≡ min size (length words)) × (0 < length words)
    → length (sheet_lent words) ≡ length (spell_lent (record_lent first)) + 1 + length (sheet_lent rest)
chunk_more words first rest size nine step =
    let stop : length first ≡ min (0 + RECORD) (length words) = omega (arith, nine, step.1) in
    let n : length first - 0 ≡ length first = omega arith in
    length_sheet words 0 (length first) step.2 stop
    ∙ ap₂ (λ (a b : List ℕ). length (spell_lent (record_lent a)) + 1 + length (sheet_lent b))
    (ap₂ take n step.0 ∙ take_at first rest (length first) refl) (ap (drop (length first)) step.0 ∙ drop_at first rest (length first) refl)
