-- Lent records one after the other: the first nine words are the first record's. Assumes nothing.
use mathlib.Core.Path.{◌≡◌, ap, ◌∙◌}
use mathlib.Core.List.{List, [], ◌∷◌, ◌++◌}
use Prim.Native.Nat.{ℕ, suc, ◌+◌, ◌≤◌, ◌<◌}
use native.Mathlib.Omega.{arith}
use lib.ListN.{length, take, drop, length-drop, drop_of_length-le}
use lib.Seq.{drop-drop}
use Rattle.lines.specs.Lines.{LF}
use Rattle.lent.specs.Lent.{RECORD, record_lent, records_lent_to, record_count, records_lent, spell_lent, spell_all, sheet_lent}
use Rattle.lent.specs.AsRead.{words_at}

-- the first record, and those of the other words
pub records_first : (words : List ℕ) → 1 ≤ length words → records_lent words ≡ record_lent (take RECORD words) ∷ records_lent (drop RECORD words)
unfolding records_lent records_lent_to
records_first words some =
    let count : record_count words ≡ suc (record_count (drop RECORD words)) = omega (arith, length-drop RECORD words) in
    ap (λ (n : ℕ). records_lent_to n words) count

-- THE SHEET THAT IS SPELT FROM A PLACE ON: the line of the record there, and those after it
pub sheet_first : (list : List ℕ) (place : ℕ) → place < length list
    → sheet_lent (drop place list) ≡ spell_lent (record_lent (words_at list place)) ++ (LF ∷ sheet_lent (drop (place + RECORD) list))
unfolding sheet_lent spell_all
sheet_first list place more =
    let some : 1 ≤ length (drop place list) = omega (arith, length-drop place list) in
    ap spell_all (records_first (drop place list) some)
    ∙ ap (λ (l : List ℕ). spell_lent (record_lent (words_at list place)) ++ (LF ∷ sheet_lent l)) (drop-drop RECORD place list)

-- no word is left
pub sheet_none : (list : List ℕ) (place : ℕ) → length list ≤ place → sheet_lent (drop place list) ≡ []
unfolding sheet_lent records_lent records_lent_to spell_all
sheet_none list place none = ap sheet_lent (drop_of_length-le list none)
