-- The words of a line that was read are those of the record that it says, where that keeps its ranges. Assumes nothing.
use mathlib.Core.Path.{◌≡◌, refl, ap, ap₂, ◌∙◌}
use mathlib.Core.List.{List, [], ◌∷◌, ◌++◌, map, map-append}
use Prim.Native.Nat.{ℕ, zero, suc, ◌+◌, ◌-◌, min, ◌≤◌}
use native.Mathlib.Omega.{arith}
use borrow.Author.Tests.{ne_eqb}
use lib.ListN.{length, drop, replicate, length-map}
use lib.Seq.{sets-eq}
use Rattle.std.proofs.lemmas.List.{drop-replicate}
use Rattle.quantity.specs.Limits.{limits}
use Rattle.lines.specs.Records.{Field, number, dash, other, Record}
use Rattle.lines.specs.Words.{WORDS, CAP, DASH, word, words}
use Rattle.lines.specs.declared.LineRead.{LineRead}
use Rattle.sheet.specs.Ranges.{KeepsRanges}
use Rattle.sheet.specs.Verdict.{All}
use Rattle.lent.specs.Lent.{word_lent, record_words}
use Rattle.lent.proofs.ReadBack.{OwnWord, own_fields, few_fields}
use Rattle.sheet_words.specs.LineWords.{as_lent, line_words}

-- ---- the fields that the line has

field_word : (f : Field) → OwnWord f → as_lent (word f) ≡ word_lent f
unfolding word
field_word (number n) h =
    let e : min n CAP ≡ n = omega arith in
    rw (e, ne_eqb n DASH (λ (p : n ≡ DASH). omega arith))
field_word dash h = refl
field_word other h = absurd h

field_words_lem : (fs : List Field) → All OwnWord fs → map as_lent (map word fs) ≡ map word_lent fs
field_words_lem [] h = refl
field_words_lem (f ∷ fs) h = ap₂ (λ (w : ℕ) (ws : List ℕ). w ∷ ws) (field_word f h.0) (field_words_lem fs h.1)

-- ---- those that it does not have

abbrev zeros : ℕ → List ℕ
zeros n = replicate n 0

spare_words : (n : ℕ) → map as_lent (zeros n) ≡ zeros n
spare_words zero = refl
spare_words (suc n) = ap (λ (ws : List ℕ). 0 ∷ ws) (spare_words n)

-- ---- all eight

all_words : (fs : List Field) → length fs ≤ WORDS → All OwnWord fs → map as_lent (words fs) ≡ map word_lent fs ++ zeros (WORDS - length fs)
unfolding words
all_words fs few own =
    let held = sets-eq (map word fs) (zeros WORDS) 0 (omega (arith, length-map fs word)) in
    let count : 0 + length (map word fs) ≡ length fs = omega (arith, length-map fs word) in
    let left = ap (λ (k : ℕ). drop k (zeros WORDS)) count ∙ drop-replicate (length fs) WORDS 0 in
    ap (map as_lent) (held ∙ ap (λ (ws : List ℕ). map word fs ++ ws) left)
    ∙ map-append as_lent (map word fs) (zeros (WORDS - length fs))
    ∙ ap₂ (λ (a b : List ℕ). a ++ b) (field_words_lem fs own) (spare_words (WORDS - length fs))

pub line_words_lem : (l : LineRead) (r : Record) → KeepsRanges limits r → l.letter ≡ r.letter → l.words ≡ words r.said → line_words l ≡ record_words r
unfolding line_words record_words
line_words_lem l r keeps letter said =
    ap₂ (λ (w : ℕ) (ws : List ℕ). w ∷ ws) letter (ap (map as_lent) said ∙ all_words r.said (few_fields r keeps) (own_fields r keeps))
