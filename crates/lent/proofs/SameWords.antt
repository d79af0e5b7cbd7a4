-- Lent words whose sheet is accepted: the words of its records are those words, a last record that was cut short filled up with 0. Assumes
-- nothing.
use mathlib.Core.Path.{◌≡◌, refl, sym, ap, ap₂, ◌∙◌}
use mathlib.Core.Bool.{Bool, true, false, cond}
use mathlib.Core.List.{List, [], ◌∷◌, ◌++◌, map, append_assoc, append-nil}
use Prim.Native.Nat.{ℕ, zero, suc, ◌+◌, ◌*◌, ◌-◌, ◌≤◌, ◌<◌}
use native.Mathlib.Decide.{dec_le}
use native.Mathlib.Nat.{lt_of_not-le}
use native.Mathlib.Omega.{arith}
use borrow.Author.Tests.{eqb-true}
use lib.Dec.{eqb}
use lib.ListN.{length, take, drop, replicate, length-append, length-map, length-take, length-drop, take-append-drop, replicate-append-replicate}
use lib.Seq.{take_all, drop-length}
use Rattle.decimal.proofs.Bools.{never}
use Rattle.quantity.specs.Limits.{limits}
use Rattle.lines.specs.Records.{number, dash, Record, field}
use Rattle.sheet.specs.Kinds.{kind_of, kind_among, letter, rules_of}
use Rattle.sheet.specs.Ranges.{KeepsRanges}
use Rattle.sheet.specs.Verdict.{All, accepted, first_of, sheet_checks}
use Rattle.sheet.proofs.Passed.{keeps_count}
use Rattle.lent.specs.Lent.{RECORD, DASH_WORD, field_lent, all_zero, field_count, field_words, record_lent, records_lent_to, record_count, records_lent}
use Rattle.lent.specs.Lent.{sheet_lent, word_lent, record_words, words_of, filled_up}
use Rattle.lent.proofs.Counts.{all_zeros}
use Rattle.lent.proofs.Spelt.{records_lent_lem}
use Rattle.lent.proofs.ReadBack.{rules_count, records_keep}

-- ---- lists of words

word_back : (w : ℕ) → word_lent (field_lent w) ≡ w
word_back w = go (eqb w DASH_WORD) refl
  where
    go : (b : Bool) → eqb w DASH_WORD ≡ b → word_lent (cond b dash (number w)) ≡ w
    go true e = sym (eqb-true w DASH_WORD e)
    go false e = refl

words_back : (ws : List ℕ) → map word_lent (map field_lent ws) ≡ ws
words_back [] = refl
words_back (w ∷ ws) = ap₂ (λ (x : ℕ) (l : List ℕ). x ∷ l) (word_back w) (words_back ws)

abbrev zeros : ℕ → List ℕ
zeros n = replicate n 0

-- ---- a record

module _ (first : ℕ) (behind : List ℕ) (few : length behind ≤ 8) (known : eqb (letter (kind_of first)) 0 ≡ false) where
  abbrev count : ℕ
  count = field_count (kind_of first)

  abbrev lent : List ℕ → Record
  lent ws = record { letter = first; said = map field_lent ws }

  -- where further words are 0
  filled : length (take count behind) ≡ count → all_zero (drop count behind) ≡ true
      → record_words (lent (take count behind)) ≡ first ∷ (behind ++ zeros (8 - length behind))
  unfolding record_words
  filled long zero_rest =
      let rest : drop count behind ≡ zeros (length behind - count) =
      all_zeros (drop count behind) zero_rest ∙ ap zeros (length-drop count behind) in
      let enough : count ≤ length behind = omega (arith, ap length (take-append-drop count behind), length-append (take count behind) (drop count behind)) in
      let spare : zeros (length behind - count) ++ zeros (8 - length behind) ≡ zeros (8 - count) =
      replicate-append-replicate (length behind - count) (8 - length behind) 0
      ∙ ap zeros (let e : length behind - count + (8 - length behind) ≡ 8 - count = omega arith in e) in
      let said : length (map field_lent (take count behind)) ≡ count = length-map (take count behind) field_lent ∙ long in
      let all : behind ++ zeros (8 - length behind) ≡ take count behind ++ zeros (8 - count) =
      ap (λ (l : List ℕ). l ++ zeros (8 - length behind)) (sym (take-append-drop count behind) ∙ ap (λ (l : List ℕ). take count behind ++ l) rest)
      ∙ append_assoc (take count behind) (zeros (length behind - count)) (zeros (8 - length behind))
      ∙ ap (λ (l : List ℕ). take count behind ++ l) spare in
      ap (λ (l : List ℕ). first ∷ l)
      (ap₂ (λ (l : List ℕ) (n : ℕ). l ++ zeros (8 - n)) (words_back (take count behind)) said ∙ sym all)

  known_words : (b : Bool) → all_zero (drop count behind) ≡ b → length (cond b (take count behind) behind) ≡ count
      → record_words (lent (cond b (take count behind) behind)) ≡ first ∷ (behind ++ zeros (8 - length behind))
  unfolding all_zero
  known_words true e long = filled long e
  known_words false e long =
      let none : drop count behind ≡ [] = ap (λ (n : ℕ). drop n behind) (sym long) ∙ drop-length behind in
      absurd (never (sym e ∙ ap all_zero none))

-- the words of a lent record that keeps its ranges are those that were lent, and 0 for those that were not
record_words_lem : (first : ℕ) (behind : List ℕ) → length behind ≤ 8 → KeepsRanges limits (record_lent (first ∷ behind))
    → record_words (record_lent (first ∷ behind)) ≡ first ∷ (behind ++ zeros (8 - length behind))
unfolding record_lent kind_of kind_among
record_words_lem first behind few keeps = go (eqb (letter (kind_of first)) 0) refl keeps
  where
    go : (b : Bool) → eqb (letter (kind_of first)) 0 ≡ b
        → let r : Record = cond b (record { letter = 0; said = [] }) (record { letter = first; said = map field_lent (field_words (kind_of first) behind) }) in
        KeepsRanges limits r → record_words r ≡ first ∷ (behind ++ zeros (8 - length behind))
    go true e keeps = absurd (never (sym keeps.known))
    go false e keeps =
        let r : Record = record { letter = first; said = map field_lent (field_words (kind_of first) behind) } in
        known_words first behind few e (all_zero (drop (field_count (kind_of first)) behind)) refl
        (sym (length-map (field_words (kind_of first) behind) field_lent) ∙ keeps_count (rules_of limits r) r.said keeps.fields ∙ rules_count (kind_of first) (field r 1))

-- ---- all records

chunk_words : (words : List ℕ) → 1 ≤ length words → KeepsRanges limits (record_lent (take RECORD words))
    → record_words (record_lent (take RECORD words)) ≡ take RECORD words ++ zeros (RECORD - length words)
chunk_words [] some keeps = absurd (omega arith)
chunk_words (first ∷ behind) some keeps =
    let long = length-take 8 behind in
    record_words_lem first (take 8 behind) (omega (arith, long)) keeps
    ∙ ap (λ (n : ℕ). first ∷ (take 8 behind ++ zeros n)) (let e : 8 - length (take 8 behind) ≡ RECORD - suc (length behind) = omega (arith, long) in e)

none_long : (l : List ℕ) → length l ≡ 0 → l ≡ []
none_long [] e = refl
none_long (x ∷ l) e = absurd (omega arith)

-- the words of a first record and of the others, joined
abbrev Joined : (words : List ℕ) → (n : ℕ) → Type 0
Joined words n =
    (take RECORD words ++ zeros (RECORD - length words)) ++ (drop RECORD words ++ zeros (n * RECORD - length (drop RECORD words)))
    ≡ words ++ zeros (suc n * RECORD - length words)

whole : (words : List ℕ) (n : ℕ) → RECORD ≤ length words → Joined words n
whole words n h =
    let k : ℕ = suc n * RECORD - length words in
    let full : RECORD - length words ≡ 0 = omega arith in
    let rest : n * RECORD - length (drop RECORD words) ≡ k = omega (arith, length-drop RECORD words) in
    ap₂ (λ (i j : ℕ). (take RECORD words ++ zeros i) ++ (drop RECORD words ++ zeros j)) full rest
    ∙ ap (λ (l : List ℕ). l ++ (drop RECORD words ++ zeros k)) (append-nil (take RECORD words))
    ∙ sym (append_assoc (take RECORD words) (drop RECORD words) (zeros k)) ∙ ap (λ (l : List ℕ). l ++ zeros k) (take-append-drop RECORD words)

-- a single record, cut short
cut : (words : List ℕ) (n : ℕ) → length words < RECORD → suc n * RECORD < length words + RECORD → Joined words n
cut words n h least =
    let none : drop RECORD words ≡ [] = none_long (drop RECORD words) (omega (arith, length-drop RECORD words)) in
    let rest : n * RECORD - length (drop RECORD words) ≡ 0 = omega arith in
    let spare : RECORD - length words ≡ suc n * RECORD - length words = omega arith in
    ap₂ (λ (l : List ℕ) (j : ℕ). (take RECORD words ++ zeros (RECORD - length words)) ++ (l ++ zeros j)) none rest
    ∙ append-nil (take RECORD words ++ zeros (RECORD - length words))
    ∙ ap₂ (λ (l : List ℕ) (j : ℕ). l ++ zeros j) (take_all RECORD words (omega arith)) spare

words_to : (n : ℕ) (words : List ℕ) → length words ≤ n * RECORD → n * RECORD < length words + RECORD
    → All (KeepsRanges limits) (records_lent_to n words) → words_of (records_lent_to n words) ≡ words ++ zeros (n * RECORD - length words)
unfolding records_lent_to words_of
words_to zero [] most least keep = refl
words_to zero (w ∷ ws) most least keep = absurd (omega arith)
words_to (suc n) words most least keep =
    let long = length-drop RECORD words in
    let chunk = chunk_words words (omega arith) keep.0 in
    let rest = words_to n (drop RECORD words) (omega (arith, long)) (omega (arith, long)) keep.1 in
    ap₂ (λ (a b : List ℕ). a ++ b) chunk rest ∙ joined
  where
    joined : (take RECORD words ++ zeros (RECORD - length words)) ++ (drop RECORD words ++ zeros (n * RECORD - length (drop RECORD words)))
        ≡ words ++ zeros (suc n * RECORD - length words)
    joined = elim (dec_le RECORD (length words)) [
      | yes h ↦ whole words n h
      | no h ↦ cut words n (lt_of_not-le h) least
    ]

-- THE WORDS OF LENT RECORDS WHOSE SHEET IS ACCEPTED
pub words_same : (words : List ℕ) → first_of (sheet_checks limits (sheet_lent words)) ≡ accepted → words_of (records_lent words) ≡ filled_up words
unfolding records_lent
words_same words a =
    let keep : All (KeepsRanges limits) (records_lent words) = rw (← records_lent_lem words) (records_keep (sheet_lent words) a) in
    words_to (record_count words) words (omega arith) (omega arith) keep
