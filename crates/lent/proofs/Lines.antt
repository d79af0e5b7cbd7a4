-- The line that a lent record spells: its letter, then field by field. Assumes nothing.
use mathlib.Core.Path.{◌≡◌, refl, sym, ap, ◌∙◌}
use mathlib.Core.Bool.{Bool, true, false, cond}
use mathlib.Core.List.{List, [], ◌∷◌, ◌++◌, map, map-append, append_assoc, append-nil}
use Prim.Native.Nat.{ℕ, zero, suc, ◌+◌, ◌<◌}
use native.Mathlib.Numerals.{add-one}
use native.Mathlib.Omega.{arith}
use borrow.Author.Tests.{ne_eqb}
use lib.Dec.{eqb}
use lib.ListN.{length, take, drop, get_or, length-append, length-map, length-take, length-drop}
use lib.Seq.{take-length, take-suc, get_or-take, get_or-drop}
use Rattle.decimal.specs.Spelling.{spelling}
use Rattle.lines.specs.Lines.{COMMA}
use Rattle.lines.specs.Records.{Field, Record}
use Rattle.lines.specs.Spelling.{spell_field, spell_fields, spell_line}
use Rattle.sheet.specs.Kinds.{kind_of, letter}
use Rattle.sheet.specs.declared.Kind.{Kind}
use Rattle.lent.specs.Lent.{DASH_WORD, field_lent, all_zero, field_count, field_words, record_lent, spell_lent}
use Rattle.lent.proofs.Counts.{count_of, none_lent}

-- ---- a field

pub dash_spelt : (word : ℕ) → word ≡ DASH_WORD → spell_field (field_lent word) ≡ 45 ∷ []
dash_spelt word e = ap (λ (w : ℕ). spell_field (field_lent w)) e

pub number_spelt : (word : ℕ) → (word ≡ DASH_WORD → ⊥) → spell_field (field_lent word) ≡ spelling word
number_spelt word h = rw (ne_eqb word DASH_WORD h)

-- ---- the first fields of a record

-- the words of fields, as the code goes over them
pub field_at : (words : List ℕ) (n k : ℕ) → k < length (take n (drop 1 words)) → get_or (take n (drop 1 words)) k 0 ≡ get_or words (k + 1) 0
field_at words n k h =
    get_or-take n (drop 1 words) k 0 (omega (arith, length-take n (drop 1 words))) ∙ get_or-drop 1 words k 0
    ∙ ap (λ (i : ℕ). get_or words i 0) (let e : 1 + k ≡ k + 1 = omega arith in e)

unfoldable pub fields_to : (words : List ℕ) → (i : ℕ) → List ℕ
fields_to words i = spell_fields (map field_lent (take i (drop 1 words)))

fields_append : (a b : List Field) → spell_fields (a ++ b) ≡ spell_fields a ++ spell_fields b
unfolding spell_fields
fields_append [] b = refl
fields_append (f ∷ a) b = rw (fields_append a b, append_assoc)

field_alone : (f : Field) → spell_fields (f ∷ []) ≡ COMMA ∷ spell_field f
unfolding spell_fields
field_alone f = append-nil (COMMA ∷ spell_field f)

pub fields_none : (words : List ℕ) → fields_to words 0 ≡ []
unfolding fields_to spell_fields
fields_none words = refl

-- one field more
pub fields_more : (words : List ℕ) (i : ℕ) → i + 1 < length words
    → fields_to words (i + 1) ≡ fields_to words i ++ (COMMA ∷ spell_field (field_lent (get_or words (i + 1) 0)))
unfolding fields_to
fields_more words i h =
    let behind : List ℕ = drop 1 words in
    let inside : i < length behind = omega (arith, length-drop 1 words) in
    let at : get_or behind i 0 ≡ get_or words (i + 1) 0 =
    get_or-drop 1 words i 0 ∙ ap (λ (k : ℕ). get_or words k 0) (let e : 1 + i ≡ i + 1 = omega arith in e) in
    ap (λ (k : ℕ). spell_fields (map field_lent (take k behind))) (add-one i)
    ∙ ap (λ (l : List ℕ). spell_fields (map field_lent l)) (take-suc behind i 0 inside)
    ∙ ap spell_fields (map-append field_lent (take i behind) (get_or behind i 0 ∷ []))
    ∙ fields_append (map field_lent (take i behind)) (field_lent (get_or behind i 0) ∷ [])
    ∙ ap (λ (l : List ℕ). fields_to words i ++ l) (field_alone (field_lent (get_or behind i 0)))
    ∙ ap (λ (w : ℕ). fields_to words i ++ (COMMA ∷ spell_field (field_lent w))) at

pub length_more : (words : List ℕ) (i : ℕ) → i + 1 < length words
    → length (fields_to words (i + 1)) ≡ length (fields_to words i) + (length (spell_field (field_lent (get_or words (i + 1) 0))) + 1)
length_more words i h =
    ap length (fields_more words i h) ∙ length-append (fields_to words i) (COMMA ∷ spell_field (field_lent (get_or words (i + 1) 0))) ∙ omega arith

-- ---- a record

-- no letter of a kind: an empty line
pub none_spelt : (words : List ℕ) → count_of words ≡ 0 → spell_lent (record_lent words) ≡ []
none_spelt words e = rw (none_lent words e)

taken_part : (n : ℕ) (l : List ℕ) → take n l ≡ take (length (take n l)) l
taken_part zero l = refl
taken_part (suc n) [] = refl
taken_part (suc n) (x ∷ l) = ap (λ (r : List ℕ). x ∷ r) (taken_part n l)

-- as many of the words behind the letter as a list of them has
first_words : (k : Kind) (behind : List ℕ) → field_words k behind ≡ take (length (map field_lent (field_words k behind))) behind
first_words k behind = rw (length-map (field_words k behind) field_lent) (go (all_zero (drop (field_count k) behind)))
  where
    go : (b : Bool) → cond b (take (field_count k) behind) behind ≡ take (length (cond b (take (field_count k) behind) behind)) behind
    go true = taken_part (field_count k) behind
    go false = sym (take-length behind)

-- a record's fields are the first of the words behind its letter
said_first : (words : List ℕ) → (record_lent words).said ≡ map field_lent (take (length (record_lent words).said) (drop 1 words))
unfolding record_lent
said_first [] = refl
said_first (first ∷ behind) = go (eqb (letter (kind_of first)) 0)
  where
    go : (b : Bool)
        → let r : Record = cond b (record { letter = 0; said = [] }) (record { letter = first; said = map field_lent (field_words (kind_of first) behind) }) in
        r.said ≡ map field_lent (take (length r.said) behind)
    go true = refl
    go false = ap (map field_lent) (first_words (kind_of first) behind)

-- THE LINE OF A LETTER OF A KIND: the letter, and as many fields as the record says
pub record_spelt : (words : List ℕ) → ((record_lent words).letter ≡ 0 → ⊥)
    → spell_lent (record_lent words) ≡ (record_lent words).letter ∷ fields_to words (length (record_lent words).said)
unfolding fields_to spell_line
record_spelt words some =
    rw (ne_eqb (record_lent words).letter 0 some) (ap (λ (fs : List Field). (record_lent words).letter ∷ spell_fields fs) (said_first words))
