-- How many fields a lent record has: the tests of its words in the code's order. Assumes nothing.
use mathlib.Core.Path.{◌≡◌, refl, sym, ap, ap₂, ◌∙◌}
use mathlib.Core.Bool.{Bool, true, false, cond, not, ◌&&◌}
use mathlib.Core.List.{List, [], ◌∷◌, map}
use Prim.Native.Nat.{ℕ, ◌+◌, ◌-◌, ◌≤◌}
use native.Mathlib.Omega.{arith}
use borrow.Author.Tests.{eqb-true, ne_eqb}
use lib.Dec.{eqb}
use lib.ListN.{length, get_or, take, drop, replicate, length-take, length-drop, length-map, drop_of_length-le}
use lib.Seq.{drop-drop, take_all}
use Rattle.std.specs.List.{list_all}
use Rattle.lines.specs.Records.{Record}
use Rattle.sheet.specs.Kinds.{kinds, kind_of, kind_among, letter, rules}
use Rattle.sheet.specs.declared.Kind.{Kind}
use Rattle.sheet.proofs.Table.{all_of, each_passes, every_kind}
use Rattle.decimal.proofs.Bools.{never, and_both}
use Rattle.lent.specs.Lent.{field_lent, all_zero, field_count, field_words, record_lent}

-- ---- words that are 0 from a place on

pub none_left : (words : List ℕ) (k : ℕ) → length words ≤ k → all_zero (drop k words) ≡ true
unfolding all_zero
none_left words k h = rw (drop_of_length-le words h)

zeros_are : (ws : List ℕ) → all_zero ws ≡ list_all (λ w. eqb w 0) ws
unfolding all_zero
zeros_are [] = refl
zeros_are (w ∷ ws) = ap (λ (b : Bool). eqb w 0 && b) (zeros_are ws)

-- the words from a place on, as the code goes over them
pub zeros_from : (words : List ℕ) (k : ℕ) → all_zero (drop k words) ≡ list_all (λ w. eqb w 0) (take (length words - k) (drop k words))
zeros_from words k =
    zeros_are (drop k words) ∙ ap (list_all (λ w. eqb w 0)) (sym (take_all (length words - k) (drop k words) (omega (arith, length-drop k words))))

pub all_zeros : (ws : List ℕ) → all_zero ws ≡ true → ws ≡ replicate (length ws) 0
unfolding all_zero
all_zeros [] h = refl
all_zeros (w ∷ ws) h =
    let q = and_both (eqb w 0) (all_zero ws) h in
    ap₂ (λ (x : ℕ) (l : List ℕ). x ∷ l) (eqb-true w 0 q.0) (all_zeros ws q.1)

-- ---- a record

abbrev fields_and_letter : (k : Kind) → Bool
fields_and_letter k = cond (eqb (letter k) 0) (eqb (field_count k) 0) (not (eqb (field_count k) 0))

-- a kind has fields where it has a letter, and there only
pub some_fields : (k : Kind) → eqb (letter k) 0 ≡ eqb (field_count k) 0
unfolding rules all_of
some_fields k =
    go (eqb (letter k) 0) (eqb (field_count k) 0) (every_kind (λ (j : Kind). fields_and_letter j ≡ true) refl (each_passes fields_and_letter kinds refl) k)
  where
    go : (a b : Bool) → cond a b (not b) ≡ true → a ≡ b
    go true true h = refl
    go true false h = absurd (never h)
    go false true h = absurd (never h)
    go false false h = refl

-- how many fields a line of a record's letter has
abbrev pub count_of : (words : List ℕ) → ℕ
count_of words = field_count (kind_of (get_or words 0 0))

pub none_lent : (words : List ℕ) → count_of words ≡ 0 → record_lent words ≡ record { letter = 0; said = [] }
unfolding record_lent
none_lent [] e = refl
none_lent (first ∷ behind) e = rw (some_fields (kind_of first), e)

pub some_lent : (words : List ℕ) → (count_of words ≡ 0 → ⊥)
    → record_lent words ≡ record { letter = get_or words 0 0; said = map field_lent (field_words (kind_of (get_or words 0 0)) (drop 1 words)) }
unfolding record_lent kind_of kind_among rules
some_lent [] some = absurd (some refl)
some_lent (first ∷ behind) some = rw (some_fields (kind_of first), ne_eqb (field_count (kind_of first)) 0 some)

-- fields are there: so is a letter
pub some_letter : (words : List ℕ) → (count_of words ≡ 0 → ⊥) → 1 ≤ (record_lent words).letter
unfolding kind_of kind_among rules
some_letter words some =
    let first : get_or words 0 0 ≡ 0 → ⊥ = λ e. some (ap (λ (w : ℕ). field_count (kind_of w)) e) in
    omega (arith, first, ap (λ (r : Record). r.letter) (some_lent words some))

pub letter_some : (words : List ℕ) → 1 ≤ (record_lent words).letter → count_of words ≡ 0 → ⊥
letter_some words known e = omega (arith, known, ap (λ (r : Record). r.letter) (none_lent words e))

module _ (words : List ℕ) (count : ℕ) (is : count ≡ count_of words) where
  module _ (some : 1 ≤ count) where
    further : drop (count_of words) (drop 1 words) ≡ drop (count + 1) words
    further = drop-drop (count_of words) 1 words ∙ ap (λ (n : ℕ). drop n words) (let e : 1 + count_of words ≡ count + 1 = omega arith in e)

    counted : (b : Bool) → all_zero (drop (count + 1) words) ≡ b
        → length (record_lent words).said ≡ length (cond b (take count (drop 1 words)) (drop 1 words))
    counted b e =
        ap (λ (r : Record). length r.said) (some_lent words (λ z. omega (arith, is, z, some))) ∙ length-map (field_words (kind_of (get_or words 0 0)) (drop 1 words)) field_lent
        ∙ ap₂ (λ (t : Bool) (n : ℕ). length (cond t (take n (drop 1 words)) (drop 1 words))) (ap all_zero further ∙ e) (sym is)

    -- no further word is there, each is 0, or one is not
    pub count_few : length words ≤ count + 1 → length (record_lent words).said ≡ length words - 1
    count_few h = counted true (none_left words (count + 1) h) ∙ simp (length-take, length-drop) (omega arith)

    pub count_kind : count + 1 ≤ length words → all_zero (drop (count + 1) words) ≡ true → length (record_lent words).said ≡ count
    count_kind h e = counted true e ∙ simp (length-take, length-drop) (omega arith)

    pub count_all : all_zero (drop (count + 1) words) ≡ false → length (record_lent words).said ≡ length words - 1
    count_all e = counted false e ∙ length-drop 1 words
