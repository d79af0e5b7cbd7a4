-- What the words of a line's fields say is what the fields say: rows 6 and 7. Assumes nothing.
use mathlib.Core.Path.{◌≡◌, refl, ap, ◌∙◌}
use mathlib.Core.Bool.{Bool, true, false, cond, ◌&&◌, ◌||◌, not}
use mathlib.Core.List.{List, [], ◌∷◌, ◌++◌, map}
use Prim.Native.Nat.{ℕ, zero, suc, ◌+◌, min, ◌≤◌, ◌<◌}
use native.Mathlib.Nat.{lt_of_not-le}
use native.Mathlib.Decide.{dec_le}
use native.Mathlib.Omega.{arith}
use borrow.Author.Tests.{eq-eqb, ne_eqb, eqb-true, eqb-false, ltb-true, le-leb, lt-leb, lt-ltb, le-ltb}
use lib.Dec.{eqb}
use lib.ListN.{length, get_or, set, replicate, length-set, length-map, get_or-eq_default}
use lib.Seq.{sets, get_or-set_same, get_or-set_other}
use Rattle.decimal.proofs.Bools.{and_both}
use Rattle.lines.specs.Records.{Field, number, dash, other}
use Rattle.lines.specs.Words.{WORDS, CAP, DASH, OTHER, word, words}
use Rattle.sheet.specs.Kinds.{Rule, method_rules}
use Rattle.sheet.specs.Refusals.{not_number, out_of_range}
use Rattle.sheet.specs.Verdict.{Check, check, refused, first_of, number_of, field_checks}
use Rattle.sheet.proofs.Table.{all_of, below_cap}
use Rattle.checks.specs.Steps.{or_else, word_number, words_number}
use Rattle.checks.specs.Judged.{method_word_rules}

-- ---- the words of the first eight fields

below : (ws l : List ℕ) (i k : ℕ) → k < i → get_or (sets l i ws) k 0 ≡ get_or l k 0
below [] l i k h = refl
below (w ∷ ws) l i k h = below ws (set l i w) (suc i) k (omega arith) ∙ get_or-set_other l i k w 0 (λ e. omega arith)

stored_at : (ws l : List ℕ) (i j : ℕ) → i + j < length l → ((k : ℕ) → i ≤ k → get_or l k 0 ≡ 0) → get_or (sets l i ws) (i + j) 0 ≡ get_or ws j 0
stored_at [] l i j h z = z (i + j) (omega arith)
stored_at (w ∷ ws) l i zero h z =
    let e : i + 0 ≡ i = omega arith in
    rw e (below ws (set l i w) (suc i) i (omega arith) ∙ get_or-set_same l i w 0 (omega arith))
stored_at (w ∷ ws) l i (suc j) h z =
    let e : i + suc j ≡ suc i + j = omega arith in
    rw e
    (stored_at ws (set l i w) (suc i) j (rw length-set (omega arith)) (λ k g. get_or-set_other l i k w 0 (λ q. omega arith) ∙ z k (omega arith)))

zeros : (n k : ℕ) → ◌≡◌ {A = ℕ} (get_or (replicate n 0) k 0) 0
zeros zero k = refl
zeros (suc n) zero = refl
zeros (suc n) (suc k) = zeros n k

stored : (fields : List Field) (k : ℕ) → k < WORDS → get_or (words fields) k 0 ≡ get_or (map word fields) k 0
unfolding words
stored fields k h = let z : 0 + k ≡ k = omega arith in rw z at (stored_at (map word fields) (replicate WORDS 0) 0 k (omega arith) (λ j g. zeros WORDS j))

mapped_in : (fields : List Field) (k : ℕ) → k < length fields → get_or (map word fields) k 0 ≡ word (get_or fields k other)
mapped_in [] k h = absurd (omega arith)
mapped_in (f ∷ fs) zero h = refl
mapped_in (f ∷ fs) (suc k) h = mapped_in fs k (omega arith)

-- the word of a field that is there, and of one that is not
pub word_at : (fields : List Field) (k : ℕ) → k < WORDS → k < length fields → get_or (words fields) k 0 ≡ word (get_or fields k other)
word_at fields k h g = stored fields k h ∙ mapped_in fields k g

pub word_past : (fields : List Field) (k : ℕ) → k < WORDS → length fields ≤ k → get_or (words fields) k 0 ≡ 0
word_past fields k h g = stored fields k h ∙ get_or-eq_default (map word fields) 0 (rw (length-map fields word) g)

-- ---- the rules by the word of the method

eqb_min : (n k : ℕ) → k < CAP → eqb (min n CAP) k ≡ eqb n k
eqb_min n k h = go (eqb n k) refl
  where
    go : (t : Bool) → eqb n k ≡ t → eqb (min n CAP) k ≡ t
    go true e = let g = eqb-true n k e in eq-eqb (min n CAP) k (omega arith)
    go false e = ne_eqb (min n CAP) k (λ g. eqb-false n k e (omega arith))

method_word : (f : Field) → method_rules (number (word f)) ≡ method_rules f
unfolding method_rules word
method_word (number n) =
    rw (eqb_min n 1 (omega arith), eqb_min n 2 (omega arith), eqb_min n 3 (omega arith), eqb_min n 4 (omega arith))
method_word dash = refl
method_word other = refl

-- a source stream's rules are those of its method's word
pub method_at : (fields : List Field) → method_word_rules (words fields) ≡ method_rules (get_or fields 1 other)
unfolding method_rules
method_at fields =
    elim (dec_le (length fields) 1) [
      | yes h ↦ rw (word_past fields 1 (omega arith) h, get_or-eq_default fields other h)
      | no h ↦ rw (word_at fields 1 (omega arith) (lt_of_not-le h)) (method_word (get_or fields 1 other))
    ]

and_false : (a : Bool) → (a && false) ≡ false
and_false true = refl
and_false false = refl

or_true : (a : Bool) → (a || true) ≡ true
or_true true = refl
or_true false = refl

-- the number of the first check that applies
pub number_cons : (c : Check) (cs : List Check) → number_of (first_of (c ∷ cs)) ≡ cond c.applies c.number (number_of (first_of cs))
unfolding first_of
number_cons c cs = go c.applies
  where
    go : (t : Bool) → number_of (cond t (refused c.number c.line) (first_of cs)) ≡ cond t c.number (number_of (first_of cs))
    go true = refl
    go false = refl

-- ---- 6 and 7 of one field

field_number : (rule : Rule) (f : Field) → below_cap rule ≡ true
    → word_number rule.lowest rule.highest rule.dash_allowed (word f) ≡ cond (not_number rule f) 6 (cond (out_of_range rule f) 7 0)
unfolding word word_number
field_number rule f c = go f (ltb-true rule.highest CAP c)
  where
    go : (f : Field) → rule.highest < CAP
        → word_number rule.lowest rule.highest rule.dash_allowed (word f) ≡ cond (not_number rule f) 6 (cond (out_of_range rule f) 7 0)
    go (number n) h =
        elim (dec_le n rule.highest) [
          | yes g ↦
              let m : min n CAP ≡ n = omega arith in
              elim (dec_le rule.lowest n) [
                | yes k ↦
                    simp (m, le-leb rule.lowest n k, le-leb n rule.highest g, le-ltb rule.highest n g, le-ltb n rule.lowest k)
                | no k ↦
                    let q : n < rule.lowest = lt_of_not-le k in
                    simp (
                      m,
                      lt-leb rule.lowest n q,
                      lt-ltb n rule.lowest q,
                      ne_eqb n DASH (λ e. omega arith),
                      ne_eqb n OTHER (λ e. omega arith),
                    )
              ]
          | no g ↦
              let q : rule.highest < n = lt_of_not-le g in
              simp (
                lt-leb (min n CAP) rule.highest (omega arith),
                and_false,
                or_true,
                ne_eqb (min n CAP) DASH (λ e. omega arith),
                ne_eqb (min n CAP) OTHER (λ e. omega arith),
                lt-ltb rule.highest n q,
              )
        ]
    go dash h = simp (lt-leb DASH rule.highest (omega arith), and_false) (turn rule.dash_allowed)
      where
        turn : (d : Bool) → ◌≡◌ {A = ℕ} (cond d 0 6) (cond (not d) 6 0)
        turn true = refl
        turn false = refl
    go other h = simp (lt-leb OTHER rule.highest (omega arith), and_false)

-- ---- 6 and 7 of the fields, before what comes after them

pub fields_number_lem : (line : ℕ) (rs : List Rule) (fields : List Field) (ws : List ℕ) (k : ℕ) (rest : List Check)
    → all_of below_cap rs ≡ true → length fields ≡ length rs → ((i : ℕ) → i < length fields → get_or ws (k + i) 0 ≡ word (get_or fields i other))
    → number_of (first_of (field_checks line rs fields ++ rest)) ≡ or_else (words_number k rs ws) (number_of (first_of rest))
unfolding field_checks words_number all_of
fields_number_lem line [] fields ws k rest c e h = refl
fields_number_lem line (r ∷ rs) [] ws k rest c e h = absurd (omega arith)
fields_number_lem line (r ∷ rs) (f ∷ fs) ws k rest c e h =
    let both = and_both (below_cap r) (all_of below_cap rs) c in
    let z : k + 0 ≡ k = omega arith in
    let w : get_or ws k 0 ≡ word f = rw z at (h 0 (omega arith)) in
    let n = ap (word_number r.lowest r.highest r.dash_allowed) w ∙ field_number r f both.0 in
    number_cons (check 6 line (not_number r f)) _
    ∙ ap (cond (not_number r f) 6) (number_cons (check 7 line (out_of_range r f)) _
    ∙ ap (cond (out_of_range r f) 7) (fields_number_lem line rs fs ws (suc k) rest both.1 (omega arith) (λ i g. next i (h (suc i) (omega arith)))))
    ∙ rw n (go (not_number r f) (out_of_range r f))
  where
    next : (i : ℕ) → get_or ws (k + suc i) 0 ≡ word (get_or fs i other) → get_or ws (suc k + i) 0 ≡ word (get_or fs i other)
    next i q = let z : k + suc i ≡ suc k + i = omega arith in rw z at q

    go : (a b : Bool) → cond a 6 (cond b 7 (or_else (words_number (suc k) rs ws) (number_of (first_of rest))))
        ≡ or_else (or_else (cond a 6 (cond b 7 0)) (words_number (suc k) rs ws)) (number_of (first_of rest))
    go true b = refl
    go false true = refl
    go false false = refl
