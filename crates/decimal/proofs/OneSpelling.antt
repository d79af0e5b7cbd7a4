-- A number has one spelling, and a spelling one number. Assumes nothing.
use mathlib.Core.Path.{◌≡◌, sym, ap, ap₂, ◌∙◌}
use mathlib.Core.Bool.{true, ◌&&◌, not}
use mathlib.Core.List.{List, [], ◌∷◌, ◌++◌, append_assoc, append-nil}
use Prim.Native.Nat.{ℕ, ◌+◌, ◌-◌, ◌*◌, ◌/◌, ◌%◌, ◌≤◌}
use native.Mathlib.Nat.{lt_of_not-le}
use native.Mathlib.Decide.{dec_le}
use native.Mathlib.Omega.{arith}
use borrow.Author.Tests.{ne_eqb, eqb-false, leb-true, not-true}
use lib.Dec.{eqb, leb}
use lib.ListN.{length, get_or, length-append}
use Rattle.decimal.specs.Number.{is_digit, all_digits, is_number, value_from, value}
use Rattle.decimal.specs.Spelling.{spelling}
use Rattle.decimal.proofs.Bools.{never, and_both}
use Rattle.decimal.proofs.Spelling.{spell_one, spell_more, spelling_digits, spelling_value, spelling_some, spelling_first}

-- ---- a number of the sheet is its value's spelling

spell_on : (n : ℕ) (bs : List ℕ) → 1 ≤ n → all_digits bs ≡ true → spelling (value_from n bs) ≡ spelling n ++ bs
unfolding value_from all_digits
spell_on n [] h a = sym (append-nil (spelling n))
spell_on n (b ∷ bs) h a =
    let q = and_both (is_digit b) (all_digits bs) a in
    let r = and_both (leb 48 b) (leb b 57) q.0 in
    let lo = leb-true 48 b r.0 in
    let hi = leb-true b 57 r.1 in
    let d : (n * 10 + (b - 48)) / 10 ≡ n = omega arith in
    let m : 48 + (n * 10 + (b - 48)) % 10 ≡ b = omega arith in
    spell_on (n * 10 + (b - 48)) bs (omega arith) q.1
    ∙ ap (λ (l : List ℕ). l ++ bs) (spell_more (n * 10 + (b - 48)) (omega arith) ∙ ap₂ (λ (x y : ℕ). spelling x ++ (y ∷ [])) d m)
    ∙ append_assoc (spelling n) (b ∷ []) bs

digit_spelt : (b : ℕ) → is_digit b ≡ true → spelling (0 * 10 + (b - 48)) ≡ b ∷ []
digit_spelt b h =
    let r = and_both (leb 48 b) (leb b 57) h in
    let lo = leb-true 48 b r.0 in
    let hi = leb-true b 57 r.1 in
    let e : 0 * 10 + (b - 48) ≡ b - 48 = omega arith in
    let m : 48 + (b - 48) ≡ b = omega arith in
    ap spelling e ∙ spell_one (b - 48) (omega arith) ∙ ap (λ (x : ℕ). x ∷ []) m

-- SPELT AFTER READ
pub number_spelling : (bs : List ℕ) → is_number bs ≡ true → spelling (value bs) ≡ bs
unfolding is_number value_from all_digits
number_spelling [] h = absurd (never h)
number_spelling (b ∷ []) h = digit_spelt b h
number_spelling (b ∷ c ∷ bs) h =
    let q = and_both (not (eqb b 48)) (is_digit b && all_digits (c ∷ bs)) h in
    let p = and_both (is_digit b) (all_digits (c ∷ bs)) q.1 in
    let r = and_both (leb 48 b) (leb b 57) p.0 in
    let lo = leb-true 48 b r.0 in
    let ne = eqb-false b 48 (not-true (eqb b 48) q.0) in
    spell_on (0 * 10 + (b - 48)) (c ∷ bs) (omega arith) p.1 ∙ ap (λ (l : List ℕ). l ++ (c ∷ bs)) (digit_spelt b p.0)

-- ---- a spelling is a number of the sheet

number_many : (s : List ℕ) → 2 ≤ length s → (get_or s 0 0 ≡ 48 → ⊥) → all_digits s ≡ true → is_number s ≡ true
unfolding is_number
number_many [] h k d = absurd (omega arith)
number_many (b ∷ []) h k d = absurd (omega arith)
number_many (b ∷ c ∷ s) h k d = rw (ne_eqb b 48 k) d

pub spelling_number : (n : ℕ) → is_number (spelling n) ≡ true
unfolding is_number all_digits
spelling_number n =
    elim (dec_le 10 n) [
      | yes h ↦ number_many (spelling n) (two h) (spelling_first n (omega arith)) (spelling_digits n)
      | no h ↦ rw (spell_one n (lt_of_not-le h)) (and_both (is_digit (48 + n)) true (rw (spell_one n (lt_of_not-le h)) at (spelling_digits n))).0
    ]
  where
    two : 10 ≤ n → 2 ≤ length (spelling n)
    two h = rw (spell_more n h, length-append) (let k = spelling_some (n / 10) in omega arith)

-- ---- one spelling a number, one number a spelling

pub one_spelling : (a b : List ℕ) → is_number a ≡ true → is_number b ≡ true → value a ≡ value b → a ≡ b
one_spelling a b p q e = sym (number_spelling a p) ∙ ap spelling e ∙ number_spelling b q

pub one_number : (m n : ℕ) → spelling m ≡ spelling n → m ≡ n
one_number m n e = sym (spelling_value m) ∙ ap value e ∙ spelling_value n
