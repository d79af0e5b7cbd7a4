-- Laws of a number's spelling: it is digits, of the number's value. Assumes nothing.
use mathlib.Core.Path.{◌≡◌, refl, sym, ap, ◌∙◌}
use mathlib.Core.Bool.{Bool, true, false, ◌&&◌}
use mathlib.Core.List.{List, [], ◌∷◌, ◌++◌}
use Prim.Native.Nat.{ℕ, zero, suc, ◌+◌, ◌-◌, ◌*◌, ◌/◌, ◌%◌, ◌≤◌, ◌<◌}
use native.Mathlib.Nat.{lt_of_not-le}
use native.Mathlib.Decide.{dec_le}
use native.Mathlib.Omega.{arith}
use borrow.Author.Tests.{lt-ltb, le-ltb, le-leb}
use lib.Dec.{ltb}
use lib.ListN.{length, get_or, length-append, get_or-append}
use Rattle.decimal.specs.Number.{is_digit, all_digits, value_from, value}
use Rattle.decimal.specs.Spelling.{digits, spelling}

-- any count above n is enough
enough : (f g n : ℕ) → n < f → n < g → digits f (ltb n 10) n ≡ digits g (ltb n 10) n
unfolding digits
enough zero g n p q = absurd (omega arith)
enough (suc f) zero n p q = absurd (omega arith)
enough (suc f) (suc g) n p q =
    elim (dec_le 10 n) [
      | yes h ↦
          let p' : n / 10 < f = omega arith in
          let q' : n / 10 < g = omega arith in
          rw (le-ltb n 10 h) (ap (λ (l : List ℕ). l ++ ((48 + n % 10) ∷ [])) (enough f g (n / 10) p' q'))
      | no h ↦ rw (lt-ltb n 10 (lt_of_not-le h))
    ]

pub spell_one : (n : ℕ) → n < 10 → spelling n ≡ (48 + n) ∷ []
unfolding spelling digits
spell_one n h = rw (lt-ltb n 10 h)

pub spell_more : (n : ℕ) → 10 ≤ n → spelling n ≡ spelling (n / 10) ++ ((48 + n % 10) ∷ [])
unfolding spelling digits
spell_more n h =
    let p : n / 10 < n = omega arith in
    let q : n / 10 < suc (n / 10) = omega arith in
    rw (le-ltb n 10 h) (ap (λ (l : List ℕ). l ++ ((48 + n % 10) ∷ [])) (enough n (suc (n / 10)) (n / 10) p q))

-- what holds of one digit, and of a number where it holds of its tenth, holds of every number's spelling
spell_ind : (P : ℕ → List ℕ → Type 0) → ((n : ℕ) → n < 10 → P n ((48 + n) ∷ []))
    → ((n : ℕ) → 10 ≤ n → P (n / 10) (spelling (n / 10)) → P n (spelling (n / 10) ++ ((48 + n % 10) ∷ []))) → (n : ℕ) → P n (spelling n)
spell_ind P one more n = within (suc n) n (omega arith)
  where
    within : (most n : ℕ) → n < most → P n (spelling n)
    within zero n h = absurd (omega arith)
    within (suc most) n h =
        elim (dec_le 10 n) [
          | yes g ↦ rw (spell_more n g) (more n g (within most (n / 10) (omega arith)))
          | no g ↦ rw (spell_one n (lt_of_not-le g)) (one n (lt_of_not-le g))
        ]

-- ---- digits one after the other

digits_append : (a b : List ℕ) → all_digits (a ++ b) ≡ (all_digits a && all_digits b)
unfolding all_digits
digits_append [] b = refl
digits_append (x ∷ a) b = go (is_digit x) (digits_append a b)
  where
    go : (t : Bool) → all_digits (a ++ b) ≡ (all_digits a && all_digits b) → (t && all_digits (a ++ b)) ≡ ((t && all_digits a) && all_digits b)
    go true h = h
    go false h = refl

value_append : (n : ℕ) (a b : List ℕ) → value_from n (a ++ b) ≡ value_from (value_from n a) b
unfolding value_from
value_append n [] b = refl
value_append n (x ∷ a) b = value_append (n * 10 + (x - 48)) a b

pub one_digit : (d : ℕ) → d < 10 → is_digit (48 + d) ≡ true
one_digit d h = simp (le-leb 48 (48 + d) (omega arith), le-leb (48 + d) 57 (omega arith))

-- ---- a spelling

pub spelling_digits : (n : ℕ) → all_digits (spelling n) ≡ true
unfolding all_digits
spelling_digits =
    spell_ind (λ n s. all_digits s ≡ true) (λ n h. simp (one_digit n h))
    (λ n h ih. rw (digits_append, ih) (simp (one_digit (n % 10) (omega arith))))

-- READ AFTER SPELT: a spelling has the value of its number
pub spelling_value : (n : ℕ) → value (spelling n) ≡ n
unfolding value_from
spelling_value =
    spell_ind (λ n s. value s ≡ n) (λ n h. omega arith)
    (λ n h ih. rw (value_append 0 (spelling (n / 10)), ih) (omega arith))

pub spelling_some : (n : ℕ) → 1 ≤ length (spelling n)
spelling_some = spell_ind (λ n s. 1 ≤ length s) (λ n h. omega arith) (λ n h ih. rw length-append (omega arith))

-- no leading zero except 0's own
pub spelling_first : (n : ℕ) → 1 ≤ n → get_or (spelling n) 0 0 ≡ 48 → ⊥
spelling_first =
    spell_ind (λ n s. 1 ≤ n → get_or s 0 0 ≡ 48 → ⊥) (λ n h k e. omega arith)
    (λ n h ih k e. ih (omega arith) (sym (get_or-append (spelling (n / 10)) ((48 + n % 10) ∷ []) 0 0 (spelling_some (n / 10))) ∙ e))
