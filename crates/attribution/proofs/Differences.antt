-- Integers as differences of two naturals: `diff a b` is a − b, shut, so that what is linear over ℤ is proved over ℕ. Assumes nothing.
use mathlib.Core.Path.{◌≡◌, refl, sym, ap, ap₂, ◌∙◌}
use mathlib.Core.Bool.{Bool, true, false}
use Prim.Native.Nat.{ℕ, zero, suc, ◌+◌, ◌-◌, ◌≤◌, ◌<◌}
use native.Mathlib.Omega.{arith}
use lib.Dec.{ltb}
use lib.IntN.{ℤ, pos, negsuc, neg_ℤ, nat_abs, sub_ℕ, ◌+ℤ◌, ◌-ℤ◌, +ℤ_assoc, +ℤ_comm, neg_ℤ-+ℤ, neg_ℤ-neg_ℤ}
use borrow.Author.Tests.{ltb-true, ltb-false, lt-ltb, le-ltb}
use Rattle.ledger.specs.Raising.{raised_to_zero, grams_added}

unfoldable pub diff : ℕ → ℕ → ℤ
diff a b = sub_ℕ a b

pub diff_ge : (a b : ℕ) → b ≤ a → diff a b ≡ pos (a - b)
unfolding diff
diff_ge a b h = rw (le-ltb a b h)

pub diff_lt : (a b : ℕ) → a < b → diff a b ≡ negsuc (b - suc a)
unfolding diff
diff_lt a b h = rw (lt-ltb a b h)

-- raised to zero, and the grams added
pub raised_diff : (a b : ℕ) → raised_to_zero (diff a b) ≡ a - b
raised_diff a b = go (ltb a b) refl
  where
    go : (t : Bool) → ltb a b ≡ t → raised_to_zero (diff a b) ≡ a - b
    go true e = let h = ltb-true a b e in ap raised_to_zero (diff_lt a b h) ∙ omega arith
    go false e = ap raised_to_zero (diff_ge a b (ltb-false a b e))

pub added_diff : (a b : ℕ) → grams_added (diff a b) ≡ b - a
added_diff a b = go (ltb a b) refl
  where
    go : (t : Bool) → ltb a b ≡ t → grams_added (diff a b) ≡ b - a
    go true e = let h = ltb-true a b e in ap grams_added (diff_lt a b h) ∙ omega arith
    go false e = let h = ltb-false a b e in ap grams_added (diff_ge a b h) ∙ omega arith

-- its sign aside, it is no greater than the greater of the two
pub diff_size : (a b limit : ℕ) → a < limit → b < limit → nat_abs (diff a b) < limit
diff_size a b limit p q = go (ltb a b) refl
  where
    go : (t : Bool) → ltb a b ≡ t → nat_abs (diff a b) < limit
    go true e = let h = ltb-true a b e in rw (diff_lt a b h) (omega arith)
    go false e = rw (diff_ge a b (ltb-false a b e)) (omega arith)

-- every integer is such a difference
pub diff_of : (z : ℤ) → diff (raised_to_zero z) (grams_added z) ≡ z
diff_of (pos n) = diff_ge n 0 (omega arith) ∙ ap pos (omega arith)
diff_of (negsuc n) = diff_lt 0 (suc n) (omega arith) ∙ ap negsuc (omega arith)

pub diff_eq : (a b c d : ℕ) → a + d ≡ c + b → diff a b ≡ diff c d
diff_eq a b c d h =
    sym (diff_of (diff a b))
    ∙ ap₂ diff (raised_diff a b ∙ p ∙ sym (raised_diff c d)) (added_diff a b ∙ q ∙ sym (added_diff c d))
    ∙ diff_of (diff c d)
  where
    p : a - b ≡ c - d
    p = omega arith

    q : b - a ≡ d - c
    q = omega arith

pub diff_inj : (a b c d : ℕ) → diff a b ≡ diff c d → a + d ≡ c + b
diff_inj a b c d e =
    let p : a - b ≡ c - d = sym (raised_diff a b) ∙ ap raised_to_zero e ∙ raised_diff c d in
    let q : b - a ≡ d - c = sym (added_diff a b) ∙ ap grams_added e ∙ added_diff c d in
    omega arith

pub diff_pos : (a : ℕ) → pos a ≡ diff a 0
diff_pos a = sym (diff_of (pos a))

-- the difference is the sum with the negated
diff_is : (a b : ℕ) → diff a b ≡ pos a -ℤ pos b
unfolding diff
diff_is a zero = diff_ge a 0 (omega arith) ∙ ap pos (omega arith)
diff_is a (suc b) = refl

exchange : (a b c d : ℤ) → (a +ℤ b) +ℤ (c +ℤ d) ≡ (a +ℤ c) +ℤ (b +ℤ d)
exchange a b c d =
    +ℤ_assoc a b (c +ℤ d)
    ∙ ap (λ x. a +ℤ x) (sym (+ℤ_assoc b c d) ∙ ap (λ x. x +ℤ d) (+ℤ_comm b c) ∙ +ℤ_assoc c b d)
    ∙ sym (+ℤ_assoc a c (b +ℤ d))

pub diff_add : (a b c d : ℕ) → diff a b +ℤ diff c d ≡ diff (a + c) (b + d)
diff_add a b c d =
    ap₂ (λ x y. x +ℤ y) (diff_is a b) (diff_is c d)
    ∙ exchange (pos a) (neg_ℤ (pos b)) (pos c) (neg_ℤ (pos d))
    ∙ ap (λ x. pos (a + c) +ℤ x) (sym (neg_ℤ-+ℤ (pos b) (pos d)))
    ∙ sym (diff_is (a + c) (b + d))

diff_neg : (a b : ℕ) → neg_ℤ (diff a b) ≡ diff b a
diff_neg a b =
    ap neg_ℤ (diff_is a b) ∙ neg_ℤ-+ℤ (pos a) (neg_ℤ (pos b)) ∙ ap (λ x. neg_ℤ (pos a) +ℤ x) (neg_ℤ-neg_ℤ (pos b))
    ∙ +ℤ_comm (neg_ℤ (pos a)) (pos b) ∙ sym (diff_is b a)

-- a number added to a difference, and a number taken from it
pub diff_plus : (a b c : ℕ) → diff a b +ℤ pos c ≡ diff (a + c) b
diff_plus a b c = ap (λ x. diff a b +ℤ x) (diff_pos c) ∙ diff_add a b c 0 ∙ diff_eq _ _ _ _ (omega arith)

pub diff_minus : (a b c : ℕ) → diff a b -ℤ pos c ≡ diff a (b + c)
diff_minus a b c = ap (λ x. diff a b +ℤ neg_ℤ x) (diff_pos c) ∙ ap (λ x. diff a b +ℤ x) (diff_neg c 0) ∙ diff_add a b 0 c ∙ diff_eq _ _ _ _ (omega arith)
