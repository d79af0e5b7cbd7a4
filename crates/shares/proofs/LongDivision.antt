-- Long division by the bits of the pool, on plain numbers: q and r are quotient and remainder, w is the whole, p the part,
-- b a bit. Assumes nothing.
use mathlib.Core.Path.{◌≡◌, refl, sym, ap, ◌∙◌}
use mathlib.Core.Bool.{Bool, true, false}
use Prim.Native.Nat.{ℕ, ◌+◌, ◌-◌, ◌*◌, ◌/◌, ◌%◌, ◌^◌, ◌≤◌, ◌<◌}
use native.Mathlib.Nat.{mod-lt, lt_of_le_of_lt, lt_of_mul-lt-mul_right, mul-lt-mul_of_pos_right, mul-le-mul_left, mul-le-mul_right}
use native.Mathlib.Nat.{div-add-mod', add-mul, mul_right_comm, div-eq_of_lt-le, div-one}
use native.Mathlib.Omega.{arith}
use borrow.Author.Tests.{leb-true, leb-false}
use mir.Val.{bool_byte}
use lib.Dec.{leb}
use lib.Bits.{bit_and, bit_or, and_mask, and_le_l, and_le_r, or_add_and}
use lib.Count.{count_leading_zeros, leading_length}
use lib.Pow.{shr-shr, shr_le}
use Rattle.shares.specs.Ranges.{PartRange, BitRange}

-- quotient and remainder make up the dividend, and are those of a division
quotient_is : (q r n w : ℕ) → q * w + r ≡ n → r < w → n / w ≡ q
quotient_is q r n w e h = div-eq_of_lt-le w (let l : q * w ≤ n = omega arith in l) (let u : n < (q + 1) * w = omega (arith, add-mul q 1 w) in u)

-- ---- the wholes in a number below three of them
no_whole : (n w : ℕ) → n < w → n / w ≡ 0
no_whole n w h = quotient_is 0 n n w (omega arith) h

one_whole : (n w : ℕ) → w ≤ n → n < w * 2 → n / w ≡ 1
one_whole n w l h = quotient_is 1 (n - w) n w (omega arith) (omega arith)

two_wholes : (n w : ℕ) → w * 2 ≤ n → n < w * 3 → n / w ≡ 2
two_wholes n w l h = quotient_is 2 (n - w * 2) n w (omega arith) (omega arith)

-- as the code counts them
wholes_are : (n w : ℕ) → n < w * 3 → bool_byte (leb w n) + bool_byte (leb (w * 2) n) ≡ n / w
wholes_are n w h = go (leb w n) refl (leb (w * 2) n) refl
  where
    go : (a : Bool) → leb w n ≡ a → (b : Bool) → leb (w * 2) n ≡ b → bool_byte a + bool_byte b ≡ n / w
    go true p true q = sym (two_wholes n w (leb-true (w * 2) n q) h)
    go true p false q = sym (one_whole n w (leb-true w n p) (leb-false (w * 2) n q))
    go false p true q = let u = leb-false w n p in let v = leb-true (w * 2) n q in absurd (omega arith)
    go false p false q = sym (no_whole n w (leb-false w n p))

-- ---- one more bit
module _ {b q r p w : ℕ} (range : PartRange p w) (bit : BitRange b q r p w) where
  added : b * p ≤ p
  added = omega (arith, mul-le-mul_right p bit.one)

  pub grown_below : r * 2 + b * p < w * 3
  grown_below = omega (arith, added, range.within, bit.below)

  abbrev grown : ℕ
  grown = r * 2 + b * p

  -- the wholes that go over to the quotient
  abbrev wholes : ℕ
  wholes = bool_byte (leb w grown) + bool_byte (leb (w * 2) grown)

  parted : wholes * w + grown % w ≡ grown
  parted = rw (wholes_are grown w grown_below) (div-add-mod' grown w)

  pub taken_off : wholes * w ≤ grown
  taken_off = omega (arith, parted)

  pub left_below : grown - wholes * w < w
  left_below = omega (arith, parted, mod-lt grown range.positive)

  pub dividend : (q * 2 + wholes) * w + (grown - wholes * w) ≡ (q * w + r) * 2 + b * p
  dividend = omega (arith, taken_off, add-mul (q * 2) wholes w, mul_right_comm q 2 w)

  pub quotient_fits : q * 2 + wholes < 2 ^ 64
  quotient_fits =
      lt_of_mul-lt-mul_right w (lt_of_le_of_lt (let l : (q * 2 + wholes) * w ≤ (q * w + r) * 2 + b * p = omega (arith, dividend) in l) bit.room)

-- ---- the bits of the pool P
bit_is : (P j : ℕ) → bit_and (P / 2 ^ j) 1 ≡ P / 2 ^ j % 2
bit_is P j = and_mask (P / 2 ^ j) 1

bit_small : (P j : ℕ) → bit_and (P / 2 ^ j) 1 ≤ 1
bit_small P j = omega (arith, bit_is P j)

-- quotient and remainder make up the part times the bits of the pool from i up
pub record Walked (P p w i q r : ℕ) : Type 0 where
  pub dividend_is : q * w + r ≡ P / 2 ^ i * p
  pub below : r < w

-- the dividend at j from that at j + 1
next : (P p j t : ℕ) → t ≡ P / 2 ^ (j + 1) * p → t * 2 + bit_and (P / 2 ^ j) 1 * p ≡ P / 2 ^ j * p
next P p j t e =
    let n : ℕ = P / 2 ^ j in
    let half : n / 2 ≡ P / 2 ^ (j + 1) = shr-shr P j 1 in
    let e' : t ≡ n / 2 * p = e ∙ ap (λ (x : ℕ). x * p) (sym half) in
    let b : bit_and n 1 * p ≡ n % 2 * p = ap (λ (x : ℕ). x * p) (bit_is P j) in
    let s : n / 2 * 2 + n % 2 ≡ n = omega arith in
    let m : (n / 2 * 2 + n % 2) * p ≡ n * p = ap (λ (x : ℕ). x * p) s in
    omega (arith, add-mul (n / 2 * 2) (n % 2) p, mul_right_comm (n / 2) 2 p)

room : {p w : ℕ} (P j : ℕ) → P < 2 ^ 64 → PartRange p w → P / 2 ^ j * p < 2 ^ 64 * w
room P j h range =
    lt_of_le_of_lt (mul-le-mul_left (P / 2 ^ j) range.within)
    (mul-lt-mul_of_pos_right (lt_of_le_of_lt (shr_le P j) h) range.positive)

-- one more bit of P: what the step asks, and what it gives
module _ {P p w i q r : ℕ} (walked : Walked P p w i q r) (some : 0 < i) where
  turned : (q * w + r) * 2 + bit_and (P / 2 ^ (i - 1)) 1 * p ≡ P / 2 ^ (i - 1) * p
  turned =
      let e : i ≡ i - 1 + 1 = omega arith in
      next P p (i - 1) _ (walked.dividend_is ∙ ap (λ (n : ℕ). P / 2 ^ n * p) e)

  pub asked : P < 2 ^ 64 → PartRange p w → BitRange (bit_and (P / 2 ^ (i - 1)) 1) q r p w
  asked h range = record { one = bit_small P (i - 1); below = walked.below; room = rw turned (room P (i - 1) h range) }

  pub walked_on : {q' r' : ℕ} → q' * w + r' ≡ (q * w + r) * 2 + bit_and (P / 2 ^ (i - 1)) 1 * p → r' < w → Walked P p w (i - 1) q' r'
  walked_on e h = record { dividend_is = e ∙ turned; below = h }

-- above the highest one bit of a number with at least its bits nothing is left of P
pub not_walked : (P n p w : ℕ) → P ≤ n → n < 2 ^ 64 → 1 ≤ w → Walked P p w (64 - count_leading_zeros 64 n) 0 0
not_walked P n p w small h some =
    let length = leading_length 64 n h in
    let e : length.0 ≡ 64 - count_leading_zeros 64 n = omega (arith, length.1) in
    let none : P / 2 ^ length.0 ≡ 0 = no_whole P (2 ^ length.0) (lt_of_le_of_lt small length.2) in
    record { dividend_is = rw (← e, none) (omega arith); below = some }

pub or_first : (a b : ℕ) → a ≤ bit_or a b
or_first a b = omega (arith, or_add_and a b, and_le_r a b)

pub or_second : (a b : ℕ) → b ≤ bit_or a b
or_second a b = omega (arith, or_add_and a b, and_le_l a b)

-- all bits of P stand from 0 up
whole : (P p : ℕ) {i : ℕ} → i ≡ 0 → P / 2 ^ i * p ≡ P * p
whole P p e = ap (λ (n : ℕ). P / 2 ^ n * p) e ∙ ap (λ (n : ℕ). n * p) (div-one P)

-- the walk's end
pub all_walked : {P p w i q r : ℕ} → Walked P p w i q r → i ≡ 0 → q ≡ P * p / w
all_walked {P} {p} {w} {i} {q} {r} walked z = sym (quotient_is q r (P * p) w (walked.dividend_is ∙ whole P p z) walked.below)
