-- Sizes of signed numbers, and signed numbers of 64 bits. Assumes nothing.
use mathlib.Core.Path.{◌≡◌, refl}
use Prim.Native.Nat.{ℕ, zero, suc, ◌+◌, ◌^◌, ◌≤◌, ◌<◌}
use native.Mathlib.Nat.{le_refl, le_trans, lt_of_not-le, lt_of_le_of_lt}
use native.Mathlib.Decide.{dec_le}
use native.Mathlib.Omega.{arith}
use borrow.Author.Tests.{le-ltb, lt-ltb}
use lib.IntN.{ℤ, pos, negsuc, neg_ℤ, nat_abs, sub_ℕ, ◌+ℤ◌, ◌-ℤ◌, +ℤ_assoc}
use lib.Signed.{mag}
use mir.Syntax.{w64}
use mir.Val.{SFits, to_z, of_z}
use mir.Facts.{to_z-of_z}

-- a difference is no larger than the larger of the two
size_sub : (m a b : ℕ) → a ≤ m → b ≤ m → nat_abs (sub_ℕ a b) ≤ m
size_sub m a b p q =
    elim (dec_le b a) [
      | yes h ↦ rw (le-ltb a b h) (omega arith)
      | no h ↦ let g : a < b = lt_of_not-le h in rw (lt-ltb a b g) (omega arith)
    ]

size_add : (x y : ℤ) → nat_abs (x +ℤ y) ≤ nat_abs x + nat_abs y
size_add (pos a) (pos b) = le_refl _
size_add (pos a) (negsuc b) = size_sub (a + suc b) a (suc b) (omega arith) (omega arith)
size_add (negsuc a) (pos b) = size_sub (suc a + b) b (suc a) (omega arith) (omega arith)
size_add (negsuc a) (negsuc b) = omega arith

size_neg : (n : ℕ) → nat_abs (neg_ℤ (pos n)) ≡ n
size_neg zero = refl
size_neg (suc n) = refl

pub size_plus : (x : ℤ) (a : ℕ) → nat_abs (x +ℤ pos a) ≤ nat_abs x + a
size_plus x a = size_add x (pos a)

pub size_minus : (x : ℤ) (a : ℕ) → nat_abs (x -ℤ pos a) ≤ nat_abs x + a
size_minus x a = omega (arith, size_add x (neg_ℤ (pos a)), size_neg a)

size_less : (m a b : ℕ) → a ≤ m → b ≤ m → nat_abs (pos a -ℤ pos b) ≤ m
size_less m a zero p q = omega arith
size_less m a (suc b) p q = size_sub m a (suc b) p q

-- what comes and what goes, each at most m, move a figure by at most m
pub size_moved : (m : ℕ) (x : ℤ) (a b : ℕ) → a ≤ m → b ≤ m → nat_abs (x +ℤ pos a -ℤ pos b) ≤ nat_abs x + m
size_moved m x a b p q =
    rw (+ℤ_assoc x (pos a) (neg_ℤ (pos b))) (omega (arith, size_add x (pos a -ℤ pos b), size_less m a b p q))

mag_le : (z : ℤ) → mag z ≤ nat_abs z
mag_le (pos n) = le_refl n
mag_le (negsuc n) = omega arith

pub sfits : {z : ℤ} → nat_abs z ≤ 9223372036854775807 → SFits w64 z
sfits {z} h = record { sfits = lt_of_le_of_lt (le_trans (mag_le z) h) (let p : 9223372036854775807 < 2 ^ 63 = omega arith in p) }

-- a number that fits is read back from its bits
pub kept : (z : ℤ) → nat_abs z ≤ 9223372036854775807 → to_z w64 (of_z w64 z) ≡ z
kept z h = to_z-of_z (sfits h)
