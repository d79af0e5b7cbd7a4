-- How many digits a number has. Assumes nothing.
use mathlib.Core.Path.{◌≡◌, sym, ap, ◌∙◌}
use mathlib.Core.List.{[], ◌∷◌}
use Prim.Native.Nat.{ℕ, zero, suc, max, ◌+◌, ◌*◌, ◌/◌, ◌%◌, ◌^◌, ◌≤◌, ◌<◌}
use native.Mathlib.Nat.{lt_of_not-le, div-lt_iff_lt-mul, le-div_iff_mul-le, pow-suc}
use native.Mathlib.Decide.{dec_le}
use native.Mathlib.Omega.{arith}
use lib.ListN.{length, length-append}
use Rattle.decimal.specs.Spelling.{spelling}
use Rattle.decimal.proofs.Spelling.{spell_one, spell_more, spelling_some}

pub length_one : (n : ℕ) → n < 10 → length (spelling n) ≡ 1
length_one n h = ap length (spell_one n h)

pub length_more : (n : ℕ) → 10 ≤ n → length (spelling n) ≡ length (spelling (n / 10)) + 1
length_more n h = ap length (spell_more n h) ∙ length-append (spelling (n / 10)) ((48 + n % 10) ∷ [])

ten : 0 < 10
ten = omega arith

pub length_at_most : (k n : ℕ) → n < 10 ^ suc k → length (spelling n) ≤ suc k
length_at_most zero n h = omega (arith, length_one n h)
length_at_most (suc k) n h =
    elim (dec_le 10 n) [
      | yes p ↦ omega (arith, length_more n p, length_at_most k (n / 10) ((div-lt_iff_lt-mul ten).1 (rw (pow-suc 10 (suc k)) at h)))
      | no p ↦ omega (arith, length_one n (lt_of_not-le p))
    ]

pub length_at_least : (k n : ℕ) → 10 ^ k ≤ n → suc k ≤ length (spelling n)
length_at_least zero n h = spelling_some n
length_at_least (suc k) n h =
    elim (dec_le 10 n) [
      | yes p ↦ omega (arith, length_more n p, length_at_least k (n / 10) ((le-div_iff_mul-le ten).1 (rw (pow-suc 10 k) at h)))
      | no p ↦ absurd (let z = one_le_pow k in let q = rw (pow-suc 10 k) at h in omega (arith, lt_of_not-le p))
    ]
  where
    one_le_pow : (k : ℕ) → 1 ≤ 10 ^ k
    one_le_pow zero = omega arith
    one_le_pow (suc k) = rw (pow-suc 10 k) (omega (arith, one_le_pow k))

-- one digit more than the power of ten that it reaches
length_within : (k n : ℕ) → 10 ^ k ≤ n → n < 10 * 10 ^ k → length (spelling n) ≡ k + 1
length_within k n low high =
    let top : n < 10 ^ suc k = rw (pow-suc 10 k) (omega arith) in
    omega (arith, length_at_least k n low, length_at_most k n top)

-- 0 has as many digits as 1
pub length_some : (k n : ℕ) → 10 ^ k ≤ max n 1 → max n 1 < 10 * 10 ^ k → k + 1 ≡ length (spelling n)
length_some k n low high =
    let whole = length_within k (max n 1) low high in
    elim (dec_le 1 n) [
      | yes p ↦ let e : max n 1 ≡ n = omega arith in sym (rw e at whole)
      | no p ↦
          let e : max n 1 ≡ 1 = omega arith in
          omega (arith, rw e at whole, length_one 1 (omega arith), length_one n (omega arith))
    ]

pub length_two : (n : ℕ) → 10 ≤ n → 2 ≤ length (spelling n)
length_two n h = length_at_least 1 n h

pub twenty : (n : ℕ) → n < 2 ^ 64 → length (spelling n) ≤ 20
twenty n h = length_at_most 19 n (let p : n < 10 ^ 20 = omega arith in p)

pub nineteen : (n : ℕ) → n < 2 ^ 63 → length (spelling n) ≤ 19
nineteen n h = length_at_most 18 n (let p : n < 10 ^ 19 = omega arith in p)
