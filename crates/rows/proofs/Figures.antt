-- Specific figures made into fields: whole part and thousandths apart. Assumes nothing.
use mathlib.Core.Path.{◌≡◌, sym, ap, ◌∙◌}
use Prim.Native.Nat.{ℕ, ◌+◌, ◌*◌, ◌/◌, ◌%◌, ◌≤◌, ◌<◌}
use native.Mathlib.Nat.{div-add-mod', add-mul-div_right, div-lt_iff_lt-mul, mod-lt, mul_assoc, mul_comm}
use native.Mathlib.Omega.{arith}
use Rattle.figures.specs.declared.Figure.TheVariants.{Parts}
use Rattle.report.specs.Report.{specific}
use Rattle.report.specs.Spelling.{thousandths}
use Rattle.figures.specs.Figures.{held}

rest_small : (p o : ℕ) → 1 ≤ o → p % o * 1000 / o < 1000
rest_small p o h =
    let m : p % o < o = mod-lt p h in
    (div-lt_iff_lt-mul h).1 (let z : p % o * 1000 < 1000 * o = omega arith in z)

parted : (p o : ℕ) → 1 ≤ o → p * 1000 / o ≡ p % o * 1000 / o + p / o * 1000
parted p o h =
    let q : ℕ = p / o in
    let e : p * 1000 ≡ p % o * 1000 + q * 1000 * o =
    let d : q * o + p % o ≡ p = div-add-mod' p o in
    let s : q * 1000 * o ≡ q * o * 1000 = mul_assoc q 1000 o ∙ ap (λ (n : ℕ). q * n) (mul_comm 1000 o) ∙ sym (mul_assoc q o 1000) in
    omega arith in
    ap (λ (n : ℕ). n / o) e ∙ add-mul-div_right (p % o * 1000) (q * 1000) h

thousands : (m q t : ℕ) → m ≡ t + q * 1000 → t < 1000 → Parts q t ≡ Parts (m / 1000) (m % 1000)
thousands m q t e h =
    let a : m / 1000 ≡ q = omega arith in
    let b : m % 1000 ≡ t = omega arith in
    rw (a, b)

pub specific_parted : (p o : ℕ) → 1 ≤ o → Parts (p / o) (p % o * 1000 / o) ≡ held (thousandths (specific p o))
unfolding specific
specific_parted p o h = thousands (p * 1000 / o) (p / o) (p % o * 1000 / o) (parted p o h) (rest_small p o h)
