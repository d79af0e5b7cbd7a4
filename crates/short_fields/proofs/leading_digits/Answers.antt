-- `leading_digits` meets its contract. Assumes nothing.
use mathlib.Core.Path.{◌≡◌}
use Prim.Native.Nat.{ℕ, ◌+◌, ◌-◌, ◌*◌, min, ◌≤◌}
use native.Mathlib.Omega.{arith}
use lib.ListN.{get_or}
use Rattle.lines.specs.Words.{CAP}
use Rattle.fields.proofs.Scanning.{not_last, none_scanned, digit_scanned}
use Rattle.short_fields.proofs.Short.{leading_range, leading_digit, digit_in}
use Rattle.short_fields.proofs.leading_digits.Goals as goal

pub loop-value-init : goal.loop-value-init
loop-value-init c =
    let b : ℕ = get_or c.args.s.now c.args.start 0 in
    let r = leading_range b c.requires.start_value in
    let v : c.from-value.result ≡ min (0 * 10 + (b - 48)) CAP = omega (arith, c.from-value.ensures) in (
      rw v (digit_scanned _ _ _ _ (none_scanned _ _ (omega arith)) c.requires.start_in_bounds.0 (leading_digit b c.requires.start_value)),
      not_last c.args.s.now c.args.start c.requires.start_in_bounds.1 c.requires.start_in_bounds.0 (λ e. omega arith),
      omega (arith, c.from-value.ensures),
    )

pub loop-value-preserved : goal.loop-value-preserved
loop-value-preserved c =
    let l = c.loop-value in
    let b : ℕ = get_or c.args.s.now l.end 0 in
    let d : (48 ≤ b) × (b ≤ 57) = c.if-is_ascii_digit.ensures.cases in
    let v : l.value * 10 + c.from.result ≡ min (l.value * 10 + (b - 48)) CAP = omega (arith, c.from.ensures) in (
      rw v (digit_scanned _ _ _ _ l.invariant.0 l.invariant.1 (digit_in b d.0 d.1)),
      not_last c.args.s.now l.end c.requires.start_in_bounds.1 l.invariant.1 (λ e. omega arith),
      omega (arith, c.from.ensures),
    )
