-- Outside processes 1 .. n there is no output, and beyond n no power comes in. At 0, outside the works, is the power that goes out.
-- Assumes nothing.
use mathlib.Core.Path.{◌≡◌, refl, ◌∙◌}
use mathlib.Core.Bool.{Bool, true, false}
use mathlib.Core.List.{List, [], ◌∷◌}
use Prim.Native.Nat.{ℕ, ◌≤◌, ◌<◌}
use native.Mathlib.Omega.{arith}
use borrow.Author.Tests.{ne_eqb}
use Rattle.lines.specs.Records.{Record}
use Rattle.sheet.specs.Kinds.{is}
use Rattle.sheet.specs.declared.Kind.TheVariants.{Process}
use Rattle.sheet.specs.Refusals.{sum_of, process, output_in}
use Rattle.sheet.specs.Verdict.{All}
use Rattle.sheet.proofs.Table.{kind_is}
use Rattle.goods.specs.Sums.{only_at}
use Rattle.goods.proofs.Sums.{at_other}
use Rattle.entries.specs.Entries.{entry}
use Rattle.attribution.specs.Attribution.{indirect}
use Rattle.attribution.specs.Reckoning.{output}
use Rattle.attribution.proofs.EveryKind.{Valid}
use Rattle.attribution.proofs.EveryKind.{valid_even}
use Rattle.attribution.proofs.Entries.{figures}

pub no_output : (n : ℕ) (rs : List Record) → All (Valid n) rs → (k : ℕ) → (1 ≤ k → k ≤ n → ⊥) → output rs k ≡ 0
unfolding output sum_of
no_output n [] v k o = refl
no_output n (r ∷ rs) v k o = omega (arith, none (is Process r) refl, no_output n rs v.1 k o)
  where
    none : (b : Bool) → is Process r ≡ b → output_in k r ≡ 0
    none true e =
        let p = (rw (kind_is Process r e) at v.0) in
        rw (e, ne_eqb k (process r) (λ (q : k ≡ process r). o (omega (arith, p.0)) (omega (arith, p.1))))
    none false e = rw e

used_none : (n : ℕ) (rs : List Record) → All (Valid n) rs → (k : ℕ) → n < k
    → sum_of (λ r. only_at k (entry r).user (entry r).electricity.0) rs ≡ 0
unfolding sum_of
used_none n [] v k h = refl
used_none n (r ∷ rs) v k h =
    let e = valid_even n r v.0 in
    omega (arith, at_other k (entry r).user (entry r).electricity.0 (λ (q : k ≡ (entry r).user). omega arith), used_none n rs v.1 k h)

pub no_power : (n : ℕ) (rs : List Record) → All (Valid n) rs → (k : ℕ) → n < k → indirect rs k ≡ 0
unfolding indirect
no_power n rs v k h = (figures k rs).used ∙ used_none n rs v k h
