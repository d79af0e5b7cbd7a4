-- The first of two numbers. Assumes nothing.
use mathlib.Core.Path.{◌≡◌, refl}
use mathlib.Core.Bool.{Bool, true, false, cond}
use Prim.Native.Nat.{ℕ}
use borrow.Author.Tests.{ne_eqb, eqb-true, eqb-false}
use lib.Dec.{eqb}
use Rattle.checks.specs.Steps.{or_else}

pub else_first : (a b : ℕ) → (a ≡ 0 → ⊥) → or_else a b ≡ a
else_first a b n = simp (ne_eqb a 0 n)

pub else_zero : (a b : ℕ) → or_else a b ≡ 0 → (a ≡ 0) × (b ≡ 0)
else_zero a b h = go (eqb a 0) refl h
  where
    go : (t : Bool) → eqb a 0 ≡ t → cond t b a ≡ 0 → (a ≡ 0) × (b ≡ 0)
    go true e h = (eqb-true a 0 e, h)
    go false e h = absurd (eqb-false a 0 e h)
