-- Laws of sums over records. Assumes nothing.
use mathlib.Core.Path.{◌≡◌, refl, sym, ap, ap₂, ◌∙◌}
use mathlib.Core.List.{List, [], ◌∷◌, ◌++◌, map}
use Prim.Native.Nat.{ℕ, ◌+◌, ◌≤◌}
use native.Mathlib.Omega.{arith}
use lib.IntN.{ℤ, ◌+ℤ◌}
use Rattle.lines.specs.Records.{Record}
use Rattle.sheet.specs.Refusals.{sum_of}
use Rattle.goods.specs.Sums.{sum_to}
use Rattle.goods.proofs.Sums.{sum_add, sum_none}
use Rattle.attribution.specs.Sums.{sum_of_ℤ}
use Rattle.ledger.specs.Raising.{raised_to_zero, grams_added}
use Rattle.attribution.proofs.Differences.{diff, diff_of, diff_pos, diff_add}

pub of_add : (f g : Record → ℕ) (rs : List Record) → sum_of (λ r. f r + g r) rs ≡ sum_of f rs + sum_of g rs
unfolding sum_of
of_add f g [] = refl
of_add f g (r ∷ rs) = let ih = of_add f g rs in omega arith

pub of_le : (f g : Record → ℕ) (rs : List Record) → ((r : Record) → f r ≤ g r) → sum_of f rs ≤ sum_of g rs
unfolding sum_of
of_le f g [] h = omega arith
of_le f g (r ∷ rs) h = omega (arith, h r, of_le f g rs h)

-- every record turned into another: where a figure stays, and where it grows
pub of_same : (f : Record → ℕ) (turn : Record → Record) → ((r : Record) → f (turn r) ≡ f r) → (rs : List Record) → sum_of f (map turn rs) ≡ sum_of f rs
unfolding sum_of
of_same f turn h [] = refl
of_same f turn h (r ∷ rs) = omega (arith, h r, of_same f turn h rs)

pub of_more : (f more : Record → ℕ) (turn : Record → Record) → ((r : Record) → f (turn r) ≡ f r + more r) → (rs : List Record)
    → sum_of f (map turn rs) ≡ sum_of f rs + sum_of more rs
unfolding sum_of
of_more f more turn h [] = refl
of_more f more turn h (r ∷ rs) = omega (arith, h r, of_more f more turn h rs)

-- a record among others
pub of_among : (f : Record → ℕ) (us : List Record) (r : Record) (vs : List Record) → sum_of f (us ++ (r ∷ vs)) ≡ f r + sum_of f (us ++ vs)
unfolding sum_of
of_among f [] r vs = refl
of_among f (u ∷ us) r vs = omega (arith, of_among f us r vs)

-- the two sums change places
pub sum_swap : (n : ℕ) (f : ℕ → Record → ℕ) (rs : List Record) → sum_to n (λ k. sum_of (f k) rs) ≡ sum_of (λ r. sum_to n (λ k. f k r)) rs
unfolding sum_of
sum_swap n f [] = sum_none n
sum_swap n f (r ∷ rs) = sum_add n (λ k. f k r) (λ k. sum_of (f k) rs) ∙ ap (λ (s : ℕ). sum_to n (λ k. f k r) + s) (sum_swap n f rs)

-- a sum with signs is the difference of what is above zero and what is below
pub of_ℤ_diff : (f : Record → ℤ) (rs : List Record) → sum_of_ℤ f rs ≡ diff (sum_of (λ r. raised_to_zero (f r)) rs) (sum_of (λ r. grams_added (f r)) rs)
unfolding sum_of_ℤ sum_of
of_ℤ_diff f [] = diff_pos 0
of_ℤ_diff f (r ∷ rs) = ap₂ (λ x y. x +ℤ y) (sym (diff_of (f r))) (of_ℤ_diff f rs) ∙ diff_add _ _ _ _
