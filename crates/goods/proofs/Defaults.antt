-- The default of an array by process has zeros in all its places. Assumes nothing.
use mathlib.Core.Path.{◌≡◌, refl, ap, ap₂, ◌∙◌}
use mathlib.Core.List.{List, [], ◌∷◌}
use Prim.Native.Nat.{ℕ, suc, ◌<◌}
use native.Mathlib.Omega.{arith}
use lib.ListN.{length, get_or, replicate}
use Rattle.std.specs.Array.{AllOfLen}
use Rattle.goods.specs.ByProcess.{SIZE}

all_same : {A : Type 0} (a : A) (l : List A) → ((i : ℕ) → i < length l → get_or l i a ≡ a) → l ≡ replicate (length l) a
all_same a [] h = refl
all_same {A} a (x ∷ l) h = ap₂ (λ (y : A) (t : List A). y ∷ t) (h 0 (omega arith)) (all_same a l (λ i b. h (suc i) (omega (arith, b))))

pub zeros_by_default : {A : Type 0} {zero : A} {l : List A} → AllOfLen (λ x. x ≡ zero) l SIZE → l ≡ replicate SIZE zero
zeros_by_default {A} {zero} {l} h = all_same zero l (λ i b. h.at i zero (omega (arith, b, h.long))) ∙ ap (λ n. replicate n zero) h.long
