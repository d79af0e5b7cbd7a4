-- The figures of processes 1 .. n as a part of their column. Assumes nothing.
use mathlib.Core.Path.{◌≡◌, refl, ap, ◌∙◌}
use mathlib.Core.List.{List, [], ◌∷◌}
use Prim.Native.Nat.{ℕ, zero, suc, ◌+◌, ◌-◌, ◌<◌}
use native.Mathlib.Omega.{arith}
use lib.ListN.{length, get_or, take, drop}
use lib.Seq.{take-suc}
use Rattle.std.specs.List.{sum}
use Rattle.std.proofs.lemmas.List.Sums.{fold-append}
use Rattle.goods.specs.Sums.{sum_to}
use Rattle.goods.specs.ByProcess.{figures}

sum_first : (n : ℕ) (a : List ℕ) → n < length a → sum (take n (drop 1 a)) ≡ sum_to n (figures a)
unfolding sum_to
sum_first n [] h = absurd (omega arith)
sum_first zero (x ∷ l) h = refl
sum_first (suc n) (x ∷ l) h =
    let before = sum_first n (x ∷ l) (omega arith) in
    let last = take-suc l n 0 (omega arith) in
    rw last (fold-append (λ (x y : ℕ). x + y) 0 (take n l) (get_or l n 0 ∷ []) ∙ ap (λ (k : ℕ). k + get_or l n 0) before)

-- the part from 1 up to n + 1
pub sum_column : (n : ℕ) (a : List ℕ) → n < length a → sum (take (n + 1 - 1) (drop 1 a)) ≡ sum_to n (figures a)
sum_column n a h = let e : n + 1 - 1 ≡ n = omega arith in rw e (sum_first n a h)
