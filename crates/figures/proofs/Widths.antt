-- How long fields and lines are, and how they grow. Assumes nothing.
use mathlib.Core.Path.{◌≡◌, refl, ap, ◌∙◌}
use mathlib.Core.List.{List, [], ◌∷◌, ◌++◌, append_assoc, append-nil}
use Prim.Native.Nat.{ℕ, suc, ◌+◌, ◌≤◌, ◌<◌}
use native.Mathlib.Numerals.{add-one}
use native.Mathlib.Omega.{arith}
use lib.ListN.{length, take, drop, get_or, length-append, take-append-drop}
use lib.Seq.{take-suc}
use Rattle.decimal.specs.Spelling.{spelling}
use Rattle.figures.specs.declared.Figure.{Figure}
use Rattle.figures.specs.declared.Figure.TheVariants.{Whole, Minus, Parts}
use Rattle.figures.specs.Figures.{three, spelt, tailed, line}

pub spelt_whole : (n : ℕ) → spelt (Whole n) ≡ spelling n
unfolding spelt
spelt_whole n = refl

pub spelt_minus : (n : ℕ) → spelt (Minus n) ≡ 45 ∷ spelling n
unfolding spelt
spelt_minus n = refl

pub spelt_parts : (w t : ℕ) → spelt (Parts w t) ≡ spelling w ++ (46 ∷ three t)
unfolding spelt
spelt_parts w t = refl

length_parts : (w t : ℕ) → length (spelt (Parts w t)) ≡ length (spelling w) + 4
unfolding spelt three
length_parts w t = length-append (spelling w) _

tailed_append : (a b : List Figure) → tailed (a ++ b) ≡ tailed a ++ tailed b
unfolding tailed
tailed_append [] b = refl
tailed_append (f ∷ a) b = rw (tailed_append a b, append_assoc)

tailed_one : (f : Figure) → tailed (f ∷ []) ≡ 44 ∷ spelt f
unfolding tailed
tailed_one f = append-nil (44 ∷ spelt f)

-- one field more
pub tailed_more : (fs : List Figure) (i : ℕ) (d : Figure) → i < length fs
    → tailed (take (i + 1) fs) ≡ tailed (take i fs) ++ (44 ∷ spelt (get_or fs i d))
tailed_more fs i d h =
    rw (add-one, take-suc fs i d h, tailed_append (take i fs) (get_or fs i d ∷ []), tailed_one (get_or fs i d))

pub length_more : (fs : List Figure) (i : ℕ) (d : Figure) → i < length fs
    → length (tailed (take (i + 1) fs)) ≡ length (tailed (take i fs)) + (length (spelt (get_or fs i d)) + 1)
length_more fs i d h = ap length (tailed_more fs i d h) ∙ length-append (tailed (take i fs)) (44 ∷ spelt (get_or fs i d)) ∙ omega arith

pub tailed_none : (fs : List Figure) → tailed (take 0 fs) ≡ []
unfolding tailed
tailed_none fs = refl

pub length_line : (k : ℕ) (fs : List Figure) → length (line k fs) ≡ length (tailed fs) + 2
unfolding line
length_line k fs = ap suc (length-append (tailed fs) (10 ∷ [])) ∙ omega arith

-- ---- a field of a known kind is so long

pub whole_long : {f : Figure} {n : ℕ} → f ≡ Whole n → length (spelt f) ≡ length (spelling n)
unfolding spelt
whole_long e = rw e

pub minus_long : {f : Figure} {n : ℕ} → f ≡ Minus n → length (spelt f) ≡ length (spelling n) + 1
unfolding spelt
minus_long e = rw e (omega arith)

pub parts_long : {f : Figure} {w t : ℕ} → f ≡ Parts w t → length (spelt f) ≡ length (spelling w) + 4
parts_long {f} {w} {t} e = rw e (length_parts w t)

-- the first fields are no longer than all
pub tailed_within : (i : ℕ) (l : List Figure) → length (tailed (take i l)) ≤ length (tailed l)
tailed_within i l =
    let e = ap (λ (x : List Figure). length (tailed x)) (take-append-drop i l) in
    omega (arith, e, ap length (tailed_append (take i l) (drop i l)), length-append (tailed (take i l)) (tailed (drop i l)))
