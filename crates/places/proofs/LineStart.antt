-- A line starts behind the last LF before its end. Assumes nothing.
use mathlib.Core.Path.{◌≡◌, refl, sym, ap, ◌∙◌}
use mathlib.Core.Bool.{Bool, true, false, cond}
use mathlib.Core.List.{List, [], ◌∷◌}
use Prim.Native.Nat.{ℕ, zero, suc, ◌+◌, ◌-◌, ◌<◌}
use borrow.Author.Tests.{eq-eqb, ne_eqb}
use native.Mathlib.Omega.{arith}
use lib.Dec.{eqb}
use lib.ListN.{length, get_or, drop, length-drop}
use Rattle.std.proofs.lemmas.List.{get_or-drop}
use Rattle.lines.specs.Lines.{LF}
use Rattle.lines.specs.Words.{line_length}
use Rattle.places.specs.LineStart.{start_of}

-- ---- the bytes of a line, and the LF behind it

no_lf : (bytes : List ℕ) (i : ℕ) → i < line_length bytes → eqb (get_or bytes i 0) LF ≡ false
unfolding line_length
no_lf [] i h = absurd (omega arith)
no_lf (b ∷ bytes) i h = go (no_lf bytes) (eqb b LF) refl i h
  where
    go : ((i : ℕ) → i < line_length bytes → eqb (get_or bytes i 0) LF ≡ false)
        → (t : Bool) → eqb b LF ≡ t → (i : ℕ) → i < cond t 0 (suc (line_length bytes)) → eqb (get_or (b ∷ bytes) i 0) LF ≡ false
    go ih true e i h = absurd (omega arith)
    go ih false e zero h = e
    go ih false e (suc i) h = ih i (omega arith)

lf_behind : (bytes : List ℕ) → line_length bytes < length bytes → eqb (get_or bytes (line_length bytes) 0) LF ≡ true
unfolding line_length
lf_behind [] h = absurd (omega arith)
lf_behind (b ∷ bytes) h = go (lf_behind bytes) (eqb b LF) refl h
  where
    go : (line_length bytes < length bytes → eqb (get_or bytes (line_length bytes) 0) LF ≡ true) → (t : Bool) → eqb b LF ≡ t → cond t 0 (suc (line_length bytes)) < suc (length bytes)
        → eqb (get_or (b ∷ bytes) (cond t 0 (suc (line_length bytes))) 0) LF ≡ true
    go ih true e h = e
    go ih false e h = ih (omega arith)

-- ---- starts

pub first_starts : (sheet : List ℕ) → start_of sheet 0 ≡ 0
unfolding start_of
first_starts sheet = refl

-- from a start on, as long as no LF comes
kept : (sheet : List ℕ) (at k : ℕ) → start_of sheet at ≡ at → ((i : ℕ) → i < k → eqb (get_or sheet (at + i) 0) LF ≡ false) → start_of sheet (at + k) ≡ at
unfolding start_of
kept sheet at zero s h = let e : at + 0 ≡ at = omega arith in ap (start_of sheet) e ∙ s
kept sheet at (suc k) s h =
    let e : at + suc k ≡ suc (at + k) = omega arith in
    ap (start_of sheet) e ∙ rw (h k (omega arith)) (kept sheet at k s (λ i l. h i (omega arith)))

module _ (sheet : List ℕ) (at : ℕ) (end : ℕ) (is : end ≡ at + line_length (drop at sheet)) where
  -- the start of a line from its end
  pub start_kept : start_of sheet at ≡ at → start_of sheet end ≡ at
  start_kept s =
      ap (start_of sheet) is
      ∙ kept sheet at (line_length (drop at sheet)) s (λ i l. ap (λ (b : ℕ). eqb b LF) (sym (get_or-drop at sheet i 0)) ∙ no_lf (drop at sheet) i l)

  -- the next line starts behind the LF
  pub start_next : at < length sheet → end < length sheet → start_of sheet (end + 1) ≡ end + 1
  unfolding start_of
  start_next more inside =
      let left : line_length (drop at sheet) < length (drop at sheet) = omega (arith, length-drop at sheet, is) in
      let lf : eqb (get_or sheet end 0) LF ≡ true =
      ap (λ (i : ℕ). eqb (get_or sheet i 0) LF) is ∙ ap (λ (b : ℕ). eqb b LF) (sym (get_or-drop at sheet (line_length (drop at sheet)) 0)) ∙ lf_behind (drop at sheet) left in
      let e : end + 1 ≡ suc end = omega arith in
      ap (start_of sheet) e ∙ rw lf (sym e)

-- ---- one byte before the place

pub starts_before : (sheet : List ℕ) (n : ℕ) → 0 < n → (get_or sheet (n - 1) 0 ≡ 10 → ⊥) → start_of sheet (n - 1) ≡ start_of sheet n
unfolding start_of
starts_before sheet zero h none = absurd (omega arith)
starts_before sheet (suc m) h none =
    let e : suc m - 1 ≡ m = omega arith in
    let other : get_or sheet m 0 ≡ LF → ⊥ = λ z. none (ap (λ (i : ℕ). get_or sheet i 0) e ∙ z) in
    ap (start_of sheet) e ∙ rw (ne_eqb _ LF other) refl

pub starts_here : (sheet : List ℕ) (n : ℕ) → 0 < n → get_or sheet (n - 1) 0 ≡ 10 → n ≡ start_of sheet n
unfolding start_of
starts_here sheet zero h lf = absurd (omega arith)
starts_here sheet (suc m) h lf =
    let e : suc m - 1 ≡ m = omega arith in
    let here : get_or sheet m 0 ≡ LF = ap (λ (i : ℕ). get_or sheet i 0) (sym e) ∙ lf in
    rw (eq-eqb _ LF here) refl
