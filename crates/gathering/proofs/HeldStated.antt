-- What the code holds of precursors: the ranks that the K lines above state, and whether an N line is there; and one line more. Assumes nothing.
use mathlib.Core.Path.{◌≡◌, refl, sym, ap, ◌∙◌}
use mathlib.Core.Bool.{Bool, true, false, not, ◌&&◌, ◌||◌}
use mathlib.Core.List.{List, [], ◌∷◌}
use Prim.Native.Nat.{ℕ, ◌^◌, ◌≤◌, ◌<◌}
use native.Mathlib.Omega.{arith}
use borrow.Author.Tests.{eqb-true, eqb-false, eq-eqb, ne_eqb}
use lib.Dec.{eqb}
use lib.ListN.{length, get_or, set, replicate, length-set}
use lib.Seq.{get_or-set_same, get_or-set_other}
use Rattle.std.specs.Int.Bits.{bit_or}
use Rattle.std.specs.Int.{bit_at}
use Rattle.std.proofs.lemmas.Nat.Bits.{bit_at-zero, bit_at-lt, bit_at_or, bit_at-pow_same, bit_at-pow_other}
use Rattle.lines.specs.Records.{Record}
use Rattle.sheet.specs.Kinds.{is}
use Rattle.sheet.specs.declared.Kind.TheVariants.{PrecursorFigures, PrecursorUse}
use Rattle.sheet.specs.Refusals.{any_of, stated_precursor, rank}
use Rattle.checks.specs.Steps.{is_stated}
use Rattle.ledger.proofs.Bounds.{each_same}
use Rattle.judge.proofs.Line.{any_stated}
use Rattle.works.specs.Works.{PRECURSORS, stated_of, use_noted, nothing_stated}
use Rattle.works.specs.declared.Stated.{Stated}

-- one rank more
stated_or : (x j k : ℕ) → is_stated (bit_or x (2 ^ j)) k ≡ (eqb j k || is_stated x k)
stated_or x j k = go (eqb j k) refl
  where
    go : (b : Bool) → eqb j k ≡ b → is_stated (bit_or x (2 ^ j)) k ≡ (b || is_stated x k)
    go true e =
        let one : bit_at (2 ^ j) k ≡ 1 = ap (bit_at (2 ^ j)) (sym (eqb-true j k e)) ∙ bit_at-pow_same j in
        eq-eqb _ _ (omega (arith, bit_at_or x (2 ^ j) k, one, bit_at-lt x k))
    go false e =
        let none : bit_at (2 ^ j) k ≡ 0 = bit_at-pow_other j k (λ z. eqb-false j k e (sym z)) in
        ap (λ (n : ℕ). eqb n 1) (let same : bit_at (bit_or x (2 ^ j)) k ≡ bit_at x k = omega (arith, bit_at_or x (2 ^ j) k, none) in same)

pub not_zero : (x k : ℕ) → bit_or x (2 ^ k) ≡ 0 → ⊥
not_zero x k z =
    let none : bit_at (bit_or x (2 ^ k)) k ≡ bit_at 0 k = ap (λ (n : ℕ). bit_at n k) z in
    absurd (omega (arith, none, bit_at-zero k, bit_at_or x (2 ^ k) k, bit_at-pow_same k))

-- a K line of precursor p stands there, at whatever rank
abbrev any_figures : List Record → (p : ℕ) → Bool
any_figures rs p = any_of (λ q. is PrecursorFigures q && eqb (stated_precursor q) p) rs

-- of the ranks of all precursors
pub record HeldRanks (above : List Record) (ranks : List ℕ) : Type 0 where
  pub size : length ranks ≡ PRECURSORS
  pub ranks_at : (p k : ℕ) → is_stated (get_or ranks p 0) k ≡ any_stated above p k
  pub none_at : (p : ℕ) → eqb (get_or ranks p 0) 0 ≡ not (any_figures above p)

pub ranks_start : HeldRanks [] (replicate PRECURSORS 0)
unfolding any_of
ranks_start = record {
  size = refl;
  ranks_at = λ p k. each_same (λ (x : ℕ). is_stated x k ≡ false) 0 (ap (λ (n : ℕ). eqb n 1) (bit_at-zero k)) PRECURSORS p;
  none_at = λ p. each_same (λ (x : ℕ). eqb x 0 ≡ true) 0 refl PRECURSORS p;
}

module _ (above : List Record) (ranks : List ℕ) (h : HeldRanks above ranks) (r : Record) where
  -- a K line
  pub ranks_more : is PrecursorFigures r ≡ true → stated_precursor r < PRECURSORS
      → HeldRanks (r ∷ above) (set ranks (stated_precursor r) (bit_or (get_or ranks (stated_precursor r) 0) (2 ^ rank r)))
  unfolding any_of
  ranks_more e inside = record {
    size = length-set ranks (stated_precursor r) _ ∙ h.size;
    ranks_at = λ p k. rw e (go p k (eqb (stated_precursor r) p) refl);
    none_at = λ p. rw e (some p (eqb (stated_precursor r) p) refl);
  }
    where
      x : ℕ
      x = get_or ranks (stated_precursor r) 0

      go : (p k : ℕ) (b : Bool) → eqb (stated_precursor r) p ≡ b
          → is_stated (get_or (set ranks (stated_precursor r) (bit_or x (2 ^ rank r))) p 0) k ≡ ((b && eqb (rank r) k) || any_stated above p k)
      go p k true q =
          let e = eqb-true (stated_precursor r) p q in
          let at : get_or (set ranks (stated_precursor r) (bit_or x (2 ^ rank r))) p 0 ≡ bit_or x (2 ^ rank r) =
          ap (λ (i : ℕ). get_or (set ranks (stated_precursor r) (bit_or x (2 ^ rank r))) i 0) (sym e)
          ∙ get_or-set_same ranks (stated_precursor r) (bit_or x (2 ^ rank r)) 0 (omega (arith, h.size)) in
          ap (λ (n : ℕ). is_stated n k) at ∙ stated_or x (rank r) k
          ∙ ap (λ (t : Bool). eqb (rank r) k || t) (ap (λ (i : ℕ). is_stated (get_or ranks i 0) k) e ∙ h.ranks_at p k)
      go p k false q =
          ap (λ (n : ℕ). is_stated n k)
          (get_or-set_other ranks (stated_precursor r) p (bit_or x (2 ^ rank r)) 0 (λ z. eqb-false (stated_precursor r) p q (sym z)))
          ∙ h.ranks_at p k

      some : (p : ℕ) (b : Bool) → eqb (stated_precursor r) p ≡ b
          → eqb (get_or (set ranks (stated_precursor r) (bit_or x (2 ^ rank r))) p 0) 0 ≡ not (b || any_figures above p)
      some p true q =
          let at : get_or (set ranks (stated_precursor r) (bit_or x (2 ^ rank r))) p 0 ≡ bit_or x (2 ^ rank r) =
          ap (λ (i : ℕ). get_or (set ranks (stated_precursor r) (bit_or x (2 ^ rank r))) i 0) (sym (eqb-true (stated_precursor r) p q))
          ∙ get_or-set_same ranks (stated_precursor r) (bit_or x (2 ^ rank r)) 0 (omega (arith, h.size)) in
          ap (λ (n : ℕ). eqb n 0) at ∙ ne_eqb (bit_or x (2 ^ rank r)) 0 (not_zero x (rank r))
      some p false q =
          ap (λ (n : ℕ). eqb n 0)
          (get_or-set_other ranks (stated_precursor r) p (bit_or x (2 ^ rank r)) 0 (λ z. eqb-false (stated_precursor r) p q (sym z)))
          ∙ h.none_at p

  -- any other line
  pub ranks_same : is PrecursorFigures r ≡ false → HeldRanks (r ∷ above) ranks
  unfolding any_of
  ranks_same e = record { size = h.size; ranks_at = λ p k. rw e (h.ranks_at p k); none_at = λ p. rw e (h.none_at p) }

-- ---- what is stated

pub record HeldStated (above : List Record) (s : Stated) : Type 0 where
  pub ranks : HeldRanks above s.ranks
  -- no line states a rank 0
  pub positive : (p : ℕ) → any_stated above p 0 ≡ false
  pub used : s.used ≡ any_of (is PrecursorUse) above

pub stated_start : HeldStated [] nothing_stated
unfolding any_of
stated_start = record { ranks = ranks_start; positive = λ p. refl; used = refl }

module _ (above : List Record) (s : Stated) (h : HeldStated above s) (r : Record) where
  -- a K line, whatever end is held of it
  pub held_figures : (ends : List ℕ) → is PrecursorFigures r ≡ true → is PrecursorUse r ≡ false → stated_precursor r < PRECURSORS → 1 ≤ rank r
      → HeldStated (r ∷ above) (stated_of (set s.ranks (stated_precursor r) (bit_or (get_or s.ranks (stated_precursor r) 0) (2 ^ rank r))) ends s.used)
  unfolding any_of
  held_figures ends e u inside low = record {
    ranks = ranks_more above s.ranks h.ranks r e inside;
    positive = λ p. rw (e, ne_eqb (rank r) 0 (λ z. omega arith)) (none (eqb (stated_precursor r) p) (h.positive p));
    used = rw u h.used;
  }
    where
      none : (b : Bool) {t : Bool} → t ≡ false → ((b && false) || t) ≡ false
      none true z = z
      none false z = z

  -- an N line, and any other line
  module _ (e : is PrecursorFigures r ≡ false) where
    other : (used : Bool) → used ≡ any_of (is PrecursorUse) (r ∷ above) → HeldStated (r ∷ above) (stated_of s.ranks s.ends used)
    unfolding any_of
    other used is-used = record { ranks = ranks_same above s.ranks h.ranks r e; positive = λ p. rw e (h.positive p); used = is-used }

    pub held_use : is PrecursorUse r ≡ true → HeldStated (r ∷ above) (use_noted s)
    unfolding any_of
    held_use u = other true (rw u refl)

    pub held_stated : is PrecursorUse r ≡ false → HeldStated (r ∷ above) s
    unfolding any_of
    held_stated u = other s.used (rw u h.used)
