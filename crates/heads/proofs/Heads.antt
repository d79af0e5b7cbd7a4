-- A line's letter, and a head that is a letter and a comma. Assumes nothing.
use mathlib.Core.Path.{◌≡◌, refl, sym, ap, ◌∙◌}
use mathlib.Core.Bool.{Bool, true, false, cond}
use mathlib.Core.Logic.{inl}
use mathlib.Core.List.{List}
use Prim.Native.Nat.{ℕ, ◌+◌, ◌-◌, ◌≤◌, ◌<◌}
use native.Mathlib.Nat.{le_refl}
use native.Mathlib.Omega.{arith}
use borrow.Author.Tests.{eqb-true, ltb-true, eq-eqb, lt-ltb}
use Rattle.std.specs.Prelude.{Some, None}
use Rattle.fields.specs.declared.Stop.TheVariants.{Comma}
use lib.Dec.{eqb, ltb}
use lib.ListN.{length, take, drop, get_or, length-take, length-drop}
use lib.Seq.{drop-cons, get_or-drop}
use Rattle.std.proofs.lemmas.List.{take_all}
use Rattle.decimal.proofs.Bools.{and_both, never}
use Rattle.lines.specs.Lines.{LF, COMMA}
use Rattle.lines.specs.Records.{letter_in, record_of}
use Rattle.lines.specs.Words.{line_at}
use Rattle.fields.specs.Scan.{field_length, EndsInLF}
use Rattle.fields.proofs.Scanning.{field_one}
use Rattle.heads.specs.Left.{comma_at, field_end, line_fields}
use Rattle.heads.specs.Heads.{HeadIs, letter_first, HeadAt}
use Rattle.heads.specs.declared.Head.{Head}
use Rattle.heads.proofs.Left.{first_field, comma_at_lem}

-- ---- the first field's letter

module _ (s : List ℕ) (start end : ℕ) (h : start ≤ end) (k : end ≤ length s) where
  pub letter_one : end - start ≡ 1 → get_or s start 0 ≡ letter_in (take (end - start) (drop start s))
  letter_one e = rw (e, drop-cons s start 0 (omega arith))

-- the first field ends at first
letter_is : (s : List ℕ) (start first letter : ℕ) → start ≤ length s → first ≡ start + field_length (drop start s)
    → letter ≡ letter_in (take (first - start) (drop start s)) → letter ≡ (record_of (line_at s start)).letter
unfolding record_of line_at line_fields
letter_is s start first letter h f l =
    let m : first - start ≡ field_length (drop start s) = omega arith in
    rw (first_field s start first h f) (rw m at l)

-- ---- a line's head

-- a byte above a comma and a comma behind it, in a sheet that ends in LF
pub record LetterAt (s : List ℕ) (start : ℕ) : Type 0 where
  pub ends : EndsInLF s
  pub letter : COMMA < get_or s start 0
  pub comma : get_or s (start + 1) 0 ≡ COMMA
  pub inside : start + 1 < length s

-- both tests of a letter and a comma
letter_both : (p q : Bool) → cond p q false ≡ true → (p ≡ true) × (q ≡ true)
letter_both true q e = (refl, e)
letter_both false q e = absurd (never e)

letter_at : (s : List ℕ) (start : ℕ) → letter_first s start ≡ true → LetterAt s start
letter_at s start h =
    let e = letter_both _ _ h in
    let a = and_both (ltb start (length s - 1)) (ltb COMMA (get_or s start 0)) e.0 in
    let b = and_both (eqb (get_or s (length s - 1) 0) LF) (eqb (get_or s (start + 1) 0) COMMA) e.1 in
    let h : start < length s - 1 = ltb-true _ _ a.0 in
    record { ends = eqb-true _ _ b.0; letter = ltb-true _ _ a.1; comma = eqb-true _ _ b.1; inside = omega arith }

pub any_head : (s : List ℕ) (start end letter : ℕ) → start ≤ length s → end ≡ field_end s start → end ≤ length s
    → letter ≡ letter_in (take (end - start) (drop start s)) → HeadIs s start letter end
any_head s start end letter h e m k = record { letter_is = letter_is s start end letter h e k; ends = e; most = m }

module _ (s : List ℕ) (start : ℕ) where
  pub letter_head : LetterAt s start → HeadAt s start (record { letter = get_or s start 0; end = start + 1; stop = Some Comma })
  letter_head a =
      let i = a.inside in
      record {
        is = any_head s start (start + 1) (get_or s start 0) (omega arith) (field_one s start i (inl a.comma) a.letter) (omega arith)
            (letter_one s start (start + 1) (omega arith) (omega arith) (let one : start + 1 - start ≡ 1 = omega arith in one));
        stop = simp (lt-ltb start (length s - 1) (omega arith), lt-ltb COMMA (get_or s start 0) a.letter, eq-eqb _ _ a.ends, eq-eqb _ _ a.comma);
      }

  -- a byte of the rest of the sheet from the line's start on
  at_rest : (i : ℕ) → get_or (take (length s - start) (drop start s)) i 0 ≡ get_or s (start + i) 0
  at_rest i = rw (take_all (length s - start) (drop start s) (rw length-drop (le_refl _)), get_or-drop)

  -- the rest begins with a letter and a comma
  pub letter_rest : EndsInLF s → let rest = take (length s - start) (drop start s) in 2 ≤ length rest → COMMA < get_or rest 0 0 → get_or rest 1 0 ≡ COMMA
      → HeadAt s start (record { letter = get_or rest 0 0; end = start + 1; stop = Some Comma })
  letter_rest e n l c =
      let first : get_or (take (length s - start) (drop start s)) 0 0 ≡ get_or s start 0 =
      at_rest 0 ∙ ap (λ (i : ℕ). get_or s i 0) (let z : start + 0 ≡ start = omega arith in z) in
      rw first (letter_head (record { ends = e; letter = rw first at l; comma = sym (at_rest 1) ∙ c; inside = omega (arith, length-take {A = ℕ}, length-drop {A = ℕ}) }))

module _ (s : List ℕ) (start : ℕ) (h : Head) (k : HeadAt s start h) where
  pub head_ahead : h.stop ≡ Some Comma → EndsInLF s × (comma_at s h.end ≡ true)
  head_ahead e = go (letter_first s start) refl (sym k.stop ∙ e)
    where
      go : (t : Bool) → letter_first s start ≡ t → cond t (Some Comma) None ≡ Some Comma → EndsInLF s × (comma_at s h.end ≡ true)
      go true f g =
          let a = letter_at s start f in
          let end : start + 1 ≡ h.end = field_one s start a.inside (inl a.comma) a.letter ∙ sym k.is.ends in
          (a.ends, rw (sym end) (comma_at_lem s (start + 1) a.comma))
      go false f g = cc
