-- The fields of a line, one after the other, over places of the sheet. Assumes nothing.
use mathlib.Core.Path.{◌≡◌, refl, sym, ap, ap₂, ◌∙◌}
use mathlib.Core.Bool.{Bool, true, false, cond}
use mathlib.Core.List.{List, [], ◌∷◌}
use Prim.Native.Nat.{ℕ, suc, ◌+◌, ◌-◌, ◌≤◌, ◌<◌}
use native.Mathlib.Nat.{lt_of_not-le}
use native.Mathlib.Decide.{dec_le}
use native.Mathlib.Numerals.{add-one}
use native.Mathlib.Omega.{arith}
use borrow.Author.Tests.{eq-eqb, ne_eqb, eqb-true, lt-ltb, le-ltb, ltb-true}
use lib.Dec.{eqb, ltb}
use lib.ListN.{length, take, drop, get_or, length-drop, get_or-eq_default}
use lib.Seq.{drop-drop, get_or-drop}
use Rattle.decimal.proofs.Bools.{ltb_suc}
use Rattle.lines.specs.Lines.{LF, COMMA, before_field, fields_of}
use Rattle.lines.specs.Words.{line_length}
use Rattle.fields.specs.Scan.{field_length, field_at}
use Rattle.heads.specs.Left.{comma_at, line_fields, next_fields, last_end}

-- ---- the first field of the bytes that are left

line_fields_lem : (b : ℕ) (bs : List ℕ)
    → line_fields (b ∷ bs) ≡ cond (eqb b LF) ([] ∷ []) (cond (eqb b COMMA) ([] ∷ line_fields bs) (before_field b (line_fields bs)))
unfolding line_fields fields_of line_length
line_fields_lem b bs = go (eqb b LF)
  where
    go : (t : Bool) → fields_of (take (cond t 0 (suc (line_length bs))) (b ∷ bs))
        ≡ cond t ([] ∷ []) (cond (eqb b COMMA) ([] ∷ fields_of (take (line_length bs) bs)) (before_field b (fields_of (take (line_length bs) bs))))
    go true = refl
    go false = refl

comma_suc : (b : ℕ) (bs : List ℕ) (n : ℕ) → comma_at (b ∷ bs) (suc n) ≡ comma_at bs n
comma_suc b bs n = ap (λ (t : Bool). cond t (eqb (get_or bs n 0) COMMA) false) (ltb_suc n (length bs))

fields_step : (bs : List ℕ) → line_fields bs ≡ take (field_length bs) bs ∷ next_fields bs (field_length bs)
unfolding line_fields fields_of line_length field_length next_fields
fields_step [] = refl
fields_step (b ∷ bs) = line_fields_lem b bs ∙ go (fields_step bs) (eqb b LF) refl (eqb b COMMA) refl
  where
    go : line_fields bs ≡ take (field_length bs) bs ∷ next_fields bs (field_length bs) → (p : Bool) → eqb b LF ≡ p → (q : Bool) → eqb b COMMA ≡ q
        → cond p ([] ∷ []) (cond q ([] ∷ line_fields bs) (before_field b (line_fields bs)))
        ≡ take (field_length (b ∷ bs)) (b ∷ bs) ∷ next_fields (b ∷ bs) (field_length (b ∷ bs))
    go ih true e q f =
        let n : eqb b COMMA ≡ false = ne_eqb b COMMA (λ g. omega (arith, eqb-true b LF e)) in
        simp (e, n, lt-ltb 0 (suc (length bs)) (omega arith))
    go ih false e true f = simp (e, f, lt-ltb 0 (suc (length bs)) (omega arith))
    go ih false e false f =
        simp (e, f, comma_suc b bs (field_length bs), add-one)
        (ap (before_field b) ih ∙ simp add-one)

line_step : (bs : List ℕ) → line_length bs ≡ last_end bs (field_length bs)
unfolding line_length field_length last_end
line_step [] = refl
line_step (b ∷ bs) = go (line_step bs) (eqb b LF) refl (eqb b COMMA) refl
  where
    go : line_length bs ≡ last_end bs (field_length bs) → (p : Bool) → eqb b LF ≡ p → (q : Bool) → eqb b COMMA ≡ q
        → line_length (b ∷ bs) ≡ last_end (b ∷ bs) (field_length (b ∷ bs))
    go ih true e q f =
        let n : eqb b COMMA ≡ false = ne_eqb b COMMA (λ g. omega (arith, eqb-true b LF e)) in
        simp (e, n, lt-ltb 0 (suc (length bs)) (omega arith))
    go ih false e true f = simp (e, f, lt-ltb 0 (suc (length bs)) (omega arith)) (omega arith)
    go ih false e false f =
        simp (e, f, comma_suc b bs (field_length bs), add-one)
        (ap suc ih ∙ more (comma_at bs (field_length bs)))
      where
        more : (t : Bool) → suc (cond t (field_length bs + 1 + line_length (drop (field_length bs + 1) bs)) (field_length bs))
            ≡ cond t (suc (suc (field_length bs)) + line_length (drop (suc (field_length bs)) bs)) (suc (field_length bs))
        more true = rw add-one (omega arith)
        more false = refl

-- ---- the same over places of the sheet

comma_drop : (s : List ℕ) (a n : ℕ) → a ≤ length s → comma_at (drop a s) n ≡ comma_at s (a + n)
comma_drop s a n h = simp (length-drop, get_or-drop) (ap (λ (t : Bool). cond t (eqb (get_or s (a + n) 0) COMMA) false) less)
  where
    less : ltb n (length s - a) ≡ ltb (a + n) (length s)
    less =
        elim (dec_le (length s) (a + n)) [
          | yes g ↦ le-ltb n (length s - a) (omega arith) ∙ sym (le-ltb (a + n) (length s) g)
          | no g ↦ let k : a + n < length s = lt_of_not-le g in lt-ltb n (length s - a) (omega arith) ∙ sym (lt-ltb (a + n) (length s) k)
        ]

drop_further : (s : List ℕ) (a n : ℕ) → drop (n + 1) (drop a s) ≡ drop (a + n + 1) s
drop_further s a n = drop-drop (n + 1) a s ∙ ap (λ (k : ℕ). drop k s) (let e : a + (n + 1) ≡ a + n + 1 = omega arith in e)

module _ (s : List ℕ) (a e : ℕ) (h : a ≤ length s) (f : e ≡ a + field_length (drop a s)) where
  pub first_field : line_fields (drop a s) ≡ field_at s a ∷ next_fields s e
  unfolding next_fields
  first_field =
      fields_step (drop a s)
      ∙ ap (λ (l : List (List ℕ)). field_at s a ∷ l)
      (ap₂ (λ (t : Bool) (l : List ℕ). cond t (line_fields l) []) (comma_drop s a (field_length (drop a s)) h) (drop_further s a (field_length (drop a s)))
      ∙ ap (next_fields s) (sym f))

  pub first_end : a + line_length (drop a s) ≡ last_end s e
  unfolding last_end
  first_end =
      ap (λ (n : ℕ). a + n) (line_step (drop a s))
      ∙ rw (comma_drop s a (field_length (drop a s)) h, f) (go (comma_at s (a + field_length (drop a s))))
    where
      n : ℕ
      n = field_length (drop a s)

      go : (t : Bool) → a + cond t (n + 1 + line_length (drop (n + 1) (drop a s))) n ≡ cond t (a + n + 1 + line_length (drop (a + n + 1) s)) (a + n)
      go true = rw (drop_further s a n) (omega arith)
      go false = refl

module _ (s : List ℕ) (e : ℕ) where
  pub comma_in : comma_at s e ≡ true → e < length s
  comma_in h = ltb-true e (length s) (go (ltb e (length s)) h)
    where
      go : (t : Bool) → cond t (eqb (get_or s e 0) COMMA) false ≡ true → t ≡ true
      go true h = refl
      go false h = h

  pub more_fields : comma_at s e ≡ true → next_fields s e ≡ line_fields (drop (e + 1) s)
  unfolding next_fields
  more_fields h = simp h

  pub no_fields : comma_at s e ≡ false → next_fields s e ≡ []
  unfolding next_fields
  no_fields h = simp h

  pub more_end : comma_at s e ≡ true → last_end s e ≡ e + 1 + line_length (drop (e + 1) s)
  unfolding last_end
  more_end h = simp h

  pub no_end : comma_at s e ≡ false → last_end s e ≡ e
  unfolding last_end
  no_end h = simp h

-- ---- a comma, and any other byte

pub comma_at_lem : (s : List ℕ) (e : ℕ) → get_or s e 0 ≡ COMMA → comma_at s e ≡ true
comma_at_lem s e c = simp (lt-ltb e (length s) inside, eq-eqb (get_or s e 0) COMMA c)
  where
    inside : e < length s
    inside = elim (dec_le (length s) e) [ yes g ↦ absurd (omega (arith, get_or-eq_default s 0 g)) | no g ↦ lt_of_not-le g ]

pub other_at : (s : List ℕ) (e : ℕ) → (get_or s e 0 ≡ COMMA → ⊥) → comma_at s e ≡ false
other_at s e n = simp (ne_eqb (get_or s e 0) COMMA n) (go (ltb e (length s)))
  where
    go : (t : Bool) → cond t false false ≡ false
    go true = refl
    go false = refl
