-- The end that the code holds of each precursor: there the K line ends that governs among the lines above; and one line more. Assumes nothing.
use mathlib.Core.Path.{◌≡◌, refl, sym, ap, ap₂, ◌∙◌, subst}
use mathlib.Core.Bool.{Bool, true, false, true≢false, cond, not, ◌||◌}
use mathlib.Core.List.{List, [], ◌∷◌}
use Prim.Native.Nat.{ℕ, zero, suc, ◌+◌, ◌%◌, ◌^◌, ◌≤◌, ◌<◌}
use native.Mathlib.Omega.{arith}
use borrow.Author.Tests.{eqb-true, eqb-false, eq-eqb, ne_eqb}
use lib.Dec.{eqb}
use lib.ListN.{length, get_or, set, length-set}
use lib.Seq.{get_or-set_same, get_or-set_other}
use Rattle.std.specs.Int.Bits.{bit_or}
use Rattle.std.specs.Int.{bit_at}
use Rattle.std.proofs.Math.Nat.{zero-mod}
use Rattle.std.proofs.lemmas.Nat.Bits.{bit_at-lt}
use Rattle.quantity.specs.Limits.{limits}
use Rattle.lines.specs.Records.{Record, record_of, number_at}
use Rattle.lines.specs.Words.{line_at}
use Rattle.places.specs.LineStart.{start_of}
use Rattle.sheet.specs.Kinds.{is}
use Rattle.sheet.specs.declared.Kind.TheVariants.{PrecursorFigures}
use Rattle.sheet.specs.Refusals.{any_of, sum_of, stated_precursor, rank}
use Rattle.sheet.specs.Verdict.{accepted, first_of, line_checks}
use Rattle.checks.specs.Steps.{is_stated}
use Rattle.ledger.proofs.Bounds.{each_same, each_set}
use Rattle.judge.proofs.Line.{any_stated}
use Rattle.attribution.specs.Governing.{states, rank_stated, governing_rank, governing_direct, governing_indirect}
use Rattle.works.specs.Works.{PRECURSORS, stated_of, nothing_stated}
use Rattle.works.specs.declared.Stated.{Stated}
use Rattle.gathering.specs.Gathered.{PlaceOf, PlacesIn}
use Rattle.gathering.proofs.HeldStated.{HeldRanks, HeldStated, not_zero}

-- ---- the figures that govern, of the lines above

-- no line of a list passes a test: nothing is added
none_adds : (test : Record → Bool) (figure : Record → ℕ) (rs : List Record) → any_of test rs ≡ false → sum_of (λ r. cond (test r) (figure r) 0) rs ≡ 0
unfolding any_of sum_of
none_adds test figure [] h = refl
none_adds test figure (r ∷ rs) h = go (test r) h (none_adds test figure rs)
  where
    go : (b : Bool) → (b || any_of test rs) ≡ false → (any_of test rs ≡ false → sum_of (λ q. cond (test q) (figure q) 0) rs ≡ 0)
        → cond b (figure r) 0 + sum_of (λ q. cond (test q) (figure q) 0) rs ≡ 0
    go true h ih = absurd (true≢false h)
    go false h ih = omega (arith, ih h)

-- the figures of one field, of the governing rank
abbrev Figure : (figure : Record → ℕ) → (rs : List Record) → (p : ℕ) → ℕ
Figure figure rs p = sum_of (λ r. cond (states p (governing_rank rs p) r) (figure r) 0) rs

-- bits below bit k, of the ranks 1 to 3
module _ (x : ℕ) (zeroth : is_stated x 0 ≡ false) where
  bit_none : (k : ℕ) → is_stated x k ≡ false → bit_at x k ≡ 0
  bit_none k e = omega (arith, bit_at-lt x k, eqb-false (bit_at x k) 1 e)

  below_2 : eqb (x % 2 ^ 1) 0 ≡ true
  below_2 = eq-eqb _ 0 (omega (arith, bit_none 0 zeroth))

  below_4 : eqb (x % 2 ^ 2) 0 ≡ not (is_stated x 1)
  below_4 = go (is_stated x 1) refl
    where
      go : (b : Bool) → is_stated x 1 ≡ b → eqb (x % 2 ^ 2) 0 ≡ not b
      go true e = ne_eqb _ 0 (λ z. omega (arith, eqb-true (bit_at x 1) 1 e))
      go false e = eq-eqb _ 0 (omega (arith, bit_none 0 zeroth, bit_none 1 e))

  below_8 : eqb (x % 2 ^ 3) 0 ≡ not (is_stated x 1 || is_stated x 2)
  below_8 = go (is_stated x 1) refl (is_stated x 2) refl
    where
      go : (b : Bool) → is_stated x 1 ≡ b → (c : Bool) → is_stated x 2 ≡ c → eqb (x % 2 ^ 3) 0 ≡ not (b || c)
      go true e c f = ne_eqb _ 0 (λ z. omega (arith, eqb-true (bit_at x 1) 1 e))
      go false e true f = ne_eqb _ 0 (λ z. omega (arith, eqb-true (bit_at x 2) 1 f))
      go false e false f = eq-eqb _ 0 (omega (arith, bit_none 0 zeroth, bit_none 1 e, bit_none 2 f))

-- the governing figure with one line more, of rank k, that no line above states: `a` and `b` are whether ranks 1 and 2 are stated, and `sum` is of
-- the lines above by rank
step : (sum : ℕ → ℕ) (k v old : ℕ) (a b t : Bool) → 1 ≤ k → k ≤ 3 → sum k ≡ 0 → old ≡ sum (cond a 1 (cond b 2 3))
    → (k ≡ 1 → t ≡ true) → (k ≡ 2 → t ≡ not a) → (k ≡ 3 → t ≡ not (a || b))
    → cond t v old ≡ cond (eqb k (cond (eqb k 1 || a) 1 (cond (eqb k 2 || b) 2 3))) v 0 + sum (cond (eqb k 1 || a) 1 (cond (eqb k 2 || b) 2 3))
step sum zero v old a b t low high none is t1 t2 t3 = absurd (omega arith)
step sum (suc zero) v old a b t low high none is t1 t2 t3 = rw (t1 refl) (omega (arith, none))
step sum (suc (suc zero)) v old true b t low high none is t1 t2 t3 = rw (t2 refl) (omega (arith, is))
step sum (suc (suc zero)) v old false b t low high none is t1 t2 t3 = rw (t2 refl) (omega (arith, none))
step sum (suc (suc (suc zero))) v old true b t low high none is t1 t2 t3 = rw (t3 refl) (omega (arith, is))
step sum (suc (suc (suc zero))) v old false true t low high none is t1 t2 t3 = rw (t3 refl) (omega (arith, is))
step sum (suc (suc (suc zero))) v old false false t low high none is t1 t2 t3 = rw (t3 refl) (omega (arith, none))
step sum (suc (suc (suc (suc k)))) v old a b t low high none is t1 t2 t3 = absurd (omega arith)

-- of the lines above, the figures of rank k
abbrev of_rank : (figure : Record → ℕ) → (above : List Record) → (p k : ℕ) → ℕ
of_rank figure above p k = sum_of (λ r. cond (states p k r) (figure r) 0) above

-- a line that states nothing of precursor p leaves its governing figure
skipped : (figure : Record → ℕ) (above : List Record) (r : Record) (p : ℕ) → ((k : ℕ) → states p k r ≡ false)
    → Figure figure above p ≡ Figure figure (r ∷ above) p
unfolding any_of sum_of
skipped figure above r p none =
    let same : governing_rank (r ∷ above) p ≡ governing_rank above p =
    ap₂ (λ (s t : Bool). cond (s || rank_stated above p 1) 1 (cond (t || rank_stated above p 2) 2 3)) (none 1) (none 2) in
    let nothing : cond (states p (governing_rank above p) r) (figure r) 0 + of_rank figure above p (governing_rank above p) ≡ Figure figure above p =
    ap (λ (t : Bool). cond t (figure r) 0 + of_rank figure above p (governing_rank above p)) (none (governing_rank above p)) ∙ omega arith in
    sym (ap (λ (k : ℕ). cond (states p k r) (figure r) 0 + of_rank figure above p k) same ∙ nothing)

module _ (above : List Record) (ranks : List ℕ) (h : HeldRanks above ranks) (figure : Record → ℕ) (r : Record) where
  abbrev p0 : ℕ
  p0 = stated_precursor r

  -- a K line: no line above states its rank of its precursor, nor a rank 0; `old` is the figure that governs above it
  figure_more : is PrecursorFigures r ≡ true → 1 ≤ rank r → rank r ≤ 3 → any_stated above (stated_precursor r) 0 ≡ false
      → any_stated above (stated_precursor r) (rank r) ≡ false → (old : ℕ) → old ≡ Figure figure above (stated_precursor r)
      → cond (eqb (get_or ranks (stated_precursor r) 0 % 2 ^ rank r) 0) (figure r) old ≡ Figure figure (r ∷ above) (stated_precursor r)
  unfolding any_of sum_of
  figure_more e low high zeroth once old is-old =
      step (of_rank figure above p0) (rank r) (figure r) old (any_stated above p0 1) (any_stated above p0 2) (eqb (get_or ranks p0 0 % 2 ^ rank r) 0) low high
      (none_adds (states p0 (rank r)) figure above once) is-old
      (λ z. ap (λ (k : ℕ). eqb (get_or ranks p0 0 % 2 ^ k) 0) z ∙ below_2 (get_or ranks p0 0) none)
      (λ z. ap (λ (k : ℕ). eqb (get_or ranks p0 0 % 2 ^ k) 0) z ∙ below_4 (get_or ranks p0 0) none ∙ ap not (h.ranks_at p0 1))
      (λ z. ap (λ (k : ℕ). eqb (get_or ranks p0 0 % 2 ^ k) 0) z ∙ below_8 (get_or ranks p0 0) none
      ∙ ap₂ (λ (s t : Bool). not (s || t)) (h.ranks_at p0 1) (h.ranks_at p0 2))
      ∙ sym
      (ap (λ (k : ℕ). cond (states p0 k r) (figure r) 0 + of_rank figure above p0 k) ranked
      ∙ ap (λ (t : Bool). cond t (figure r) 0 + of_rank figure above p0 after) (own after))
    where
      none : is_stated (get_or ranks p0 0) 0 ≡ false
      none = h.ranks_at p0 0 ∙ zeroth

      own : (k : ℕ) → states p0 k r ≡ eqb (rank r) k
      own k = rw (e, eq-eqb p0 p0 refl) refl

      after : ℕ
      after = cond (eqb (rank r) 1 || any_stated above p0 1) 1 (cond (eqb (rank r) 2 || any_stated above p0 2) 2 3)

      ranked : governing_rank (r ∷ above) p0 ≡ cond (eqb (rank r) 1 || any_stated above p0 1) 1 (cond (eqb (rank r) 2 || any_stated above p0 2) 2 3)
      ranked = ap₂ (λ (s t : Bool). cond (s || any_stated above p0 1) 1 (cond (t || any_stated above p0 2) 2 3)) (own 1) (own 2)

-- ---- the place of a governing line

-- a place for the one list is one for another by which the same figures govern
pub place_for : {sheet : List ℕ} {rs others : List Record} {p place : ℕ} → PlaceOf sheet rs p place → governing_direct rs p ≡ governing_direct others p
    → governing_indirect rs p ≡ governing_indirect others p → PlaceOf sheet others p place
place_for q d i = record {
  inside = q.inside;
  above = q.above;
  passed = q.passed;
  states = q.states;
  direct = q.direct ∙ d;
  indirect = q.indirect ∙ i;
}

pub places_start : (sheet : List ℕ) → PlacesIn sheet [] nothing_stated
places_start sheet = record {
  size = refl;
  within = λ p. each_same (λ (x : ℕ). x ≤ length sheet) 0 (omega arith) PRECURSORS p;
  some = λ p e. absurd (true≢false (sym (each_same (λ (x : ℕ). eqb x 0 ≡ true) 0 refl PRECURSORS p) ∙ e));
}

module _ (sheet : List ℕ) (above : List Record) (s : Stated) (q : PlacesIn sheet above s) (r : Record) where
  -- of a precursor that a line says nothing of
  skipped_place : (p place : ℕ) → ((k : ℕ) → states p k r ≡ false) → PlaceOf sheet above p place → PlaceOf sheet (r ∷ above) p place
  unfolding governing_direct governing_indirect
  skipped_place p place none w = place_for w (skipped (λ x. number_at x 2) above r p none) (skipped (λ x. number_at x 3) above r p none)

  -- a line of another kind
  pub places_other : is PrecursorFigures r ≡ false → (used : Bool) → PlacesIn sheet (r ∷ above) (stated_of s.ranks s.ends used)
  places_other e used = record {
    size = q.size;
    within = q.within;
    some = λ p z. skipped_place p (start_of sheet (get_or s.ends p 0)) (λ k. rw e refl) (q.some p z);
  }

  -- a K line, from its start to its end
  module _ (h : HeldStated above s) (e : is PrecursorFigures r ≡ true) (inside : stated_precursor r < PRECURSORS) (low : 1 ≤ rank r) (high : rank r ≤ 3)
      (once : any_stated above (stated_precursor r) (rank r) ≡ false)
      (end at : ℕ) (there : record_of (line_at sheet at) ≡ r) (more : at < length sheet) (short : end < limits.bytes) (last : end < length sheet) (starts : start_of sheet end ≡ at)
      (ok : first_of (line_checks limits above (line_at sheet at)) ≡ accepted) where
    abbrev own : ℕ
    own = stated_precursor r

    abbrev ranks : List ℕ
    ranks = set s.ranks (stated_precursor r) (bit_or (get_or s.ranks (stated_precursor r) 0) (2 ^ rank r))

    abbrev first : Bool
    first = eqb (get_or s.ranks (stated_precursor r) 0 % 2 ^ rank r) 0

    abbrev ends : List ℕ
    ends = cond (eqb (get_or s.ranks (stated_precursor r) 0 % 2 ^ rank r) 0) (set s.ends (stated_precursor r) (end % limits.bytes)) s.ends

    sized : (t : Bool) → length (cond t (set s.ends own (end % limits.bytes)) s.ends) ≡ PRECURSORS
    sized true = length-set s.ends own (end % limits.bytes) ∙ q.size
    sized false = q.size

    inside_at : (t : Bool) (p : ℕ) → get_or (cond t (set s.ends own (end % limits.bytes)) s.ends) p 0 ≤ length sheet
    inside_at true = each_set (λ (x : ℕ). x ≤ length sheet) 0 s.ends own (end % limits.bytes) q.within (omega arith)
    inside_at false = q.within

    -- of another precursor
    other_ranks : (p : ℕ) → eqb own p ≡ false → get_or ranks p 0 ≡ get_or s.ranks p 0
    other_ranks p z = get_or-set_other s.ranks own p _ 0 (λ y. eqb-false own p z (sym y))

    other_place : (t : Bool) (p : ℕ) → eqb own p ≡ false → get_or (cond t (set s.ends own (end % limits.bytes)) s.ends) p 0 ≡ get_or s.ends p 0
    other_place true p z = get_or-set_other s.ends own p _ 0 (λ y. eqb-false own p z (sym y))
    other_place false p z = refl

    -- of its own precursor
    own_ranks : eqb (get_or ranks own 0) 0 ≡ false
    own_ranks =
        ap (λ (n : ℕ). eqb n 0) (get_or-set_same s.ranks own (bit_or (get_or s.ranks own 0) (2 ^ rank r)) 0 (omega (arith, h.ranks.size)))
        ∙ ne_eqb _ 0 (not_zero (get_or s.ranks own 0) (rank r))

    -- where a lower rank number is stated, some rank is
    some_above : (b : Bool) → eqb (get_or s.ranks own 0) 0 ≡ b → first ≡ false → b ≡ false
    some_above true z f =
        let zero : get_or s.ranks own 0 ≡ 0 = eqb-true _ 0 z in
        absurd (true≢false (sym (ap (λ (n : ℕ). eqb (n % 2 ^ rank r) 0) zero ∙ eq-eqb _ 0 (zero-mod (2 ^ rank r))) ∙ f))
    some_above false z f = refl

    own_place : (t : Bool) → eqb (get_or s.ranks own 0 % 2 ^ rank r) 0 ≡ t
        → PlaceOf sheet (r ∷ above) own (start_of sheet (get_or (cond t (set s.ends own (end % limits.bytes)) s.ends) own 0))
    unfolding governing_direct governing_indirect
    own_place true f =
        let same : get_or (set s.ends own (end % limits.bytes)) own 0 ≡ end =
        get_or-set_same s.ends own (end % limits.bytes) 0 (omega (arith, q.size)) ∙ (let n : end % limits.bytes ≡ end = omega arith in n) in
        let figure : (g : Record → ℕ) → g r ≡ Figure g (r ∷ above) own = λ g.
        ap (λ (t : Bool). cond t (g r) (Figure g above own)) (sym f)
        ∙ figure_more above s.ranks h.ranks g r e low high (h.positive own) once (Figure g above own) refl in
        subst (λ (n : ℕ). PlaceOf sheet (r ∷ above) own n) (sym (ap (start_of sheet) same ∙ starts)) (record {
          inside = more;
          above = above;
          passed = ok;
          states = ap (is PrecursorFigures) there ∙ e;
          direct = ap (λ (x : Record). number_at x 2) there ∙ figure (λ x. number_at x 2);
          indirect = ap (λ (x : Record). number_at x 3) there ∙ figure (λ x. number_at x 3);
        })
    own_place false f =
        let w = q.some own (let some : eqb (get_or s.ranks own 0) 0 ≡ false = some_above (eqb (get_or s.ranks own 0) 0) refl f in some) in
        let figure : (g : Record → ℕ) → Figure g above own ≡ Figure g (r ∷ above) own = λ g.
        ap (λ (t : Bool). cond t (g r) (Figure g above own)) (sym f)
        ∙ figure_more above s.ranks h.ranks g r e low high (h.positive own) once (Figure g above own) refl in
        place_for w (figure (λ x. number_at x 2)) (figure (λ x. number_at x 3))

    pub places_more : (used : Bool) → PlacesIn sheet (r ∷ above) (stated_of ranks ends used)
    places_more used = record {
      size = sized first;
      within = inside_at first;
      some = λ p. some p (eqb own p) refl;
    }
      where
        some : (p : ℕ) (t : Bool) → eqb own p ≡ t → eqb (get_or ranks p 0) 0 ≡ false → PlaceOf sheet (r ∷ above) p (start_of sheet (get_or ends p 0))
        some p true z y = subst (λ (i : ℕ). PlaceOf sheet (r ∷ above) i (start_of sheet (get_or ends i 0))) (eqb-true own p z) (own_place first refl)
        some p false z y =
            subst (λ (n : ℕ). PlaceOf sheet (r ∷ above) p (start_of sheet n)) (sym (other_place first p z))
            (skipped_place p (start_of sheet (get_or s.ends p 0)) (λ k. rw (e, z) refl) (q.some p (sym (ap (λ (n : ℕ). eqb n 0) (other_ranks p z)) ∙ y)))
