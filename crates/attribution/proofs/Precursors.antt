-- Document 02, ticket 4: which figures govern a precursor, and what K and N lines change in the report. Assumes nothing.
use mathlib.Core.Path.{◌≡◌, refl, sym, ap, ap₂, ◌∙◌, subst}
use mathlib.Core.Logic.{◌⊎◌, inl, inr}
use mathlib.Core.Bool.{Bool, true, false, cond, ◌||◌}
use mathlib.Core.List.{List, [], ◌∷◌, ◌++◌, map, map-append}
use Prim.Native.Nat.{ℕ, zero, suc, ◌+◌, ◌≤◌, ◌<◌}
use native.Mathlib.Omega.{arith}
use borrow.Author.Tests.{eq-eqb, lt-ltb}
use lib.Dec.{ltb}
use Rattle.std.specs.Prelude.{IsPermutation, sum_by}
use Rattle.std.proofs.lemmas.List.Sorted.{sum_by-IsPermutation, IsPermutation-map}
use Rattle.std.proofs.lemmas.List.Sums.{sum_by-cons}
use Rattle.decimal.proofs.Bools.{never}
use Rattle.quantity.specs.Limits.{Limits}
use Rattle.lines.specs.Records.{Record, records_of, number_at}
use Rattle.sheet.specs.Kinds.{kind_of, kind_among, is}
use Rattle.sheet.specs.declared.Kind.TheVariants.{PrecursorFigures, PrecursorUse}
use Rattle.sheet.specs.Refusals.{any_of, sum_of, stated_precursor, rank, used_precursor}
use Rattle.sheet.specs.Verdict.{sheet_checks, All, Passes}
use Rattle.sheet.proofs.First.{all_append, all_join}
use Rattle.sheet.proofs.Table.{kind_is}
use Rattle.attribution.specs.Reckoning.{reckoning}
use Rattle.attribution.specs.Governing.{states, rank_stated, governing_rank, governing_direct, governing_indirect, as_bought, governed}
use Rattle.attribution.proofs.Sums.{of_same, of_among}
use Rattle.attribution.proofs.Governing.{figures_more}
use Rattle.attribution.proofs.SameReckoning.{reckoning_same}
use Rattle.attribution.proofs.Stated.{StatedWell, one_stated, stated_by, sheet_stated}

-- ---- lines that pass a test

-- a figure of the lines that pass it
abbrev where_passes : (test : Record → Bool) (figure : Record → ℕ) → Record → ℕ
where_passes test figure r = cond (test r) (figure r) 0

any_counted : (test : Record → Bool) (rs : List Record) → any_of test rs ≡ ltb 0 (sum_of (where_passes test (λ r. 1)) rs)
unfolding any_of sum_of
any_counted test [] = refl
any_counted test (r ∷ rs) = go (test r) (any_counted test rs)
  where
    go : (b : Bool) → any_of test rs ≡ ltb 0 (sum_of (where_passes test (λ q. 1)) rs)
        → (b || any_of test rs) ≡ ltb 0 (cond b 1 0 + sum_of (where_passes test (λ q. 1)) rs)
    go true ih = sym (lt-ltb 0 (1 + sum_of (where_passes test (λ q. 1)) rs) (omega arith))
    go false ih =
        let z : sum_of (where_passes test (λ q. 1)) rs ≡ 0 + sum_of (where_passes test (λ q. 1)) rs = omega arith in
        ih ∙ ap (λ (n : ℕ). ltb 0 n) z

pub any_among : (test : Record → Bool) (us : List Record) (r : Record) (vs : List Record) → test r ≡ true → any_of test (us ++ (r ∷ vs)) ≡ true
any_among test us r vs h =
    let one : where_passes test (λ q. 1) r ≡ 1 = rw h in
    any_counted test (us ++ (r ∷ vs)) ∙ lt-ltb 0 _ (omega (arith, of_among (where_passes test (λ q. 1)) us r vs, one))

none_passes : (test : Record → Bool) (figure : Record → ℕ) (rs : List Record) → sum_of (where_passes test (λ r. 1)) rs ≡ 0
    → sum_of (where_passes test figure) rs ≡ 0
unfolding sum_of
none_passes test figure [] h = refl
none_passes test figure (r ∷ rs) h = go (test r) h (none_passes test figure rs)
  where
    go : (b : Bool) → cond b 1 0 + sum_of (where_passes test (λ q. 1)) rs ≡ 0
        → (sum_of (where_passes test (λ q. 1)) rs ≡ 0 → sum_of (where_passes test figure) rs ≡ 0)
        → cond b (figure r) 0 + sum_of (where_passes test figure) rs ≡ 0
    go true h ih = absurd (omega arith)
    go false h ih = omega (arith, ih (omega arith))

-- ---- THE LEAST RANK STATED GOVERNS

-- a K line of r's precursor has no lower rank number than r
abbrev pub NotLower : (r q : Record) → Type 0
NotLower r q = is PrecursorFigures q ≡ true → stated_precursor q ≡ stated_precursor r → rank r ≤ rank q

none_lower : (r : Record) (rs : List Record) → All (NotLower r) rs → (k : ℕ) → k < rank r → rank_stated rs (stated_precursor r) k ≡ false
unfolding any_of
none_lower r [] h k l = refl
none_lower r (q ∷ rs) h k l = go (states (stated_precursor r) k q) refl (none_lower r rs h.1 k l)
  where
    go : (b : Bool) → states (stated_precursor r) k q ≡ b → any_of (states (stated_precursor r) k) rs ≡ false
        → (b || any_of (states (stated_precursor r) k) rs) ≡ false
    go true e below =
        let s = stated_by (stated_precursor r) k q e in
        absurd (omega (arith, h.0 s.figures s.precursor, s.at_rank))
    go false e below = below

pub states_itself : (r : Record) → is PrecursorFigures r ≡ true → states (stated_precursor r) (rank r) r ≡ true
states_itself r e = rw (e, eq-eqb (stated_precursor r) (stated_precursor r) refl, eq-eqb (rank r) (rank r) refl)

module _ (us : List Record) (r : Record) (vs : List Record) where
  abbrev lines : List Record
  lines = us ++ (r ∷ vs)

  abbrev its_number : ℕ
  its_number = stated_precursor r

  module _ (well : StatedWell lines) (figures : is PrecursorFigures r ≡ true) (least : All (NotLower r) lines) where
    stated_here : rank_stated lines its_number (rank r) ≡ true
    stated_here = any_among (states its_number (rank r)) us r vs (states_itself r figures)

    rank_governs : governing_rank lines its_number ≡ rank r
    rank_governs =
        let here = (all_append _ us (r ∷ vs) well.ranks).1.0 figures in
        go (rank r) refl here.0 here.1
      where
        go : (k : ℕ) → rank r ≡ k → 1 ≤ k → k ≤ 3 → governing_rank lines its_number ≡ k
        go zero e a b = absurd (omega arith)
        go (suc zero) e a b = rw (sym (ap (λ (k : ℕ). rank_stated lines its_number k) e) ∙ stated_here)
        go (suc (suc zero)) e a b =
            rw (none_lower r lines least 1 (omega arith), sym (ap (λ (k : ℕ). rank_stated lines its_number k) e) ∙ stated_here)
        go (suc (suc (suc zero))) e a b = rw (none_lower r lines least 1 (omega arith), none_lower r lines least 2 (omega arith))
        go (suc (suc (suc (suc k)))) e a b = absurd (omega arith)

    -- no other line states it
    alone : (figure : Record → ℕ) → sum_of (where_passes (states its_number (rank r)) figure) lines ≡ figure r
    alone figure =
        let one : one_stated its_number (rank r) r ≡ 1 = rw (states_itself r figures) in
        let its : where_passes (states its_number (rank r)) figure r ≡ figure r = rw (states_itself r figures) in
        let others : sum_of (one_stated its_number (rank r)) (us ++ vs) ≡ 0 =
        omega (arith, well.once its_number (rank r), of_among (one_stated its_number (rank r)) us r vs, one) in
        omega (
          arith,
          of_among (where_passes (states its_number (rank r)) figure) us r vs,
          its,
          none_passes (states its_number (rank r)) figure (us ++ vs) others,
        )

    pub least_governs : (governing_direct lines its_number ≡ number_at r 2) × (governing_indirect lines its_number ≡ number_at r 3)
    unfolding governing_direct governing_indirect
    least_governs = (
      ap (λ (k : ℕ). sum_of (where_passes (states its_number k) (λ q. number_at q 2)) lines) rank_governs ∙ alone (λ q. number_at q 2),
      ap (λ (k : ℕ). sum_of (where_passes (states its_number k) (λ q. number_at q 3)) lines) rank_governs ∙ alone (λ q. number_at q 3),
    )

-- of every sheet by which no row 1 to 14, 17 or 18 applies: the figures of a K line govern its precursor where no K line of that precursor has a
-- lower rank number, wherever either stands
pub least_rank_governs : (limits : Limits) (sheet : List ℕ) → All Passes (sheet_checks limits sheet)
    → (us : List Record) (r : Record) (vs : List Record) → records_of sheet ≡ us ++ (r ∷ vs)
    → is PrecursorFigures r ≡ true → All (NotLower r) (records_of sheet)
    → (governing_direct (records_of sheet) (stated_precursor r) ≡ number_at r 2)
    × (governing_indirect (records_of sheet) (stated_precursor r) ≡ number_at r 3)
least_rank_governs limits sheet passed us r vs split figures least =
    let g = least_governs us r vs (rw split at (sheet_stated limits sheet passed)) figures (rw split at least) in
    (rw split g.0, rw split g.1)

-- ---- governing figures depend on no more than what is stated at ranks up to the governing one

module _ (rs qs : List Record) (p : ℕ)
    (same : (k : ℕ) → k ≤ governing_rank rs p → (figure : Record → ℕ)
    → sum_of (where_passes (states p k) figure) qs ≡ sum_of (where_passes (states p k) figure) rs) where
  same_stated : (k : ℕ) → k ≤ governing_rank rs p → rank_stated qs p k ≡ rank_stated rs p k
  same_stated k l = any_counted (states p k) qs ∙ ap (λ (n : ℕ). ltb 0 n) (same k l (λ r. 1)) ∙ sym (any_counted (states p k) rs)

  same_rank : governing_rank qs p ≡ governing_rank rs p
  same_rank = go (rank_stated rs p 1) refl (rank_stated rs p 2) refl same_stated
    where
      go : (a : Bool) → rank_stated rs p 1 ≡ a → (b : Bool) → rank_stated rs p 2 ≡ b
          → ((k : ℕ) → k ≤ governing_rank rs p → rank_stated qs p k ≡ rank_stated rs p k)
          → governing_rank qs p ≡ governing_rank rs p
      go true e b f h =
          let first : rank_stated qs p 1 ≡ true = h 1 (rw e (omega arith)) ∙ e in
          rw (first, e)
      go false e true f h =
          let first : rank_stated qs p 1 ≡ false = h 1 (rw (e, f) (omega arith)) ∙ e in
          let second : rank_stated qs p 2 ≡ true = h 2 (rw (e, f) (omega arith)) ∙ f in
          rw (first, second, e, f)
      go false e false f h =
          let first : rank_stated qs p 1 ≡ false = h 1 (rw (e, f) (omega arith)) ∙ e in
          let second : rank_stated qs p 2 ≡ false = h 2 (rw (e, f) (omega arith)) ∙ f in
          rw (first, second, e, f)

  pub same_direct : governing_direct qs p ≡ governing_direct rs p
  unfolding governing_direct
  same_direct =
      ap (λ (k : ℕ). sum_of (where_passes (states p k) (λ r. number_at r 2)) qs) same_rank
      ∙ same (governing_rank rs p) (omega arith) (λ r. number_at r 2)

  pub same_indirect : governing_indirect qs p ≡ governing_indirect rs p
  unfolding governing_indirect
  same_indirect =
      ap (λ (k : ℕ). sum_of (where_passes (states p k) (λ r. number_at r 3)) qs) same_rank
      ∙ same (governing_rank rs p) (omega arith) (λ r. number_at r 3)

-- ---- THE ORDER OF LINES IS OF NO ACCOUNT FOR THEM

sum_is : (figure : Record → ℕ) (rs : List Record) → sum_of figure rs ≡ sum_by figure rs
unfolding sum_of
sum_is figure [] = refl
sum_is figure (r ∷ rs) = omega (arith, sum_is figure rs, sum_by-cons figure r rs)

sum_permuted : (rs qs : List Record) → IsPermutation rs qs → (figure : Record → ℕ) → sum_of figure qs ≡ sum_of figure rs
sum_permuted rs qs h figure = sum_is figure qs ∙ sum_by-IsPermutation figure rs qs h ∙ sym (sum_is figure rs)

pub any_order : (rs qs : List Record) → IsPermutation rs qs → (p : ℕ)
    → (governing_direct qs p ≡ governing_direct rs p) × (governing_indirect qs p ≡ governing_indirect rs p)
any_order rs qs h p =
    let same = λ (k : ℕ) (l : k ≤ governing_rank rs p) (figure : Record → ℕ). sum_permuted rs qs h (where_passes (states p k) figure) in
    (same_direct rs qs p same, same_indirect rs qs p same)

-- ---- one N line for another list's figures

same_bought : (rs qs : List Record) (r : Record)
    → (is PrecursorUse r ≡ true → (governing_direct qs (used_precursor r) ≡ governing_direct rs (used_precursor r))
    × (governing_indirect qs (used_precursor r) ≡ governing_indirect rs (used_precursor r)))
    → as_bought qs r ≡ as_bought rs r
unfolding as_bought
same_bought rs qs r h = go (is PrecursorUse r) refl
  where
    go : (b : Bool) → is PrecursorUse r ≡ b → as_bought qs r ≡ as_bought rs r
    go true e = let g = h e in rw (e, g.0, g.1)
    go false e = rw e

map_same : (rs qs xs : List Record) → All (λ r. as_bought qs r ≡ as_bought rs r) xs → map (as_bought qs) xs ≡ map (as_bought rs) xs
map_same rs qs [] h = refl
map_same rs qs (x ∷ xs) h = ap₂ (λ (y : Record) (ys : List Record). y ∷ ys) h.0 (map_same rs qs xs h.1)

-- the records with the governing figures, in another order, are those records in another order
every_same : (rs qs : List Record) → IsPermutation rs qs → (xs : List Record) → All (λ r. as_bought qs r ≡ as_bought rs r) xs
every_same rs qs h [] = tt
every_same rs qs h (x ∷ xs) = (same_bought rs qs x (λ n. any_order rs qs h (used_precursor x)), every_same rs qs h xs)

pub governed_in_any_order : (rs qs : List Record) → IsPermutation rs qs → IsPermutation (governed rs) (governed qs)
unfolding governed
governed_in_any_order rs qs h =
    subst (λ (l : List Record). IsPermutation (map (as_bought rs) rs) l) (sym (map_same rs qs qs (every_same rs qs h qs)))
    (IsPermutation-map (as_bought rs) rs qs h)

-- ---- A K LINE THAT NO N LINE NEEDS CHANGES NOTHING

-- no N line uses its precursor, or a lower rank number governs
abbrev pub Unneeded : (rs : List Record) → Record → Type 0
Unneeded rs r =
    All (λ q. is PrecursorUse q ≡ true → used_precursor q ≡ stated_precursor r → ⊥) rs ⊎ (governing_rank rs (stated_precursor r) < rank r)

module _ (us : List Record) (r : Record) (vs : List Record) (figures : is PrecursorFigures r ≡ true) where
  abbrev without : List Record
  without = us ++ vs

  abbrev with_it : List Record
  with_it = us ++ (r ∷ vs)

  -- of a precursor and a rank that it does not state, the sums are the same
  not_stated : (p k : ℕ) → states p k r ≡ false → (figure : Record → ℕ)
      → sum_of (where_passes (states p k) figure) with_it ≡ sum_of (where_passes (states p k) figure) without
  not_stated p k h figure =
      let none : where_passes (states p k) figure r ≡ 0 = rw h in
      omega (arith, of_among (where_passes (states p k) figure) us r vs, none)

  states_not : (p k : ℕ) → ((stated_precursor r ≡ p) → (rank r ≡ k) → ⊥) → states p k r ≡ false
  states_not p k h = go (states p k r) refl
    where
      go : (b : Bool) → states p k r ≡ b → b ≡ false
      go true e = let s = stated_by p k r e in absurd (h s.precursor s.at_rank)
      go false e = refl

  bought_the_same : (q : Record)
      → ((is PrecursorUse q ≡ true → used_precursor q ≡ stated_precursor r → ⊥) ⊎ (governing_rank without (stated_precursor r) < rank r))
      → as_bought with_it q ≡ as_bought without q
  bought_the_same q h = same_bought without with_it q (λ n. go h n)
    where
      go : ((is PrecursorUse q ≡ true → used_precursor q ≡ stated_precursor r → ⊥) ⊎ (governing_rank without (stated_precursor r) < rank r))
          → is PrecursorUse q ≡ true
          → (governing_direct with_it (used_precursor q) ≡ governing_direct without (used_precursor q))
          × (governing_indirect with_it (used_precursor q) ≡ governing_indirect without (used_precursor q))
      go (inl other) n =
          let same = λ (k : ℕ) (l : k ≤ governing_rank without (used_precursor q)) (figure : Record → ℕ).
          not_stated (used_precursor q) k (states_not (used_precursor q) k (λ e f. other n (sym e))) figure in
          (same_direct without with_it (used_precursor q) same, same_indirect without with_it (used_precursor q) same)
      go (inr lower) n =
          let same = λ (k : ℕ) (l : k ≤ governing_rank without (used_precursor q)) (figure : Record → ℕ).
          not_stated (used_precursor q) k
          (states_not (used_precursor q) k
          (λ e f. let z : governing_rank without (stated_precursor r) ≡ governing_rank without (used_precursor q) =
          ap (λ (x : ℕ). governing_rank without x) e in omega arith))
          figure in
          (same_direct without with_it (used_precursor q) same, same_indirect without with_it (used_precursor q) same)

  all_the_same : (xs : List Record)
      → (All (λ q. is PrecursorUse q ≡ true → used_precursor q ≡ stated_precursor r → ⊥) xs ⊎ (governing_rank without (stated_precursor r) < rank r))
      → All (λ q. as_bought with_it q ≡ as_bought without q) xs
  all_the_same [] h = tt
  all_the_same (x ∷ xs) (inl other) = (bought_the_same x (inl other.0), all_the_same xs (inl other.1))
  all_the_same (x ∷ xs) (inr lower) = (bought_the_same x (inr lower), all_the_same xs (inr lower))

  stays : as_bought with_it r ≡ r
  unfolding as_bought
  stays = rw (kind_is PrecursorFigures r figures)

  governed_with : Unneeded without r → governed with_it ≡ map (as_bought without) us ++ (r ∷ map (as_bought without) vs)
  unfolding governed
  governed_with h =
      let both = all_append (λ q. as_bought with_it q ≡ as_bought without q) us vs (all_the_same without h) in
      map-append (as_bought with_it) us (r ∷ vs)
      ∙ ap₂ (λ (a b : List Record). a ++ b) (map_same without with_it us both.0)
      (ap₂ (λ (y : Record) (ys : List Record). y ∷ ys) stays (map_same without with_it vs both.1))

  governed_without : governed without ≡ map (as_bought without) us ++ map (as_bought without) vs
  unfolding governed
  governed_without = map-append (as_bought without) us vs

  -- a lower rank number governs, with that line among the lines or without it
  lower_without : governing_rank with_it (stated_precursor r) < rank r → governing_rank without (stated_precursor r) < rank r
  lower_without h =
      let p : ℕ = stated_precursor r in
      let same = λ (k : ℕ) (l : k ≤ governing_rank with_it p) (figure : Record → ℕ). sym (not_stated p k (states_not p k (λ e f. omega arith)) figure) in
      omega (arith, same_rank with_it without p same)

  unneeded_without : Unneeded with_it r → Unneeded without r
  unneeded_without (inl other) =
      let both = all_append (λ q. is PrecursorUse q ≡ true → used_precursor q ≡ stated_precursor r → ⊥) us (r ∷ vs) other in
      inl (all_join _ us vs both.0 both.1.1)
  unneeded_without (inr lower) = inr (lower_without lower)

  pub unneeded_figures : Unneeded (us ++ (r ∷ vs)) r → reckoning (governed (us ++ (r ∷ vs))) ≡ reckoning (governed (us ++ vs))
  unneeded_figures needed =
      let h = unneeded_without needed in
      ap reckoning (governed_with h)
      ∙ reckoning_same _ _ (figures_more (map (as_bought without) us) r (map (as_bought without) vs) figures)
      ∙ ap reckoning (sym governed_without)

-- K lines alone: the reckoning of no lines
no_uses : (r : Record) (rs : List Record) → All (λ q. is PrecursorFigures q ≡ true) rs
    → All (λ q. is PrecursorUse q ≡ true → used_precursor q ≡ stated_precursor r → ⊥) rs
no_uses r [] h = tt
no_uses r (q ∷ rs) h = ((λ n e. never (sym (rw (kind_is PrecursorFigures q h.0)) ∙ n)), no_uses r rs h.1)

pub figures_alone : (rs : List Record) → All (λ r. is PrecursorFigures r ≡ true) rs → reckoning (governed rs) ≡ reckoning (governed [])
figures_alone [] h = refl
figures_alone (r ∷ rs) h = unneeded_figures [] r rs h.0 (inl (no_uses r (r ∷ rs) h)) ∙ figures_alone rs h.1

-- ---- AN N LINE WEIGHS AS THE B LINE WITH THE GOVERNING FIGURES

-- neither an N line nor its B line states figures
states_bought : (rs : List Record) (r : Record) (p k : ℕ) (figure : Record → ℕ)
    → where_passes (states p k) figure (as_bought rs r) ≡ where_passes (states p k) figure r
unfolding as_bought kind_of kind_among
states_bought rs r p k figure = go (is PrecursorUse r) refl
  where
    go : (b : Bool) → is PrecursorUse r ≡ b → where_passes (states p k) figure (as_bought rs r) ≡ where_passes (states p k) figure r
    go true e = rw (e, kind_is PrecursorUse r e)
    go false e = rw e

bought_stays : (rs qs : List Record) (r : Record) → as_bought qs (as_bought rs r) ≡ as_bought rs r
unfolding as_bought kind_of kind_among
bought_stays rs qs r = go (is PrecursorUse r) refl
  where
    go : (b : Bool) → is PrecursorUse r ≡ b → as_bought qs (as_bought rs r) ≡ as_bought rs r
    go true e = rw e
    go false e = rw (e, e)

module _ (us : List Record) (r : Record) (vs : List Record) where
  abbrev used_here : List Record
  used_here = us ++ (r ∷ vs)

  abbrev bought_here : List Record
  bought_here = us ++ (as_bought used_here r ∷ vs)

  each_the_same : (q : Record) → as_bought bought_here q ≡ as_bought used_here q
  each_the_same q =
      same_bought used_here bought_here q
      (λ n. let same = λ (k : ℕ) (l : k ≤ governing_rank used_here (used_precursor q)) (figure : Record → ℕ).
      let f : Record → ℕ = where_passes (states (used_precursor q) k) figure in
      let z : sum_of f bought_here ≡ sum_of f used_here =
      omega (arith, of_among f us r vs, of_among f us (as_bought used_here r) vs, states_bought used_here r (used_precursor q) k figure) in z in
      (same_direct used_here bought_here (used_precursor q) same, same_indirect used_here bought_here (used_precursor q) same))

  always : (xs : List Record) → All (λ q. as_bought bought_here q ≡ as_bought used_here q) xs
  always [] = tt
  always (x ∷ xs) = (each_the_same x, always xs)

  governed_the_same : governed bought_here ≡ governed used_here
  unfolding governed
  governed_the_same =
      map-append (as_bought bought_here) us (as_bought used_here r ∷ vs)
      ∙ ap₂ (λ (a b : List Record). a ++ b) (map_same used_here bought_here us (always us))
      (ap₂ (λ (y : Record) (ys : List Record). y ∷ ys) (bought_stays used_here bought_here r) (map_same used_here bought_here vs (always vs)))
      ∙ sym (map-append (as_bought used_here) us (r ∷ vs))

  pub weighs_as_bought : reckoning (governed (us ++ (as_bought (us ++ (r ∷ vs)) r ∷ vs))) ≡ reckoning (governed (us ++ (r ∷ vs)))
  weighs_as_bought = ap reckoning governed_the_same

-- and all N lines at once
governed_of : (rs : List Record) (q : Record) → as_bought (governed rs) q ≡ as_bought rs q
unfolding governed
governed_of rs q =
    same_bought rs (map (as_bought rs) rs) q
    (λ n. let same = λ (k : ℕ) (l : k ≤ governing_rank rs (used_precursor q)) (figure : Record → ℕ).
    of_same (where_passes (states (used_precursor q) k) figure) (as_bought rs) (λ r. states_bought rs r (used_precursor q) k figure) rs in
    (same_direct rs (map (as_bought rs) rs) (used_precursor q) same, same_indirect rs (map (as_bought rs) rs) (used_precursor q) same))

bought_once : (rs xs : List Record) → map (as_bought (governed rs)) (map (as_bought rs) xs) ≡ map (as_bought rs) xs
bought_once rs [] = refl
bought_once rs (x ∷ xs) =
    ap₂ (λ (y : Record) (ys : List Record). y ∷ ys) (governed_of rs (as_bought rs x) ∙ bought_stays rs rs x) (bought_once rs xs)

governed_twice : (rs : List Record) → governed (governed rs) ≡ governed rs
unfolding governed
governed_twice rs = bought_once rs rs

pub all_weigh_as_bought : (rs : List Record) → reckoning (governed (governed rs)) ≡ reckoning (governed rs)
all_weigh_as_bought rs = ap reckoning (governed_twice rs)
