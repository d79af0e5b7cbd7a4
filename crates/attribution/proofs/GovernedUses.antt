-- Each N line of an accepted sheet has a K line whose figures govern: row 18. Assumes nothing.
use mathlib.Core.Path.{◌≡◌, refl, sym, ap, ap₂, ◌∙◌, subst}
use mathlib.Core.Bool.{Bool, true, false, ◌&&◌, ◌||◌}
use mathlib.Core.List.{List, [], ◌∷◌, ◌++◌}
use Prim.Native.Nat.{ℕ, zero, suc, ◌≤◌, ◌<◌}
use native.Mathlib.Omega.{arith}
use borrow.Author.Tests.{eqb-true, ltb-true, ltb-false, not-false}
use lib.Dec.{eqb, ltb}
use Rattle.decimal.proofs.Bools.{never, and_both, or_neither}
use Rattle.quantity.specs.Limits.{Limits}
use Rattle.lines.specs.Records.{Record, records_of, number_at}
use Rattle.sheet.specs.Kinds.{is}
use Rattle.sheet.specs.declared.Kind.TheVariants.{PrecursorFigures, PrecursorUse}
use Rattle.sheet.specs.Refusals.{any_of, stated_precursor, rank, used_precursor, no_figures}
use Rattle.sheet.specs.Verdict.{figures_checks, sheet_checks, All, Passes}
use Rattle.sheet.proofs.First.{all_append}
use Rattle.sheet.proofs.Passed.{sheet_passed}
use Rattle.attribution.specs.Governing.{states, rank_stated, governing_rank, governing_direct, governing_indirect}
use Rattle.attribution.proofs.Stated.{StatedWell, RankInRange, stated_by, sheet_stated}
use Rattle.attribution.proofs.Precursors.{NotLower, any_among, states_itself, least_governs}

-- a line that passes a test
record Found (test : Record → Bool) (rs : List Record) : Type 0 where
  before : List Record
  line : Record
  after : List Record
  split : rs ≡ before ++ (line ∷ after)
  passes : test line ≡ true

any_found : (test : Record → Bool) (rs : List Record) → any_of test rs ≡ true → Found test rs
unfolding any_of
any_found test [] h = absurd (never h)
any_found test (r ∷ rs) h = go (test r) refl h (any_found test rs)
  where
    go : (b : Bool) → test r ≡ b → (b || any_of test rs) ≡ true → (any_of test rs ≡ true → Found test rs) → Found test (r ∷ rs)
    go true e h ih = record { before = []; line = r; after = rs; split = refl; passes = e }
    go false e h ih =
        let f = ih h in
        record { before = r ∷ f.before; line = f.line; after = f.after; split = ap (λ (l : List Record). r ∷ l) f.split; passes = f.passes }

-- where a rank is stated, the governing rank is stated, and no lower one is
record Governs (rs : List Record) (p : ℕ) : Type 0 where
  stated : rank_stated rs p (governing_rank rs p) ≡ true
  lower : (j : ℕ) → 1 ≤ j → j < governing_rank rs p → rank_stated rs p j ≡ false

governs : (rs : List Record) (p k : ℕ) → 1 ≤ k → k ≤ 3 → rank_stated rs p k ≡ true → Governs rs p
governs rs p k l m h = go (rank_stated rs p 1) refl (rank_stated rs p 2) refl
  where
    third : rank_stated rs p 1 ≡ false → rank_stated rs p 2 ≡ false → (k : ℕ) → 1 ≤ k → k ≤ 3 → rank_stated rs p k ≡ true → rank_stated rs p 3 ≡ true
    third e f zero l m h = absurd (omega arith)
    third e f (suc zero) l m h = absurd (never (sym e ∙ h))
    third e f (suc (suc zero)) l m h = absurd (never (sym f ∙ h))
    third e f (suc (suc (suc zero))) l m h = h
    third e f (suc (suc (suc (suc k)))) l m h = absurd (omega arith)

    below : rank_stated rs p 1 ≡ false → rank_stated rs p 2 ≡ false → (j : ℕ) → 1 ≤ j → j < 3 → rank_stated rs p j ≡ false
    below e f zero a b = absurd (omega arith)
    below e f (suc zero) a b = e
    below e f (suc (suc zero)) a b = f
    below e f (suc (suc (suc j))) a b = absurd (omega arith)

    one_below : rank_stated rs p 1 ≡ false → (j : ℕ) → 1 ≤ j → j < 2 → rank_stated rs p j ≡ false
    one_below e zero a b = absurd (omega arith)
    one_below e (suc zero) a b = e
    one_below e (suc (suc j)) a b = absurd (omega arith)

    of_rank : (n : ℕ) → governing_rank rs p ≡ n → rank_stated rs p n ≡ true → ((j : ℕ) → 1 ≤ j → j < n → rank_stated rs p j ≡ false) → Governs rs p
    of_rank n e s b = record { stated = ap (λ (x : ℕ). rank_stated rs p x) e ∙ s; lower = λ j a c. b j a (omega (arith, e)) }

    go : (a : Bool) → rank_stated rs p 1 ≡ a → (b : Bool) → rank_stated rs p 2 ≡ b → Governs rs p
    go true e b f = of_rank 1 (rw e) e (λ j a c. absurd (omega arith))
    go false e true f = of_rank 2 (rw (e, f)) f (one_below e)
    go false e false f = of_rank 3 (rw (e, f)) (third e f k l m h) (below e f)

none_is_lower : (r : Record) (rs : List Record) → All RankInRange rs
    → ((j : ℕ) → 1 ≤ j → j < rank r → rank_stated rs (stated_precursor r) j ≡ false) → All (NotLower r) rs
unfolding any_of
none_is_lower r [] ranks h = tt
none_is_lower r (q ∷ rs) ranks h = (
  λ k p. here k p (ltb (rank q) (rank r)) refl,
  none_is_lower r rs ranks.1 (λ j a b. (or_neither (states (stated_precursor r) j q) (any_of (states (stated_precursor r) j) rs) (h j a b)).1),
)
  where
    here : is PrecursorFigures q ≡ true → stated_precursor q ≡ stated_precursor r → (b : Bool) → ltb (rank q) (rank r) ≡ b → rank r ≤ rank q
    here k p true e =
        let not_it = (or_neither (states (stated_precursor r) (rank q) q) _ (h (rank q) (ranks.0 k).0 (ltb-true (rank q) (rank r) e))).0 in
        absurd (never (sym not_it ∙ ap (λ (x : ℕ). states x (rank q) q) (sym p) ∙ states_itself q k))
    here k p false e = ltb-false (rank q) (rank r) e

-- the K line whose figures govern precursor p
pub record GovernedBy (rs : List Record) (p : ℕ) : Type 0 where
  pub before : List Record
  pub line : Record
  pub after : List Record
  pub split : rs ≡ before ++ (line ∷ after)
  pub figures : is PrecursorFigures line ≡ true
  pub precursor : stated_precursor line ≡ p
  pub least : All (NotLower line) rs
  pub direct : governing_direct rs p ≡ number_at line 2
  pub indirect : governing_indirect rs p ≡ number_at line 3

abbrev figures_of : (p : ℕ) → Record → Bool
figures_of p q = is PrecursorFigures q && eqb (stated_precursor q) p

module _ (rs : List Record) (well : StatedWell rs) (p : ℕ) where
  -- a K line of the precursor states its rank
  rank_of : Found (figures_of p) rs → Governs rs p
  rank_of f =
      let both = and_both (is PrecursorFigures f.line) (eqb (stated_precursor f.line) p) f.passes in
      let in_range = (all_append RankInRange f.before (f.line ∷ f.after) (subst (λ (x : List Record). All RankInRange x) f.split well.ranks)).1.0 both.0 in
      let itself : states p (rank f.line) f.line ≡ true =
      ap (λ (x : ℕ). states x (rank f.line) f.line) (sym (eqb-true (stated_precursor f.line) p both.1)) ∙ states_itself f.line both.0 in
      governs rs p (rank f.line) in_range.0 in_range.1
      (ap (λ (x : List Record). rank_stated x p (rank f.line)) f.split ∙ any_among (states p (rank f.line)) f.before f.line f.after itself)

  -- and one states the governing rank
  line_of : Governs rs p → Found (states p (governing_rank rs p)) rs → GovernedBy rs p
  line_of g l =
      let s = stated_by p (governing_rank rs p) l.line l.passes in
      let least : All (NotLower l.line) rs =
      none_is_lower l.line rs well.ranks
      (λ j a b. ap (λ (x : ℕ). rank_stated rs x j) s.precursor ∙ g.lower j a (omega (arith, s.at_rank))) in
      let its =
      least_governs l.before l.line l.after (subst StatedWell l.split well) s.figures
      (subst (λ (x : List Record). All (NotLower l.line) x) l.split least) in
      record {
        before = l.before;
        line = l.line;
        after = l.after;
        split = l.split;
        figures = s.figures;
        precursor = s.precursor;
        least = least;
        direct = ap₂ (λ (x : List Record) (y : ℕ). governing_direct x y) l.split (sym s.precursor) ∙ its.0;
        indirect = ap₂ (λ (x : List Record) (y : ℕ). governing_indirect x y) l.split (sym s.precursor) ∙ its.1;
      }

  governed_by : any_of (figures_of p) rs ≡ true → GovernedBy rs p
  governed_by h =
      let g = rank_of (any_found (figures_of p) rs h) in
      line_of g (any_found (states p (governing_rank rs p)) rs g.stated)

uses_stated : (rs : List Record) (k : ℕ) (qs : List Record) → All Passes (figures_checks rs k qs) → All (λ r. no_figures rs r ≡ false) qs
unfolding figures_checks
uses_stated rs k [] h = tt
uses_stated rs k (q ∷ qs) h = (h.0, uses_stated rs (suc k) qs h.1)

each_governed : (rs : List Record) → StatedWell rs → (qs : List Record) → All (λ r. no_figures rs r ≡ false) qs
    → All (λ r. is PrecursorUse r ≡ true → GovernedBy rs (used_precursor r)) qs
each_governed rs well [] h = tt
each_governed rs well (q ∷ qs) h =
    (λ e. governed_by rs well (used_precursor q) (not-false (any_of (figures_of (used_precursor q)) rs) (rw e at h.0)), each_governed rs well qs h.1)

-- of every sheet by which no row 1 to 14, 17 or 18 applies
pub uses_governed : (limits : Limits) (sheet : List ℕ) → All Passes (sheet_checks limits sheet)
    → All (λ r. is PrecursorUse r ≡ true → GovernedBy (records_of sheet) (used_precursor r)) (records_of sheet)
uses_governed limits sheet passed =
    each_governed (records_of sheet) (sheet_stated limits sheet passed) (records_of sheet)
    (uses_stated (records_of sheet) 1 (records_of sheet) (sheet_passed limits sheet passed).figures)
