-- What an accepted sheet's K lines keep: no more than one line states a rank of a precursor, and every figure is in range; so every governing
-- figure is in range, and an N line with it makes a small entry. Assumes nothing.
use mathlib.Core.Path.{◌≡◌, refl, sym, ap₂, ◌∙◌, subst}
use mathlib.Core.Bool.{Bool, true, false, cond, ◌&&◌, ◌||◌}
use mathlib.Core.List.{List, [], ◌∷◌, map}
use Prim.Native.Nat.{ℕ, ◌+◌, ◌*◌, ◌≤◌}
use native.Mathlib.Omega.{arith}
use borrow.Author.Tests.{eqb-true}
use lib.Dec.{eqb}
use Rattle.decimal.proofs.Bools.{and_both}
use Rattle.quantity.specs.Limits.{Limits, limits}
use Rattle.quantity.specs.Ranges.{most_grams}
use Rattle.quantity.proofs.Small.{weight_small}
use Rattle.lines.specs.Lines.{Line, lines_of}
use Rattle.lines.specs.Records.{Record, record_of, records_of, number_at}
use Rattle.sheet.specs.Kinds.{specific_figure, rules, is}
use Rattle.sheet.specs.declared.Kind.TheVariants.{PrecursorFigures, PrecursorUse}
use Rattle.sheet.specs.Ranges.{KeepsRanges}
use Rattle.sheet.specs.Refusals.{any_of, sum_of, stated_precursor, rank, used_precursor, second_of_rank}
use Rattle.sheet.specs.Verdict.{sheet_checks, All, Passes}
use Rattle.sheet.proofs.Passed.{PassedLines, sheet_passed}
use Rattle.sheet.proofs.Table.{kind_is}
use Rattle.ledger.specs.Ledger.{SmallGrams, Small}
use Rattle.entries.specs.Entries.{entry, used_entry}
use Rattle.entries.proofs.Ranges.{in_rules}
use Rattle.attribution.specs.Governing.{states, governing_rank, governing_direct, governing_indirect, as_bought}
use Rattle.attribution.proofs.EveryKind.{small_grams}
use Rattle.attribution.proofs.Governing.{entry_bought, other_stays}

-- ---- how many lines state a rank of a precursor

abbrev pub one_stated : (p k : ℕ) → Record → ℕ
one_stated p k r = cond (states p k r) 1 0

abbrev pub RankInRange : Record → Type 0
RankInRange r = is PrecursorFigures r ≡ true → (1 ≤ rank r) × (rank r ≤ 3)

abbrev pub FiguresInRange : Record → Type 0
FiguresInRange r = is PrecursorFigures r ≡ true → (number_at r 2 ≤ specific_figure.highest) × (number_at r 3 ≤ specific_figure.highest)

-- no more than one line states a rank of a precursor, and the ranks and figures of K lines are in range
pub record StatedWell (rs : List Record) : Type 0 where
  pub once : (p k : ℕ) → sum_of (one_stated p k) rs ≤ 1
  pub ranks : All RankInRange rs
  pub figures : All FiguresInRange rs

-- what a line states
pub record StatedBy (p k : ℕ) (r : Record) : Type 0 where
  pub figures : is PrecursorFigures r ≡ true
  pub precursor : stated_precursor r ≡ p
  pub at_rank : rank r ≡ k

pub stated_by : (p k : ℕ) (r : Record) → states p k r ≡ true → StatedBy p k r
stated_by p k r h =
    let a = and_both (is PrecursorFigures r) (eqb (stated_precursor r) p && eqb (rank r) k) h in
    let b = and_both (eqb (stated_precursor r) p) (eqb (rank r) k) a.1 in
    record { figures = a.0; precursor = eqb-true (stated_precursor r) p b.0; at_rank = eqb-true (rank r) k b.1 }

-- by row 17 no line above states what a line states
none_above : (above : List Record) (r : Record) (p k : ℕ) → second_of_rank above r ≡ false → states p k r ≡ true → any_of (states p k) above ≡ false
none_above above r p k h e =
    let s = stated_by p k r e in
    sym (ap₂ (λ (x y : ℕ). any_of (states x y) above) s.precursor s.at_rank) ∙ rw s.figures at h

module _ (limits : Limits) where
  lines_once : (above : List Record) (ls : List Line) → PassedLines limits above ls → (p k : ℕ)
      → sum_of (one_stated p k) (map record_of ls) ≤ cond (any_of (states p k) above) 0 1
  unfolding sum_of any_of
  lines_once above [] passed p k = omega arith
  lines_once above (l ∷ ls) passed p k =
      go (states p k (record_of l)) refl (any_of (states p k) above) refl (lines_once (record_of l ∷ above) ls passed.1 p k)
    where
      go : (b : Bool) → states p k (record_of l) ≡ b → (a : Bool) → any_of (states p k) above ≡ a
          → sum_of (one_stated p k) (map record_of ls) ≤ cond (b || a) 0 1
          → cond b 1 0 + sum_of (one_stated p k) (map record_of ls) ≤ cond a 0 1
      go true e a f ih = rw (sym f ∙ none_above above (record_of l) p k passed.0.rank_once e) (omega (arith, ih))
      go false e a f ih = omega (arith, ih)

  line_ranges : (r : Record) → KeepsRanges limits r → RankInRange r × FiguresInRange r
  unfolding rules
  line_ranges r keeps = (
    λ e. let n = in_rules limits r keeps PrecursorFigures (kind_is PrecursorFigures r e) in ((n.1.0 refl).low, (n.1.0 refl).high),
    λ e. let n = in_rules limits r keeps PrecursorFigures (kind_is PrecursorFigures r e) in ((n.1.1.0 refl).high, (n.1.1.1.0 refl).high),
  )

  lines_ranges : (above : List Record) (ls : List Line) → PassedLines limits above ls
      → All RankInRange (map record_of ls) × All FiguresInRange (map record_of ls)
  lines_ranges above [] passed = (tt, tt)
  lines_ranges above (l ∷ ls) passed =
      let here = line_ranges (record_of l) passed.0.ranges in
      let below = lines_ranges (record_of l ∷ above) ls passed.1 in
      ((here.0, below.0), (here.1, below.1))

  pub sheet_stated : (sheet : List ℕ) → All Passes (sheet_checks limits sheet) → StatedWell (records_of sheet)
  unfolding records_of any_of
  sheet_stated sheet passed =
      let lines = (sheet_passed limits sheet passed).lines in
      let ranges = lines_ranges [] (lines_of sheet) lines in
      record { once = λ p k. lines_once [] (lines_of sheet) lines p k; ranks = ranges.0; figures = ranges.1 }

-- ---- governing figures are in range

-- so many lines with a figure in range
sum_within : (test : Record → Bool) (figure : Record → ℕ) (rs : List Record) → All (λ r. test r ≡ true → figure r ≤ specific_figure.highest) rs
    → sum_of (λ r. cond (test r) (figure r) 0) rs ≤ sum_of (λ r. cond (test r) 1 0) rs * specific_figure.highest
unfolding sum_of
sum_within test figure [] h = omega arith
sum_within test figure (r ∷ rs) h = go (test r) refl (sum_within test figure rs h.1)
  where
    go : (b : Bool) → test r ≡ b
        → sum_of (λ q. cond (test q) (figure q) 0) rs ≤ sum_of (λ q. cond (test q) 1 0) rs * specific_figure.highest
        → cond b (figure r) 0 + sum_of (λ q. cond (test q) (figure q) 0) rs
        ≤ (cond b 1 0 + sum_of (λ q. cond (test q) 1 0) rs) * specific_figure.highest
    go true e ih = omega (arith, h.0 e, ih)
    go false e ih = omega (arith, ih)

all_direct : (p k : ℕ) (rs : List Record) → All FiguresInRange rs → All (λ r. states p k r ≡ true → number_at r 2 ≤ specific_figure.highest) rs
all_direct p k [] h = tt
all_direct p k (r ∷ rs) h = (λ e. (h.0 (stated_by p k r e).figures).0, all_direct p k rs h.1)

all_indirect : (p k : ℕ) (rs : List Record) → All FiguresInRange rs → All (λ r. states p k r ≡ true → number_at r 3 ≤ specific_figure.highest) rs
all_indirect p k [] h = tt
all_indirect p k (r ∷ rs) h = (λ e. (h.0 (stated_by p k r e).figures).1, all_indirect p k rs h.1)

module _ (rs : List Record) (s : StatedWell rs) where
  pub governing_direct_le : (p : ℕ) → governing_direct rs p ≤ specific_figure.highest
  unfolding governing_direct
  governing_direct_le p =
      let k = governing_rank rs p in
      omega (arith, s.once p k, sum_within (states p k) (λ r. number_at r 2) rs (all_direct p k rs s.figures))

  pub governing_indirect_le : (p : ℕ) → governing_indirect rs p ≤ specific_figure.highest
  unfolding governing_indirect
  governing_indirect_le p =
      let k = governing_rank rs p in
      omega (arith, s.once p k, sum_within (states p k) (λ r. number_at r 3) rs (all_indirect p k rs s.figures))

-- ---- an N line's entry is small

module _ (d i : ℕ) (dl : d ≤ specific_figure.highest) (il : i ≤ specific_figure.highest) where
  pub use_grams : (limits : Limits) (r : Record) → KeepsRanges limits r → is PrecursorUse r ≡ true → SmallGrams (used_entry d i r)
  unfolding rules
  use_grams limits r keeps e =
      let mass = ((in_rules limits r keeps PrecursorUse (kind_is PrecursorUse r e)).1.1.0 refl).high in
      let a = weight_small _ _ 10000000000 100000000 most_grams mass dl (omega arith) in
      let b = weight_small _ _ 10000000000 100000000 most_grams mass il (omega arith) in
      omega (arith, a, b)

  -- and its process has a place
  pub use_small : (r : Record) → KeepsRanges limits r → is PrecursorUse r ≡ true → Small (used_entry d i r)
  unfolding rules
  use_small r keeps e =
      let place = ((in_rules limits r keeps PrecursorUse (kind_is PrecursorUse r e)).0 refl).high in
      let g = use_grams limits r keeps e in
      omega (arith, place)

module _ (rs : List Record) (s : StatedWell rs) (r : Record) where
  pub bought_grams : (limits : Limits) → KeepsRanges limits r → SmallGrams (entry (as_bought rs r))
  bought_grams limits keeps = go (is PrecursorUse r) refl
    where
      go : (b : Bool) → is PrecursorUse r ≡ b → SmallGrams (entry (as_bought rs r))
      go true e =
          subst SmallGrams (sym (entry_bought rs r e))
          (use_grams _ _ (governing_direct_le rs s (used_precursor r)) (governing_indirect_le rs s (used_precursor r)) limits r keeps e)
      go false e = subst (λ (q : Record). SmallGrams (entry q)) (sym (other_stays rs r e)) (small_grams limits r keeps)
