-- What is held of the lines above goes by sums over them, so the order of the lines is of no account. Assumes nothing.
use mathlib.Core.Path.{◌≡◌, refl, sym, ap, ap₂, ◌∙◌}
use mathlib.Core.Bool.{Bool, true, false, cond, ◌||◌, not}
use mathlib.Core.List.{List, [], ◌∷◌}
use Prim.Native.Nat.{ℕ, ◌+◌}
use native.Mathlib.Omega.{arith}
use borrow.Author.Tests.{ne_eqb}
use lib.Dec.{eqb}
use lib.ListN.{length}
use Rattle.lines.specs.Records.{Record, number_at}
use Rattle.sheet.specs.Refusals.{any_of, sum_of, output_in, taken_in}
use Rattle.ledger.specs.declared.Ledger.{Ledger}
use Rattle.attribution.specs.Governing.{states, governing_rank, governing_direct, governing_indirect}
use Rattle.attribution.specs.Reckoning.{process_count, kilos_between}
use Rattle.attribution.proofs.Differences.{diff}
use Rattle.attribution.proofs.EveryKind.{plus, minus}
use Rattle.gathering.proofs.HeldLedger.{HeldLedger}
use Rattle.gathering.proofs.HeldGoods.{HeldGoods}
use Rattle.gathering.proofs.HeldStated.{HeldStated}
use Rattle.gathering.proofs.HeldPlaces.{place_for}
use Rattle.gathering.specs.Gathered.{StatedIn, PlacesIn}
use Rattle.works.specs.declared.Stated.{Stated}

-- every sum over the one list is the sum over the other
abbrev pub SameSums : List Record → List Record → Type 0
SameSums above rs = (f : Record → ℕ) → sum_of f above ≡ sum_of f rs

sum_ones : (rs : List Record) → sum_of (λ r. 1) rs ≡ length rs
unfolding sum_of
sum_ones [] = refl
sum_ones (r ∷ rs) = omega (arith, sum_ones rs)

-- whether a record passes a test, by a sum
any_by_sum : (test : Record → Bool) (rs : List Record) → any_of test rs ≡ not (eqb (sum_of (λ r. cond (test r) 1 0) rs) 0)
unfolding any_of sum_of
any_by_sum test [] = refl
any_by_sum test (r ∷ rs) = go (test r) (any_by_sum test rs)
  where
    go : (b : Bool) → any_of test rs ≡ not (eqb (sum_of (λ q. cond (test q) 1 0) rs) 0) → (b || any_of test rs) ≡ not (eqb (cond b 1 0 + sum_of (λ q. cond (test q) 1 0) rs) 0)
    go true ih = sym (ap not (ne_eqb (1 + sum_of (λ q. cond (test q) 1 0) rs) 0 (λ z. omega arith)))
    go false ih =
        ih
        ∙ ap (λ (n : ℕ). not (eqb n 0)) (let e : sum_of (λ q. cond (test q) 1 0) rs ≡ 0 + sum_of (λ q. cond (test q) 1 0) rs = omega arith in e)

module _ (above rs : List Record) (same : SameSums above rs) where
  pub any_same : (test : Record → Bool) → any_of test above ≡ any_of test rs
  any_same test = any_by_sum test above ∙ ap (λ (n : ℕ). not (eqb n 0)) (same (λ r. cond (test r) 1 0)) ∙ sym (any_by_sum test rs)

  ranks_same : (p : ℕ) → governing_rank above p ≡ governing_rank rs p
  ranks_same p = ap₂ (λ (s t : Bool). cond s 1 (cond t 2 3)) (any_same (states p 1)) (any_same (states p 2))

  -- the figures that govern
  figure_same : (figure : Record → ℕ) (p : ℕ) → sum_of (λ r. cond (states p (governing_rank above p) r) (figure r) 0) above
      ≡ sum_of (λ r. cond (states p (governing_rank rs p) r) (figure r) 0) rs
  figure_same figure p =
      ap (λ (k : ℕ). sum_of (λ r. cond (states p k r) (figure r) 0) above) (ranks_same p)
      ∙ same (λ r. cond (states p (governing_rank rs p) r) (figure r) 0)

  pub stated_same : (s : Stated) → HeldStated above s → StatedIn rs s
  stated_same s h = record {
    none_at = λ p. h.ranks.none_at p ∙ ap not (any_same _);
    used = h.used ∙ any_same _;
  }

  pub places_same : {sheet : List ℕ} {s : Stated} → PlacesIn sheet above s → PlacesIn sheet rs s
  unfolding governing_direct governing_indirect
  places_same q = record {
    size = q.size;
    within = q.within;
    some = λ p e. place_for (q.some p e) (figure_same (λ r. number_at r 2) p) (figure_same (λ r. number_at r 3) p);
  }

  pub same_length : length above ≡ length rs
  same_length = sym (sum_ones above) ∙ same (λ r. 1) ∙ sum_ones rs

  pub ledger_same : (l : Ledger) → HeldLedger above l → HeldLedger rs l
  ledger_same l h = record {
    sized = h.sized;
    balances = λ i. h.balances i ∙ ap₂ diff (same (plus i)) (same (minus i));
    indirect = λ i. h.indirect i ∙ same _;
    bought_direct = λ i. h.bought_direct i ∙ same _;
    bought_indirect = λ i. h.bought_indirect i ∙ same _;
    entered = h.entered ∙ ap₂ diff (same _) (same _);
    uncredited = h.uncredited ∙ same _;
    within = rw same_length at h.within;
  }

  pub goods_same : (count : ℕ) (outputs taken kilos : List ℕ) → HeldGoods above count outputs taken kilos → HeldGoods rs count outputs taken kilos
  unfolding process_count kilos_between
  goods_same count outputs taken kilos h = record {
    counted = h.counted ∙ same _;
    outputs_size = h.outputs_size;
    taken_size = h.taken_size;
    kilos_size = h.kilos_size;
    output_at = λ i. h.output_at i ∙ same (output_in i);
    taken_at = λ i. h.taken_at i ∙ same (taken_in i);
    kilos_at = λ i j l. h.kilos_at i j l ∙ same _;
    outputs_small = λ i. omega (arith, h.outputs_small i, same_length);
    taken_small = λ i. omega (arith, h.taken_small i, same_length);
    kilos_small = λ i. omega (arith, h.kilos_small i, same_length);
  }
