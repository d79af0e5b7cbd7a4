-- An accepted sheet is ready to be closed. Assumes nothing.
use mathlib.Core.Path.{◌≡◌, ap, ap₂, ◌∙◌}
use mathlib.Core.List.{List}
use Prim.Native.Nat.{ℕ, ◌+◌, ◌≤◌, ◌<◌}
use native.Mathlib.Omega.{arith}
use Rattle.quantity.specs.Limits.{whole_grams}
use Rattle.lines.specs.Records.{Record}
use Rattle.goods.specs.Sums.{sum_to}
use Rattle.goods.specs.ByProcess.{SIZE, figures}
use Rattle.goods.specs.Settling.{pairs, Settleable}
use Rattle.goods.proofs.Sums.{sum_ext, sum_cong}
use Rattle.ledger.specs.Raising.{raised_to_zero, grams_added}
use Rattle.closing.specs.Closing.{Ready, own_direct, own_indirect, raised_held}
use Rattle.attribution.specs.Attribution.{direct, indirect, raised, bought_direct, bought_indirect}
use Rattle.attribution.specs.Reckoning.{process_count, kilos_between, total_raised}
use Rattle.gathering.specs.Gathered.{Gathered}
use Rattle.works.specs.declared.Works.{Works}
use Rattle.attribution.proofs.Entries.{forward}
use Rattle.attribution.proofs.Outside.{no_power}
use Rattle.attribution.proofs.RowFifteen.{SumsBelow}
use Rattle.attribution.proofs.EveryKind.{Accepted}

module _ (rs : List Record) (w : Works) (kilos : List ℕ) (g : Gathered rs w kilos) (ok : Accepted rs) where
  abbrev n : ℕ
  n = process_count rs

  -- attribution and bought grams are document 01's
  pub own_direct_is : (k : ℕ) → own_direct w.ledger k ≡ direct rs k + bought_direct rs k
  unfolding direct
  own_direct_is k = ap₂ (λ (x y : ℕ). x + y) (ap raised_to_zero (g.books.balance_at k)) (g.books.bought_direct_at k)

  pub own_indirect_is : (k : ℕ) → own_indirect w.ledger k ≡ indirect rs k + bought_indirect rs k
  own_indirect_is k = ap₂ (λ (x y : ℕ). x + y) (g.books.indirect_at k) (g.books.bought_indirect_at k)

  pub raised_is : (k : ℕ) → raised_held w.ledger k ≡ raised rs k
  unfolding raised
  raised_is k = ap grams_added (g.books.balance_at k)

  count_in : (j : ℕ) → j ≤ w.noted.count → j < SIZE
  count_in j h = omega (arith, g.few)

  pub pairs_is : (i j : ℕ) → j ≤ w.noted.count → pairs kilos i j ≡ kilos_between rs i j
  pairs_is i j h = g.kilos_at i j (count_in j h)

  settleable : (own : ℕ → ℕ) → sum_to w.noted.count own < whole_grams → Settleable w.noted.count (figures w.noted.outputs.0) (pairs kilos) own
  settleable own small = record {
    some = λ i l h. rw (g.output_at i) (g.made i l h);
    small = λ i l h. omega (arith, g.output_at i, g.outputs_small i);
    ahead = λ i j l h m. pairs_is i j (omega arith) ∙ forward n rs ok.valid i j h;
    within = λ i l h. omega (
      arith,
      sum_cong w.noted.count (pairs kilos i) (kilos_between rs i) (λ k a b. pairs_is i k b),
      g.output_at i,
      ap (λ (m : ℕ). sum_to m (kilos_between rs i)) g.count,
      ok.within i,
    );
    total = small;
  }

  own_direct_sum : sum_to w.noted.count (own_direct w.ledger) ≡ sum_to n (λ k. direct rs k + bought_direct rs k)
  own_direct_sum = rw g.count (sum_ext n _ _ own_direct_is)

  own_indirect_sum : sum_to w.noted.count (own_indirect w.ledger) ≡ sum_to n (λ k. indirect rs k + bought_indirect rs k)
  own_indirect_sum = rw g.count (sum_ext n _ _ own_indirect_is)

  pub raised_sum : sum_to w.noted.count (raised_held w.ledger) ≡ total_raised rs
  unfolding total_raised
  raised_sum = rw g.count (sum_ext n _ _ raised_is)

  -- where no sum over all lines reaches 2^63
  pub ready : SumsBelow rs → Ready w.ledger w.noted.outputs.0 kilos w.noted.count
  ready sums = record {
    few = g.few;
    balances = g.books.room.balances;
    direct = settleable (own_direct w.ledger) (omega (arith, own_direct_sum, sums.into));
    indirect = settleable (own_indirect w.ledger) (omega (arith, own_indirect_sum, sums.into));
    own = omega (arith, own_direct_sum, own_indirect_sum, sums.into);
    raised = omega (arith, raised_sum, sums.raised);
    none_beyond = λ k h. g.books.indirect_at k ∙ no_power n rs ok.valid k (omega (arith, g.count));
  }
