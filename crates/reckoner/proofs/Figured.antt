-- The figures of a closed works are document 01's over the sheet's records. Assumes nothing.
use mathlib.Core.Path.{◌≡◌, ap, ap₂, ◌∙◌}
use mathlib.Core.List.{List}
use Prim.Native.Nat.{ℕ, ◌+◌, ◌≤◌}
use native.Mathlib.Omega.{arith}
use Rattle.lines.specs.Records.{Record}
use Rattle.goods.specs.Sums.{sum_to}
use Rattle.goods.specs.Goods.{pool_of, left_of}
use Rattle.goods.specs.ByProcess.{figures, NoneOutside, Column}
use Rattle.goods.specs.Settling.{pairs}
use Rattle.goods.proofs.Sums.{sum_cong}
use Rattle.goods.proofs.Same.{pool_cong, left_cong}
use Rattle.ledger.specs.Raising.{raised_to_zero}
use Rattle.closing.specs.Closing.{Closed}
use Rattle.reckoning.specs.declared.Closing.{Closing}
use Rattle.attribution.specs.Attribution.{direct}
use Rattle.attribution.specs.Reckoning.{process_count, output, kilos_between, direct_pool, indirect_pool, direct_left, indirect_left, total_left}
use Rattle.gathering.specs.Gathered.{Gathered}
use Rattle.reckoner.specs.Reckoned.{FiguresOf}
use Rattle.reckoner.specs.Closed.{accepted_as}
use Rattle.works.specs.declared.Works.{Works}
use Rattle.attribution.proofs.EveryKind.{Accepted}
use Rattle.attribution.proofs.Outside.{no_output}
use Rattle.reckoner.proofs.Ready.{own_direct_is, own_indirect_is, raised_is, pairs_is, raised_sum}

module _ (rs : List Record) (w : Works) (kilos : List ℕ) (g : Gathered rs w kilos) (ok : Accepted rs) (c : Closing)
    (closed : Closed w.ledger w.noted.outputs.0 kilos w.noted.count c) where
  column : {figure other : ℕ → ℕ} {a : List ℕ} → Column w.noted.count figure a → ((k : ℕ) → 1 ≤ k → k ≤ w.noted.count → figure k ≡ other k)
      → Column w.noted.count other a
  column h same = record { size = h.size; at = λ k l m. h.at k l m ∙ same k l m; outside = h.outside }

  -- pools and lefts over the code's arrays are those over document 01's figures
  pool_same : (own own' : ℕ → ℕ) → ((k : ℕ) → own k ≡ own' k) → (k : ℕ) → k ≤ w.noted.count
      → pool_of w.noted.count (figures w.noted.outputs.0) (pairs kilos) own k ≡ pool_of (process_count rs) (output rs) (kilos_between rs) own' k
  pool_same own own' e k h =
      pool_cong w.noted.count (figures w.noted.outputs.0) (output rs) (pairs kilos) (kilos_between rs) own own'
      (λ i a b. g.output_at i) (λ i j a b p q. pairs_is rs w kilos g ok i j q) (λ i a b. e i) k h
      ∙ ap (λ (m : ℕ). pool_of m (output rs) (kilos_between rs) own' k) g.count

  left_same : (own own' : ℕ → ℕ) → ((k : ℕ) → own k ≡ own' k) → (k : ℕ) → 1 ≤ k → k ≤ w.noted.count
      → left_of w.noted.count (figures w.noted.outputs.0) (pairs kilos) own k ≡ left_of (process_count rs) (output rs) (kilos_between rs) own' k
  left_same own own' e k l h =
      left_cong w.noted.count (figures w.noted.outputs.0) (output rs) (pairs kilos) (kilos_between rs) own own'
      (λ i a b. g.output_at i) (λ i j a b p q. pairs_is rs w kilos g ok i j q) (λ i a b. e i) k l h
      ∙ ap (λ (m : ℕ). left_of m (output rs) (kilos_between rs) own' k) g.count

  pub figures_is : FiguresOf rs (accepted_as w c)
  unfolding direct direct_pool indirect_pool direct_left indirect_left total_left
  figures_is = record {
    counted = g.count;
    few = g.few;
    made = g.made;
    outputs_small = g.outputs_small;
    outputs = record { size = g.outputs_size; at = λ k l m. g.output_at k; outside = outputs_outside };
    directs = column closed.direct (λ k l m. ap raised_to_zero (g.books.balance_at k));
    indirects = column closed.indirect (λ k l m. g.books.indirect_at k);
    raiseds = column closed.raised (λ k l m. raised_is rs w kilos g ok k);
    direct_pools = column closed.direct_pools (λ k l m. pool_same _ _ (own_direct_is rs w kilos g ok) k m);
    indirect_pools = column closed.indirect_pools (λ k l m. pool_same _ _ (own_indirect_is rs w kilos g ok) k m);
    direct_lefts = column closed.direct_lefts (λ k l m. left_same _ _ (own_direct_is rs w kilos g ok) k l m);
    indirect_lefts = column closed.indirect_lefts (λ k l m. left_same _ _ (own_indirect_is rs w kilos g ok) k l m);
    left_is = closed.left ∙ ap₂ (λ (x y : ℕ). x + y)
        (sum_cong w.noted.count _ _ (λ k l m. left_same _ _ (own_direct_is rs w kilos g ok) k l m) ∙ ap (λ (m : ℕ). sum_to m (direct_left rs)) g.count)
        (sum_cong w.noted.count _ _ (λ k l m. left_same _ _ (own_indirect_is rs w kilos g ok) k l m) ∙ ap (λ (m : ℕ). sum_to m (indirect_left rs)) g.count);
    entered_is = g.books.entered_is;
    raised_is = closed.total_raised ∙ raised_sum rs w kilos g ok;
    uncredited_is = g.books.uncredited_is;
    entered_small = omega (arith, g.books.room.entered);
  }
    where
      outputs_outside : NoneOutside w.noted.count w.noted.outputs.0
      outputs_outside k o = g.output_at k ∙ no_output (process_count rs) rs ok.valid k (λ l m. o l (omega (arith, g.count)))
