-- A record that moves no grams by itself and another one booked in its place: an N line, and the B line that it becomes. The number of records stays,
-- and with it the bound of every figure. Assumes nothing.
use mathlib.Core.Path.{◌≡◌, ap, ◌∙◌}
use mathlib.Core.List.{List, [], ◌∷◌}
use Prim.Native.Nat.{ℕ, suc, ◌*◌, ◌≤◌}
use native.Mathlib.Omega.{arith}
use lib.IntN.{pos, nat_abs}
use lib.ListN.{length, get_or}
use Rattle.lines.specs.Records.{Record}
use Rattle.sheet.specs.Refusals.{sum_of}
use Rattle.sheet.specs.Verdict.{All}
use Rattle.quantity.specs.Limits.{line_grams}
use Rattle.goods.specs.Sums.{only_at}
use Rattle.goods.proofs.Sums.{at_le, at_none}
use Rattle.ledger.specs.Ledger.{Small, Sized, booked}
use Rattle.ledger.specs.Moved.{no_grams_moved}
use Rattle.ledger.specs.declared.Entry.{Entry}
use Rattle.ledger.specs.declared.Ledger.{Ledger}
use Rattle.entries.specs.Entries.{entry}
use Rattle.attribution.proofs.Differences.{diff, diff_eq, diff_size}
use Rattle.attribution.proofs.EveryKind.{plus, minus}
use Rattle.gathering.proofs.HeldLedger.{HeldLedger, held_booked}

-- records whose entries are small
abbrev pub AllSmall : List Record → Type 0
AllSmall rs = All (λ r. Small (entry r)) rs

-- what a small entry makes of a figure, over all records
sum_small : (f : Record → ℕ) → ((r : Record) → Small (entry r) → f r ≤ line_grams) → (rs : List Record) → AllSmall rs → sum_of f rs ≤ length rs * line_grams
unfolding sum_of
sum_small f each [] h = omega arith
sum_small f each (r ∷ rs) h = omega (arith, each r h.0, sum_small f each rs h.1)

-- what the ledger holds by its sums alone: of small entries the bound follows
module _ (rs : List Record) (l : Ledger) (small : AllSmall rs) (sized : Sized l)
    (balances : (i : ℕ) → get_or l.balances.0 i (pos 0) ≡ diff (sum_of (plus i) rs) (sum_of (minus i) rs))
    (indirect : (i : ℕ) → get_or l.indirect.0 i 0 ≡ sum_of (λ q. only_at i (entry q).user (entry q).electricity.0) rs)
    (direct : (i : ℕ) → get_or l.bought_direct.0 i 0 ≡ sum_of (λ q. only_at i (entry q).buyer (entry q).direct.0) rs)
    (bought : (i : ℕ) → get_or l.bought_indirect.0 i 0 ≡ sum_of (λ q. only_at i (entry q).buyer (entry q).indirect.0) rs)
    (entered : l.totals.entered.0 ≡ diff (sum_of (λ q. (entry q).entering.0) rs) (sum_of (λ q. (entry q).leaving.0) rs))
    (uncredited : l.totals.uncredited.0 ≡ sum_of (λ q. (entry q).uncredited.0) rs) where
  pub held_by_sums : HeldLedger rs l
  held_by_sums = record {
    sized = sized;
    balances = balances;
    indirect = indirect;
    bought_direct = direct;
    bought_indirect = bought;
    entered = entered;
    uncredited = uncredited;
    within = record {
      balances = λ i.
          let p = sum_small (plus i) (λ q s. omega (arith, at_le i (entry q).charged (entry q).charge.0, s.grams.moved)) rs small in
          let m = sum_small (minus i) (λ q s. omega (arith, at_le i (entry q).credited (entry q).credit.0, s.grams.moved)) rs small in
          omega (arith, ap nat_abs (balances i), diff_size (sum_of (plus i) rs) (sum_of (minus i) rs) (suc (length rs * line_grams)) (omega (arith, p)) (omega (arith, m)));
      indirect = λ i.
          let p = sum_small (λ q. only_at i (entry q).user (entry q).electricity.0)
          (λ q s. omega (arith, at_le i (entry q).user (entry q).electricity.0, s.grams.into)) rs small in
          omega (arith, indirect i, p);
      bought_direct = λ i.
          let p = sum_small (λ q. only_at i (entry q).buyer (entry q).direct.0)
          (λ q s. omega (arith, at_le i (entry q).buyer (entry q).direct.0, s.grams.into)) rs small in
          omega (arith, direct i, p);
      bought_indirect = λ i.
          let p = sum_small (λ q. only_at i (entry q).buyer (entry q).indirect.0)
          (λ q s. omega (arith, at_le i (entry q).buyer (entry q).indirect.0, s.grams.into)) rs small in
          omega (arith, bought i, p);
      entered =
          let p = sum_small (λ q. (entry q).entering.0) (λ q s. s.grams.entering) rs small in
          let m = sum_small (λ q. (entry q).leaving.0) (λ q s. s.grams.leaving) rs small in
          omega (arith, ap nat_abs entered, diff_size (sum_of (λ q. (entry q).entering.0) rs) (sum_of (λ q. (entry q).leaving.0) rs) (suc (length rs * line_grams)) (omega (arith, p)) (omega (arith, m)));
      uncredited = omega (arith, uncredited, sum_small (λ q. (entry q).uncredited.0) (λ q s. s.grams.uncredited) rs small);
    };
  }

module _ (above : List Record) (l : Ledger) (small : AllSmall above) (r : Record) (h : HeldLedger (r ∷ above) l) (nothing : entry r ≡ no_grams_moved) where
  at_nothing : (i : ℕ) → plus i r ≡ 0
  at_nothing i = ap (λ (e : Entry). only_at i e.charged e.charge.0) nothing ∙ at_none i 0

  balance : (i : ℕ) → get_or l.balances.0 i (pos 0) ≡ diff (sum_of (plus i) above) (sum_of (minus i) above)
  unfolding sum_of
  balance i =
      let none : minus i r ≡ 0 = ap (λ (e : Entry). only_at i e.credited e.credit.0) nothing ∙ at_none i 0 in
      h.balances i ∙ diff_eq _ _ _ _ (omega (arith, at_nothing i, none))

  indirect : (i : ℕ) → get_or l.indirect.0 i 0 ≡ sum_of (λ q. only_at i (entry q).user (entry q).electricity.0) above
  unfolding sum_of
  indirect i = omega (arith, h.indirect i, ap (λ (e : Entry). only_at i e.user e.electricity.0) nothing, at_none i 0)

  direct : (i : ℕ) → get_or l.bought_direct.0 i 0 ≡ sum_of (λ q. only_at i (entry q).buyer (entry q).direct.0) above
  unfolding sum_of
  direct i = omega (arith, h.bought_direct i, ap (λ (e : Entry). only_at i e.buyer e.direct.0) nothing, at_none i 0)

  bought : (i : ℕ) → get_or l.bought_indirect.0 i 0 ≡ sum_of (λ q. only_at i (entry q).buyer (entry q).indirect.0) above
  unfolding sum_of
  bought i = omega (arith, h.bought_indirect i, ap (λ (e : Entry). only_at i e.buyer e.indirect.0) nothing, at_none i 0)

  entered : l.totals.entered.0 ≡ diff (sum_of (λ q. (entry q).entering.0) above) (sum_of (λ q. (entry q).leaving.0) above)
  unfolding sum_of
  entered =
      h.entered
      ∙ diff_eq _ _ _ _ (omega (arith, ap (λ (e : Entry). e.entering.0) nothing, ap (λ (e : Entry). e.leaving.0) nothing))

  uncredited : l.totals.uncredited.0 ≡ sum_of (λ q. (entry q).uncredited.0) above
  unfolding sum_of
  uncredited = omega (arith, h.uncredited, ap (λ (e : Entry). e.uncredited.0) nothing)

  -- without that record
  held_without : HeldLedger above l
  held_without = held_by_sums above l small h.sized balance indirect direct bought entered uncredited

  -- ANOTHER RECORD BOOKED IN ITS PLACE
  pub held_rebooked : (q : Record) → Small (entry q) → HeldLedger (q ∷ above) (booked l (entry q))
  held_rebooked q s = held_booked above l q s held_without
