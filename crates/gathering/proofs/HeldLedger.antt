-- What the ledger holds of the lines above, and one line more. Assumes nothing.
use mathlib.Core.Path.{◌≡◌, refl, ap, ◌∙◌}
use mathlib.Core.List.{List, [], ◌∷◌}
use Prim.Native.Nat.{ℕ, suc, ◌+◌, ◌*◌}
use native.Mathlib.Omega.{arith}
use lib.IntN.{ℤ, pos, ◌+ℤ◌, ◌-ℤ◌}
use lib.ListN.{length, get_or}
use Rattle.lines.specs.Records.{Record}
use Rattle.sheet.specs.Refusals.{sum_of}
use Rattle.quantity.specs.Limits.{line_grams}
use Rattle.goods.specs.Sums.{only_at}
use Rattle.goods.specs.Settling.{SIZE}
use Rattle.ledger.specs.Ledger.{Small, Within, Sized, booked, start}
use Rattle.ledger.specs.declared.Ledger.{Ledger}
use Rattle.ledger.proofs.Bounds.{within_start, within_booked, sized_start, sized_booked, each_same}
use Rattle.ledger.proofs.Places.{balance_booked, indirect_booked, bought_direct_booked, bought_indirect_booked}
use Rattle.entries.specs.Entries.{entry}
use Rattle.attribution.proofs.Differences.{diff, diff_pos, diff_plus, diff_minus, diff_eq}
use Rattle.attribution.proofs.EveryKind.{plus, minus}

-- the figures are the sums over the entries of the lines above, and each line added at most `line_grams` to each
pub record HeldLedger (above : List Record) (l : Ledger) : Type 0 where
  pub sized : Sized l
  pub balances : (i : ℕ) → get_or l.balances.0 i (pos 0) ≡ diff (sum_of (plus i) above) (sum_of (minus i) above)
  pub indirect : (i : ℕ) → get_or l.indirect.0 i 0 ≡ sum_of (λ r. only_at i (entry r).user (entry r).electricity.0) above
  pub bought_direct : (i : ℕ) → get_or l.bought_direct.0 i 0 ≡ sum_of (λ r. only_at i (entry r).buyer (entry r).direct.0) above
  pub bought_indirect : (i : ℕ) → get_or l.bought_indirect.0 i 0 ≡ sum_of (λ r. only_at i (entry r).buyer (entry r).indirect.0) above
  pub entered : l.totals.entered.0 ≡ diff (sum_of (λ r. (entry r).entering.0) above) (sum_of (λ r. (entry r).leaving.0) above)
  pub uncredited : l.totals.uncredited.0 ≡ sum_of (λ r. (entry r).uncredited.0) above
  pub within : Within (length above * line_grams) l

pub held_start : HeldLedger [] start
unfolding start sum_of
held_start = record {
  sized = sized_start;
  balances = λ i. each_same (λ (z : ℤ). z ≡ diff 0 0) (pos 0) (diff_pos 0) SIZE i;
  indirect = λ i. each_same (λ (n : ℕ). n ≡ 0) 0 refl SIZE i;
  bought_direct = λ i. each_same (λ (n : ℕ). n ≡ 0) 0 refl SIZE i;
  bought_indirect = λ i. each_same (λ (n : ℕ). n ≡ 0) 0 refl SIZE i;
  entered = diff_pos 0;
  uncredited = refl;
  within = within_start;
}

-- a line booked
pub held_booked : (above : List Record) (l : Ledger) (r : Record) → Small (entry r) → HeldLedger above l → HeldLedger (r ∷ above) (booked l (entry r))
unfolding sum_of booked
held_booked above l r m h = record {
  sized = sized_booked l (entry r) h.sized;
  balances = λ i.
      balance_booked l (entry r) h.sized m i
      ∙ ap (λ (z : ℤ). z +ℤ pos (plus i r) -ℤ pos (minus i r)) (h.balances i)
      ∙ moved (sum_of (plus i) above) (sum_of (minus i) above) (plus i r) (minus i r);
  indirect = λ i. omega (arith, indirect_booked l (entry r) h.sized m i, h.indirect i);
  bought_direct = λ i. omega (arith, bought_direct_booked l (entry r) h.sized m i, h.bought_direct i);
  bought_indirect = λ i. omega (arith, bought_indirect_booked l (entry r) h.sized m i, h.bought_indirect i);
  entered = entered_booked;
  uncredited = uncredited_booked;
  within = rw more (within_booked (length above * line_grams) l (entry r) h.within m);
}
  where
    moved : (a b c d : ℕ) → diff a b +ℤ pos c -ℤ pos d ≡ diff (c + a) (d + b)
    moved a b c d = ap (λ (z : ℤ). z -ℤ pos d) (diff_plus a b c) ∙ diff_minus (a + c) b d ∙ diff_eq _ _ _ _ (omega arith)

    more : suc (length above) * line_grams ≡ length above * line_grams + line_grams
    more = omega arith

    entered_booked : (booked l (entry r)).totals.entered.0
        ≡ diff ((entry r).entering.0 + sum_of (λ q. (entry q).entering.0) above) ((entry r).leaving.0 + sum_of (λ q. (entry q).leaving.0) above)
    entered_booked = ap (λ (z : ℤ). z +ℤ pos (entry r).entering.0 -ℤ pos (entry r).leaving.0) h.entered ∙ moved _ _ _ _

    uncredited_booked : (booked l (entry r)).totals.uncredited.0 ≡ (entry r).uncredited.0 + sum_of (λ q. (entry q).uncredited.0) above
    uncredited_booked = omega (arith, h.uncredited)
