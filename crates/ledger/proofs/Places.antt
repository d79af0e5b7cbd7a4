-- What each place holds after an entry is booked. Assumes nothing.
use mathlib.Core.Path.{◌≡◌, sym, ap, ◌∙◌}
use mathlib.Core.List.{List}
use Prim.Native.Nat.{ℕ, ◌+◌, ◌<◌}
use native.Mathlib.Decide.{ℕ_discrete}
use native.Mathlib.Nat.{add-zero}
use lib.IntN.{ℤ, pos, ◌+ℤ◌, ◌-ℤ◌, +ℤ_idr}
use lib.ListN.{length, get_or, set, length-set}
use lib.Seq.{get_or-set_same, get_or-set_other}
use Rattle.goods.specs.Sums.{only_at}
use Rattle.goods.proofs.Sums.{at_same, at_other}
use Rattle.ledger.specs.declared.Entry.{Entry}
use Rattle.ledger.specs.declared.Ledger.{Ledger}
use Rattle.ledger.specs.Ledger.{added, charged_and_credited, booked, Small, Sized}

-- one place changed by an amount, where no amount changes nothing
place_changed : {A : Type 0} (change : A → ℕ → A) (d : A) → ((x : A) → change x 0 ≡ x)
    → (l : List A) (p amount i : ℕ) → p < length l
    → get_or (set l p (change (get_or l p d) amount)) i d ≡ change (get_or l i d) (only_at i p amount)
place_changed change d none l p amount i h =
    elim (ℕ_discrete i p) [
      | yes e ↦ rw (e, get_or-set_same l p (change (get_or l p d) amount) d h, at_same)
      | no n ↦ rw (get_or-set_other l p i (change (get_or l p d) amount) d n, at_other i p amount n) (sym (none (get_or l i d)))
    ]

pub place_added : (l : List ℕ) (p amount i : ℕ) → p < length l → get_or (added l p amount) i 0 ≡ get_or l i 0 + only_at i p amount
place_added = place_changed (λ x n. x + n) 0 add-zero

place_balance : (b : List ℤ) (charged charge credited credit i : ℕ) → charged < length b → credited < length b
    → get_or (charged_and_credited b charged charge credited credit) i (pos 0)
    ≡ get_or b i (pos 0) +ℤ pos (only_at i charged charge) -ℤ pos (only_at i credited credit)
unfolding charged_and_credited
place_balance b charged charge credited credit i h g =
    let c : List ℤ = set b charged (get_or b charged (pos 0) +ℤ pos charge) in
    place_changed (λ z n. z -ℤ pos n) (pos 0) +ℤ_idr c credited credit i (simp length-set g)
    ∙ ap (λ (z : ℤ). z -ℤ pos (only_at i credited credit)) (place_changed (λ z n. z +ℤ pos n) (pos 0) +ℤ_idr b charged charge i h)

module _ (l : Ledger) (e : Entry) (s : Sized l) (m : Small e) (i : ℕ) where
  -- charged and credited may be one place
  pub balance_booked : get_or (booked l e).balances.0 i (pos 0)
      ≡ get_or l.balances.0 i (pos 0) +ℤ pos (only_at i e.charged e.charge.0) -ℤ pos (only_at i e.credited e.credit.0)
  unfolding booked
  balance_booked =
      place_balance l.balances.0 e.charged e.charge.0 e.credited e.credit.0 i
      (rw s.balances m.charged_in) (rw s.balances m.credited_in)

  pub indirect_booked : get_or (booked l e).indirect.0 i 0 ≡ get_or l.indirect.0 i 0 + only_at i e.user e.electricity.0
  unfolding booked
  indirect_booked = place_added l.indirect.0 e.user e.electricity.0 i (rw s.indirect m.user_in)

  pub bought_direct_booked : get_or (booked l e).bought_direct.0 i 0
      ≡ get_or l.bought_direct.0 i 0 + only_at i e.buyer e.direct.0
  unfolding booked
  bought_direct_booked = place_added l.bought_direct.0 e.buyer e.direct.0 i (rw s.bought_direct m.buyer_in)

  pub bought_indirect_booked : get_or (booked l e).bought_indirect.0 i 0
      ≡ get_or l.bought_indirect.0 i 0 + only_at i e.buyer e.indirect.0
  unfolding booked
  bought_indirect_booked = place_added l.bought_indirect.0 e.buyer e.indirect.0 i (rw s.bought_indirect m.buyer_in)
