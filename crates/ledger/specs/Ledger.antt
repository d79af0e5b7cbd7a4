-- For the code only: what booking an entry does to the figures of a works. Laws join it to document 01's equations.
use Rattle.std.specs.Prelude.{List, ℕ, ◌+◌, ◌≤◌, ◌<◌, ℤ, pos, nat_abs, ◌+ℤ◌, ◌-ℤ◌, ◌≡◌, length, get_or, set, replicate}
use Rattle.quantity.specs.Limits.{line_grams}
use Rattle.goods.specs.ByProcess.{SIZE}
use Rattle.ledger.specs.declared.Entry.{Entry}
use Rattle.ledger.specs.declared.Ledger.{Ledger}
use Rattle.ledger.specs.Columns.{AtMost, SizeAtMost, BEFORE_ENTRY}

-- an amount added in one place
abbrev pub added : List ℕ → (i amount : ℕ) → List ℕ
added l i amount = set l i (get_or l i 0 + amount)

-- the charge added in one place, then the credit taken off in another
unfoldable pub charged_and_credited : List ℤ → (charged charge credited credit : ℕ) → List ℤ
charged_and_credited b charged charge credited credit =
    let c : List ℤ = set b charged (get_or b charged (pos 0) +ℤ pos charge) in
    set c credited (get_or c credited (pos 0) -ℤ pos credit)

unfoldable pub booked : Ledger → Entry → Ledger
booked l e = record {
  balances = record { 0 = charged_and_credited l.balances.0 e.charged e.charge.0 e.credited e.credit.0 };
  indirect = record { 0 = added l.indirect.0 e.user e.electricity.0 };
  bought_direct = record { 0 = added l.bought_direct.0 e.buyer e.direct.0 };
  bought_indirect = record { 0 = added l.bought_indirect.0 e.buyer e.indirect.0 };
  totals = record {
    entered = record { 0 = l.totals.entered.0 +ℤ pos e.entering.0 -ℤ pos e.leaving.0 };
    uncredited = record { 0 = l.totals.uncredited.0 + e.uncredited.0 };
  };
}

unfoldable pub start : Ledger
start = record {
  balances = record { 0 = replicate SIZE (pos 0) };
  indirect = record { 0 = replicate SIZE 0 };
  bought_direct = record { 0 = replicate SIZE 0 };
  bought_indirect = record { 0 = replicate SIZE 0 };
  totals = record { entered = record { 0 = pos 0 }; uncredited = record { 0 = 0 } };
}

-- an entry of grams that a line can have
pub record SmallGrams (e : Entry) : Type 0 where
  -- what goes into processes
  pub into : e.charge.0 + e.electricity.0 + e.direct.0 + e.indirect.0 ≤ line_grams
  -- what moves in a balance
  pub moved : e.charge.0 + e.credit.0 ≤ line_grams
  pub entering : e.entering.0 ≤ line_grams
  pub leaving : e.leaving.0 ≤ line_grams
  pub uncredited : e.uncredited.0 ≤ line_grams

-- and of processes that have a place
pub record Small (e : Entry) : Type 0 where
  pub charged_in : e.charged < SIZE
  pub credited_in : e.credited < SIZE
  pub user_in : e.user < SIZE
  pub buyer_in : e.buyer < SIZE
  pub grams : SmallGrams e

-- every figure is at most k in size
pub record Within (k : ℕ) (l : Ledger) : Type 0 where
  pub balances : SizeAtMost k l.balances.0
  pub indirect : AtMost k l.indirect.0
  pub bought_direct : AtMost k l.bought_direct.0
  pub bought_indirect : AtMost k l.bought_indirect.0
  pub entered : nat_abs l.totals.entered.0 ≤ k
  pub uncredited : l.totals.uncredited.0 ≤ k

-- there is room for one entry more: all figures stay below 2^63
abbrev pub Room : Ledger → Type 0
Room l = Within BEFORE_ENTRY l

-- every array has all its places
pub record Sized (l : Ledger) : Type 0 where
  pub balances : length l.balances.0 ≡ SIZE
  pub indirect : length l.indirect.0 ≡ SIZE
  pub bought_direct : length l.bought_direct.0 ≡ SIZE
  pub bought_indirect : length l.bought_indirect.0 ≡ SIZE
