-- What is held once all lines are read: document 01's figures over the sheet's records. Assumes nothing.
use mathlib.Core.Path.{◌≡◌, sym, ◌∙◌}
use mathlib.Core.Logic.{◌⊎◌, inl, inr}
use mathlib.Core.Bool.{true, ◌&&◌}
use mathlib.Core.List.{List, []}
use Prim.Native.Nat.{ℕ, ◌≤◌}
use native.Mathlib.Omega.{arith}
use borrow.Author.Tests.{eqb-true, le-leb}
use lib.Dec.{eqb}
use lib.ListN.{length}
use Rattle.std.proofs.lemmas.Bool.{or_cases}
use Rattle.quantity.specs.Limits.{limits}
use Rattle.sheet.specs.Kinds.{is}
use Rattle.sheet.specs.declared.Kind.TheVariants.{Process}
use Rattle.lines.specs.Lines.{lines_of}
use Rattle.lines.specs.Records.{Record, records_of}
use Rattle.ledger.proofs.Bounds.{within_more}
use Rattle.sheet.specs.Refusals.{sum_of, any_of, process, output_in}
use Rattle.attribution.specs.Attribution.{indirect}
use Rattle.attribution.specs.Reckoning.{output}
use Rattle.ledger.specs.declared.Ledger.{Ledger}
use Rattle.gathering.specs.Gathered.{BooksOf, Gathered, StatedIn}
use Rattle.works.specs.declared.Works.{Works}
use Rattle.works.specs.declared.Stated.{Stated}
use Rattle.attribution.proofs.Entries.{balance_is, entered_is, figures}
use Rattle.gathering.proofs.HeldLedger.{HeldLedger}
use Rattle.gathering.proofs.HeldGoods.{HeldGoods}
use Rattle.gathering.proofs.AnyOrder.{SameSums, same_length, stated_same, ledger_same, goods_same}
use Rattle.gathering.proofs.AllLines.{Reading}

-- the books of records, not more than a sheet may have
pub books_held : (rs : List Record) (l : Ledger) → length rs ≤ limits.lines → HeldLedger rs l → BooksOf rs l
unfolding indirect
books_held rs l few h = record {
  sized = h.sized;
  balance_at = λ i. h.balances i ∙ sym (balance_is rs i);
  indirect_at = λ i. h.indirect i ∙ sym (figures i rs).used;
  bought_direct_at = λ i. h.bought_direct i ∙ sym (figures i rs).direct;
  bought_indirect_at = λ i. h.bought_indirect i ∙ sym (figures i rs).indirect;
  entered_is = h.entered ∙ sym (entered_is rs);
  uncredited_is = h.uncredited ∙ sym (figures 0 rs).uncredited;
  room = within_more (omega (arith, few)) h.within;
}

module _ (sheet : List ℕ) (w : Works) (stated : Stated) (kilos : List ℕ) (rd : Reading (lines_of sheet) [] w stated kilos) where
  abbrev rs : List Record
  rs = records_of sheet

  same : SameSums rd.above (records_of sheet)
  unfolding sum_of records_of
  same f = let s = rd.sums f in omega arith

  few : length (records_of sheet) ≤ limits.lines
  few = omega (arith, same_length rd.above (records_of sheet) same, rd.standing.few)

  ledger : HeldLedger (records_of sheet) w.ledger
  ledger = ledger_same rd.above (records_of sheet) same w.ledger rd.standing.ledger

  goods : HeldGoods (records_of sheet) w.noted.count w.noted.outputs.0 w.noted.taken.0 kilos
  goods = goods_same rd.above (records_of sheet) same w.noted.count w.noted.outputs.0 w.noted.taken.0 kilos rd.standing.goods

  made : (i : ℕ) → 1 ≤ i → i ≤ w.noted.count → 1 ≤ sum_of (output_in i) (records_of sheet)
  made i one last =
      let s : sum_of (output_in i) rd.above ≡ sum_of (output_in i) (records_of sheet) = same (output_in i) in
      go (or_cases (eqb i 0) (any_of (λ r. is Process r && eqb i (process r)) rd.above) (rd.standing.held.named i ∙ le-leb i w.noted.count last)) s
    where
      go : (eqb i 0 ≡ true) ⊎ (any_of (λ r. is Process r && eqb i (process r)) rd.above ≡ true)
          → sum_of (output_in i) rd.above ≡ sum_of (output_in i) (records_of sheet) → 1 ≤ sum_of (output_in i) (records_of sheet)
      go (inl e) s = absurd (omega (arith, eqb-true i 0 e))
      go (inr e) s = omega (arith, rd.standing.made i e)

  pub gathered : Gathered (records_of sheet) w kilos
  unfolding output
  gathered = record {
    lines = rd.standing.lines ∙ same_length rd.above (records_of sheet) same;
    count = goods.counted;
    few = rd.standing.held.most;
    outputs_size = goods.outputs_size;
    output_at = goods.output_at;
    taken_size = goods.taken_size;
    taken_at = goods.taken_at;
    kilos_at = goods.kilos_at;
    made = made;
    outputs_small = λ i. omega (arith, goods.output_at i, goods.outputs_small i, few);
    books = books_held rs w.ledger few ledger;
  }

  pub stated_all : StatedIn (records_of sheet) stated
  stated_all = stated_same rd.above (records_of sheet) same stated rd.standing.precursors
