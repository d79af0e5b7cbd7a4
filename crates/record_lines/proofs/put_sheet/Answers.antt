-- `record_lines::put_sheet` meets its contract. Assumes nothing.
use mathlib.Core.Path.{◌≡◌, sym, ap, ◌∙◌}
use mathlib.Core.List.{List}
use Prim.Native.Nat.{ℕ, ◌*◌, ◌/◌}
use native.Mathlib.Omega.{arith}
use borrow.Author.Tests.{eqb-true}
use lib.ListN.{length, take, drop}
use Rattle.std.specs.Slice.Iter.{rchunks_rest, rchunks_size}
use Rattle.decimal.specs.Writing.{Put}
use Rattle.decimal.proofs.Writing.{put_none}
use Rattle.lent.specs.Lent.{RECORD, sheet_lent}
use Rattle.lent.proofs.Steps.{sheet_none}
use Rattle.record_lines.proofs.Kept.{Stands, cut_stands, last_stands, before_last, part_keeps, part_room, part_put}
use Rattle.record_lines.proofs.put_sheet.Goals as goal
use Rattle.record_lines.proofs.put_sheet.Goals.{In-Some, then-not-is_empty, else-not-is_empty}

-- the lines behind the last record are none
none_put : (space records : List ℕ) (size : ℕ) → Put space size (sheet_lent (drop (length records) records)) space size
none_put space records size = rw (sheet_none records (length records) (omega arith)) (put_none space size)

-- the record that is put stands at the end of those that are left
stands : (c : In-Some) → Stands c.args.records.now c.in-Some.record.now (length (rchunks_rest c.next.new.self)) (length (rchunks_rest c.loop-record.record-iterator))
stands c =
    last_stands c.args.records.now (rchunks_rest c.loop-record.record-iterator) (rchunks_rest c.next.new.self) c.in-Some.record.now _ c.loop-record.invariant.size
    c.loop-record.invariant.are c.loop-record.invariant.whole c.in-Some.ensures.steps.1

pub put_record-next-requires-clause-keeps_ranges : goal.put_record-next-requires-clause-keeps_ranges
put_record-next-requires-clause-keeps_ranges c =
    let s = cut_stands _ _ c.split_at.ensures.back (sym c.is_empty.ensures ∙ c.if-not-is_empty.true) in
    part_keeps _ c.requires.records_value _ _ _ s

pub put_record-next-requires-clause-words_len_bound : goal.put_record-next-requires-clause-words_len_bound
put_record-next-requires-clause-words_len_bound c =
    let s = cut_stands c.args.records.now c.split_at.result.1.now c.split_at.ensures.back (sym c.is_empty.ensures ∙ c.if-not-is_empty.true) in
    (omega (arith, part_room _ c.requires.records_value _ _ _ s, c.requires.size_value.0), c.requires.size_value.1)

pub loop-record-init : goal.loop-record-init
loop-record-init c =
    let records = c.args.records.now in
    let space = c.args.space.now in
    let size = c.args.size in
    let it = c.into_iter-record-iterator.ensures.into_iter_gives in
    let left = ap rchunks_rest it ∙ c.rchunks-record-items.ensures.rest in
    let long : length (rchunks_rest c.into_iter-record-iterator.result) ≡ length records / RECORD * RECORD = ap length left ∙ c.split_at.ensures.front_len in
    let put : Put space c.if-not-is_empty.next (sheet_lent (drop (length records / RECORD * RECORD) records)) c.if-not-is_empty.space size =
    elim c.if-not-is_empty.branch [
      | then-not-is_empty w ↦
          let s = cut_stands _ _ c.split_at.ensures.back (sym c.is_empty.ensures ∙ w.if-not-is_empty.true) in
          rw (w.next-is, w.space-is)
          (part_put records c.requires.records_value _ _ _ s space space _ _ _ size c.requires.size_value.1 (none_put space records size) w.put_record-next.ensures)
      | else-not-is_empty w ↦
          let none = eqb-true (length c.split_at.result.1.now) 0 (sym c.is_empty.ensures ∙ w.if-not-is_empty.false) in
          let all : length records / RECORD * RECORD ≡ length records = omega (arith, none, c.split_at.ensures.back_len) in
          rw (w.next-is, w.space-is, all) (none_put space records size)
    ] in
    record {
      size = ap rchunks_size it ∙ c.rchunks-record-items.ensures.size;
      are = left ∙ c.split_at.ensures.front ∙ ap (λ (k : ℕ). take k records) (sym long);
      whole = omega (arith, long);
      put = rw long put;
    }

pub put_record-next-requires-in-loop-record-clause-keeps_ranges : goal.put_record-next-requires-in-loop-record-clause-keeps_ranges
put_record-next-requires-in-loop-record-clause-keeps_ranges c =
    part_keeps _ c.requires.records_value _ _ _ (stands (goal.at.put_record-next-requires-in-loop-record-clause-keeps_ranges c).In-Some)

pub put_record-next-requires-in-loop-record-clause-words_len_bound : goal.put_record-next-requires-in-loop-record-clause-words_len_bound
put_record-next-requires-in-loop-record-clause-words_len_bound c =
    let room = part_room _ c.requires.records_value _ _ _ (stands (goal.at.put_record-next-requires-in-loop-record-clause-words_len_bound c).In-Some) in
    let place = c.loop-record.invariant.put.place in
    (omega (arith, room, place, c.requires.size_value.0), omega (arith, place, c.requires.size_value.1, c.loop-record.auto.space))

pub loop-record-preserved : goal.loop-record-preserved
loop-record-preserved c =
    let s = stands (goal.at.loop-record-preserved c).In-Some in
    let v = c.loop-record.invariant in
    let steps = c.in-Some.ensures.steps in
    record {
      size = steps.0 ∙ v.size;
      are = before_last _ _ _ _ steps.1.0 v.are;
      whole = s.before;
      put = part_put _ c.requires.records_value _ _ _ s _ _ _ _ _ _ c.requires.size_value.1 v.put c.put_record-next-in-loop-record.ensures;
    }
