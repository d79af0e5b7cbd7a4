-- `record_lines::put_sheet` meets its contract. The loop's invariant: the lines of the records behind those that are left are put.
use mathlib.Core.Path.{◌≡◌}
use Prim.Native.Nat.{◌*◌, ◌/◌}
use lib.ListN.{length, take, drop}
use Rattle.std.specs.Slice.Iter.{rchunks_rest, rchunks_size}
use Rattle.decimal.specs.Writing.{Put}
use Rattle.lent.specs.Lent.{RECORD, sheet_lent}
use Rattle.record_lines.proofs.put_sheet.Given as goal

-- whole records are left
abbrev pub invariant-loop-record : goal.invariant-loop-record
invariant-loop-record l =
    let left = rchunks_rest l.record-iterator in
    record {
      size : rchunks_size l.record-iterator ≡ RECORD;
      are : left ≡ take (length left) l.records;
      whole : length left / RECORD * RECORD ≡ length left;
      put : Put l.fn.space l.next (sheet_lent (drop (length left) l.records)) l.space l.size;
    }
