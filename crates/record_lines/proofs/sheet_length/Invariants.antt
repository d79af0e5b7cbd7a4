-- `record_lines::sheet_length` meets its contract. The loop's invariant: what is measured, and the lines of the records left, are the sheet.
-- Assumes nothing.
use mathlib.Core.Path.{◌≡◌}
use Prim.Native.Nat.{◌+◌, ◌≤◌}
use lib.ListN.{length}
use Rattle.std.specs.Slice.Iter.{chunks_rest, chunks_size}
use Rattle.quantity.specs.Limits.{limits}
use Rattle.lent.specs.Lent.{RECORD, sheet_lent}
use Rattle.record_lines.proofs.sheet_length.Given as goal

abbrev pub invariant-loop-record : goal.invariant-loop-record
invariant-loop-record l =
    record {
      size : chunks_size l.record-iterator ≡ RECORD;
      measured : l.length + length (sheet_lent (chunks_rest l.record-iterator)) ≡ length (sheet_lent l.records);
      small : l.length ≤ limits.bytes;
    }
