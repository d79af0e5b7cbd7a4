-- `record_lines::put_record` meets its contract. The loop's invariant: the fields behind the first ones are put. Assumes nothing.
use mathlib.Core.Path.{◌≡◌}
use Prim.Native.Nat.{◌≤◌}
use lib.ListN.{length, take, drop}
use Rattle.std.specs.Slice.Iter.{iter_rest}
use Rattle.std.specs.Iterator.Adapters.{rev_source}
use Rattle.decimal.proofs.Writing.{Behind}
use Rattle.lent.proofs.Counts.{count_of}
use Rattle.lent.proofs.Lines.{fields_to}
use Rattle.record_lines.proofs.put_record.Given as goal

abbrev pub invariant-loop-word : goal.invariant-loop-word
invariant-loop-word l =
    let left = iter_rest (rev_source l.word-iterator) in
    record {
      words_left : left ≡ take (length left) (drop 1 l.words);
      few : length left ≤ count_of l.words;
      put : Behind (fields_to l.words (count_of l.words)) l.initial.space l.initial.next (fields_to l.words (length left)) l.space l.next;
    }
