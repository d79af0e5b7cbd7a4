-- The loop of `put_words`: the words of the fields before the k-th are put behind the letter.
use mathlib.Core.List.{map}
use Prim.Native.Nat.{◌+◌, ◌≤◌}
use lib.ListN.{length, take}
use Rattle.lines.specs.Words.{WORDS}
use Rattle.decimal.specs.Writing.{Put}
use Rattle.sheet_words.specs.LineWords.{as_lent}
use Rattle.sheet_words.proofs.put_words.Given as goal

abbrev pub invariant-loop-k : goal.invariant-loop-k
invariant-loop-k l =
    (l.first + WORDS ≤ length l.initial.list) × Put l.initial.list l.first (map as_lent (take l.k l.fn.l.words)) l.list (l.first + l.k)
