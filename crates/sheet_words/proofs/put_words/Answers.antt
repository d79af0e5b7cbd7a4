-- `put_words` meets its contract. Assumes nothing.
use mathlib.Core.Path.{◌≡◌, refl, ◌∙◌}
use mathlib.Core.List.{List, [], ◌∷◌, map, map-append}
use Prim.Native.Nat.{ℕ, ◌+◌, ◌≤◌, ◌<◌}
use native.Mathlib.Omega.{arith}
use native.Mathlib.Nat.{add-zero}
use native.Mathlib.Numerals.{add-one}
use lib.ListN.{length, take, set, get_or, length-set, length-map}
use lib.Seq.{take-suc, take_all, length-take-le}
use Rattle.lines.specs.Words.{WORDS}
use Rattle.lines.specs.declared.LineRead.{LineRead}
use Rattle.lent.specs.Lent.{RECORD}
use Rattle.decimal.specs.Writing.{Put}
use Rattle.decimal.proofs.Writing.{written_one, then, put_none, put_kept}
use Rattle.sheet_words.specs.LineWords.{as_lent, line_words}
use Rattle.sheet_words.proofs.put_words.Goals as goal

module _ (l words : List ℕ) (first : ℕ) (room : first + length words ≤ length l) (m : List ℕ) (k : ℕ)
    (p : Put l first (map as_lent (take k words)) m (first + k)) where
  -- as many words as fields
  long : k ≤ length words → length (map as_lent (take k words)) ≡ k
  long h = length-map (take k words) as_lent ∙ length-take-le k words h

  kept : k ≤ length words → length m ≡ length l
  kept h = put_kept (omega (arith, long h)) p

  -- one field more
  more : (word : ℕ) → k < length words → word ≡ as_lent (get_or words k 0)
      → Put l first (map as_lent (take (k + 1) words)) (set m (first + k) word) (first + (k + 1))
  more word h e =
      let n = long (omega arith) in
      let inside : first + k < length m = omega (arith, kept (omega arith)) in
      let one : Put m (first + k) (word ∷ []) (set m (first + k) word) (first + (k + 1)) =
      record { place = omega arith; bytes_are = written_one m (first + k) word inside } in
      rw (add-one k, take-suc words k 0 h, map-append as_lent (take k words) (get_or words k 0 ∷ []), ← e) (rw (add-one k) at (then (omega arith) p one))

-- behind the letter
whole : (l : List ℕ) (at : ℕ) (r : LineRead) (m : List ℕ) (k : ℕ) → at < length l → length r.words ≤ k → k ≡ WORDS
    → Put (set l at r.letter) (at + 1) (map as_lent (take k r.words)) m (at + 1 + k) → Put l at (line_words r) m (at + RECORD)
unfolding line_words
whole l at r m k room all e p =
    let one : Put l at (r.letter ∷ []) (set l at r.letter) (at + 1) = record { place = refl; bytes_are = written_one l at r.letter room } in
    let stop : at + 1 + k ≡ at + RECORD = omega arith in
    then (omega arith) one (rw (take_all k r.words all, stop) at p)

pub loop-k-init : goal.loop-k-init
loop-k-init c = (omega (arith, length-set c.args.list.now c.args.at c.from.result), rw add-zero (put_none _ _))

pub bounds-list-first : goal.bounds-list-first
bounds-list-first c = omega (arith, kept _ _ _ (omega arith) _ c.loop-k.k c.loop-k.invariant.1 (omega arith))

pub loop-k-preserved : goal.loop-k-preserved
loop-k-preserved c =
    let v = c.loop-k.invariant in
    (v.0, more _ _ _ (omega arith) _ c.loop-k.k v.1 _ (omega arith) c.as_lent.ensures)

pub returns : goal.returns
returns c = whole _ _ _ _ c.loop-k.k (omega arith) (omega arith) (omega arith) (rw c.from.ensures at c.loop-k.invariant.1)
