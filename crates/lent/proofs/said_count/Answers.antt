-- `said_count` meets its contract. Assumes nothing.
use mathlib.Core.Path.{◌≡◌, sym, ap, ◌∙◌}
use mathlib.Core.Bool.{Bool}
use mathlib.Core.List.{List}
use Prim.Native.Nat.{ℕ, ◌+◌, ◌-◌}
use native.Mathlib.Omega.{arith}
use borrow.Author.Rules.{rules}
use borrow.Author.Tests.{tests}
use lib.Dec.{eqb}
use lib.ListN.{length, take, drop}
use Rattle.std.specs.List.{list_all}
use Rattle.std.proofs.lemmas.Iterator.{YieldsList-from_slice}
use Rattle.std.proofs.lemmas.Iterator.Search.{all_from_yields_List}
use Rattle.lent.specs.Lent.{all_zero}
use Rattle.lent.proofs.Counts.{zeros_from, count_few, count_kind, count_all}
use Rattle.lent.proofs.said_count.Goals as goal
use Rattle.lent.proofs.said_count.Goals.{else-count-behind-via-then-count-behind+else-all, else-count-behind-via-else-count-behind}

-- whether the words past the kind's fields are 0, from whichever place the code looks on
returned : (words : List ℕ) (start count : ℕ) (b : Bool) → b ≡ list_all (λ w. eqb w 0) (take (length words - start) (drop start words))
    → start ≡ count + 1 → all_zero (drop (count + 1) words) ≡ b
returned words start count b e s = ap (λ k. all_zero (drop k words)) (sym s) ∙ zeros_from words start ∙ sym e

pub returns-then-all-clause-value : goal.returns-then-all-clause-value
returns-then-all-clause-value c =
    let is = c.requires.count_value in
    let all = all_from_yields_List (λ w. eqb w 0) _ _ _ c.all.ensures.ran (YieldsList-from_slice _ c.iter.ensures.rest) (λ x b q k. search (rules, tests)) in
    sym (count_kind _ _ is.0 is.1 (omega arith) (returned c.args.words.now _ c.args.count _ all (search (rules, tests)) ∙ c.if-all.true))

pub returns-else-count-behind-clause-value : goal.returns-else-count-behind-clause-value
returns-else-count-behind-clause-value c =
    let is = c.requires.count_value in
    elim c.else-count-behind.branch [
      | else-count-behind-via-then-count-behind+else-all w ↦
          let all = all_from_yields_List (λ w. eqb w 0) _ _ _ w.all.ensures.ran (YieldsList-from_slice _ w.iter.ensures.rest) (λ x b q k. search (rules, tests)) in
          search (rules, tests) ∙ sym (count_all _ _ is.0 is.1 (returned c.args.words.now _ c.args.count _ all (search (rules, tests)) ∙ w.if-all.false))
      | else-count-behind-via-else-count-behind w ↦ search (rules, tests) ∙ sym (count_few _ _ is.0 is.1 (omega arith))
    ]
