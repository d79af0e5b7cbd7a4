-- `too_large` meets its contract. Assumes nothing.
use mathlib.Core.Path.{◌≡◌, refl, ap₂, ◌∙◌}
use mathlib.Core.Bool.{Bool, ◌||◌}
use mathlib.Core.List.{List, [], ◌∷◌}
use Prim.Native.Nat.{ℕ, zero, suc, ◌+◌, ◌-◌, ◌<◌}
use native.Mathlib.Omega.{arith}
use borrow.Author.Rules.{rules}
use borrow.Author.Tests.{tests}
use lib.Dec.{leb}
use lib.ListN.{length, get_or, take, drop}
use lib.Seq.{take-suc}
use Rattle.std.specs.List.{list_any}
use Rattle.std.proofs.lemmas.Iterator.{YieldsList-from_slice}
use Rattle.std.proofs.lemmas.Iterator.Search.{any_from_yields_List}
use Rattle.std.proofs.lemmas.List.Folds.{list_any-append}
use Rattle.std.proofs.Math.Bool.{or-false}
use Rattle.quantity.specs.Limits.{whole_grams}
use Rattle.goods.specs.ByProcess.{figures}
use Rattle.large_figures.specs.Large.{any_large}
use Rattle.large_figures.proofs.too_large.Goals as goal

abbrev at_least : ℕ → Bool
at_least grams = leb whole_grams grams

-- the figures of processes 1 .. n, as a part of their column
any_column : (n : ℕ) (a : List ℕ) → n < length a → list_any at_least (take n (drop 1 a)) ≡ any_large n (figures a)
unfolding any_large
any_column n [] h = absurd (omega arith)
any_column zero (x ∷ l) h = refl
any_column (suc n) (x ∷ l) h =
    let before = any_column n (x ∷ l) (omega arith) in
    let last = take-suc l n 0 (omega arith) in
    rw last
    (list_any-append at_least (take n l) (get_or l n 0 ∷ []) ∙ ap₂ (λ (b c : Bool). b || c) before (or-false (at_least (get_or l n 0))))

pub returns : goal.returns
returns c =
    let n : c.args.count + 1 - 1 ≡ c.args.count = omega arith in
    let part = take (c.args.count + 1 - 1) (drop 1 c.args.a.now.0) in
    let all : list_any at_least part ≡ any_large c.args.count (figures c.args.a.now.0) = rw n (any_column c.args.count c.args.a.now.0 (omega arith)) in
    any_from_yields_List at_least _ _ c.any.result c.any.ensures.ran (YieldsList-from_slice part c.iter.ensures.rest) (λ x b q k. search (rules, tests))
    ∙ all
