-- The worked examples of specs/Cases: one theorem that the checker computes over the table. Assumes nothing.
use mathlib.Core.List.{map}
use mathlib.Core.Path.{◌≡◌, refl}
use Rattle.goods.specs.Sums.{sum_to, only_at}
use Rattle.goods.specs.Goods.{takers, total_kilos, portion, left, portion_of}
use Rattle.goods.specs.Cases.{examples, portions_in, left_in}

pub examples_hold : (map portions_in examples ≡ map (λ e. e.portions) examples) × (map left_in examples ≡ map (λ e. e.left) examples)
unfolding examples sum_to only_at takers total_kilos portion left portion_of
examples_hold = (refl, refl)
