-- `streams::stream` meets its contract: each method is counted plus or minus; shown so that a wrong sign or share is refused for the fact.
-- Assumes nothing.
use mathlib.Core.Path.{refl}
use mathlib.Core.Logic.{inl, inr}
use Rattle.quantity.specs.Streams.{stream_grams}
use Rattle.streams.proofs.stream.Goals as goal

pub returns-in-Combustion-clause-result_value : goal.returns-in-Combustion-clause-result_value
unfolding stream_grams
returns-in-Combustion-clause-result_value c =
    rw (c.plus.ensures.result_value, c.fossil-fossil.ensures, c.before_biomass-grams.ensures) (elim c.in-Combustion.is [
      | inl e ↦ rw e refl
      | inr (inl e) ↦ rw e refl
      | inr (inr e) ↦ rw e refl
    ])

pub returns-in-CarbonOut-clause-result_value : goal.returns-in-CarbonOut-clause-result_value
unfolding stream_grams
returns-in-CarbonOut-clause-result_value c =
    rw (← c.before_biomass-grams.ensures, ← c.fossil-fossil.ensures, c.in-CarbonOut.is) c.minus.ensures.result_value
