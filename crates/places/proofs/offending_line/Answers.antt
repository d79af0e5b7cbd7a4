-- `offending_line` meets its contract. Assumes nothing.
use mathlib.Core.Path.{ap}
use native.Mathlib.Omega.{arith}
use Rattle.places.specs.LinePlace.{behind}
use Rattle.places.specs.declared.Place.{Place}
use Rattle.places.proofs.NextLine.{place_inside, place_cut}
use Rattle.places.proofs.offending_line.Goals as goal

pub overflow_add-end : goal.overflow_add-end
overflow_add-end c = omega (arith, place_inside _ _ _ c.line_place-place.ensures)

pub slice_bounds-result-end : goal.slice_bounds-result-end
slice_bounds-result-end c = omega (arith, place_inside _ _ _ c.line_place-place.ensures)

pub returns : goal.returns
returns c =
    let e = c.line_place-place.ensures in
    record { result_value = place_cut _ _ _ e; lent = ap (λ (p : Place). behind c.args.s.ref_ptr p.start) e }
