-- `line_end` meets its contract: the first LF is found by the library's search. Assumes nothing.
use mathlib.Core.Path.{◌≡◌, sym, ap, ◌∙◌}
use Prim.Native.Nat.{◌+◌}
use Rattle.std.proofs.Common.{rules, tests, length, le_refl}
use Rattle.std.proofs.lemmas.Slice.{between_to_end}
use Rattle.std.proofs.lemmas.Iterator.{IsFirst-from_position, YieldsList-from_slice}
use Rattle.lines.specs.Lines.{LF}
use Rattle.places.proofs.NextLine.{line_found}
use Rattle.places.proofs.line_end.Goals as goal

pub returns-clause-value : goal.returns-clause-value
returns-clause-value c =
    let s = c.args.s.now in
    let rest = between_to_end s c.args.start (length s) (le_refl _) in
    let first =
    IsFirst-from_position _ _ _ (λ b. b ≡ LF) (λ b. b ≡ LF → ⊥) c.position-length.ensures.ran (YieldsList-from_slice _ c.iter.ensures.rest)
    (λ x q k. search (rules, tests)) (λ x q k. search (rules, tests)) in
    rw rest at (ap (λ n. c.args.start + n) (c.unwrap_or.ensures ∙ sym (line_found _ _ first)))
