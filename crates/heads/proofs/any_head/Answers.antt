-- `any_head` meets its contract. Assumes nothing.
use mathlib.Core.Path.{refl}
use Rattle.heads.proofs.Heads.{any_head}
use Rattle.heads.proofs.any_head.Goals as goal

pub returns : goal.returns
returns c =
    let e = c.first_end-end.ensures in
    (any_head _ _ _ _ c.requires e.value e.bounded c.letter_in.ensures, refl)
