-- `works::Noted::none` meets its contract. Assumes nothing.
use Rattle.goods.proofs.Defaults.{zeros_by_default}
use Rattle.works.specs.Works.{noted_of}
use Rattle.works.proofs.Noted.none.Goals as goal

pub returns : goal.returns
returns c =
    let (lines, (count, (outputs, taken))) = c.default.ensures in
    λ i. noted_of (lines i) (count i) (zeros_by_default outputs i) (zeros_by_default taken i)
