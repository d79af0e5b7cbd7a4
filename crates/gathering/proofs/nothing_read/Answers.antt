-- `gathering::nothing_read` meets its contract. Assumes nothing.
use Rattle.goods.proofs.Defaults.{zeros_by_default}
use Rattle.ledger.specs.Ledger.{start}
use Rattle.works.specs.Works.{noted_of}
use Rattle.gathering.proofs.nothing_read.Goals as goal

pub returns : goal.returns
unfolding start
returns c =
    let ((lines, (count, (outputs, taken))), ledger) = c.default.ensures in
    let (balances, (indirect, (bought_direct, (bought_indirect, (entered, uncredited))))) = ledger in
    λ i. record {
      noted = noted_of (lines i) (count i) (zeros_by_default outputs i) (zeros_by_default taken i);
      ledger = record {
        balances = record { 0 = zeros_by_default balances i };
        indirect = record { 0 = zeros_by_default indirect i };
        bought_direct = record { 0 = zeros_by_default bought_direct i };
        bought_indirect = record { 0 = zeros_by_default bought_indirect i };
        totals = record { entered = record { 0 = entered i }; uncredited = record { 0 = uncredited i } };
      };
    }
