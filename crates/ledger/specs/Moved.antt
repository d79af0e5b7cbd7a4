-- For the code only: an entry by what it moves. Process 0 is outside the works.
use Rattle.std.specs.Prelude.{cond, ◌||◌, ℕ, ◌+◌, ◌-◌, eqb, ℤ}
use Rattle.quantity.specs.declared.Grams.{Grams}
use Rattle.goods.specs.Sums.{only_at}
use Rattle.ledger.specs.Raising.{raised_to_zero, grams_added}
use Rattle.ledger.specs.declared.Entry.{Entry}

abbrev grams : ℕ → Grams
grams n = record { 0 = n }

abbrev pub moved : (charged charge credited credit user electricity entering leaving uncredited : ℕ) → Entry
moved charged charge credited credit user electricity entering leaving uncredited = record {
  charged = charged;
  charge = grams charge;
  credited = credited;
  credit = grams credit;
  user = user;
  electricity = grams electricity;
  buyer = 0;
  direct = grams 0;
  indirect = grams 0;
  entering = grams entering;
  leaving = grams leaving;
  uncredited = grams uncredited;
}

-- a line that moves no grams
abbrev pub no_grams_moved : Entry
no_grams_moved = moved 0 0 0 0 0 0 0 0 0

-- a source stream: its process is charged with what is counted plus, and credited with what is counted minus
abbrev pub stream_moved : (process : ℕ) → (stream : ℤ) → Entry
stream_moved process stream =
    moved process (raised_to_zero stream) process (grams_added stream) 0 0 (raised_to_zero stream) (grams_added stream) 0

-- heat: its receiver is charged, and its sender credited as much
abbrev pub heat_moved : (from to weight : ℕ) → Entry
heat_moved from to weight = moved to weight from weight 0 0 (only_at 0 from weight) (only_at 0 to weight) 0

-- grams of a line between two processes, where neither end is outside
abbrev pub between_processes : (from to amount : ℕ) → ℕ
between_processes from to amount = cond (eqb 0 from || eqb 0 to) 0 amount

-- waste gas: its receiver is charged, and its sender credited with a part of the charge
abbrev pub gas_moved : (from to charge credit : ℕ) → Entry
gas_moved from to charge credit =
    moved to charge from credit 0 0 (only_at 0 from charge) (only_at 0 to credit) (between_processes from to (charge - credit))

-- power: its maker is credited, and it is its user's indirect attribution
abbrev pub electricity_moved : (from to weight : ℕ) → Entry
electricity_moved from to weight = moved 0 0 from weight to weight (only_at 0 from weight) (only_at 0 to weight) 0

-- a bought precursor: both figures enter the works
abbrev pub bought_moved : (buyer direct indirect : ℕ) → Entry
bought_moved buyer direct indirect = record {
  charged = 0;
  charge = grams 0;
  credited = 0;
  credit = grams 0;
  user = 0;
  electricity = grams 0;
  buyer = buyer;
  direct = grams direct;
  indirect = grams indirect;
  entering = grams (direct + indirect);
  leaving = grams 0;
  uncredited = grams 0;
}
