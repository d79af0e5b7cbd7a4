-- What weighing a line asks of its words, and the entry that it leaves, by its kind. Assumes nothing.
use mathlib.Core.Path.{◌≡◌, refl}
use Prim.Native.Nat.{ℕ, ◌*◌, ◌≤◌}
use native.Mathlib.Nat.{mul-le-mul}
use native.Mathlib.Omega.{arith}
use Rattle.lines.specs.declared.LineRead.{LineRead}
use Rattle.quantity.specs.Limits.{limits}
use Rattle.quantity.specs.Ranges.{most_megajoules}
use Rattle.quantity.specs.Weights.{weight, waste_gas_charge, waste_gas_credit}
use Rattle.sheet.specs.Kinds.{letter, rules, specific_figure}
use Rattle.sheet.specs.declared.Kind.TheVariants.{MeasurableHeat, WasteGas, Electricity, BoughtPrecursor, PrecursorUse}
use Rattle.ledger.specs.Moved.{heat_moved, gas_moved, electricity_moved, bought_moved}
use Rattle.entries.specs.Weighed.{heat_of, charge_of, credit_of, electricity_of, bought_direct_of, bought_indirect_of}
use Rattle.entries.specs.Entries.{entry, used_entry}
use Rattle.entries.specs.Read.{record_read, LineKeeps}
use Rattle.entries.proofs.Ranges.{in_rules, are_words}
use Rattle.entries.proofs.OfKind.{w, kind_at, is_at, entry_at}

-- `H,from,to,MJ,factor`
module _ (l : LineRead) (keeps : LineKeeps l) (e : l.letter ≡ letter MeasurableHeat) where
  pub heat_asked : w l 2 * w l 3 ≤ 1000000000000000000
  unfolding rules
  heat_asked =
      let k = kind_at l MeasurableHeat e in
      let n = in_rules limits (record_read l) keeps.ranges MeasurableHeat k in
      let v = are_words l keeps MeasurableHeat k in
      rw (← v.1.1.0 refl, ← v.1.1.1.0 refl) (omega (arith, mul-le-mul (n.1.1.0 refl).high (n.1.1.1.0 refl).high))

  pub heat_entry : {g : ℕ} → g ≡ weight (w l 2) (w l 3) → heat_moved (w l 0) (w l 1) g ≡ entry (record_read l)
  unfolding rules heat_of
  heat_entry g =
      let v = are_words l keeps MeasurableHeat (kind_at l MeasurableHeat e) in
      rw (g, ← v.0 refl, ← v.1.0 refl, ← v.1.1.0 refl, ← v.1.1.1.0 refl) (rw (is_at l MeasurableHeat e) at (entry_at l MeasurableHeat e))

-- `W,from,to,MJ`
module _ (l : LineRead) (keeps : LineKeeps l) (e : l.letter ≡ letter WasteGas) where
  pub gas_asked : (1 ≤ w l 2) × (w l 2 ≤ most_megajoules)
  unfolding rules
  gas_asked =
      let k = kind_at l WasteGas e in
      let n = in_rules limits (record_read l) keeps.ranges WasteGas k in
      let v = are_words l keeps WasteGas k in
      (omega (arith, (n.1.1.0 refl).low, v.1.1.0 refl), omega (arith, (n.1.1.0 refl).high, v.1.1.0 refl))

  pub gas_entry : gas_moved (w l 0) (w l 1) (waste_gas_charge (w l 2)) (waste_gas_credit (w l 2)) ≡ entry (record_read l)
  unfolding rules charge_of credit_of
  gas_entry =
      let v = are_words l keeps WasteGas (kind_at l WasteGas e) in
      rw (← v.0 refl, ← v.1.0 refl, ← v.1.1.0 refl) (rw (is_at l WasteGas e) at (entry_at l WasteGas e))

-- `E,from,to,kWh,factor`
module _ (l : LineRead) (keeps : LineKeeps l) (e : l.letter ≡ letter Electricity) where
  pub electricity_asked : w l 2 * w l 3 ≤ 1000000000000000000
  unfolding rules
  electricity_asked =
      let k = kind_at l Electricity e in
      let n = in_rules limits (record_read l) keeps.ranges Electricity k in
      let v = are_words l keeps Electricity k in
      rw (← v.1.1.0 refl, ← v.1.1.1.0 refl) (omega (arith, mul-le-mul (n.1.1.0 refl).high (n.1.1.1.0 refl).high))

  pub electricity_entry : {g : ℕ} → g ≡ weight (w l 2) (w l 3) → electricity_moved (w l 0) (w l 1) g ≡ entry (record_read l)
  unfolding rules electricity_of
  electricity_entry g =
      let v = are_words l keeps Electricity (kind_at l Electricity e) in
      rw (g, ← v.0 refl, ← v.1.0 refl, ← v.1.1.0 refl, ← v.1.1.1.0 refl) (rw (is_at l Electricity e) at (entry_at l Electricity e))

-- `B,n,kg,direct,indirect`
module _ (l : LineRead) (keeps : LineKeeps l) (e : l.letter ≡ letter BoughtPrecursor) where
  pub direct_asked : w l 1 * w l 2 ≤ 1000000000000000000
  unfolding rules
  direct_asked =
      let k = kind_at l BoughtPrecursor e in
      let n = in_rules limits (record_read l) keeps.ranges BoughtPrecursor k in
      let v = are_words l keeps BoughtPrecursor k in
      rw (← v.1.0 refl, ← v.1.1.0 refl) (omega (arith, mul-le-mul (n.1.0 refl).high (n.1.1.0 refl).high))

  pub indirect_asked : w l 1 * w l 3 ≤ 1000000000000000000
  unfolding rules
  indirect_asked =
      let k = kind_at l BoughtPrecursor e in
      let n = in_rules limits (record_read l) keeps.ranges BoughtPrecursor k in
      let v = are_words l keeps BoughtPrecursor k in
      rw (← v.1.0 refl, ← v.1.1.1.0 refl) (omega (arith, mul-le-mul (n.1.0 refl).high (n.1.1.1.0 refl).high))

  pub bought_entry : {g h : ℕ} → g ≡ weight (w l 1) (w l 2) → h ≡ weight (w l 1) (w l 3) → bought_moved (w l 0) g h ≡ entry (record_read l)
  unfolding rules bought_direct_of bought_indirect_of
  bought_entry p q =
      let v = are_words l keeps BoughtPrecursor (kind_at l BoughtPrecursor e) in
      rw (p, q, ← v.0 refl, ← v.1.0 refl, ← v.1.1.0 refl, ← v.1.1.1.0 refl)
      (rw (is_at l BoughtPrecursor e) at (entry_at l BoughtPrecursor e))

-- `N,process,precursor,kg`
module _ (l : LineRead) (keeps : LineKeeps l) (e : l.letter ≡ letter PrecursorUse) where
  pub use_asked : (figure : ℕ) → figure ≤ specific_figure.highest → w l 2 * figure ≤ 1000000000000000000
  unfolding rules
  use_asked figure small =
      let k = kind_at l PrecursorUse e in
      let n = in_rules limits (record_read l) keeps.ranges PrecursorUse k in
      let v = are_words l keeps PrecursorUse k in
      rw (← v.1.1.0 refl) (omega (arith, mul-le-mul (n.1.1.0 refl).high small))

  pub use_entry : (direct indirect : ℕ) {g h : ℕ} → g ≡ weight (w l 2) direct → h ≡ weight (w l 2) indirect
      → bought_moved (w l 0) g h ≡ used_entry direct indirect (record_read l)
  unfolding rules
  use_entry direct indirect p q =
      let v = are_words l keeps PrecursorUse (kind_at l PrecursorUse e) in
      rw (p, q, ← v.0 refl, ← v.1.1.0 refl)
