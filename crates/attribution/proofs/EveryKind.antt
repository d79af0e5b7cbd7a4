-- Kind by kind: the entry of a line is the parts of document 01's sums that the line makes; a line that is accepted is valid, its entry is even,
-- and it is small. A further kind of line is a clause of each. Assumes nothing.
use mathlib.Core.Path.{◌≡◌, refl, sym, ◌∙◌}
use mathlib.Core.Bool.{Bool, true, false, cond, ◌&&◌, ◌||◌, not}
use mathlib.Core.List.{List}
use Prim.Native.Nat.{ℕ, ◌+◌, ◌-◌, ◌≤◌, ◌<◌}
use native.Mathlib.Omega.{arith}
use lib.Dec.{eqb, ltb, leb}
use lib.IntN.{ℤ, pos, negsuc, nat_abs}
use borrow.Author.Tests.{eqb-true, eqb-false, ltb-true, leb-true, not-false}
use Rattle.decimal.proofs.Bools.{never, and_both, or_neither}
use Rattle.quantity.specs.Limits.{Limits, limits}
use Rattle.quantity.specs.Ranges.{most_grams}
use Rattle.quantity.proofs.Small.{weight_small, charge_small, stream_small}
use Rattle.quantity.proofs.Weights.{credit_below_charge}
use Rattle.lines.specs.Records.{Record, number_at}
use Rattle.sheet.specs.Kinds.{kind, is, rules}
use Rattle.sheet.specs.declared.Kind.{Kind}
use Rattle.sheet.specs.declared.Kind.TheVariants.{Process, SourceStream, MeasurableHeat, WasteGas, Electricity, BoughtPrecursor, OwnGood}
use Rattle.sheet.specs.declared.Kind.TheVariants.{PrecursorFigures, PrecursorUse, Unknown}
use Rattle.sheet.specs.Refusals.{process, from, to, has_process, missing_process, ends_not_allowed}
use Rattle.sheet.specs.Ranges.{KeepsRanges}
use Rattle.sheet.specs.Verdict.{All}
use Rattle.sheet.proofs.Table.{is_kind}
use Rattle.goods.specs.Sums.{sum_to, only_at}
use Rattle.goods.proofs.Sums.{at_le, at_none, at_outside}
use Rattle.ledger.specs.Ledger.{SmallGrams, Small}
use Rattle.ledger.specs.Raising.{raised_to_zero, grams_added}
use Rattle.ledger.specs.declared.Entry.{Entry}
use Rattle.ledger.specs.Moved.{between_processes}
use Rattle.entries.specs.Weighed.{stream_of, heat_of, charge_of, credit_of, electricity_of, bought_direct_of, bought_indirect_of}
use Rattle.entries.specs.Entries.{entry_of, entry}
use Rattle.attribution.specs.Reckoning.{process_count, output, kilos_between}
use Rattle.entries.proofs.Ranges.{in_rules}
use Rattle.entries.proofs.Streams.{process_range, stream_range}

-- ---- what the records of every sheet have by which no row 1 to 14, 17 or 18 applies

-- a line of each kind, in a works of n processes
abbrev pub ValidOf : (n : ℕ) → Kind → Record → Type 0
ValidOf n Process r = (1 ≤ process r) × (process r ≤ n)
ValidOf n SourceStream r = (1 ≤ process r) × (process r ≤ n)
ValidOf n MeasurableHeat r = (from r ≤ n) × (to r ≤ n)
ValidOf n WasteGas r = (from r ≤ n) × (to r ≤ n) × (from r ≡ to r → ⊥) × (1 ≤ number_at r 2)
ValidOf n Electricity r = (from r ≤ n) × (to r ≤ n)
ValidOf n BoughtPrecursor r = (1 ≤ process r) × (process r ≤ n)
ValidOf n OwnGood r = (1 ≤ from r) × (from r < to r) × (to r ≤ n)
ValidOf n PrecursorFigures r = Unit {0}
ValidOf n PrecursorUse r = (1 ≤ process r) × (process r ≤ n)
ValidOf n Unknown r = ⊥

abbrev pub Valid : (n : ℕ) → Record → Type 0
Valid n r = ValidOf n (kind r) r

-- every line is valid, and no more is taken of a good than its output
pub record Accepted (rs : List Record) : Type 0 where
  pub valid : All (Valid (process_count rs)) rs
  pub within : (i : ℕ) → sum_to (process_count rs) (kilos_between rs i) ≤ output rs i

-- ---- what an entry puts into process k and takes from it

abbrev pub plus : (k : ℕ) → Record → ℕ
plus k r = only_at k (entry r).charged (entry r).charge.0

abbrev pub minus : (k : ℕ) → Record → ℕ
minus k r = only_at k (entry r).credited (entry r).credit.0

-- the parts of document 01's sums that one record makes, and the same by its entry: what is added and taken, used, bought, entering and leaving
-- the works, and uncredited
abbrev Parts : (i : ℕ) → Record → Type 0
Parts i r =
    (only_at i (process r) (raised_to_zero (stream_of r)) + only_at i (to r) (heat_of r) + only_at i (to r) (charge_of r) ≡ plus i r)
    × (only_at i (process r) (grams_added (stream_of r)) + only_at i (from r) (heat_of r) + only_at i (from r) (credit_of r)
    + only_at i (from r) (electricity_of r) ≡ minus i r)
    × (only_at i (to r) (electricity_of r) ≡ only_at i (entry r).user (entry r).electricity.0)
    × (only_at i (process r) (bought_direct_of r) ≡ only_at i (entry r).buyer (entry r).direct.0)
    × (only_at i (process r) (bought_indirect_of r) ≡ only_at i (entry r).buyer (entry r).indirect.0)
    × (raised_to_zero (stream_of r) + only_at 0 (from r) (heat_of r) + only_at 0 (from r) (charge_of r) + only_at 0 (from r) (electricity_of r)
    + bought_direct_of r + bought_indirect_of r ≡ (entry r).entering.0)
    × (grams_added (stream_of r) + only_at 0 (to r) (heat_of r) + only_at 0 (to r) (credit_of r) + only_at 0 (to r) (electricity_of r) ≡ (entry r).leaving.0)
    × (between_processes (from r) (to r) (charge_of r - credit_of r) ≡ (entry r).uncredited.0)

-- an amount of 0 counts nowhere
record Nothing (i : ℕ) (r : Record) : Type 0 where
  at_i : only_at i 0 0 ≡ 0
  at_from : only_at i (from r) 0 ≡ 0
  at_to : only_at i (to r) 0 ≡ 0
  from_outside : only_at 0 (from r) 0 ≡ 0
  to_outside : only_at 0 (to r) 0 ≡ 0
  between : between_processes (from r) (to r) 0 ≡ 0

nothing : (i : ℕ) (r : Record) → Nothing i r
nothing i r = record {
  at_i = at_none i 0;
  at_from = at_none i (from r);
  at_to = at_none i (to r);
  from_outside = at_none 0 (from r);
  to_outside = at_none 0 (to r);
  between = either (eqb 0 (from r) || eqb 0 (to r));
}
  where
    either : (b : Bool) → ◌≡◌ {A = ℕ} (cond b 0 0) 0
    either true = refl
    either false = refl

pub parts_of : (i : ℕ) (r : Record) → Parts i r
unfolding stream_of heat_of charge_of credit_of electricity_of bought_direct_of bought_indirect_of
parts_of i r = go (kind r) refl
  where
    none : Nothing i r
    none = nothing i r

    go : (k : Kind) → kind r ≡ k → Parts i r
    go Process e = simp e (omega (arith, none))
    go SourceStream e = simp e (omega (arith, none))
    go MeasurableHeat e = simp e (omega (arith, none))
    go WasteGas e = simp e (omega (arith, none))
    go Electricity e = simp e (omega (arith, none))
    go BoughtPrecursor e = simp e (omega (arith, none))
    go OwnGood e = simp e (omega (arith, none))
    go PrecursorFigures e = simp e (omega (arith, none))
    go PrecursorUse e = simp e (omega (arith, none))
    go Unknown e = simp e (omega (arith, none))

-- ---- a valid line makes an even entry

pub record Even (n : ℕ) (e : Entry) : Type 0 where
  pub charged_in : e.charged ≤ n
  pub credited_in : e.credited ≤ n
  pub user_in : e.user ≤ n
  pub buyer_in : e.buyer ≤ n
  pub even :
      (e.charge.0 - only_at 0 e.charged e.charge.0) + (e.electricity.0 - only_at 0 e.user e.electricity.0)
      + (e.direct.0 - only_at 0 e.buyer e.direct.0) + (e.indirect.0 - only_at 0 e.buyer e.indirect.0) + e.leaving.0
      ≡ (e.credit.0 - only_at 0 e.credited e.credit.0) + e.entering.0 + e.uncredited.0

-- a transfer of waste gas: its receiver is charged more than its sender is credited
gas_even : (f t charge credit : ℕ) → (f ≡ t → ⊥) → credit < charge
    → (charge - only_at 0 t charge) + only_at 0 t credit ≡ (credit - only_at 0 f credit) + only_at 0 f charge + cond (eqb 0 f || eqb 0 t) 0 (charge - credit)
unfolding only_at
gas_even f t charge credit ne lt = go (eqb 0 f) refl (eqb 0 t) refl
  where
    go : (a : Bool) → eqb 0 f ≡ a → (b : Bool) → eqb 0 t ≡ b
        → (charge - cond b charge 0) + cond b credit 0 ≡ (credit - cond a credit 0) + cond a charge 0 + cond (a || b) 0 (charge - credit)
    go true p true q = absurd (ne (sym (eqb-true 0 f p) ∙ eqb-true 0 t q))
    go true p false q = omega arith
    go false p true q = omega arith
    go false p false q = omega arith

-- the credit of a W line is below its charge
pub gas_credited_lem : (r : Record) → kind r ≡ WasteGas → 1 ≤ number_at r 2 → credit_of r < charge_of r
unfolding charge_of credit_of
gas_credited_lem r e h = rw (is_kind WasteGas r e) (credit_below_charge (number_at r 2) h)

even_of : (n : ℕ) (k : Kind) (r : Record) → kind r ≡ k → ValidOf n k r → Even n (entry_of k r)
even_of n Process r e v = omega (arith, at_none 0 0)
even_of n SourceStream r e v =
    omega (
      arith,
      at_none 0 0,
      at_outside (process r) (raised_to_zero (stream_of r)) v.0,
      at_outside (process r) (grams_added (stream_of r)) v.0,
    )
even_of n MeasurableHeat r e v = omega (arith, at_none 0 0, at_le 0 (from r) (heat_of r), at_le 0 (to r) (heat_of r))
even_of n WasteGas r e v = omega (arith, at_none 0 0, gas_even (from r) (to r) (charge_of r) (credit_of r) v.2 (gas_credited_lem r e v.3))
even_of n Electricity r e v = omega (arith, at_none 0 0, at_le 0 (from r) (electricity_of r), at_le 0 (to r) (electricity_of r))
even_of n BoughtPrecursor r e v =
    omega (arith, at_none 0 0, at_outside (process r) (bought_direct_of r) v.0, at_outside (process r) (bought_indirect_of r) v.0)
even_of n OwnGood r e v = omega (arith, at_none 0 0)
even_of n PrecursorFigures r e v = omega (arith, at_none 0 0)
even_of n PrecursorUse r e v = omega (arith, at_none 0 0)
even_of n Unknown r e v = absurd v

pub valid_even : (n : ℕ) (r : Record) → Valid n r → Even n (entry r)
valid_even n r v = even_of n (kind r) r refl v

-- ---- what acceptance shows: a line is valid

module _ (limits : Limits) (above : List Record) (n : ℕ) (named_in : (p : ℕ) → not (has_process above p) ≡ false → p ≤ n) where
  -- a kind that names one process, and a kind that names two
  one_named : (p : ℕ) → (not (has_process above p) || false) ≡ false → p ≤ n
  one_named p h = named_in p (or_neither (not (has_process above p)) false h).0

  both_named : (f t : ℕ) → (not (has_process above f) || not (has_process above t)) ≡ false → (f ≤ n) × (t ≤ n)
  both_named f t h =
      let q = or_neither (not (has_process above f)) (not (has_process above t)) h in
      (named_in f q.0, named_in t q.1)

  pub valid_of : (k : Kind) (r : Record) → kind r ≡ k → KeepsRanges limits r → (is Process r ≡ true → process r ≤ n) → missing_process above r ≡ false
      → ends_not_allowed r ≡ false → ValidOf n k r
  unfolding rules
  valid_of Process r e keeps p m a = (((in_rules limits r keeps Process e).0 refl).low, p (is_kind Process r e))
  valid_of SourceStream r e keeps p m a = (((in_rules limits r keeps SourceStream e).0 refl).low, one_named (process r) (rw e at m))
  valid_of MeasurableHeat r e keeps p m a = both_named (from r) (to r) (rw e at m)
  valid_of WasteGas r e keeps p m a =
      let b = both_named (from r) (to r) (rw e at m) in
      (b.0, b.1, eqb-false (from r) (to r) (rw e at a), ((in_rules limits r keeps WasteGas e).1.1.0 refl).low)
  valid_of Electricity r e keeps p m a = both_named (from r) (to r) (rw e at m)
  valid_of BoughtPrecursor r e keeps p m a = (((in_rules limits r keeps BoughtPrecursor e).0 refl).low, one_named (process r) (rw e at m))
  valid_of OwnGood r e keeps p m a =
      let q = and_both (leb 1 (from r)) (ltb (from r) (to r)) (not-false (leb 1 (from r) && ltb (from r) (to r)) (rw e at a)) in
      (leb-true 1 (from r) q.0, ltb-true (from r) (to r) q.1, (both_named (from r) (to r) (rw e at m)).1)
  valid_of PrecursorFigures r e keeps p m a = tt
  valid_of PrecursorUse r e keeps p m a = (((in_rules limits r keeps PrecursorUse e).0 refl).low, one_named (process r) (rw e at m))
  valid_of Unknown r e keeps p m a = absurd (never (rw e at (sym keeps.known)))

-- ---- its entry is small

-- the parts of a signed number are no greater than it, its sign aside
parts_le : (z : ℤ) (most : ℕ) → nat_abs z ≤ most → (raised_to_zero z ≤ most) × (grams_added z ≤ most)
parts_le (pos n) most h = (h, omega arith)
parts_le (negsuc n) most h = (omega arith, h)

between_le : (f t grams : ℕ) → between_processes f t grams ≤ grams
between_le f t grams = go (eqb 0 f || eqb 0 t)
  where
    go : (b : Bool) → cond b 0 grams ≤ grams
    go true = omega arith
    go false = omega arith

module _ (limits : Limits) (r : Record) (keeps : KeepsRanges limits r) where
  stream_le : kind r ≡ SourceStream → (raised_to_zero (stream_of r) ≤ most_grams) × (grams_added (stream_of r) ≤ most_grams)
  unfolding stream_of
  stream_le e = parts_le (stream_of r) most_grams (rw (is_kind SourceStream r e) (stream_small _ _ _ _ _ _ (stream_range limits r keeps e)))

  heat_le : kind r ≡ MeasurableHeat → heat_of r ≤ most_grams
  unfolding rules heat_of
  heat_le e =
      let n = in_rules limits r keeps MeasurableHeat e in
      rw (is_kind MeasurableHeat r e) (weight_small _ _ 1000000000000 400000 most_grams (n.1.1.0 refl).high (n.1.1.1.0 refl).high (omega arith))

  gas_le : kind r ≡ WasteGas → (charge_of r ≤ most_grams) × (credit_of r ≤ charge_of r)
  unfolding rules charge_of credit_of
  gas_le e =
      let n = in_rules limits r keeps WasteGas e in
      rw (is_kind WasteGas r e) (charge_small (number_at r 2) (n.1.1.0 refl).high, omega (arith, credit_below_charge (number_at r 2) (n.1.1.0 refl).low))

  electricity_le : kind r ≡ Electricity → electricity_of r ≤ most_grams
  unfolding rules electricity_of
  electricity_le e =
      let n = in_rules limits r keeps Electricity e in
      rw (is_kind Electricity r e) (weight_small _ _ 100000000000 2000000 most_grams (n.1.1.0 refl).high (n.1.1.1.0 refl).high (omega arith))

  bought_le : kind r ≡ BoughtPrecursor → (bought_direct_of r ≤ most_grams) × (bought_indirect_of r ≤ most_grams)
  unfolding rules bought_direct_of bought_indirect_of
  bought_le e =
      let n = in_rules limits r keeps BoughtPrecursor e in
      let mass = (n.1.0 refl).high in
      rw (is_kind BoughtPrecursor r e) (
        weight_small _ _ 10000000000 100000000 most_grams mass (n.1.1.0 refl).high (omega arith),
        weight_small _ _ 10000000000 100000000 most_grams mass (n.1.1.1.0 refl).high (omega arith),
      )

grams_of : (limits : Limits) (j : Kind) (r : Record) → kind r ≡ j → KeepsRanges limits r → SmallGrams (entry_of j r)
grams_of limits Process r e keeps = omega arith
grams_of limits SourceStream r e keeps = let g = stream_le limits r keeps e in omega arith
grams_of limits MeasurableHeat r e keeps =
    omega (arith, heat_le limits r keeps e, at_le 0 (from r) (heat_of r), at_le 0 (to r) (heat_of r))
grams_of limits WasteGas r e keeps =
    let g = gas_le limits r keeps e in
    omega (
      arith,
      at_le 0 (from r) (charge_of r),
      at_le 0 (to r) (credit_of r),
      between_le (from r) (to r) (charge_of r - credit_of r),
    )
grams_of limits Electricity r e keeps =
    omega (arith, electricity_le limits r keeps e, at_le 0 (from r) (electricity_of r), at_le 0 (to r) (electricity_of r))
grams_of limits BoughtPrecursor r e keeps = let g = bought_le limits r keeps e in omega arith
grams_of limits OwnGood r e keeps = omega arith
grams_of limits PrecursorFigures r e keeps = omega arith
grams_of limits PrecursorUse r e keeps = omega arith
grams_of limits Unknown r e keeps = omega arith

-- whatever the limits
pub small_grams : (limits : Limits) (r : Record) → KeepsRanges limits r → SmallGrams (entry r)
small_grams limits r keeps = grams_of limits (kind r) r refl keeps

-- and its processes have a place
small_of : (j : Kind) (r : Record) → kind r ≡ j → KeepsRanges limits r → Small (entry_of j r)
unfolding rules
small_of Process r e keeps = let g = grams_of limits Process r e keeps in omega arith
small_of SourceStream r e keeps =
    let p = process_range limits r keeps e in
    let g = grams_of limits SourceStream r e keeps in
    omega arith
small_of MeasurableHeat r e keeps =
    let n = in_rules limits r keeps MeasurableHeat e in
    let g = grams_of limits MeasurableHeat r e keeps in
    omega (arith, (n.0 refl).high, (n.1.0 refl).high)
small_of WasteGas r e keeps =
    let n = in_rules limits r keeps WasteGas e in
    let g = grams_of limits WasteGas r e keeps in
    omega (arith, (n.0 refl).high, (n.1.0 refl).high)
small_of Electricity r e keeps =
    let n = in_rules limits r keeps Electricity e in
    let g = grams_of limits Electricity r e keeps in
    omega (arith, (n.0 refl).high, (n.1.0 refl).high)
small_of BoughtPrecursor r e keeps =
    let n = in_rules limits r keeps BoughtPrecursor e in
    let g = grams_of limits BoughtPrecursor r e keeps in
    omega (arith, (n.0 refl).high)
small_of OwnGood r e keeps = let g = grams_of limits OwnGood r e keeps in omega arith
small_of PrecursorFigures r e keeps = let g = grams_of limits PrecursorFigures r e keeps in omega arith
small_of PrecursorUse r e keeps = let g = grams_of limits PrecursorUse r e keeps in omega arith
small_of Unknown r e keeps = let g = grams_of limits Unknown r e keeps in omega arith

pub small_entry : (r : Record) → KeepsRanges limits r → Small (entry r)
small_entry r keeps = small_of (kind r) r refl keeps
