-- Each N line as the B line with the governing figures: what the works then has the same, and what is bought and entered besides. Assumes nothing.
use mathlib.Core.Path.{◌≡◌, refl, sym, ap, ap₂, ◌∙◌}
use mathlib.Core.Logic.{◌↔◌}
use mathlib.Core.Bool.{Bool, true, false, true≢false, cond, ◌||◌}
use mathlib.Core.List.{List, [], ◌∷◌, ◌++◌, map}
use Prim.Native.Nat.{ℕ, ◌+◌}
use native.Mathlib.Omega.{arith}
use lib.IntN.{pos, ◌+ℤ◌}
use Rattle.decimal.proofs.Bools.{never}
use Rattle.quantity.specs.Limits.{Limits}
use Rattle.quantity.specs.Weights.{weight}
use Rattle.lines.specs.Records.{number, Record, records_of, number_at}
use Rattle.sheet.specs.Kinds.{letter, kind_of, kind_among, kind, is}
use Rattle.sheet.specs.declared.Kind.{Kind}
use Rattle.sheet.specs.declared.Kind.TheVariants.{Process, BoughtPrecursor, OwnGood, PrecursorFigures, PrecursorUse}
use Rattle.sheet.specs.Refusals.{any_of, sum_of, process, from, to, used_precursor, output_in, taken_in}
use Rattle.sheet.specs.Verdict.{sheet_checks, All, Passes}
use Rattle.sheet.proofs.Table.{kind_is}
use Rattle.goods.specs.Sums.{only_at}
use Rattle.goods.proofs.Sums.{sum_ext, at_none}
use Rattle.ledger.specs.declared.Entry.{Entry}
use Rattle.ledger.specs.Moved.{no_grams_moved}
use Rattle.entries.specs.Weighed.{bought_direct_of, bought_indirect_of}
use Rattle.entries.specs.Entries.{entry_of, entry, used_entry}
use Rattle.attribution.specs.Attribution.{balance, direct, indirect, bought_direct, bought_indirect}
use Rattle.attribution.specs.Reckoning.{kilos_of, process_count, output, kilos_between}
use Rattle.attribution.specs.Reckoning.{entered, uncredited}
use Rattle.attribution.specs.Governing.{governing_direct, governing_indirect, as_bought, governed}
use Rattle.attribution.specs.Exact.{GasBetween, NothingAdded}
use Rattle.attribution.proofs.Differences.{diff, diff_plus}
use Rattle.attribution.proofs.Sums.{of_same, of_more, of_among}
use Rattle.attribution.proofs.EveryKind.{Valid, Accepted, plus, minus}
use Rattle.attribution.proofs.Valid.{sheet_accepted}
use Rattle.attribution.proofs.Entries.{figures, balance_is, entered_is}

-- ---- what a line adds to document 01's sums, purchases aside

pub data Part : Type 0 where
  counted : Part
  made : (k : ℕ) → Part
  taken : (k : ℕ) → Part
  given : (i j : ℕ) → Part
  added : (k : ℕ) → Part
  credited : (k : ℕ) → Part
  used : (k : ℕ) → Part
  left_works : Part
  not_credited : Part

abbrev pub part : Part → Record → ℕ
part counted r = cond (is Process r) 1 0
part (made k) r = output_in k r
part (taken k) r = taken_in k r
part (given i j) r = only_at i (from r) (only_at j (to r) (kilos_of r))
part (added k) r = plus k r
part (credited k) r = minus k r
part (used k) r = only_at k (entry r).user (entry r).electricity.0
part left_works r = (entry r).leaving.0
part not_credited r = (entry r).uncredited.0

-- and its purchases
abbrev pub direct_part : (k : ℕ) → Record → ℕ
direct_part k r = only_at k (entry r).buyer (entry r).direct.0

abbrev pub indirect_part : (k : ℕ) → Record → ℕ
indirect_part k r = only_at k (entry r).buyer (entry r).indirect.0

abbrev pub entering_part : Record → ℕ
entering_part r = (entry r).entering.0

-- a line that states no process and takes no good, and of whose entry nothing but purchases moves
record Still (r : Record) : Type 0 where
  no_process : is Process r ≡ false
  no_good : is OwnGood r ≡ false
  charge : (entry r).charge.0 ≡ 0
  credit : (entry r).credit.0 ≡ 0
  electricity : (entry r).electricity.0 ≡ 0
  leaving : (entry r).leaving.0 ≡ 0
  uncredited : (entry r).uncredited.0 ≡ 0

no_goods : (i j f t : ℕ) → only_at i f (only_at j t 0) ≡ 0
no_goods i j f t = ap (only_at i f) (at_none j t) ∙ at_none i f

no_part : (r : Record) → Still r → (c : Part) → part c r ≡ 0
unfolding kilos_of
no_part r s counted = rw s.no_process
no_part r s (made k) = rw s.no_process
no_part r s (taken k) = rw s.no_good
no_part r s (given i j) = rw s.no_good (no_goods i j (from r) (to r))
no_part r s (added k) = ap (only_at k (entry r).charged) s.charge ∙ at_none k (entry r).charged
no_part r s (credited k) = ap (only_at k (entry r).credited) s.credit ∙ at_none k (entry r).credited
no_part r s (used k) = ap (only_at k (entry r).user) s.electricity ∙ at_none k (entry r).user
no_part r s left_works = s.leaving
no_part r s not_credited = s.uncredited

figures_still : (r : Record) → kind r ≡ PrecursorFigures → Still r
figures_still r e = record {
  no_process = rw e;
  no_good = rw e;
  charge = rw e;
  credit = rw e;
  electricity = rw e;
  leaving = rw e;
  uncredited = rw e;
}

use_still : (r : Record) → kind r ≡ PrecursorUse → Still r
use_still r e = record {
  no_process = rw e;
  no_good = rw e;
  charge = rw e;
  credit = rw e;
  electricity = rw e;
  leaving = rw e;
  uncredited = rw e;
}

bought_still : (r : Record) → kind r ≡ BoughtPrecursor → Still r
bought_still r e = record {
  no_process = rw e;
  no_good = rw e;
  charge = rw e;
  credit = rw e;
  electricity = rw e;
  leaving = rw e;
  uncredited = rw e;
}

-- ---- one line for another: the same but for so many grams bought

pub record Turned (r q : Record) (d i : ℕ) : Type 0 where
  pub same : (c : Part) → part c q ≡ part c r
  pub direct : (k : ℕ) → direct_part k q ≡ direct_part k r + only_at k (process r) d
  pub indirect : (k : ℕ) → indirect_part k q ≡ indirect_part k r + only_at k (process r) i
  pub entering : entering_part q ≡ entering_part r + (d + i)

-- the grams of an N line by the governing figures, 0 for a line of another kind
module _ (rs : List Record) (r : Record) where
  abbrev pub used_direct_of : ℕ
  used_direct_of = cond (is PrecursorUse r) (weight (number_at r 2) (governing_direct rs (used_precursor r))) 0

  abbrev pub used_indirect_of : ℕ
  used_indirect_of = cond (is PrecursorUse r) (weight (number_at r 2) (governing_indirect rs (used_precursor r))) 0

entry_is : (r : Record) (j : Kind) → kind r ≡ j → entry r ≡ entry_of j r
entry_is r j e = ap (λ (k : Kind). entry_of k r) e

abbrev bought : (r : Record) (d i : ℕ) → Record
bought r d i = record { letter = letter BoughtPrecursor; said = number (process r) ∷ number (number_at r 2) ∷ number d ∷ number i ∷ [] }

bought_kind : (r : Record) (d i : ℕ) → kind (bought r d i) ≡ BoughtPrecursor
unfolding kind_of kind_among
bought_kind r d i = refl

bought_entry : (r : Record) (d i : ℕ) → entry (bought r d i) ≡ used_entry d i r
unfolding kind_of kind_among bought_direct_of bought_indirect_of
bought_entry r d i = refl

module _ (rs : List Record) (r : Record) where
  pub turned : Turned r (as_bought rs r) (used_direct_of rs r) (used_indirect_of rs r)
  unfolding as_bought
  turned = go (is PrecursorUse r) refl
    where
      d : ℕ
      d = governing_direct rs (used_precursor r)

      i : ℕ
      i = governing_indirect rs (used_precursor r)

      go : (b : Bool) → is PrecursorUse r ≡ b
          → Turned r (cond b (bought r d i) r) (cond b (weight (number_at r 2) d) 0) (cond b (weight (number_at r 2) i) 0)
      go true e =
          let n = kind_is PrecursorUse r e in
          let b = bought_entry r d i in
          record {
            same = λ c. no_part (bought r d i) (bought_still (bought r d i) (bought_kind r d i)) c ∙ sym (no_part r (use_still r n) c);
            direct = λ k.
                let x : direct_part k (bought r d i) ≡ only_at k (process r) (weight (number_at r 2) d) =
                ap (λ (e : Entry). only_at k e.buyer e.direct.0) b in
                let y : direct_part k r ≡ only_at k 0 0 = ap (λ (e : Entry). only_at k e.buyer e.direct.0) (entry_is r PrecursorUse n) in
                omega (arith, x, y, at_none k 0);
            indirect = λ k.
                let x : indirect_part k (bought r d i) ≡ only_at k (process r) (weight (number_at r 2) i) =
                ap (λ (e : Entry). only_at k e.buyer e.indirect.0) b in
                let y : indirect_part k r ≡ only_at k 0 0 = ap (λ (e : Entry). only_at k e.buyer e.indirect.0) (entry_is r PrecursorUse n) in
                omega (arith, x, y, at_none k 0);
            entering =
                ap (λ (e : Entry). e.entering.0) b
                ∙ (let y : entering_part r ≡ 0 = ap (λ (e : Entry). e.entering.0) (entry_is r PrecursorUse n) in omega (arith, y));
          }
      go false e = record {
        same = λ c. refl;
        direct = λ k. omega (arith, at_none k (process r));
        indirect = λ k. omega (arith, at_none k (process r));
        entering = omega arith;
      }

  -- the entry of an N line: that of the B line with the governing figures
  pub entry_bought : is PrecursorUse r ≡ true
      → entry (as_bought rs r) ≡ used_entry (governing_direct rs (used_precursor r)) (governing_indirect rs (used_precursor r)) r
  unfolding as_bought
  entry_bought e = rw e (bought_entry r _ _)

-- an N line's own entry moves nothing, and any other record stays
pub use_moves_nothing : (r : Record) → is PrecursorUse r ≡ true → entry r ≡ no_grams_moved
use_moves_nothing r e = entry_is r PrecursorUse (kind_is PrecursorUse r e)

pub other_stays : (rs : List Record) (r : Record) → is PrecursorUse r ≡ false → as_bought rs r ≡ r
unfolding as_bought
other_stays rs r e = rw e

-- SHEETS WITHOUT N LINES: the records stay
none_used : (rs xs : List Record) → any_of (is PrecursorUse) xs ≡ false → map (as_bought rs) xs ≡ xs
unfolding any_of
none_used rs [] h = refl
none_used rs (x ∷ xs) h = go (is PrecursorUse x) refl h (none_used rs xs)
  where
    go : (b : Bool) → is PrecursorUse x ≡ b → (b || any_of (is PrecursorUse) xs) ≡ false
        → (any_of (is PrecursorUse) xs ≡ false → map (as_bought rs) xs ≡ xs) → map (as_bought rs) (x ∷ xs) ≡ x ∷ xs
    go true e h ih = absurd (true≢false h)
    go false e h ih = ap₂ (λ (y : Record) (ys : List Record). y ∷ ys) (other_stays rs x e) (ih h)

pub governed_unused : (rs : List Record) → any_of (is PrecursorUse) rs ≡ false → governed rs ≡ rs
unfolding governed
governed_unused rs h = none_used rs rs h

-- ---- the sums of two lists of records

-- the figures of qs are those of rs, but for so many grams bought by each process, and so many entered
pub record More (rs qs : List Record) (d i : (k : ℕ) → ℕ) (e : ℕ) : Type 0 where
  pub counted_is : process_count qs ≡ process_count rs
  pub output_is : (k : ℕ) → output qs k ≡ output rs k
  pub taken_is : (k : ℕ) → sum_of (taken_in k) qs ≡ sum_of (taken_in k) rs
  pub kilos_is : (f t : ℕ) → kilos_between qs f t ≡ kilos_between rs f t
  pub balance_same : (k : ℕ) → balance qs k ≡ balance rs k
  pub indirect_is : (k : ℕ) → indirect qs k ≡ indirect rs k
  pub bought_direct_is : (k : ℕ) → bought_direct qs k ≡ bought_direct rs k + d k
  pub bought_indirect_is : (k : ℕ) → bought_indirect qs k ≡ bought_indirect rs k + i k
  pub entered_more : entered qs ≡ entered rs +ℤ pos e
  pub uncredited_is : uncredited qs ≡ uncredited rs

module _ (rs qs : List Record) (d i : (k : ℕ) → ℕ) (e : ℕ) where
  more : ((c : Part) → sum_of (part c) qs ≡ sum_of (part c) rs)
      → ((k : ℕ) → sum_of (direct_part k) qs ≡ sum_of (direct_part k) rs + d k)
      → ((k : ℕ) → sum_of (indirect_part k) qs ≡ sum_of (indirect_part k) rs + i k)
      → sum_of entering_part qs ≡ sum_of entering_part rs + e
      → More rs qs d i e
  unfolding process_count output kilos_between indirect
  more same direct indirect entering = record {
    counted_is = same counted;
    output_is = λ k. same (made k);
    taken_is = λ k. same (taken k);
    kilos_is = λ f t. same (given f t);
    balance_same = λ k. balance_is qs k ∙ ap₂ diff (same (added k)) (same (credited k)) ∙ sym (balance_is rs k);
    indirect_is = λ k. (figures k qs).used ∙ same (used k) ∙ sym (figures k rs).used;
    bought_direct_is = λ k. omega (arith, (figures k qs).direct, (figures k rs).direct, direct k);
    bought_indirect_is = λ k. omega (arith, (figures k qs).indirect, (figures k rs).indirect, indirect k);
    entered_more =
        entered_is qs ∙ ap₂ diff entering (same left_works)
        ∙ sym (diff_plus (sum_of entering_part rs) (sum_of (part left_works) rs) e)
        ∙ ap (λ z. z +ℤ pos e) (sym (entered_is rs));
    uncredited_is = (figures 0 qs).uncredited ∙ same not_credited ∙ sym (figures 0 rs).uncredited;
  }

-- ALL N LINES AT ONCE
abbrev pub used_direct : (rs : List Record) → (k : ℕ) → ℕ
used_direct rs k = sum_of (λ r. only_at k (process r) (used_direct_of rs r)) rs

abbrev pub used_indirect : (rs : List Record) → (k : ℕ) → ℕ
used_indirect rs k = sum_of (λ r. only_at k (process r) (used_indirect_of rs r)) rs

pub governed_more : (rs : List Record)
    → More rs (governed rs) (used_direct rs) (used_indirect rs) (sum_of (λ r. used_direct_of rs r + used_indirect_of rs r) rs)
unfolding governed
governed_more rs =
    more rs (map (as_bought rs) rs) _ _ _
    (λ c. of_same (part c) (as_bought rs) (λ r. (turned rs r).same c) rs)
    (λ k. of_more (direct_part k) _ (as_bought rs) (λ r. (turned rs r).direct k) rs)
    (λ k. of_more (indirect_part k) _ (as_bought rs) (λ r. (turned rs r).indirect k) rs)
    (of_more entering_part _ (as_bought rs) (λ r. (turned rs r).entering) rs)

-- A K LINE MOVES NOTHING
pub figures_more : (us : List Record) (r : Record) (vs : List Record) → is PrecursorFigures r ≡ true
    → More (us ++ vs) (us ++ (r ∷ vs)) (λ k. 0) (λ k. 0) 0
figures_more us r vs e =
    let n = kind_is PrecursorFigures r e in
    more (us ++ vs) (us ++ (r ∷ vs)) _ _ _
    (λ c. omega (arith, of_among (part c) us r vs, no_part r (figures_still r n) c))
    (λ k. let z : direct_part k r ≡ 0 = ap (λ (e : Entry). only_at k e.buyer e.direct.0) (entry_is r PrecursorFigures n) ∙ at_none k 0 in
    omega (arith, of_among (direct_part k) us r vs, z))
    (λ k. let z : indirect_part k r ≡ 0 = ap (λ (e : Entry). only_at k e.buyer e.indirect.0) (entry_is r PrecursorFigures n) ∙ at_none k 0 in
    omega (arith, of_among (indirect_part k) us r vs, z))
    (let z : entering_part r ≡ 0 = ap (λ (e : Entry). e.entering.0) (entry_is r PrecursorFigures n) in omega (arith, of_among entering_part us r vs, z))

-- ---- an accepted sheet's records: those with the governing figures are accepted too

valid_bought : (rs : List Record) (n : ℕ) (r : Record) → Valid n r → Valid n (as_bought rs r)
unfolding as_bought
valid_bought rs n r v = go (is PrecursorUse r) refl
  where
    go : (b : Bool) → is PrecursorUse r ≡ b
        → Valid n (cond b (bought r (governing_direct rs (used_precursor r)) (governing_indirect rs (used_precursor r))) r)
    go true e = rw (bought_kind r _ _) (rw (kind_is PrecursorUse r e) at v)
    go false e = v

all_valid_bought : (rs : List Record) (n : ℕ) (qs : List Record) → All (Valid n) qs → All (Valid n) (map (as_bought rs) qs)
all_valid_bought rs n [] v = tt
all_valid_bought rs n (q ∷ qs) v = (valid_bought rs n q v.0, all_valid_bought rs n qs v.1)

pub governed_accepted : (rs : List Record) → Accepted rs → Accepted (governed rs)
unfolding governed
governed_accepted rs ok =
    let m = governed_more rs in
    record {
      valid = rw m.counted_is (all_valid_bought rs (process_count rs) rs ok.valid);
      within = λ i.
          let taken = sum_ext (process_count rs) (kilos_between (map (as_bought rs) rs) i) (kilos_between rs i) (m.kilos_is i) in
          rw (m.counted_is, taken, m.output_is i) (ok.within i);
    }

pub sheet_governed : (limits : Limits) (sheet : List ℕ) → All Passes (sheet_checks limits sheet) → Accepted (governed (records_of sheet))
sheet_governed limits sheet passed = governed_accepted (records_of sheet) (sheet_accepted limits sheet passed)

-- no process balance is below zero, and no waste gas passed between two processes: with the governing figures exactly where without them
gas_same : (rs : List Record) (r : Record) → GasBetween (as_bought rs r) ↔ GasBetween r
unfolding as_bought
gas_same rs r = go (is PrecursorUse r) refl
  where
    go : (b : Bool) → is PrecursorUse r ≡ b
        → GasBetween (cond b (bought r (governing_direct rs (used_precursor r)) (governing_indirect rs (used_precursor r))) r) ↔ GasBetween r
    go true e = (
      λ g. absurd (never (sym (rw (bought_kind r (governing_direct rs (used_precursor r)) (governing_indirect rs (used_precursor r)))) ∙ g.gas)),
      λ g. absurd (never (sym (rw (kind_is PrecursorUse r e)) ∙ g.gas)),
    )
    go false e = (λ g. g, λ g. g)

no_gas_same : (rs qs : List Record) → All (λ r. ¬ GasBetween r) (map (as_bought rs) qs) ↔ All (λ r. ¬ GasBetween r) qs
no_gas_same rs [] = (λ h. tt, λ h. tt)
no_gas_same rs (q ∷ qs) =
    let a = gas_same rs q in
    let b = no_gas_same rs qs in
    (λ h. (λ g. h.0 (a.1 g), b.0 h.1), λ h. (λ g. h.0 (a.0 g), b.1 h.1))

pub nothing_added_same : (rs : List Record) → NothingAdded (governed rs) ↔ NothingAdded rs
unfolding governed
nothing_added_same rs =
    let m = governed_more rs in
    let g = no_gas_same rs rs in (
      λ h. record { balances = λ k a b. rw (m.balance_same k) at (h.balances k a (rw m.counted_is b)); no_gas = g.0 h.no_gas },
      λ h. record { balances = λ k a b. rw (m.balance_same k) (h.balances k a (rw m.counted_is at b)); no_gas = g.1 h.no_gas },
    )
