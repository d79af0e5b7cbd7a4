-- What the arrays hold of the P and G lines above, and one line more. Assumes nothing.
use mathlib.Core.Path.{◌≡◌, refl, sym, ap, ◌∙◌}
use mathlib.Core.Bool.{Bool, true, false}
use mathlib.Core.List.{List, [], ◌∷◌}
use Prim.Native.Nat.{ℕ, suc, ◌+◌, ◌*◌, ◌/◌, ◌%◌, ◌≤◌, ◌<◌}
use native.Mathlib.Nat.{le_refl}
use native.Mathlib.Omega.{arith}
use Rattle.std.proofs.lemmas.Nat.{div-mul-add, mod-mul-add}
use borrow.Author.Tests.{eqb-true, eqb-false}
use lib.Dec.{eqb}
use lib.ListN.{length, get_or, replicate, length-set, length-replicate}
use Rattle.lines.specs.Records.{Record, number_at}
use Rattle.sheet.specs.Kinds.{is}
use Rattle.sheet.specs.declared.Kind.TheVariants.{Process, OwnGood}
use Rattle.sheet.specs.Refusals.{sum_of, process, from, to, output_in, taken_in}
use Rattle.goods.specs.Sums.{only_at}
use Rattle.goods.proofs.Sums.{at_same, at_other, at_none, at_le}
use Rattle.goods.specs.Settling.{SIZE}
use Rattle.ledger.specs.Ledger.{added}
use Rattle.ledger.proofs.Bounds.{each_same}
use Rattle.ledger.proofs.Places.{place_added}
use Rattle.attribution.specs.Reckoning.{kilos_of, process_count, kilos_between}
use Rattle.sheet.specs.Most.{KILOS}

pub record HeldGoods (above : List Record) (count : ℕ) (outputs taken kilos : List ℕ) : Type 0 where
  pub counted : count ≡ process_count above
  pub outputs_size : length outputs ≡ SIZE
  pub taken_size : length taken ≡ SIZE
  pub kilos_size : length kilos ≡ SIZE * SIZE
  pub output_at : (i : ℕ) → get_or outputs i 0 ≡ sum_of (output_in i) above
  pub taken_at : (i : ℕ) → get_or taken i 0 ≡ sum_of (taken_in i) above
  pub kilos_at : (i j : ℕ) → j < SIZE → get_or kilos (i * SIZE + j) 0 ≡ kilos_between above i j
  pub outputs_small : (i : ℕ) → get_or outputs i 0 ≤ length above * KILOS
  pub taken_small : (i : ℕ) → get_or taken i 0 ≤ length above * KILOS
  pub kilos_small : (i : ℕ) → get_or kilos i 0 ≤ length above * KILOS

pub goods_start : HeldGoods [] 0 (replicate SIZE 0) (replicate SIZE 0) (replicate (SIZE * SIZE) 0)
unfolding sum_of process_count kilos_between
goods_start = record {
  counted = refl;
  outputs_size = refl;
  taken_size = refl;
  kilos_size = length-replicate {A = ℕ} (SIZE * SIZE) 0;
  output_at = λ i. each_same (λ (n : ℕ). n ≡ 0) 0 refl SIZE i;
  taken_at = λ i. each_same (λ (n : ℕ). n ≡ 0) 0 refl SIZE i;
  kilos_at = λ i j h. each_same (λ (n : ℕ). n ≡ 0) 0 refl (SIZE * SIZE) (i * SIZE + j);
  outputs_small = λ i. each_same (λ (n : ℕ). n ≤ 0) 0 (le_refl 0) SIZE i;
  taken_small = λ i. each_same (λ (n : ℕ). n ≤ 0) 0 (le_refl 0) SIZE i;
  kilos_small = λ i. each_same (λ (n : ℕ). n ≤ 0) 0 (le_refl 0) (SIZE * SIZE) i;
}

-- ---- the place of a pair

pub pair_at : (size i j f t g : ℕ) → j < size → t < size → only_at (i * size + j) (f * size + t) g ≡ only_at i f (only_at j t g)
pair_at size i j f t g hj ht = go (eqb i f) refl (eqb j t) refl
  where
    first : i * size + j ≡ f * size + t → i ≡ f
    first z = sym (div-mul-add i size j hj) ∙ ap (λ (n : ℕ). n / size) z ∙ div-mul-add f size t ht

    second : i * size + j ≡ f * size + t → j ≡ t
    second z = sym (mod-mul-add i size j hj) ∙ ap (λ (n : ℕ). n % size) z ∙ mod-mul-add f size t ht

    go : (a : Bool) → eqb i f ≡ a → (b : Bool) → eqb j t ≡ b → only_at (i * size + j) (f * size + t) g ≡ only_at i f (only_at j t g)
    go true p true q =
        let e = eqb-true i f p in
        let d = eqb-true j t q in
        rw (e, d, at_same (f * size + t) g, at_same f (only_at t t g)) (sym (at_same t g))
    go true p false q =
        let n = eqb-false j t q in
        rw (at_other j t g n, at_none i f) (at_other _ _ g (λ (z : i * size + j ≡ f * size + t). n (second z)))
    go false p b q =
        let n = eqb-false i f p in
        rw (at_other i f (only_at j t g) n) (at_other _ _ g (λ (z : i * size + j ≡ f * size + t). n (first z)))

-- ---- one line more

-- kilograms added in one place, in each array
added_small : (above : List Record) (r : Record) (l : List ℕ) (p g : ℕ) → p < length l → g ≤ KILOS → ((i : ℕ) → get_or l i 0 ≤ length above * KILOS)
    → (i : ℕ) → get_or (added l p g) i 0 ≤ suc (length above) * KILOS
added_small above r l p g h small each i = omega (arith, place_added l p g i h, at_le i p g, each i)

-- a line of no output, and a line of no good, leaves the sums
output_none : (i : ℕ) (r : Record) → is Process r ≡ false → output_in i r ≡ 0
output_none i r e = rw e

taken_none : (i : ℕ) (r : Record) → is OwnGood r ≡ false → taken_in i r ≡ 0
taken_none i r e = rw e

output_some : (i : ℕ) (r : Record) → is Process r ≡ true → output_in i r ≡ only_at i (process r) (number_at r 1)
unfolding only_at
output_some i r e = rw e

taken_some : (i : ℕ) (r : Record) → is OwnGood r ≡ true → taken_in i r ≡ only_at i (from r) (number_at r 2)
unfolding only_at
taken_some i r e = rw e

between_none : (i j : ℕ) (r : Record) → is OwnGood r ≡ false → only_at i (from r) (only_at j (to r) (kilos_of r)) ≡ 0
unfolding kilos_of
between_none i j r e = rw (e, at_none j (to r)) (at_none i (from r))

between_some : (i j : ℕ) (r : Record) → is OwnGood r ≡ true
    → only_at i (from r) (only_at j (to r) (kilos_of r)) ≡ only_at i (from r) (only_at j (to r) (number_at r 2))
unfolding kilos_of
between_some i j r e = rw e

module _ (above : List Record) (count : ℕ) (outputs taken kilos : List ℕ) (h : HeldGoods above count outputs taken kilos) (r : Record) where
  -- a P line
  pub held_process : is Process r ≡ true → is OwnGood r ≡ false → process r < SIZE → number_at r 1 ≤ KILOS
      → HeldGoods (r ∷ above) (count + 1) (added outputs (process r) (number_at r 1)) taken kilos
  unfolding sum_of process_count kilos_between
  held_process p g in-works small =
      let room : process r < length outputs = omega (arith, h.outputs_size) in
      record {
        counted = rw p (omega (arith, h.counted));
        outputs_size = length-set outputs (process r) _ ∙ h.outputs_size;
        taken_size = h.taken_size;
        kilos_size = h.kilos_size;
        output_at = λ i. omega (arith, place_added outputs (process r) (number_at r 1) i room, output_some i r p, h.output_at i);
        taken_at = λ i. omega (arith, taken_none i r g, h.taken_at i);
        kilos_at = λ i j l. omega (arith, between_none i j r g, h.kilos_at i j l);
        outputs_small = added_small above r outputs (process r) (number_at r 1) room small h.outputs_small;
        taken_small = λ i. omega (arith, h.taken_small i);
        kilos_small = λ i. omega (arith, h.kilos_small i);
      }

  -- a G line
  pub held_good : is Process r ≡ false → is OwnGood r ≡ true → from r < SIZE → to r < SIZE → number_at r 2 ≤ KILOS
      → HeldGoods (r ∷ above) count outputs (added taken (from r) (number_at r 2)) (added kilos (from r * SIZE + to r) (number_at r 2))
  unfolding sum_of process_count kilos_between
  held_good p g from_in to_in small =
      let room : from r < length taken = omega (arith, h.taken_size) in
      let pair : from r * SIZE + to r < length kilos = omega (arith, h.kilos_size) in
      record {
        counted = rw p (omega (arith, h.counted));
        outputs_size = h.outputs_size;
        taken_size = length-set taken (from r) _ ∙ h.taken_size;
        kilos_size = length-set kilos (from r * SIZE + to r) _ ∙ h.kilos_size;
        output_at = λ i. omega (arith, output_none i r p, h.output_at i);
        taken_at = λ i. omega (arith, place_added taken (from r) (number_at r 2) i room, taken_some i r g, h.taken_at i);
        kilos_at = λ i j l. omega (
          arith,
          place_added kilos (from r * SIZE + to r) (number_at r 2) (i * SIZE + j) pair,
          pair_at SIZE i j (from r) (to r) (number_at r 2) l to_in,
          between_some i j r g,
          h.kilos_at i j l,
        );
        outputs_small = λ i. omega (arith, h.outputs_small i);
        taken_small = added_small above r taken (from r) (number_at r 2) room small h.taken_small;
        kilos_small = added_small above r kilos (from r * SIZE + to r) (number_at r 2) pair small h.kilos_small;
      }

  -- any other line
  pub held_other : is Process r ≡ false → is OwnGood r ≡ false → HeldGoods (r ∷ above) count outputs taken kilos
  unfolding sum_of process_count kilos_between
  held_other p g = record {
    counted = rw p (omega (arith, h.counted));
    outputs_size = h.outputs_size;
    taken_size = h.taken_size;
    kilos_size = h.kilos_size;
    output_at = λ i. omega (arith, output_none i r p, h.output_at i);
    taken_at = λ i. omega (arith, taken_none i r g, h.taken_at i);
    kilos_at = λ i j l. omega (arith, between_none i j r g, h.kilos_at i j l);
    outputs_small = λ i. omega (arith, h.outputs_small i);
    taken_small = λ i. omega (arith, h.taken_small i);
    kilos_small = λ i. omega (arith, h.kilos_small i);
  }
