-- A source stream that keeps its ranges: what its method asks of its values, `-` standing for the standard value. Assumes nothing.
use mathlib.Core.Path.{◌≡◌, refl, sym, ap, ◌∙◌, subst}
use mathlib.Core.Bool.{Bool, true, false, not}
use mathlib.Core.List.{List, [], ◌∷◌}
use Prim.Native.Nat.{ℕ, suc, ◌≤◌}
use native.Mathlib.Omega.{arith}
use borrow.Author.Tests.{eq-eqb, ne_eqb, eqb-true, eqb-false}
use lib.Dec.{eqb}
use lib.ListN.{length, get_or}
use Rattle.lines.specs.Records.{Field, number, Record, field, number_at}
use Rattle.quantity.specs.Limits.{Limits}
use Rattle.quantity.specs.Standard.{standard_a, standard_b}
use Rattle.quantity.specs.Ranges.{StreamRange}
use Rattle.quantity.proofs.Tables.{calorific_small, factor_small, carbonate_small}
use Rattle.sheet.specs.Kinds.{kind, Rule, ◌to◌, or_dash, exactly, kilos, share, method_rules, rules, rules_of, process_number}
use Rattle.sheet.specs.declared.Kind.{Kind}
use Rattle.sheet.specs.declared.Kind.TheVariants.{SourceStream}
use Rattle.sheet.specs.Verdict.{All}
use Rattle.sheet.specs.Ranges.{KeepsRules, KeepsRanges}
use Rattle.sheet.proofs.Passed.{no_rule, fields_in_range}
use Rattle.sheet.proofs.Table.{all_of, each_passes, by_method_lem}
use Rattle.entries.specs.Weighed.{or_standard}
use Rattle.entries.proofs.Ranges.{keeps_at, plain_number, given_small}

-- ---- the record of a source stream

-- its row has eight rules
pub eight : (limits : Limits) (r : Record) → kind r ≡ SourceStream → length (rules_of limits r) ≡ 8
unfolding rules
eight limits r e =
    ap (λ (k : Kind). length (rules limits k (method_rules (field r 1)))) e
    ∙ by_method_lem (λ (rest : List Rule). suc (suc (length rest)) ≡ 8) (omega arith) (field r 1)

-- `-` may stand in a and b alone
abbrev plain_stream : List Rule → Bool
plain_stream rs = all_of (λ i. not (get_or rs i no_rule).dash_allowed) (0 ∷ 1 ∷ 2 ∷ 3 ∷ 6 ∷ 7 ∷ [])

pub plain_stream_lem : (limits : Limits) (r : Record) → kind r ≡ SourceStream
    → All (λ i. not (get_or (rules_of limits r) i no_rule).dash_allowed ≡ true) (0 ∷ 1 ∷ 2 ∷ 3 ∷ 6 ∷ 7 ∷ [])
unfolding rules all_of
plain_stream_lem limits r e =
    each_passes (λ i. not (get_or (rules_of limits r) i no_rule).dash_allowed) (0 ∷ 1 ∷ 2 ∷ 3 ∷ 6 ∷ 7 ∷ [])
    (subst (λ (k : Kind). plain_stream (rules limits k (method_rules (field r 1))) ≡ true) (sym e)
    (by_method_lem (λ (rest : List Rule). plain_stream (process_number limits ∷ (1 to 4) ∷ rest) ≡ true) (refl, (refl, (refl, (refl, tt)))) (field r 1)))

module _ (limits : Limits) (r : Record) (keeps : KeepsRanges limits r) (e : kind r ≡ SourceStream) where
  -- its fields keep the row of its method
  abbrev own_row : List Rule
  own_row = process_number limits ∷ (1 to 4) ∷ method_rules (field r 1)

  kept : KeepsRules own_row r.said
  unfolding rules
  kept = subst (λ (k : Kind). KeepsRules (rules limits k (method_rules (field r 1))) r.said) e keeps.fields

  method : field r 1 ≡ number (number_at r 1)
  method = plain_number (1 to 4) (field r 1) refl (keeps_at own_row r.said kept 1 (omega arith)).0

  pub process_range : number_at r 0 ≤ limits.processes
  process_range = (fields_in_range own_row r.said kept 0 (omega arith) refl).1

  pub method_range : (1 ≤ number_at r 1) × (number_at r 1 ≤ 4)
  method_range = fields_in_range own_row r.said kept 1 (omega arith) refl

  -- a row of six rules whose code, c and d admit no `-`
  module _ (code a b c : Rule) (m : method_rules (number (number_at r 1)) ≡ code ∷ kilos ∷ a ∷ b ∷ c ∷ share ∷ [])
      (plain : c.dash_allowed ≡ false) (small : c.highest ≤ 10000) where
    abbrev whole : List Rule
    whole = process_number limits ∷ (1 to 4) ∷ code ∷ kilos ∷ a ∷ b ∷ c ∷ share ∷ []

    fields : KeepsRules whole r.said
    fields = subst (λ (rest : List Rule). KeepsRules (process_number limits ∷ (1 to 4) ∷ rest) r.said) (ap method_rules method ∙ m) kept

    a_within : (bound standard : ℕ) → standard ≤ bound → a.highest ≤ bound → or_standard (field r 4) standard ≤ bound
    a_within bound standard = given_small a (field r 4) standard bound (keeps_at whole r.said fields 4 (omega arith)).1

    b_within : (bound standard : ℕ) → standard ≤ bound → b.highest ≤ bound → or_standard (field r 5) standard ≤ bound
    b_within bound standard = given_small b (field r 5) standard bound (keeps_at whole r.said fields 5 (omega arith)).1

    -- a that must be a number
    a_number : a.dash_allowed ≡ false → (standard : ℕ) → or_standard (field r 4) standard ≡ number_at r 4
    a_number d standard = ap (λ (f : Field). or_standard f standard) (plain_number a (field r 4) d (keeps_at whole r.said fields 4 (omega arith)).0)

    range_of : (number_at r 1 ≡ 1 → (a.highest ≤ 200000) × (b.highest ≤ 400000)) → (number_at r 1 ≡ 2 → a.highest ≤ 4000000)
        → ((number_at r 1 ≡ 1 → ⊥) → (number_at r 1 ≡ 2 → ⊥) → (a.highest ≤ 1000000) × (a.dash_allowed ≡ false))
        → StreamRange (number_at r 1) (number_at r 3) (or_standard (field r 4) (standard_a (number_at r 1) (number_at r 2)))
        (or_standard (field r 5) (standard_b (number_at r 2))) (number_at r 6) (number_at r 7)
    range_of one two rest = record {
      mass = (fields_in_range whole r.said fields 3 (omega arith) refl).1;
      calorific = λ n. a_within 200000 _ (rw (eq-eqb (number_at r 1) 1 n) (calorific_small (number_at r 2))) (one n).0;
      factor = λ n. b_within 400000 _ (factor_small (number_at r 2)) (one n).1;
      process = λ n. a_within 4000000 _ (rw (ne_eqb (number_at r 1) 1 (λ (q : number_at r 1 ≡ 1). omega (arith, n))) (carbonate_small (number_at r 2))) (two n);
      content = λ n o.
          let q = rest n o in
          let high = (fields_in_range whole r.said fields 4 (omega arith) q.1).1 in
          rw (a_number q.1 (standard_a (number_at r 1) (number_at r 2))) (omega (arith, high, q.0));
      oxidation = omega (arith, (fields_in_range whole r.said fields 6 (omega arith) plain).1, small);
      biomass = (fields_in_range whole r.said fields 7 (omega arith) refl).1;
    }

  -- what the method asks of the values
  pub stream_range :
      StreamRange (number_at r 1) (number_at r 3) (or_standard (field r 4) (standard_a (number_at r 1) (number_at r 2)))
      (or_standard (field r 5) (standard_b (number_at r 2))) (number_at r 6) (number_at r 7)
  unfolding method_rules
  stream_range = go (eqb n 1) refl (eqb n 2) refl (eqb n 3) refl (eqb n 4) refl
    where
      n : ℕ
      n = number_at r 1

      go : (one : Bool) → eqb n 1 ≡ one → (two : Bool) → eqb n 2 ≡ two → (three : Bool) → eqb n 3 ≡ three → (four : Bool) → eqb n 4 ≡ four
          → StreamRange n (number_at r 3) (or_standard (field r 4) (standard_a n (number_at r 2)))
          (or_standard (field r 5) (standard_b (number_at r 2))) (number_at r 6) (number_at r 7)
      go true p two q three s four t =
          let m = eqb-true n 1 p in
          range_of (0 to 16) (or_dash (1 to 200000)) (or_dash (0 to 400000)) share (rw m) refl (omega arith)
          (λ x. (omega arith, omega arith)) (λ x. absurd (omega arith)) (λ x y. absurd (x m))
      go false p true q three s four t =
          let m = eqb-true n 2 q in
          range_of (0 to 9) (or_dash (0 to 4000000)) (exactly 0) share (rw m) refl (omega arith)
          (λ x. absurd (omega arith)) (λ x. omega arith) (λ x y. absurd (y m))
      go false p false q true s four t =
          let m = eqb-true n 3 s in
          range_of (exactly 0) (0 to 1000000) (exactly 0) (exactly 10000) (rw m) refl (omega arith)
          (λ x. absurd (omega arith)) (λ x. absurd (omega arith)) (λ x y. (omega arith, refl))
      go false p false q false s true t =
          let m = eqb-true n 4 t in
          range_of (exactly 0) (0 to 1000000) (exactly 0) (exactly 10000) (rw m) refl (omega arith)
          (λ x. absurd (omega arith)) (λ x. absurd (omega arith)) (λ x y. (omega arith, refl))
      go false p false q false s false t =
          absurd (omega (arith, eqb-false n 1 p, eqb-false n 2 q, eqb-false n 3 s, eqb-false n 4 t, method_range))
