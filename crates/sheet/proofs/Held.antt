-- What the code holds of the lines above, and that an accepted line keeps it. Assumes nothing.
use mathlib.Core.Path.{◌≡◌, refl, sym, ap, ap₂, ◌∙◌, subst}
use mathlib.Core.Bool.{Bool, true, false, cond, ◌&&◌, ◌||◌, not}
use mathlib.Core.List.{List, [], ◌∷◌}
use Prim.Native.Nat.{ℕ, zero, suc, ◌≤◌, ◌<◌}
use native.Mathlib.Omega.{arith}
use borrow.Author.Tests.{eq-eqb, ne_eqb, eqb-true, eqb-false, leb-true, leb-false, le-leb, lt-leb, not-false}
use lib.Dec.{eqb, leb}
use lib.ListN.{length, get_or}
use Rattle.decimal.proofs.Bools.{or_neither}
use Rattle.lines.specs.Lines.{Line}
use Rattle.lines.specs.Records.{Record, record_of, field}
use Rattle.quantity.specs.Limits.{Limits}
use Rattle.sheet.specs.Kinds.{kind, is, Rule, exactly, method_rules, process_number, rules}
use Rattle.sheet.specs.declared.Kind.{Kind}
use Rattle.sheet.specs.declared.Kind.TheVariants.{Process, OwnGood}
use Rattle.sheet.specs.Refusals.{any_of, sum_of, process, from, to, output_in, taken_in, has_process}
use Rattle.sheet.specs.Verdict.{accepted, first_of, line_checks}
use Rattle.sheet.proofs.First.{accepted_passes}
use Rattle.sheet.proofs.Passed.{PassedLine, line_passed, in_range}
use Rattle.sheet.proofs.Table.{kind_is}

-- ---- what the code holds of the lines above

module _ (limits : Limits) where
  -- the P lines above are the first lines, numbered 1 to `processes`
  pub record Held (above : List Record) (processes : ℕ) : Type 0 where
    pub named : (n : ℕ) → has_process above n ≡ leb n processes
    pub others : any_of (λ q. not (is Process q)) above ≡ not (eqb processes (length above))
    pub few : processes ≤ length above
    pub most : processes ≤ limits.processes

-- what is held of the own goods that process f gave, and of those that it gave to process t
pub record GoodHeld (above : List Record) (f t output taken pair : ℕ) : Type 0 where
  pub out : output ≡ sum_of (output_in f) above
  pub takes : taken ≡ sum_of (taken_in f) above
  pub once : eqb pair 0 ≡ not (any_of (λ q. is OwnGood q && (eqb (from q) f && eqb (to q) t)) above)

-- ---- the lines above, one more

next_named : (n p : ℕ) (a b : Bool) → (a || b) ≡ leb n p → (a || (eqb n (suc p) || b)) ≡ leb n (suc p)
next_named n p a b h = go (eqb n (suc p)) refl a h
  where
    go : (t : Bool) → eqb n (suc p) ≡ t → (a : Bool) → (a || b) ≡ leb n p → (a || (t || b)) ≡ leb n (suc p)
    go t e true h = sym (le-leb n (suc p) (let q = leb-true n p (sym h) in omega arith))
    go true e false h = sym (le-leb n (suc p) (let q = eqb-true n (suc p) e in omega arith))
    go false e false h = h ∙ same (leb n p) refl
      where
        same : (t : Bool) → leb n p ≡ t → t ≡ leb n (suc p)
        same true q = sym (le-leb n (suc p) (let z = leb-true n p q in omega arith))
        same false q = sym (lt-leb n (suc p) (let z = leb-false n p q in let y : n ≡ suc p → ⊥ = eqb-false n (suc p) e in omega arith))

-- its first field is its number
first_rule : (limits : Limits) (k : Kind) → k ≡ Process → (rest : List Rule)
    → (0 < length (rules limits k rest)) × (get_or (rules limits k rest) 0 (exactly 0) ≡ process_number limits)
unfolding rules
first_rule limits k e rest =
    subst (λ (k : Kind). (0 < length (rules limits k rest)) × (get_or (rules limits k rest) 0 (exactly 0) ≡ process_number limits)) (sym e) (omega arith, refl)

module _ (limits : Limits) where
  -- above the first line
  pub held_none : Held limits [] 0
  unfolding any_of
  held_none = record { named = none; others = refl; few = omega arith; most = omega arith }
    where
      none : (n : ℕ) → (eqb n 0 || false) ≡ leb n 0
      none zero = refl
      none (suc n) = ap (λ (t : Bool). t || false) (ne_eqb (suc n) 0 (λ e. omega arith)) ∙ sym (lt-leb (suc n) 0 (omega arith))

  -- how many P lines there are with this line
  abbrev pub processes_after : Line → (processes : ℕ) → ℕ
  processes_after l processes = cond (is Process (record_of l)) (suc processes) processes

  -- an accepted line keeps what is held
  pub held_next : (above : List Record) (l : Line) (processes : ℕ) → Held limits above processes → first_of (line_checks limits above l) ≡ accepted
      → Held limits (record_of l ∷ above) (processes_after l processes)
  unfolding any_of
  held_next above l processes h a = go (is Process (record_of l)) refl
    where
      passed : PassedLine limits above l
      passed = line_passed limits above l (accepted_passes (line_checks limits above l) a)

      next : is Process (record_of l) ≡ true → (process (record_of l) ≡ suc (length above)) × (processes ≡ length above)
      next e =
          let others : Bool = any_of (λ q. not (is Process q)) above in
          let turn : Bool = not (eqb (process (record_of l)) (suc (length above))) in
          let both = or_neither turn others (sym (ap (λ (t : Bool). t && (turn || others)) e) ∙ passed.next) in (
            eqb-true _ _ (not-false (eqb (process (record_of l)) (suc (length above))) both.0),
            eqb-true _ _ (not-false (eqb processes (length above)) (sym h.others ∙ both.1)),
          )

      most : is Process (record_of l) ≡ true → process (record_of l) ≤ limits.processes
      most e =
          let first = first_rule limits (kind (record_of l)) (kind_is Process (record_of l) e) (method_rules (field (record_of l) 1)) in
          let range = in_range limits (record_of l) passed.ranges 0 first.0 (ap (λ (r : Rule). r.dash_allowed) first.1) in
          omega (arith, range.1, ap (λ (r : Rule). r.highest) first.1)

      go : (t : Bool) → is Process (record_of l) ≡ t → Held limits (record_of l ∷ above) (cond t (suc processes) processes)
      go true e =
          let q = next e in
          let m = most e in
          let own = q.0 ∙ ap suc (sym q.1) in
          record {
            named = λ n. ap₂ (λ (t : Bool) (p : ℕ). eqb n 0 || (t && eqb n p || any_of (λ r. is Process r && eqb n (process r)) above)) e own
                ∙ next_named n processes (eqb n 0) (any_of (λ r. is Process r && eqb n (process r)) above) (h.named n);
            others = ap (λ (t : Bool). not t || any_of (λ q. not (is Process q)) above) e ∙ h.others
                ∙ ap not (eq-eqb processes (length above) q.1 ∙ sym (eq-eqb (suc processes) (suc (length above)) (ap suc q.1)));
            few = omega arith;
            most = omega arith;
          }
      go false e = record {
        named = λ n. ap (λ (t : Bool). eqb n 0 || (t && eqb n (process (record_of l)) || any_of (λ r. is Process r && eqb n (process r)) above)) e ∙ h.named n;
        others = ap (λ (t : Bool). not t || any_of (λ q. not (is Process q)) above) e
            ∙ sym (ap not (ne_eqb processes (suc (length above)) (λ q. let f = h.few in omega arith)));
        few = let f = h.few in omega arith;
        most = h.most;
      }
