-- One step from field to field, as the code makes it. Assumes nothing.
use mathlib.Core.Path.{◌≡◌, refl, sym, ap, ◌∙◌}
use mathlib.Core.Bool.{Bool, true, false, cond}
use mathlib.Core.List.{List}
use Prim.Native.Nat.{ℕ, ◌+◌, ◌≤◌}
use native.Mathlib.Omega.{arith}
use lib.ListN.{get_or}
use Rattle.decimal.proofs.Bools.{never}
use Rattle.fields.specs.Scan.{EndsInLF}
use Rattle.short_fields.specs.Short.{short_at}
use Rattle.short_fields.proofs.Short.{byte_of, Before, short_before}
use Rattle.std.specs.Prelude.{Option, Some, None}
use Rattle.fields.specs.declared.Stop.{Stop}
use Rattle.fields.specs.declared.Stop.TheVariants.{Comma, LineEnd}
use Rattle.short_fields.specs.declared.ShortField.{ShortField}
use Rattle.heads.specs.Left.{comma_at}
use Rattle.heads.proofs.Left.{comma_at_lem}
use Rattle.steps.specs.Steps.{tried, Ahead, stayed, step_by, step_of}
use Rattle.steps.specs.declared.Step.{Step}

pub tried_comma : (stop : Option Stop) → stop ≡ Some Comma → tried stop ≡ true
tried_comma stop e = ap tried e

module _ (s : List ℕ) (f : Step) where
  pub step_tried : tried f.stop ≡ true → (r : Option ShortField) → r ≡ short_at s (f.end + 1) → step_by f r ≡ step_of s f
  unfolding step_of
  step_tried m r e = ap (step_by f) e ∙ ap (λ (p : Bool). cond p (step_by f (short_at s (f.end + 1))) (stayed f)) (sym m)

  pub step_none : (stop : Option Stop) → f.stop ≡ stop → tried stop ≡ false → record { word = 0; count = f.count; end = f.end; stop = stop } ≡ step_of s f
  unfolding step_of
  step_none stop e m =
      let no : tried f.stop ≡ false = ap tried e ∙ m in
      ap (λ (p : Option Stop). record { word = 0; count = f.count; end = f.end; stop = p }) (sym e)
      ∙ ap (λ (p : Bool). cond p (step_by f (short_at s (f.end + 1))) (stayed f)) (sym no)

  module _ (a : Ahead s f) (h : f.count ≤ f.end) where
    bounds_by : tried f.stop ≡ true → (r : Option ShortField) → Before s (f.end + 1) r → Ahead s (step_by f r) × ((step_by f r).count ≤ (step_by f r).end)
    bounds_by m (Some r) b = (ahead r.stop b.stops, omega (arith, b.ends))
      where
        ahead : (stop : Stop) → get_or s r.end 0 ≡ byte_of stop → tried (Some stop) ≡ true → EndsInLF s × (comma_at s r.end ≡ true)
        ahead Comma e t = ((a m).0, comma_at_lem s r.end e)
        ahead LineEnd e t = absurd (never t)
    bounds_by m None b = (λ e. absurd (never e), h)

    step_bounds : Ahead s (step_of s f) × ((step_of s f).count ≤ (step_of s f).end)
    unfolding step_of
    step_bounds = go (tried f.stop) refl
      where
        go : (m : Bool) → tried f.stop ≡ m
            → Ahead s (cond m (step_by f (short_at s (f.end + 1))) (stayed f))
            × ((cond m (step_by f (short_at s (f.end + 1))) (stayed f)).count ≤ (cond m (step_by f (short_at s (f.end + 1))) (stayed f)).end)
        go true m = bounds_by m (short_at s (f.end + 1)) (short_before s (f.end + 1))
        go false m = (λ e. absurd (never (sym m ∙ e)), h)

    -- what `next_field` promises of a step
    pub step_done : (r : Step) → r ≡ step_of s f → (r ≡ step_of s f) × (Ahead s r × (r.count ≤ r.end))
    step_done r e = (e, rw e step_bounds)
