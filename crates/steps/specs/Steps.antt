-- For the code only: a step from field to field.
use Rattle.std.specs.Prelude.{◌≡◌, Bool, true, false, cond, Option, Some, None, List, ℕ, ◌+◌}
use Rattle.fields.specs.Scan.{EndsInLF}
use Rattle.fields.specs.declared.Stop.{Stop}
use Rattle.fields.specs.declared.Stop.TheVariants.{Comma, LineEnd}
use Rattle.short_fields.specs.Short.{short_at}
use Rattle.short_fields.specs.declared.ShortField.{ShortField}
use Rattle.heads.specs.Left.{comma_at}
use Rattle.heads.specs.declared.Head.{Head}
use Rattle.steps.specs.declared.Step.{Step}

-- no field is tried yet
abbrev pub no_step : Head → Step
no_step h = record { word = 0; count = 0; end = h.end; stop = h.stop }

-- whether one more field is tried
abbrev pub tried : Option Stop → Bool
tried (Some Comma) = true
tried (Some LineEnd) = false
tried None = false

-- where one more field is tried a comma stands, and the sheet ends in LF
abbrev pub Ahead : (sheet : List ℕ) → Step → Type 0
Ahead sheet f = tried f.stop ≡ true → EndsInLF sheet × (comma_at sheet f.end ≡ true)

-- no field is read
abbrev pub stayed : Step → Step
stayed f = record { word = 0; count = f.count; end = f.end; stop = f.stop }

-- the next field is read, if it is a short one
abbrev pub step_by : Step → Option ShortField → Step
step_by f (Some field) = record { word = field.word; count = f.count + 1; end = field.end; stop = Some field.stop }
step_by f None = record { word = 0; count = f.count; end = f.end; stop = None }

-- it is tried where a comma stands before it
unfoldable pub step_of : (sheet : List ℕ) → Step → Step
step_of sheet f = cond (tried f.stop) (step_by f (short_at sheet (f.end + 1))) (stayed f)
