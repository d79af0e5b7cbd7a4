-- Row 18 over the lines of a sheet, from its bytes or from lent records: the lines are looked at again. Assumes nothing.
use mathlib.Core.Path.{◌≡◌, refl}
use mathlib.Core.Bool.{Bool, true, false}
use mathlib.Core.List.{List}
use Prim.Native.Nat.{ℕ, ◌+◌, ◌<◌}
use native.Mathlib.Omega.{arith}
use lib.ListN.{length}
use Rattle.decimal.proofs.Bools.{never}
use Rattle.lines.specs.Records.{record_of, records_of}
use Rattle.lines.specs.Words.{ReadAt, line_at}
use Rattle.lines.specs.declared.LineRead.{LineRead}
use Rattle.sheet.specs.Refusals.{no_figures}
use Rattle.gathering.proofs.Uses.{UsesAt, uses_start, use_next}
use Rattle.gathering.specs.Gathered.{LinesPass}
use Rattle.judged.specs.Judged.{sheet_given, Spelt, Near}
use Rattle.judged.proofs.Given.{there, next_lent}

pub record UsingAt (lent : Bool) (bytes list : List ℕ) (at lines : ℕ) : Type 0 where
  pub uses : UsesAt (sheet_given lent bytes list) at lines
  pub spelt : Spelt lent list at lines
  pub near : Near lent at lines

pub using_start : (lent : Bool) (bytes list : List ℕ) → LinesPass (sheet_given lent bytes list) → UsingAt lent bytes list 0 0
using_start lent bytes list ok = record { uses = uses_start (sheet_given lent bytes list) ok; spelt = λ e. refl; near = λ e. omega arith }

-- the record behind a record's line is spelt at the next place
pub spelt_next : (lent : Bool) (bytes list : List ℕ) (at lines : ℕ) → Spelt lent list at lines → at < length (sheet_given lent bytes list)
    → (l : LineRead) → ReadAt (sheet_given lent bytes list) at l → Spelt lent list (l.end + 1) (lines + 1)
spelt_next true bytes list at lines spelt more l read e =
    next_lent list at lines (spelt refl) (there true bytes list at lines refl spelt more) l.end read.end
spelt_next false bytes list at lines spelt more l read e = absurd (never e)

pub using_next : (lent : Bool) (bytes list : List ℕ) (at lines : ℕ) → UsingAt lent bytes list at lines → (more : at < length (sheet_given lent bytes list))
    → (l : LineRead) → ReadAt (sheet_given lent bytes list) at l → Near lent (l.end + 1) (lines + 1)
    → no_figures (records_of (sheet_given lent bytes list)) (record_of (line_at (sheet_given lent bytes list) at)) ≡ false
    → UsingAt lent bytes list (l.end + 1) (lines + 1)
using_next lent bytes list at lines u more l read near e = record {
  uses = use_next (sheet_given lent bytes list) at lines u.uses more l read e;
  spelt = spelt_next lent bytes list at lines u.spelt more l read;
  near = near;
}
