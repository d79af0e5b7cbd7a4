-- No row before the last has the number 16: it says that the report space is too short, and nothing else. Assumes nothing.
use mathlib.Core.Path.{◌≡◌, refl}
use mathlib.Core.Bool.{Bool, true, false, cond}
use mathlib.Core.List.{List, [], ◌∷◌, ◌++◌}
use Prim.Native.Nat.{ℕ, ◌<◌}
use native.Mathlib.Omega.{arith}
use borrow.Author.Tests.{ltb-true}
use lib.ListN.{length}
use Rattle.quantity.specs.Limits.{Limits}
use Rattle.sheet.specs.Verdict.{Check, check, Verdict, accepted, refused, first_of, number_of, sheet_checks, All, Passes}
use Rattle.sheet.proofs.First.{all_join}
use Rattle.sheet.proofs.Numbers.{sheet_another}
use Rattle.attribution.specs.Verdict.{reckoner_checks}
use Rattle.report.specs.Outcome.{sheet_report, space_too_short, all_checks, verdict, outcome_of, outcome}

-- no row before it has the number 16
pub rows_another : (limits : Limits) (sheet : List ℕ) → All (λ c. c.number ≡ 16 → ⊥) (reckoner_checks limits sheet)
unfolding reckoner_checks
rows_another limits sheet =
    all_join (λ c. c.number ≡ 16 → ⊥) (sheet_checks limits sheet) _ (sheet_another 16 (omega arith, omega arith) limits sheet) (λ e. omega arith, tt)

-- a last row 16 gives its number only where it applies and no row before it does
last_only : (cs : List Check) (t : Bool) → All (λ c. c.number ≡ 16 → ⊥) cs → number_of (first_of (cs ++ (check 16 0 t ∷ []))) ≡ 16
    → (t ≡ true) × All Passes cs
unfolding first_of
last_only [] true another e = (refl, tt)
last_only [] false another e = absurd (omega arith)
last_only (c ∷ cs) t another e = go (last_only cs t another.1) c.applies refl e
  where
    go : (number_of (first_of (cs ++ (check 16 0 t ∷ []))) ≡ 16 → (t ≡ true) × All Passes cs) → (b : Bool) → c.applies ≡ b
        → number_of (cond b (refused c.number c.line) (first_of (cs ++ (check 16 0 t ∷ [])))) ≡ 16 → (t ≡ true) × All Passes (c ∷ cs)
    go rest true a e = absurd (another.0 e)
    go rest false a e = let r = rest e in (r.0, (a, r.1))

given_number : (v : Verdict) (report space : List ℕ) → (outcome_of v report space).number ≡ number_of v
given_number accepted report space = refl
given_number (refused number line) report space = refl

-- 16 is given only where no other row applies and the space is shorter than the report
pub short_only : (limits : Limits) (sheet space : List ℕ) → (outcome limits sheet space).number ≡ 16
    → (length space < length (sheet_report sheet)) × All Passes (reckoner_checks limits sheet)
unfolding outcome verdict all_checks
short_only limits sheet space e =
    let n = given_number (verdict limits sheet space) (sheet_report sheet) space in
    let q : number_of (verdict limits sheet space) ≡ 16 = omega arith in
    let l = last_only (reckoner_checks limits sheet) (space_too_short sheet space) (rows_another limits sheet) q in
    (ltb-true (length space) (length (sheet_report sheet)) l.0, l.1)
