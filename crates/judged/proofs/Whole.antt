-- Rows 1 and 14, then those of the lines. Assumes nothing.
use mathlib.Core.Path.{◌≡◌, refl, ap, ◌∙◌}
use mathlib.Core.List.{List, [], ◌∷◌, ◌++◌}
use Prim.Native.Nat.{ℕ, zero, suc, ◌+◌, ◌≤◌, ◌<◌}
use native.Mathlib.Omega.{arith}
use borrow.Author.Tests.{lt-ltb, le-ltb, eq-eqb, ne_eqb}
use lib.ListN.{length, drop, length-append}
use Rattle.lines.specs.Lines.{LF, lines_of}
use Rattle.quantity.specs.Limits.{limits}
use Rattle.sheet.specs.Verdict.{refused, first_of, lines_checks, sheet_checks}
use Rattle.std.specs.Prelude.{Result}
use Rattle.checks.specs.declared.refusals.Refused.{Refused}
use Rattle.lent.specs.Lent.{RECORD, record_lent, spell_lent, sheet_lent}
use Rattle.lent.specs.AsRead.{words_at}
use Rattle.lent.proofs.Steps.{sheet_first, sheet_none}
use Rattle.gathering.specs.Gathered.{uses_of}
use Rattle.judged.specs.Judged.{LinesJudged, SheetJudged}
use Rattle.judged.specs.declared.Judged.{Judged}

module _ (sheet : List ℕ) where
  -- row 1
  pub too_long : limits.bytes < length sheet → first_of (sheet_checks limits sheet) ≡ refused 1 0
  unfolding sheet_checks first_of
  too_long h = rw (lt-ltb limits.bytes (length sheet) h)

  -- row 14
  pub none_at_all : length sheet ≡ 0 → first_of (sheet_checks limits sheet) ≡ refused 14 0
  unfolding sheet_checks first_of
  none_at_all e =
      let h : length sheet ≤ limits.bytes = omega arith in
      rw (le-ltb limits.bytes (length sheet) h, eq-eqb (length sheet) 0 e)

  -- the lines
  by_lines : length sheet ≤ limits.bytes → (length sheet ≡ 0 → ⊥)
      → first_of (sheet_checks limits sheet) ≡ first_of (lines_checks limits [] (lines_of sheet) ++ uses_of sheet)
  unfolding sheet_checks first_of
  by_lines h e = rw (le-ltb limits.bytes (length sheet) h, ne_eqb (length sheet) 0 e)

  pub lines_decide : length sheet ≤ limits.bytes → (length sheet ≡ 0 → ⊥) → (j : Result Judged Refused) → LinesJudged sheet j → SheetJudged sheet j
  lines_decide h e j of = rw (by_lines h e) of

-- records spell something where there are any, and nothing else
pub none_spelt : (list : List ℕ) → length list ≡ 0 → length (sheet_lent list) ≡ 0
none_spelt list e = ap length (sheet_none list 0 (omega arith))

pub some_spelt : (list : List ℕ) → (length list ≡ 0 → ⊥) → length (sheet_lent list) ≡ 0 → ⊥
some_spelt list some e =
    let there : 0 < length list = least (length list) some in
    let line : List ℕ = spell_lent (record_lent (words_at list 0)) in
    let others : List ℕ = sheet_lent (drop (0 + RECORD) list) in
    let long = ap length (sheet_first list 0 there) ∙ length-append line (LF ∷ others) in
    omega (arith, long)
  where
    least : (n : ℕ) → (n ≡ 0 → ⊥) → 0 < n
    least zero h = absurd (h refl)
    least (suc n) h = omega arith
