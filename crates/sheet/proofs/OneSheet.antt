-- An accepted sheet's records spell the sheet, and only that sheet. Assumes nothing.
use mathlib.Core.Path.{◌≡◌, refl, sym, ap, ◌∙◌}
use mathlib.Core.Bool.{true}
use mathlib.Core.List.{List, [], ◌∷◌}
use Prim.Native.Nat.{ℕ}
use Rattle.decimal.proofs.Bools.{never}
use Rattle.quantity.specs.Limits.{Limits}
use Rattle.lines.specs.Lines.{Line, lines_of}
use Rattle.lines.specs.Records.{Field, number, dash, other, Record, record_of, records_of}
use Rattle.sheet.specs.Kinds.{Rule, rules_of}
use Rattle.sheet.specs.Verdict.{accepted, first_of, sheet_checks}
use Rattle.sheet.specs.Ranges.{KeepsRules}
use Rattle.lines.specs.Spelling.{spell_sheet, all_plain}
use Rattle.sheet.proofs.First.{accepted_passes}
use Rattle.sheet.proofs.Passed.{PassedLines, sheet_passed}
use Rattle.sheet.proofs.Table.{known_letter}
use Rattle.lines.proofs.OneRecord.{all_read, spell_sheet_lem}

-- fields that keep their rules are numbers or `-`
fields_plain : (rules : List Rule) (fields : List Field) → KeepsRules rules fields → all_plain fields ≡ true
unfolding all_plain
fields_plain [] [] h = refl
fields_plain [] (f ∷ fs) h = absurd h
fields_plain (rule ∷ rules) [] h = absurd h
fields_plain (rule ∷ rules) (number n ∷ fs) h = fields_plain rules fs h.2
fields_plain (rule ∷ rules) (dash ∷ fs) h = fields_plain rules fs h.2
fields_plain (rule ∷ rules) (other ∷ fs) h = absurd (never (sym h.0))

module _ (limits : Limits) where
  lines_read : (above : List Record) (ls : List Line) → PassedLines limits above ls → all_read ls ≡ true
  unfolding all_read
  lines_read above [] h = refl
  lines_read above (l ∷ ls) h =
      let f = h.0 in
      rw (known_letter (record_of l) f.ranges.known, fields_plain (rules_of limits (record_of l)) (record_of l).said f.ranges.fields, f.ended)
      (lines_read (record_of l ∷ above) ls h.1)

  -- an accepted sheet is the spelling of its records
  pub sheet_spelt : (sheet : List ℕ) → first_of (sheet_checks limits sheet) ≡ accepted → spell_sheet (records_of sheet) ≡ sheet
  sheet_spelt sheet a = spell_sheet_lem sheet (lines_read [] (lines_of sheet) (sheet_passed limits sheet (accepted_passes (sheet_checks limits sheet) a)).lines)

  -- accepted sheets of the same records have the same bytes
  pub one_sheet : (s t : List ℕ) → first_of (sheet_checks limits s) ≡ accepted → first_of (sheet_checks limits t) ≡ accepted → records_of s ≡ records_of t → s ≡ t
  one_sheet s t a b e = sym (sheet_spelt s a) ∙ ap spell_sheet e ∙ sheet_spelt t b
