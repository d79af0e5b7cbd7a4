-- What an accepted sheet shows of its lines. Assumes nothing.
use mathlib.Core.Path.{◌≡◌, refl, sym, ap, ◌∙◌}
use mathlib.Core.Bool.{true, false}
use mathlib.Core.List.{List, [], ◌∷◌}
use Prim.Native.Nat.{ℕ, zero, suc, ◌≤◌, ◌<◌}
use native.Mathlib.Omega.{arith}
use borrow.Author.Tests.{eqb-true, eqb-false, ltb-false, not-false}
use lib.Dec.{ltb}
use lib.ListN.{length, get_or}
use Rattle.decimal.proofs.Bools.{never, or_neither}
use Rattle.quantity.specs.Limits.{Limits}
use Rattle.lines.specs.Lines.{Line, lines_of}
use Rattle.lines.specs.Records.{Field, number, dash, other, Record, record_of, records_of, number_in, number_at}
use Rattle.sheet.specs.Kinds.{Rule, ◌to◌, rules_of, sheet_table}
use Rattle.sheet.specs.Refusals.{too_many_lines, not_number, out_of_range, process_not_next, missing_process}
use Rattle.sheet.specs.Refusals.{ends_not_allowed, no_standard_value, second_of_pair, output_exceeded, second_of_rank}
use Rattle.sheet.specs.Verdict.{field_checks, shape_checks, line_checks, lines_checks, figures_checks, sheet_checks, All, Passes}
use Rattle.sheet.specs.Ranges.{KeepsRules, KeepsRanges}
use Rattle.sheet.proofs.First.{all_append}

-- ---- fields that keep their rules

keeps_rules : (k : ℕ) (rules : List Rule) (fields : List Field) → length fields ≡ length rules → All Passes (field_checks k rules fields)
    → KeepsRules rules fields
unfolding field_checks
keeps_rules k [] [] e h = tt
keeps_rules k [] (f ∷ fs) e h = absurd (omega arith)
keeps_rules k (rule ∷ rules) [] e h = absurd (omega arith)
keeps_rules k (rule ∷ rules) (f ∷ fs) e h = (h.0, h.1.0, keeps_rules k rules fs (omega arith) h.1.1)

pub keeps_count : (rules : List Rule) (fields : List Field) → KeepsRules rules fields → length fields ≡ length rules
keeps_count [] [] h = refl
keeps_count [] (f ∷ fs) h = absurd h
keeps_count (rule ∷ rules) [] h = absurd h
keeps_count (rule ∷ rules) (f ∷ fs) h = ap suc (keeps_count rules fs h.2)

-- by a rule without `-` a field holds a number of the rule's range
field_in_range : (rule : Rule) (f : Field) → rule.dash_allowed ≡ false → not_number rule f ≡ false → out_of_range rule f ≡ false
    → (rule.lowest ≤ number_in f) × (number_in f ≤ rule.highest)
field_in_range rule (number n) d a b =
    let r = or_neither (ltb n rule.lowest) (ltb rule.highest n) b in
    (ltb-false n rule.lowest r.0, ltb-false rule.highest n r.1)
field_in_range rule dash d a b = absurd (never (sym d ∙ not-false rule.dash_allowed a))
field_in_range rule other d a b = absurd (never (sym a))

abbrev pub no_rule : Rule
no_rule = 0 to 0

pub fields_in_range : (rules : List Rule) (fields : List Field) → KeepsRules rules fields → (i : ℕ) → i < length rules
    → (get_or rules i no_rule).dash_allowed ≡ false
    → ((get_or rules i no_rule).lowest ≤ number_in (get_or fields i other)) × (number_in (get_or fields i other) ≤ (get_or rules i no_rule).highest)
fields_in_range [] fields h i l d = absurd (omega arith)
fields_in_range (rule ∷ rules) [] h i l d = absurd h
fields_in_range (rule ∷ rules) (f ∷ fs) h zero l d = field_in_range rule f d h.0 h.1
fields_in_range (rule ∷ rules) (f ∷ fs) h (suc i) l d = fields_in_range rules fs h.2 i (omega arith) d

module _ (limits : Limits) where
  -- a line by which no row applies, below the records above
  pub record PassedLine (above : List Record) (l : Line) : Type 0 where
    pub few : too_many_lines limits (suc (length above)) ≡ false
    pub ended : l.ended ≡ true
    pub ranges : KeepsRanges limits (record_of l)
    pub next : process_not_next above (record_of l) ≡ false
    pub named : missing_process above (record_of l) ≡ false
    pub ends : ends_not_allowed (record_of l) ≡ false
    pub standard : no_standard_value (record_of l) ≡ false
    pub once : second_of_pair above (record_of l) ≡ false
    pub within : output_exceeded above (record_of l) ≡ false
    pub rank_once : second_of_rank above (record_of l) ≡ false

  pub line_passed : (above : List Record) (l : Line) → All Passes (line_checks limits above l) → PassedLine above l
  unfolding line_checks shape_checks
  line_passed above l h =
      let k : ℕ = suc (length above) in
      let parts = all_append Passes (shape_checks (sheet_table limits) k l) _ h.1 in
      let shape = parts.0 in
      let order = parts.1 in
      let same : length (record_of l).said ≡ length (rules_of limits (record_of l)) = eqb-true _ _ (not-false _ shape.1.1.0) in
      record {
        few = h.0;
        ended = not-false l.ended shape.0;
        ranges = record { known = shape.1.0; fields = keeps_rules k (rules_of limits (record_of l)) (record_of l).said same shape.1.1.1 };
        next = order.0;
        named = order.1.0;
        ends = order.1.1.0;
        standard = order.1.1.1.0;
        once = order.1.1.1.1.0;
        within = order.1.1.1.1.1.0;
        rank_once = order.1.1.1.1.1.1.0;
      }

  -- no row applies by any line, below the records above it
  abbrev pub PassedLines : (above : List Record) → List Line → Type 0
  PassedLines above [] = Unit {0}
  PassedLines above (l ∷ ls) = PassedLine above l × PassedLines (record_of l ∷ above) ls

  pub lines_passed : (above : List Record) (ls : List Line) → All Passes (lines_checks limits above ls) → PassedLines above ls
  unfolding lines_checks
  lines_passed above [] h = tt
  lines_passed above (l ∷ ls) h =
      let both = all_append Passes (line_checks limits above l) (lines_checks limits (record_of l ∷ above) ls) h in
      (line_passed above l both.0, lines_passed (record_of l ∷ above) ls both.1)

  -- a sheet by which no row 1 to 14, 17 or 18 applies
  pub record PassedSheet (sheet : List ℕ) : Type 0 where
    pub short : length sheet ≤ limits.bytes
    pub some : length sheet ≡ 0 → ⊥
    pub lines : PassedLines [] (lines_of sheet)
    pub figures : All Passes (figures_checks (records_of sheet) 1 (records_of sheet))

  pub sheet_passed : (sheet : List ℕ) → All Passes (sheet_checks limits sheet) → PassedSheet sheet
  unfolding sheet_checks
  sheet_passed sheet h =
      let parts = all_append Passes (lines_checks limits [] (lines_of sheet)) (figures_checks (records_of sheet) 1 (records_of sheet)) h.1.1 in
      record {
        short = ltb-false limits.bytes (length sheet) h.0;
        some = eqb-false (length sheet) 0 h.1.0;
        lines = lines_passed [] (lines_of sheet) parts.0;
        figures = parts.1;
      }

  -- ---- a record that keeps its ranges: by a rule without `-` its number is in the range
  pub in_range : (r : Record) → KeepsRanges limits r → (i : ℕ) → i < length (rules_of limits r) → (get_or (rules_of limits r) i no_rule).dash_allowed ≡ false
      → ((get_or (rules_of limits r) i no_rule).lowest ≤ number_at r i) × (number_at r i ≤ (get_or (rules_of limits r) i no_rule).highest)
  in_range r k i h d = fields_in_range (rules_of limits r) r.said k.fields i h d
