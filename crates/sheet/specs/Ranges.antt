-- For the code only: a record to which no row 4 to 7 applies.
use Rattle.std.specs.Prelude.{◌≡◌, false, List, [], ◌∷◌}
use Rattle.quantity.specs.Limits.{Limits}
use Rattle.lines.specs.Records.{Field, Record}
use Rattle.sheet.specs.Kinds.{is, Rule, rules_of}
use Rattle.sheet.specs.declared.Kind.TheVariants.{Unknown}
use Rattle.sheet.specs.Refusals.{not_number, out_of_range}

-- as many fields as rules, and each keeps its rule
abbrev pub KeepsRules : List Rule → List Field → Type 0
KeepsRules [] [] = Unit {0}
KeepsRules [] (f ∷ fs) = ⊥
KeepsRules (rule ∷ rules) [] = ⊥
KeepsRules (rule ∷ rules) (f ∷ fs) = (not_number rule f ≡ false) × (out_of_range rule f ≡ false) × KeepsRules rules fs

pub record KeepsRanges (limits : Limits) (r : Record) : Type 0 where
  pub known : is Unknown r ≡ false
  pub fields : KeepsRules (rules_of limits r) r.said
