-- For the code only: the record of a line that was read, and what it keeps.
use Rattle.std.specs.Prelude.{◌≡◌, cond, List, [], ◌∷◌, map, ℕ, ◌≤◌, eqb, length, take}
use Rattle.std.specs.Coded.{Unit-prop, le_prop, Coded-set, coded_ℕ, coded_bool}
use Rattle.lines.specs.Records.{Field, number, dash, other, Record}
use Rattle.lines.specs.Words.{WORDS, DASH, OTHER}
use Rattle.lines.specs.declared.LineRead.{LineRead}
use Rattle.quantity.specs.Limits.{limits}
use Rattle.sheet.specs.Kinds.{Rule}
use Rattle.sheet.specs.Ranges.{KeepsRules, KeepsRanges}

-- what a word says
abbrev pub field_read : (word : ℕ) → Field
field_read word = cond (eqb word DASH) dash (cond (eqb word OTHER) other (number word))

unfoldable pub record_read : LineRead → Record
record_read l = record { letter = l.letter; said = map field_read (take l.count l.words) }

-- a line to which no row 4 to 7 applies
pub record LineKeeps (l : LineRead) : Type 0 where
  pub ranges : KeepsRanges limits (record_read l)
  pub few : l.count ≤ WORDS
  -- the array's own length, which a proof does not see behind a reference in a struct
  pub sized : length l.words ≡ WORDS

-- it has one proof at most, so it may be a ghost field
KeepsRules-prop : (rules : List Rule) (fields : List Field) → IsProp (KeepsRules rules fields)
KeepsRules-prop [] [] = Unit-prop
KeepsRules-prop [] (f ∷ fields) = λ a b. absurd a
KeepsRules-prop (rule ∷ rules) [] = λ a b. absurd a
KeepsRules-prop (rule ∷ rules) (f ∷ fields) = λ a b i. (
  Coded-set coded_bool _ _ a.0 b.0 i,
  Coded-set coded_bool _ _ a.1 b.1 i,
  KeepsRules-prop rules fields a.2 b.2 i,
)

pub LineKeeps-prop : (l : LineRead) → IsProp (LineKeeps l)
LineKeeps-prop l a b = λ i. record {
  ranges = record {
    known = Coded-set coded_bool _ _ a.ranges.known b.ranges.known i;
    fields = KeepsRules-prop _ _ a.ranges.fields b.ranges.fields i;
  };
  few = le_prop a.few b.few i;
  sized = Coded-set coded_ℕ _ _ a.sized b.sized i;
}

-- a word, or the standard value where it is `-`
abbrev pub or_standard_word : (word standard : ℕ) → ℕ
or_standard_word word standard = cond (eqb word DASH) standard word
