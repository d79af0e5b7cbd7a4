-- For the reader. Document 02, ticket 1: records as callers lend them, nine words each: the kind's letter, then eight fields in the line's
-- order. The sheet that they spell, a line each, and the words of a record that was read.
use Rattle.std.specs.Prelude.{Bool, true, cond, ◌&&◌, List, [], ◌∷◌, ◌++◌, map, ℕ, zero, suc, ◌+◌, ◌-◌, ◌*◌, ◌/◌, ◌^◌, eqb, length, take, drop, replicate}
use Rattle.quantity.specs.Limits.{limits}
use Rattle.lines.specs.Lines.{LF}
use Rattle.lines.specs.Records.{Field, number, dash, other, Record}
use Rattle.lines.specs.Spelling.{spell_line}
use Rattle.sheet.specs.Kinds.{kind_of, letter, no_method, rules}
use Rattle.sheet.specs.declared.Kind.{Kind}

abbrev pub RECORD : ℕ
RECORD = 9

-- `-`
abbrev pub DASH_WORD : ℕ
DASH_WORD = 2 ^ 64 - 1

abbrev pub field_lent : (word : ℕ) → Field
field_lent word = cond (eqb word DASH_WORD) dash (number word)

unfoldable pub all_zero : List ℕ → Bool
all_zero [] = true
all_zero (word ∷ words) = eqb word 0 && all_zero words

-- how many fields a line of a kind has
abbrev pub field_count : Kind → ℕ
field_count k = length (rules limits k no_method)

-- as many of the words behind the letter as the kind has fields; all of them where a further word is not 0
abbrev pub field_words : Kind → (behind : List ℕ) → List ℕ
field_words k behind = cond (all_zero (drop (field_count k) behind)) (take (field_count k) behind) behind

-- a first word that is no letter of a kind is none, and nothing is said
unfoldable pub record_lent : (words : List ℕ) → Record
record_lent [] = record { letter = 0; said = [] }
record_lent (first ∷ behind) =
    cond (eqb (letter (kind_of first)) 0) (record { letter = 0; said = [] }) (record { letter = first; said = map field_lent (field_words (kind_of first) behind) })

-- nine words each; the last record has the words that are there
unfoldable pub records_lent_to : (count : ℕ) → (words : List ℕ) → List Record
records_lent_to zero words = []
records_lent_to (suc n) words = record_lent (take RECORD words) ∷ records_lent_to n (drop RECORD words)

abbrev pub record_count : (words : List ℕ) → ℕ
record_count words = (length words + 8) / RECORD

unfoldable pub records_lent : (words : List ℕ) → List Record
records_lent words = records_lent_to (record_count words) words

-- a record of no letter is an empty line
abbrev pub spell_lent : Record → List ℕ
spell_lent r = cond (eqb r.letter 0) [] (spell_line r)

unfoldable pub spell_all : List Record → List ℕ
spell_all [] = []
spell_all (r ∷ rs) = spell_lent r ++ (LF ∷ spell_all rs)

-- the sheet that the records spell
unfoldable pub sheet_lent : (words : List ℕ) → List ℕ
sheet_lent words = spell_all (records_lent words)

-- ---- the words of records that were read: spare words are 0

abbrev pub word_lent : Field → ℕ
word_lent (number n) = n
word_lent dash = DASH_WORD
word_lent other = 0

unfoldable pub record_words : Record → List ℕ
record_words r = r.letter ∷ (map word_lent r.said ++ replicate (8 - length r.said) 0)

unfoldable pub words_of : List Record → List ℕ
words_of [] = []
words_of (r ∷ rs) = record_words r ++ words_of rs

-- words filled up to nine a record: a last record that was cut short, by 0
abbrev pub filled_up : (words : List ℕ) → List ℕ
filled_up words = words ++ replicate (record_count words * RECORD - length words) 0
