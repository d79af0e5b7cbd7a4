-- For the code only: the number that judging a line of a kind gives, by its count of fields, their words and what the lines above say. Laws
-- join it to the rows of the table of refusals.
use Rattle.std.specs.Prelude.{Bool, cond, ◌&&◌, ◌||◌, not, List, ◌∷◌, ℕ, suc, ◌+◌, eqb, ltb, length, get_or}
use Rattle.lines.specs.Records.{number}
use Rattle.lines.specs.Words.{DASH}
use Rattle.quantity.specs.Limits.{Limits}
use Rattle.sheet.specs.Kinds.{letter, Rule, ◌to◌, method_rules, rules, named_fields, ends_of}
use Rattle.sheet.specs.declared.Kind.{Kind}
use Rattle.sheet.specs.declared.Kind.TheVariants.{Process, SourceStream, OwnGood, PrecursorFigures, Unknown}
use Rattle.checks.specs.Steps.{or_else, words_number, is_stated}
use Rattle.checks.specs.declared.above.Above.{Above}

-- ---- 4 to 7

-- the rules of a source stream's fields from code on, by the word of its method
abbrev pub method_word_rules : (words : List ℕ) → List Rule
method_word_rules words = method_rules (number (get_or words 1 0))

-- 6 and 7 of a source stream's fields from its method on
abbrev pub method_number : (words : List ℕ) → ℕ
method_number words = words_number 1 ((1 to 4) ∷ method_word_rules words) words

abbrev pub word_rules : Limits → Kind → (words : List ℕ) → List Rule
word_rules limits kind words = rules limits kind (method_word_rules words)

unfoldable pub fields_number : Limits → Kind → (count : ℕ) → (words : List ℕ) → ℕ
fields_number limits kind count words =
    cond (eqb (letter kind) (letter Unknown)) 4
    (cond (eqb count (length (word_rules limits kind words))) (words_number 0 (word_rules limits kind words) words) 5)

-- ---- 8 to 13 and 17

-- 8: `processes` of the lines above are P lines
abbrev pub not_next : Kind → (n : ℕ) → Above → Bool
not_next kind n above =
    eqb (letter kind) (letter Process) && (not (eqb n (suc above.lines)) || not (eqb above.processes above.lines))

-- 9: the P lines above have the numbers 1 to `processes`
abbrev pub missing : Kind → (f t : ℕ) → Above → Bool
missing kind f t above =
    ltb 0 (named_fields kind) && ltb above.processes f || ltb 1 (named_fields kind) && ltb above.processes t

-- 11
abbrev pub no_standard : Kind → (code a b : ℕ) → Bool
no_standard kind code a b = eqb (letter kind) (letter SourceStream) && (eqb code 0 && (eqb a DASH || eqb b DASH))

-- 12: a G line above gave kilograms from and to the same processes
abbrev pub second : Kind → Above → Bool
second kind above = eqb (letter kind) (letter OwnGood) && not (eqb above.pair.0 0)

-- 13
abbrev pub exceeded : Kind → (kg : ℕ) → Above → Bool
exceeded kind kg above = eqb (letter kind) (letter OwnGood) && ltb above.output.0 (above.taken.0 + kg)

-- 17: a K line above states the same rank of the same precursor
abbrev pub stated : Kind → (rank : ℕ) → Above → Bool
stated kind rank above = eqb (letter kind) (letter PrecursorFigures) && is_stated above.ranks rank

unfoldable pub order_number : Kind → (words : List ℕ) → Above → ℕ
order_number kind words above =
    cond (not_next kind (get_or words 0 0) above) 8
    (cond (missing kind (get_or words 0 0) (get_or words 1 0) above) 9
    (cond (ends_of kind (get_or words 0 0) (get_or words 1 0)) 10
    (cond (no_standard kind (get_or words 2 0) (get_or words 4 0) (get_or words 5 0)) 11
    (cond (second kind above) 12
    (cond (exceeded kind (get_or words 2 0) above) 13
    (cond (stated kind (get_or words 1 0) above) 17 0))))))

-- ---- 4 to 13 and 17 of a line of this kind
abbrev pub kind_number : Limits → Kind → (count : ℕ) → (words : List ℕ) → Above → ℕ
kind_number limits kind count words above = or_else (fields_number limits kind count words) (order_number kind words above)
