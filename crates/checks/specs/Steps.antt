-- For the code only: the number that each step of judging a line gives, 0 for none, over the words of the line and what the lines above say.
use Rattle.std.specs.Prelude.{Bool, cond, ◌&&◌, ◌||◌, not, List, [], ◌∷◌, ℕ, suc, ◌+◌, ◌/◌, ◌%◌, ◌^◌, eqb, ltb, leb, get_or}
use Rattle.lines.specs.Words.{DASH, OTHER}
use Rattle.sheet.specs.Kinds.{Rule}
use Rattle.checks.specs.declared.above.Above.{Above}

-- the first of two numbers that is not 0
abbrev pub or_else : (first next : ℕ) → ℕ
or_else first next = cond (eqb first 0) next first

-- ---- 5 to 7: the line by itself

-- 5
abbrev pub count_number : (count fields : ℕ) → ℕ
count_number count fields = cond (eqb count fields) 0 5

-- 6 and 7 of a word that is not of its range, nor `-` where it may stand
abbrev pub outside_number : (word : ℕ) → ℕ
outside_number word = cond (eqb word DASH) 6 (cond (eqb word OTHER) 6 7)

-- 6 and 7 by one rule. Every range ends below DASH and OTHER, so a word of the range is a number
unfoldable pub word_number : (lowest highest : ℕ) → (dash_allowed : Bool) → (word : ℕ) → ℕ
word_number lowest highest dash_allowed word =
    cond (leb lowest word && leb word highest) 0 (cond (eqb word DASH) (cond dash_allowed 0 6) (cond (eqb word OTHER) 6 7))

-- 6 and 7 from the left, by the rules of the fields from k on
unfoldable pub words_number : (k : ℕ) → List Rule → (words : List ℕ) → ℕ
words_number k [] words = 0
words_number k (rule ∷ rs) words =
    or_else (word_number rule.lowest rule.highest rule.dash_allowed (get_or words k 0)) (words_number (suc k) rs words)

-- ---- 8 to 13 and 17: the line under the lines above it

-- 8
abbrev pub next_number : (n : ℕ) → Above → ℕ
next_number n above = cond (not (eqb n (suc above.lines)) || not (eqb above.processes above.lines)) 8 0

-- 9 of a line that names one process: the P lines above have the numbers 1 to `processes`
abbrev pub named_number : (n : ℕ) → Above → ℕ
named_number n above = cond (ltb above.processes n) 9 0

-- 9 and 10 of a line that names two
abbrev pub ends_number : (f t : ℕ) → (not_allowed : Bool) → Above → ℕ
ends_number f t not_allowed above = cond (ltb above.processes f || ltb above.processes t) 9 (cond not_allowed 10 0)

-- 11
abbrev pub standard_number : (code a b : ℕ) → ℕ
standard_number code a b = cond (eqb code 0 && (eqb a DASH || eqb b DASH)) 11 0

-- 12 and 13 of so many kilograms
abbrev pub good_number : (kg : ℕ) → Above → ℕ
good_number kg above = cond (not (eqb above.pair.0 0)) 12 (cond (ltb above.output.0 (above.taken.0 + kg)) 13 0)

-- bit k of `ranks` is 1 where rank k is stated
abbrev pub is_stated : (ranks rank : ℕ) → Bool
is_stated ranks rank = eqb (ranks / 2 ^ rank % 2) 1

-- 17
abbrev pub rank_number : (rank : ℕ) → Above → ℕ
rank_number rank above = cond (is_stated above.ranks rank) 17 0
