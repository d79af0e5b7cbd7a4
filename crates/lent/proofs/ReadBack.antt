-- Records of an accepted sheet as words: lent again they are the same records, and spell the same sheet. Assumes nothing.
use mathlib.Core.Path.{◌≡◌, refl, sym, ap, ap₂, ◌∙◌}
use mathlib.Core.Bool.{Bool, true, false}
use mathlib.Core.List.{List, [], ◌∷◌, ◌++◌, map}
use Prim.Native.Nat.{ℕ, zero, suc, ◌*◌, ◌-◌, ◌≤◌, ◌<◌}
use native.Mathlib.Omega.{arith}
use borrow.Author.Tests.{eqb-true, ltb-true, ltb-false, ne_eqb}
use lib.Dec.{eqb, ltb}
use lib.ListN.{length, take, drop, replicate, length-append, length-replicate, length-map}
use lib.Seq.{take_at, drop_at}
use Rattle.decimal.proofs.Bools.{never, and_both, or_neither}
use Rattle.quantity.specs.Limits.{limits}
use Rattle.lines.specs.Lines.{LF, COMMA, Line, lines_of}
use Rattle.lines.specs.Records.{Field, number, dash, other, Record, field, record_of, records_of}
use Rattle.lines.specs.Spelling.{spell_line, spell_sheet}
use Rattle.lines.specs.Words.{CAP}
use Rattle.sheet.specs.Kinds.{kind, kinds, Rule, rules, rules_of, method_rules}
use Rattle.sheet.specs.declared.Kind.{Kind}
use Rattle.sheet.specs.Refusals.{not_number, out_of_range}
use Rattle.sheet.specs.Ranges.{KeepsRules, KeepsRanges}
use Rattle.sheet.specs.Verdict.{All, accepted, first_of, sheet_checks}
use Rattle.sheet.proofs.First.{accepted_passes}
use Rattle.sheet.proofs.OneSheet.{sheet_spelt}
use Rattle.sheet.proofs.Passed.{PassedLines, sheet_passed, keeps_count}
use Rattle.sheet.proofs.Table.{all_of, each_passes, every_kind, by_method_lem, method_rows, below_cap, known_letter, rules_fit}
use Rattle.lent.specs.Lent.{RECORD, DASH_WORD, field_lent, all_zero, field_count, record_lent, records_lent_to, record_count, records_lent}
use Rattle.lent.specs.Lent.{spell_lent, spell_all, sheet_lent, word_lent, record_words, words_of}

-- ---- as many fields as the kind has, whatever the method

abbrev counted : (k : Kind) → (by_method : List Rule) → Bool
counted k by_method = eqb (length (rules limits k by_method)) (field_count k)

pub rules_count : (k : Kind) (f : Field) → length (rules limits k (method_rules f)) ≡ field_count k
unfolding rules all_of
rules_count k f =
    let every = every_kind (λ (j : Kind). all_of (counted j) method_rows ≡ true) refl (each_passes (λ (j : Kind). all_of (counted j) method_rows) kinds refl) k in
    eqb-true _ _ (by_method_lem (λ (by_method : List Rule). counted k by_method ≡ true) (each_passes (counted k) method_rows every) f)

-- ---- fields

-- a number that is its own word, or `-`
abbrev pub OwnWord : Field → Type 0
OwnWord (number n) = n < CAP
OwnWord dash = Unit {0}
OwnWord other = ⊥

own_word : (rule : Rule) (f : Field) → below_cap rule ≡ true → not_number rule f ≡ false → out_of_range rule f ≡ false → OwnWord f
own_word rule (number n) b h o =
    let high = ltb-false rule.highest n (or_neither (ltb n rule.lowest) (ltb rule.highest n) o).1 in
    let cap = ltb-true rule.highest CAP b in
    omega arith
own_word rule dash b h o = tt
own_word rule other b h o = absurd (never (sym h))

own_words : (rs : List Rule) (fs : List Field) → all_of below_cap rs ≡ true → KeepsRules rs fs → All OwnWord fs
unfolding all_of
own_words [] [] b h = tt
own_words [] (f ∷ fs) b h = absurd h
own_words (r ∷ rs) [] b h = absurd h
own_words (r ∷ rs) (f ∷ fs) b h =
    let q = and_both (below_cap r) (all_of below_cap rs) b in
    (own_word r f q.0 h.0 h.1, own_words rs fs q.1 h.2)

field_back : (f : Field) → OwnWord f → field_lent (word_lent f) ≡ f
field_back (number n) h = rw (ne_eqb n DASH_WORD (λ e. omega arith))
field_back dash h = refl
field_back other h = absurd h

fields_back : (fs : List Field) → All OwnWord fs → map field_lent (map word_lent fs) ≡ fs
fields_back [] h = refl
fields_back (f ∷ fs) h = ap₂ (λ (x : Field) (l : List Field). x ∷ l) (field_back f h.0) (fields_back fs h.1)

zeros : (n : ℕ) → all_zero (replicate n 0) ≡ true
unfolding all_zero
zeros zero = refl
zeros (suc n) = zeros n

-- ---- a record

module _ (r : Record) (keeps : KeepsRanges limits r) where
  abbrev ws : List ℕ
  ws = map word_lent r.said

  abbrev spare : List ℕ
  spare = replicate (8 - length r.said) 0

  count_is : length ws ≡ field_count (kind r)
  count_is = length-map r.said word_lent ∙ keeps_count (rules_of limits r) r.said keeps.fields ∙ rules_count (kind r) (field r 1)

  pub few_fields : length r.said ≤ 8
  few_fields = let fit = rules_fit limits (omega arith) (kind r) (field r 1) in omega (arith, keeps_count (rules_of limits r) r.said keeps.fields, fit.few)

  pub own_fields : All OwnWord r.said
  own_fields = own_words (rules_of limits r) r.said (rules_fit limits (omega arith) (kind r) (field r 1)).below keeps.fields

  said_back : map field_lent ws ≡ r.said
  said_back = fields_back r.said own_fields

  taken : take (field_count (kind r)) (ws ++ spare) ≡ ws
  taken = take_at ws spare (field_count (kind r)) count_is

  left : all_zero (drop (field_count (kind r)) (ws ++ spare)) ≡ true
  left = ap all_zero (drop_at ws spare (field_count (kind r)) count_is) ∙ zeros (8 - length r.said)

  pub record_back : record_lent (record_words r) ≡ r
  unfolding record_lent record_words
  record_back = rw (keeps.known, left, taken, said_back)

  pub record_long : length (record_words r) ≡ RECORD
  unfolding record_words
  record_long = omega (arith, length-append ws spare, length-map r.said word_lent, length-replicate {A = ℕ} (8 - length r.said) 0, few_fields)

  pub letter_spelt : spell_lent r ≡ spell_line r
  letter_spelt =
      let above = ltb-true COMMA r.letter (known_letter r keeps.known) in
      rw (ne_eqb r.letter 0 (λ e. omega arith))

-- ---- all records

all_back : (rs : List Record) → All (KeepsRanges limits) rs → records_lent_to (length rs) (words_of rs) ≡ rs
unfolding records_lent_to words_of
all_back [] h = refl
all_back (r ∷ rs) h =
    let long = record_long r h.0 in
    ap₂ (λ (x : Record) (l : List Record). x ∷ l) (ap record_lent (take_at (record_words r) (words_of rs) RECORD long) ∙ record_back r h.0)
    (ap (records_lent_to (length rs)) (drop_at (record_words r) (words_of rs) RECORD long) ∙ all_back rs h.1)

-- nine words a record
pub all_long : (rs : List Record) → All (KeepsRanges limits) rs → length (words_of rs) ≡ length rs * RECORD
unfolding words_of
all_long [] h = refl
all_long (r ∷ rs) h = omega (arith, length-append (record_words r) (words_of rs), record_long r h.0, all_long rs h.1)

-- RECORDS THAT KEEP THEIR RANGES, AS WORDS, ARE THE SAME RECORDS
pub words_back : (rs : List Record) → All (KeepsRanges limits) rs → records_lent (words_of rs) ≡ rs
unfolding records_lent
words_back rs h =
    let count : record_count (words_of rs) ≡ length rs = omega (arith, all_long rs h) in
    ap (λ (n : ℕ). records_lent_to n (words_of rs)) count ∙ all_back rs h

all_spelt : (rs : List Record) → All (KeepsRanges limits) rs → spell_all rs ≡ spell_sheet rs
unfolding spell_all spell_sheet
all_spelt [] h = refl
all_spelt (r ∷ rs) h = ap₂ (λ (a b : List ℕ). a ++ (LF ∷ b)) (letter_spelt r h.0) (all_spelt rs h.1)

-- ---- an accepted sheet

lines_keep : (above : List Record) (ls : List Line) → PassedLines limits above ls → All (KeepsRanges limits) (map record_of ls)
lines_keep above [] h = tt
lines_keep above (l ∷ ls) h = (h.0.ranges, lines_keep (record_of l ∷ above) ls h.1)

pub records_keep : (sheet : List ℕ) → first_of (sheet_checks limits sheet) ≡ accepted → All (KeepsRanges limits) (records_of sheet)
unfolding records_of
records_keep sheet a = lines_keep [] (lines_of sheet) (sheet_passed limits sheet (accepted_passes (sheet_checks limits sheet) a)).lines

-- A SHEET THAT WAS READ AND WRITTEN AGAIN HAS THE SAME BYTES
pub written_again : (sheet : List ℕ) → first_of (sheet_checks limits sheet) ≡ accepted → sheet_lent (words_of (records_of sheet)) ≡ sheet
unfolding sheet_lent
written_again sheet a =
    let keep = records_keep sheet a in
    ap spell_all (words_back (records_of sheet) keep) ∙ all_spelt (records_of sheet) keep ∙ sheet_spelt limits sheet a
