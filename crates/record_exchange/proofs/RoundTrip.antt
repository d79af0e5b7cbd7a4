-- Document 02, ticket 1: the writer and the reader of records, what each gives, and that they undo each other. A sheet is accepted here where no
-- row but 16 applies; no proof goes by kinds of lines. Assumes nothing.
use mathlib.Core.Path.{◌≡◌, refl, sym, ap, ap₂, ◌∙◌}
use mathlib.Core.Logic.{◌↔◌}
use mathlib.Core.Bool.{true}
use mathlib.Core.List.{List, ◌++◌}
use Prim.Native.Nat.{ℕ, zero, suc, ◌*◌, ◌/◌, ◌≤◌, ◌<◌}
use native.Mathlib.Decide.{dec_le}
use native.Mathlib.Nat.{lt_of_not-le}
use native.Mathlib.Omega.{arith}
use borrow.Author.Tests.{lt-ltb, le-ltb}
use lib.ListN.{length, drop, length-map}
use Rattle.quantity.specs.Limits.{limits}
use Rattle.lines.specs.Lines.{line, lines_of, line_bytes}
use Rattle.lines.specs.Records.{record_of, records_of}
use Rattle.sheet.specs.Verdict.{Verdict, accepted, refused, first_of, sheet_checks}
use Rattle.sheet.proofs.First.{never_by, first_rest, first_here}
use Rattle.attribution.specs.Verdict.{reckoner_checks}
use Rattle.attribution.proofs.RowFifteen.{fifteen_never_given}
use Rattle.report.specs.Outcome.{Outcome, outcome_of}
use Rattle.report.proofs.Sixteen.{rows_another}
use Rattle.lent.specs.Lent.{RECORD, record_lent, record_count, records_lent, spell_lent, spell_all, sheet_lent, words_of, filled_up}
use Rattle.lent.proofs.Spelt.{lent_read, line_lent, lines_lent, records_lent_lem, records_count, kth_line}
use Rattle.lent.proofs.ReadBack.{all_long, records_keep, written_again}
use Rattle.lent.proofs.SameWords.{words_same}
use Rattle.record_exchange.specs.Exchange.{judged, exchange_checks, sheet_written, in_records, records_read, kth_spelt}

-- ---- a sheet

module _ (sheet : List ℕ) where
  -- no row before it has the number 16
  not_sixteen : (k : ℕ) → judged sheet ≡ refused 16 k → ⊥
  not_sixteen = never_by 16 (reckoner_checks limits sheet) (rows_another limits sheet)

  module _ (a : judged sheet ≡ accepted) where
    -- without row 15
    lines_accepted : first_of (sheet_checks limits sheet) ≡ accepted
    lines_accepted = sym (fifteen_never_given sheet) ∙ a

    -- the words of an accepted sheet's records: nine a record
    pub words_long : length (words_of (records_of sheet)) ≡ length (records_of sheet) * RECORD
    words_long = all_long (records_of sheet) (records_keep sheet lines_accepted)

-- ---- what is given of a sheet, of what is to be put, and of a lent space or list

module _ (sheet put lent : List ℕ) where
  abbrev given : Outcome
  given = outcome_of (first_of (exchange_checks sheet put lent)) put lent

  given_accepted : judged sheet ≡ accepted → length put ≤ length lent
      → given ≡ record { number = 0; line = 0; length = length put; space = put ++ drop (length put) lent }
  unfolding exchange_checks first_of
  given_accepted a fits = rw (first_rest (reckoner_checks limits sheet) _ a, le-ltb (length lent) (length put) fits)

  given_short : judged sheet ≡ accepted → length lent < length put → given ≡ record { number = 16; line = 0; length = 0; space = lent }
  unfolding exchange_checks first_of
  given_short a short = rw (first_rest (reckoner_checks limits sheet) _ a, lt-ltb (length lent) (length put) short)

  given_refused : (n k : ℕ) → judged sheet ≡ refused n k → given ≡ record { number = n; line = k; length = 0; space = lent }
  unfolding exchange_checks
  given_refused n k r = rw (first_here (reckoner_checks limits sheet) _ n k r)

  given_sixteen : given.number ≡ 16 → (judged sheet ≡ accepted) × (length lent < length put)
  given_sixteen e = go (judged sheet) refl
    where
      go : (v : Verdict) → judged sheet ≡ v → (judged sheet ≡ accepted) × (length lent < length put)
      go accepted a = elim (dec_le (length put) (length lent)) [
        | yes fits ↦ absurd (let n : given.number ≡ 0 = ap (λ (o : Outcome). o.number) (given_accepted a fits) in omega arith)
        | no short ↦ (a, lt_of_not-le short)
      ]
      go (refused n k) r =
          let n_is : n ≡ 16 = sym (ap (λ (o : Outcome). o.number) (given_refused n k r)) ∙ e in
          absurd (not_sixteen sheet k (rw n_is at r))

-- ---- THE WRITER

module _ (words space : List ℕ) where
  -- records whose sheet is accepted, and room: the sheet, and behind it what the space had
  pub written_accepted : judged (sheet_lent words) ≡ accepted → length (sheet_lent words) ≤ length space
      → sheet_written words space
      ≡ record { number = 0; line = 0; length = length (sheet_lent words); space = sheet_lent words ++ drop (length (sheet_lent words)) space }
  unfolding sheet_written
  written_accepted = given_accepted (sheet_lent words) (sheet_lent words) space

  -- a space too short for it: 16, line 0, and every byte stays
  pub written_short : judged (sheet_lent words) ≡ accepted → length space < length (sheet_lent words)
      → sheet_written words space ≡ record { number = 16; line = 0; length = 0; space = space }
  unfolding sheet_written
  written_short = given_short (sheet_lent words) (sheet_lent words) space

  -- records whose sheet is refused: the sheet's number and line, whatever the space, and every byte stays
  pub written_refused : (n k : ℕ) → judged (sheet_lent words) ≡ refused n k
      → sheet_written words space ≡ record { number = n; line = k; length = 0; space = space }
  unfolding sheet_written
  written_refused = given_refused (sheet_lent words) (sheet_lent words) space

  -- 16 is given only where no other row applies and the space is too short
  pub written_sixteen : (sheet_written words space).number ≡ 16 → (judged (sheet_lent words) ≡ accepted) × (length space < length (sheet_lent words))
  unfolding sheet_written
  written_sixteen = given_sixteen (sheet_lent words) (sheet_lent words) space

-- ---- THE READER

module _ (sheet list : List ℕ) where
  -- an accepted sheet, and room: how many records, their words, and behind them what the list had
  pub read_accepted : judged sheet ≡ accepted → length (words_of (records_of sheet)) ≤ length list
      → records_read sheet list
      ≡ record {
        number = 0;
        line = 0;
        length = length (records_of sheet);
        space = words_of (records_of sheet) ++ drop (length (words_of (records_of sheet))) list;
      }
  unfolding records_read
  read_accepted a fits =
      let count : length (words_of (records_of sheet)) / RECORD ≡ length (records_of sheet) = omega (arith, words_long sheet a) in
      ap in_records (given_accepted sheet (words_of (records_of sheet)) list a fits)
      ∙ ap
      (λ (n : ℕ). record { number = 0; line = 0; length = n; space = words_of (records_of sheet) ++ drop (length (words_of (records_of sheet))) list })
      count

  -- a list too short for them: 16, line 0, and every number stays
  pub read_short : judged sheet ≡ accepted → length list < length (words_of (records_of sheet))
      → records_read sheet list ≡ record { number = 16; line = 0; length = 0; space = list }
  unfolding records_read
  read_short a short = ap in_records (given_short sheet (words_of (records_of sheet)) list a short)

  -- a refused sheet: its number and line, whatever the list, and every number stays
  pub read_refused : (n k : ℕ) → judged sheet ≡ refused n k → records_read sheet list ≡ record { number = n; line = k; length = 0; space = list }
  unfolding records_read
  read_refused n k r = ap in_records (given_refused sheet (words_of (records_of sheet)) list n k r)

  -- 16 is given only where no other row applies and the list is too short
  pub read_sixteen : (records_read sheet list).number ≡ 16 → (judged sheet ≡ accepted) × (length list < length (words_of (records_of sheet)))
  unfolding records_read
  read_sixteen = given_sixteen sheet (words_of (records_of sheet)) list

-- ---- WRITTEN AND READ AGAIN

-- the records of the written sheet are the same records
pub records_same : (words : List ℕ) → records_of (sheet_lent words) ≡ records_lent words
records_same = records_lent_lem

-- records whose sheet is accepted, written and read again: the same list of words, a last record that was cut short filled up with 0
pub list_same : (words list : List ℕ) → judged (sheet_lent words) ≡ accepted → length (filled_up words) ≤ length list
    → records_read (sheet_lent words) list
    ≡ record { number = 0; line = 0; length = record_count words; space = filled_up words ++ drop (length (filled_up words)) list }
list_same words list a fits =
    let same : words_of (records_of (sheet_lent words)) ≡ filled_up words =
    ap words_of (records_lent_lem words) ∙ words_same words (lines_accepted (sheet_lent words) a) in
    let count : length (records_of (sheet_lent words)) ≡ record_count words = ap length (records_lent_lem words) ∙ records_count words in
    read_accepted (sheet_lent words) list a (rw same fits)
    ∙ ap₂ (λ (n : ℕ) (put : List ℕ). record { number = 0; line = 0; length = n; space = put ++ drop (length put) list }) count same

-- a sheet that was read and written again: the same bytes
pub bytes_same : (sheet space : List ℕ) → judged sheet ≡ accepted → length sheet ≤ length space
    → sheet_written (words_of (records_of sheet)) space ≡ record { number = 0; line = 0; length = length sheet; space = sheet ++ drop (length sheet) space }
bytes_same sheet space a fits =
    let same = written_again sheet (lines_accepted sheet a) in
    written_accepted (words_of (records_of sheet)) space (rw same a) (rw same fits)
    ∙ ap (λ (put : List ℕ). record { number = 0; line = 0; length = length put; space = put ++ drop (length put) space }) same

-- ---- THE K-TH RECORD IS LINE K

pub line_is_record : (words : List ℕ) (k : ℕ) → line_bytes (lines_of (sheet_lent words)) k ≡ kth_spelt words k
unfolding line_bytes
line_is_record words zero = refl
line_is_record words (suc n) = kth_line words n

-- as many lines as records
pub lines_counted : (words : List ℕ) → length (lines_of (sheet_lent words)) ≡ record_count words
lines_counted words = ap length (lines_lent words) ∙ length-map (records_lent words) line_lent ∙ records_count words

-- ---- ONE SPELLING, OVER ALL KINDS

-- lent lists spell the same sheet exactly where their records are the same
pub one_spelling : (a b : List ℕ) → (sheet_lent a ≡ sheet_lent b) ↔ (records_lent a ≡ records_lent b)
unfolding sheet_lent
one_spelling a b = (λ e. sym (records_lent_lem a) ∙ ap records_of e ∙ records_lent_lem b, λ e. ap spell_all e)

-- and so of one record
pub one_line : (a b : List ℕ) → (spell_lent (record_lent a) ≡ spell_lent (record_lent b)) ↔ (record_lent a ≡ record_lent b)
one_line a b = (λ e. sym (lent_read a) ∙ ap (λ (bytes : List ℕ). record_of (line bytes true)) e ∙ lent_read b, λ e. ap spell_lent e)
