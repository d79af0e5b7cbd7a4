-- What a record's spelling says is the record, and a readable record is spelt as the bytes it was read from: for a field, a line and a sheet.
-- Each line is a part of the sheet. Assumes nothing.
use mathlib.Core.Path.{◌≡◌, refl, sym, ap, ap₂, ◌∙◌}
use mathlib.Core.Bool.{Bool, true, false, cond, ◌&&◌, not}
use mathlib.Core.List.{List, [], ◌∷◌, ◌++◌, map, append-nil}
use Prim.Native.Nat.{ℕ, zero, suc, ◌≤◌, ◌<◌}
use native.Mathlib.Nat.{suc-add}
use native.Mathlib.Numerals.{one-add}
use native.Mathlib.Omega.{arith}
use borrow.Author.Tests.{ne_eqb, eqb-true, leb-true, ltb-true, not-true}
use lib.Dec.{eqb, leb}
use lib.ListN.{length, take, drop}
use Rattle.decimal.specs.Number.{is_digit, all_digits, is_number, value}
use Rattle.decimal.specs.Spelling.{spelling}
use Rattle.decimal.proofs.Bools.{never, and_both}
use Rattle.decimal.proofs.Spelling.{spelling_digits, spelling_value}
use Rattle.decimal.proofs.OneSpelling.{spelling_number, number_spelling}
use Rattle.lines.specs.Lines.{LF, COMMA, Line, line, before_line, lines_of, before_field, fields_of, line_bytes, line_start}
use Rattle.lines.specs.Records.{letter_in, Field, number, dash, other, is_dash, field_of, Record, record_from, record_of, records_of}
use Rattle.lines.specs.Spelling.{spell_field, spell_fields, spell_line, spell_sheet}
use Rattle.lines.specs.Spelling.{plain, all_plain, is_letter, readable, all_readable}

-- each line has its LF and a readable record
unfoldable pub all_read : List Line → Bool
all_read [] = true
all_read (l ∷ ls) = (l.ended && readable (record_of l)) && all_read ls

-- ---- a field

-- READ AFTER SPELT
read_field : (f : Field) → plain f ≡ true → field_of (spell_field f) ≡ f
unfolding field_of is_number
read_field (number n) h = rw (spelling_number n, spelling_value n)
read_field dash h = refl
read_field other h = absurd (never h)

dash_spelt : (bytes : List ℕ) → is_dash bytes ≡ true → 45 ∷ [] ≡ bytes
dash_spelt [] h = absurd (never h)
dash_spelt (byte ∷ []) h = ap (λ (x : ℕ). x ∷ []) (sym (eqb-true byte 45 h))
dash_spelt (byte ∷ next ∷ bytes) h = absurd (never h)

-- SPELT AFTER READ
spell_field_lem : (bytes : List ℕ) → plain (field_of bytes) ≡ true → spell_field (field_of bytes) ≡ bytes
unfolding field_of
spell_field_lem bytes h = go (is_number bytes) refl (is_dash bytes) refl h
  where
    go : (n : Bool) → is_number bytes ≡ n → (d : Bool) → is_dash bytes ≡ d → plain (cond n (number (value bytes)) (cond d dash other)) ≡ true
        → spell_field (cond n (number (value bytes)) (cond d dash other)) ≡ bytes
    go true p d q h = number_spelling bytes p
    go false p true q h = dash_spelt bytes q
    go false p false q h = absurd (never h)

-- ---- letters

-- the first field of a line that has a letter is the letter alone
first_field : (first : List ℕ) → is_letter (letter_in first) ≡ true → letter_in first ∷ [] ≡ first
first_field [] h = absurd (never h)
first_field (byte ∷ []) h = refl
first_field (byte ∷ next ∷ bytes) h = absurd (never h)

-- ---- what is spelt holds no comma and no LF but those that part fields and lines

-- this byte is none of these
unfoldable pub lacks : (byte : ℕ) → List ℕ → Bool
lacks byte [] = true
lacks byte (b ∷ bs) = not (eqb b byte) && lacks byte bs

module _ (byte b : ℕ) (bs : List ℕ) (h : lacks byte (b ∷ bs) ≡ true) where
  lacks_first : eqb b byte ≡ false
  unfolding lacks
  lacks_first = not-true (eqb b byte) (and_both (not (eqb b byte)) (lacks byte bs) h).0

  lacks_rest : lacks byte bs ≡ true
  unfolding lacks
  lacks_rest = (and_both (not (eqb b byte)) (lacks byte bs) h).1

pub lacks_append : (byte : ℕ) (a b : List ℕ) → lacks byte a ≡ true → lacks byte b ≡ true → lacks byte (a ++ b) ≡ true
unfolding lacks
lacks_append byte [] b h k = k
lacks_append byte (x ∷ a) b h k = simp (lacks_first byte x a h) (lacks_append byte a b (lacks_rest byte x a h) k)

module _ (byte : ℕ) (low : byte < 45) where
  pub digits_lack : (bs : List ℕ) → all_digits bs ≡ true → lacks byte bs ≡ true
  unfolding lacks all_digits
  digits_lack [] h = refl
  digits_lack (b ∷ bs) h =
      let q = and_both (is_digit b) (all_digits bs) h in
      let at_least_lem = leb-true 48 b (and_both (leb 48 b) (leb b 57) q.0).0 in
      simp (ne_eqb b byte (λ e. omega arith)) (digits_lack bs q.1)

  field_lacks : (f : Field) → lacks byte (spell_field f) ≡ true
  unfolding lacks
  field_lacks (number n) = digits_lack (spelling n) (spelling_digits n)
  field_lacks dash = simp (ne_eqb 45 byte (λ e. omega arith))
  field_lacks other = refl

letter_lacks : (byte low : ℕ) → is_letter byte ≡ true → low ≤ COMMA → lacks low (byte ∷ []) ≡ true
unfolding lacks
letter_lacks byte low h below = let above = ltb-true COMMA byte h in simp (ne_eqb byte low (λ e. omega arith))

-- this byte is in none of these fields
unfoldable pub all_lack : (byte : ℕ) → List (List ℕ) → Bool
all_lack byte [] = true
all_lack byte (f ∷ fs) = lacks byte f && all_lack byte fs

pub spelt_lack : {A : Type 0} (byte : ℕ) (spell : A → List ℕ) → ((a : A) → lacks byte (spell a) ≡ true) → (l : List A)
    → all_lack byte (map spell l) ≡ true
unfolding all_lack
spelt_lack byte spell h [] = refl
spelt_lack byte spell h (a ∷ l) = rw (h a) (spelt_lack byte spell h l)

-- ---- fields joined by commas, and parted again

-- fields, each with the comma before it
unfoldable pub after_commas : List (List ℕ) → List ℕ
after_commas [] = []
after_commas (f ∷ fs) = COMMA ∷ (f ++ after_commas fs)

-- fields with commas between them
abbrev pub join_fields : List (List ℕ) → List ℕ
join_fields [] = []
join_fields (f ∷ fs) = f ++ after_commas fs

pub commas_lack_lf : (fs : List (List ℕ)) → all_lack LF fs ≡ true → lacks LF (after_commas fs) ≡ true
unfolding after_commas lacks all_lack
commas_lack_lf [] h = refl
commas_lack_lf (f ∷ fs) h =
    let q = and_both (lacks LF f) (all_lack LF fs) h in
    lacks_append LF f (after_commas fs) q.0 (commas_lack_lf fs q.1)

fields_then : (a rest : List ℕ) → lacks COMMA a ≡ true → fields_of (a ++ (COMMA ∷ rest)) ≡ a ∷ fields_of rest
unfolding fields_of
fields_then [] rest h = refl
fields_then (b ∷ a) rest h = simp (lacks_first COMMA b a h) (ap (before_field b) (fields_then a rest (lacks_rest COMMA b a h)))

fields_last : (a : List ℕ) → lacks COMMA a ≡ true → fields_of a ≡ a ∷ []
unfolding fields_of
fields_last [] h = refl
fields_last (b ∷ a) h = simp (lacks_first COMMA b a h) (ap (before_field b) (fields_last a (lacks_rest COMMA b a h)))

-- fields that hold no comma, joined, are parted into themselves
pub fields_joined : (first : List ℕ) (fs : List (List ℕ)) → lacks COMMA first ≡ true → all_lack COMMA fs ≡ true
    → fields_of (first ++ after_commas fs) ≡ first ∷ fs
unfolding after_commas all_lack
fields_joined first [] h k = ap fields_of (append-nil first) ∙ fields_last first h
fields_joined first (f ∷ fs) h k =
    let q = and_both (lacks COMMA f) (all_lack COMMA fs) k in
    fields_then first (f ++ after_commas fs) h ∙ ap (λ (l : List (List ℕ)). first ∷ l) (fields_joined f fs q.0 q.1)

-- a line has at least one field
comma_before : (bytes : List ℕ) → after_commas (fields_of bytes) ≡ COMMA ∷ join_fields (fields_of bytes)
unfolding after_commas fields_of
comma_before [] = refl
comma_before (b ∷ bytes) = go (eqb b COMMA) (fields_of bytes)
  where
    go : (t : Bool) (fs : List (List ℕ))
        → after_commas (cond t ([] ∷ fs) (before_field b fs)) ≡ COMMA ∷ join_fields (cond t ([] ∷ fs) (before_field b fs))
    go true fs = refl
    go false [] = refl
    go false (f ∷ fs) = refl

join_before : (b : ℕ) (fs : List (List ℕ)) → join_fields (before_field b fs) ≡ b ∷ join_fields fs
unfolding after_commas
join_before b [] = refl
join_before b (f ∷ fs) = refl

-- the fields of a line, joined, are the line
pub join_fields_lem : (bytes : List ℕ) → join_fields (fields_of bytes) ≡ bytes
unfolding fields_of after_commas
join_fields_lem [] = refl
join_fields_lem (b ∷ bytes) = go (join_fields_lem bytes) (eqb b COMMA) refl
  where
    go : join_fields (fields_of bytes) ≡ bytes → (t : Bool) → eqb b COMMA ≡ t
        → join_fields (cond t ([] ∷ fields_of bytes) (before_field b (fields_of bytes))) ≡ b ∷ bytes
    go ih true e = comma_before bytes ∙ ap₂ (λ (x : ℕ) (l : List ℕ). x ∷ l) (sym (eqb-true b COMMA e)) ih
    go ih false e = join_before b (fields_of bytes) ∙ ap (λ (l : List ℕ). b ∷ l) ih

-- ---- a record's spelling

fields_spelt : (fs : List Field) → spell_fields fs ≡ after_commas (map spell_field fs)
unfolding spell_fields after_commas
fields_spelt [] = refl
fields_spelt (f ∷ fs) = ap (λ (l : List ℕ). COMMA ∷ (spell_field f ++ l)) (fields_spelt fs)

fields_lack : (byte : ℕ) → byte < 45 → (fs : List Field) → all_lack byte (map spell_field fs) ≡ true
fields_lack byte low = spelt_lack byte spell_field (field_lacks byte low)

pub line_lacks_lf : (r : Record) → is_letter r.letter ≡ true → lacks LF (spell_line r) ≡ true
unfolding spell_line
line_lacks_lf r h =
    lacks_append LF (r.letter ∷ []) (spell_fields r.said) (letter_lacks r.letter LF h (omega arith))
    (rw (fields_spelt r.said) (commas_lack_lf (map spell_field r.said) (fields_lack LF (omega arith) r.said)))

-- ---- READ AFTER SPELT: a line

read_fields : (fs : List Field) → all_plain fs ≡ true → map field_of (map spell_field fs) ≡ fs
unfolding all_plain
read_fields [] h = refl
read_fields (f ∷ fs) h =
    let q = and_both (plain f) (all_plain fs) h in
    ap₂ (λ (x : Field) (l : List Field). x ∷ l) (read_field f q.0) (read_fields fs q.1)

pub read_line : (r : Record) (ended : Bool) → readable r ≡ true → record_of (line (spell_line r) ended) ≡ r
unfolding record_of spell_line
read_line r ended h =
    let q = and_both (is_letter r.letter) (all_plain r.said) h in
    ap record_from
    (ap (λ (l : List ℕ). fields_of (r.letter ∷ l)) (fields_spelt r.said)
    ∙ fields_joined (r.letter ∷ []) (map spell_field r.said) (letter_lacks r.letter COMMA q.0 (omega arith))
    (fields_lack COMMA (omega arith) r.said))
    ∙ ap (λ (fs : List Field). record { letter = r.letter; said = fs }) (read_fields r.said q.1)

-- ---- SPELT AFTER READ: a line

spell_fields_lem : (fs : List (List ℕ)) → all_plain (map field_of fs) ≡ true → spell_fields (map field_of fs) ≡ after_commas fs
unfolding spell_fields after_commas all_plain
spell_fields_lem [] h = refl
spell_fields_lem (f ∷ fs) h =
    let q = and_both (plain (field_of f)) (all_plain (map field_of fs)) h in
    ap₂ (λ (x l : List ℕ). COMMA ∷ (x ++ l)) (spell_field_lem f q.0) (spell_fields_lem fs q.1)

spell_from : (fs : List (List ℕ)) → readable (record_from fs) ≡ true → spell_line (record_from fs) ≡ join_fields fs
unfolding spell_line
spell_from [] h = absurd (never h)
spell_from (first ∷ fs) h =
    let q = and_both (is_letter (letter_in first)) (all_plain (map field_of fs)) h in
    ap₂ (λ (x l : List ℕ). x ++ l) (first_field first q.0) (spell_fields_lem fs q.1)

pub spell_line_lem : (l : Line) → readable (record_of l) ≡ true → spell_line (record_of l) ≡ l.bytes
unfolding record_of
spell_line_lem l h = spell_from (fields_of l.bytes) h ∙ join_fields_lem l.bytes

-- lines of one record have the same bytes
pub one_record : (a b : Line) → readable (record_of a) ≡ true → readable (record_of b) ≡ true
    → record_of a ≡ record_of b → a.bytes ≡ b.bytes
one_record a b p q e = sym (spell_line_lem a p) ∙ ap spell_line e ∙ spell_line_lem b q

-- ---- READ AFTER SPELT: a sheet

pub lines_then : (a rest : List ℕ) → lacks LF a ≡ true → lines_of (a ++ (LF ∷ rest)) ≡ line a true ∷ lines_of rest
unfolding lines_of
lines_then [] rest h = refl
lines_then (b ∷ a) rest h = simp (lacks_first LF b a h) (ap (before_line b) (lines_then a rest (lacks_rest LF b a h)))

pub read_sheet : (rs : List Record) → all_readable rs ≡ true → records_of (spell_sheet rs) ≡ rs
unfolding records_of spell_sheet lines_of all_readable
read_sheet [] h = refl
read_sheet (r ∷ rs) h =
    let q = and_both (readable r) (all_readable rs) h in
    ap (map record_of) (lines_then (spell_line r) (spell_sheet rs) (line_lacks_lf r (and_both (is_letter r.letter) (all_plain r.said) q.0).0))
    ∙ ap₂ (λ (x : Record) (l : List Record). x ∷ l) (read_line r true q.0) (read_sheet rs q.1)

-- ---- SPELT AFTER READ: a sheet

-- lines, each with its LF if it had one
unfoldable pub join_lines : List Line → List ℕ
join_lines [] = []
join_lines (l ∷ ls) = l.bytes ++ cond l.ended (LF ∷ join_lines ls) (join_lines ls)

-- the lines of a sheet, joined, are the sheet
pub join_lines_lem : (sheet : List ℕ) → join_lines (lines_of sheet) ≡ sheet
unfolding join_lines lines_of
join_lines_lem [] = refl
join_lines_lem (b ∷ bytes) = go (eqb b LF) refl (lines_of bytes) (join_lines_lem bytes)
  where
    go : (t : Bool) → eqb b LF ≡ t → (ls : List Line) → join_lines ls ≡ bytes
        → join_lines (cond t (line [] true ∷ ls) (before_line b ls)) ≡ b ∷ bytes
    go true e ls ih = ap₂ (λ (x : ℕ) (m : List ℕ). x ∷ m) (sym (eqb-true b LF e)) ih
    go false e [] ih = ap (λ (m : List ℕ). b ∷ m) ih
    go false e (l ∷ ls) ih = ap (λ (m : List ℕ). b ∷ m) ih

spell_lines_lem : (ls : List Line) → all_read ls ≡ true → spell_sheet (map record_of ls) ≡ join_lines ls
unfolding all_read spell_sheet join_lines
spell_lines_lem [] h = refl
spell_lines_lem (l ∷ ls) h =
    let q = and_both (l.ended && readable (record_of l)) (all_read ls) h in
    let p = and_both l.ended (readable (record_of l)) q.0 in
    rw (spell_line_lem l p.1, p.0, spell_lines_lem ls q.1)

pub spell_sheet_lem : (sheet : List ℕ) → all_read (lines_of sheet) ≡ true → spell_sheet (records_of sheet) ≡ sheet
unfolding records_of
spell_sheet_lem sheet h = spell_lines_lem (lines_of sheet) h ∙ join_lines_lem sheet

-- ---- a line is a part of the sheet

-- the bytes from the start of line n, as many as the line has, are the line; past the last line there are none
abbrev Part : List Line → (bytes : List ℕ) → (n : ℕ) → Type 0
Part ls bytes n = take (length (line_bytes ls n)) (drop (line_start ls n) bytes) ≡ line_bytes ls n

pub line_part : (sheet : List ℕ) (n : ℕ)
    → take (length (line_bytes (lines_of sheet) n)) (drop (line_start (lines_of sheet) n) sheet) ≡ line_bytes (lines_of sheet) n
unfolding lines_of line_bytes line_start
line_part [] n = none n
  where
    none : (n : ℕ) → Part [] [] n
    none zero = refl
    none (suc n) = refl
line_part (b ∷ bytes) n = go (eqb b LF) (lines_of bytes) (line_part bytes) n
  where
    go : (t : Bool) (ls : List Line) → ((n : ℕ) → Part ls bytes n) → (n : ℕ)
        → Part (cond t (line [] true ∷ ls) (before_line b ls)) (b ∷ bytes) n
    go t ls ih zero = refl
    go true ls ih (suc zero) = refl
    go true ls ih (suc (suc n)) = rw one-add (ih (suc n))
    go false [] ih (suc zero) = refl
    go false [] ih (suc (suc n)) = refl
    go false (l ∷ ls) ih (suc zero) = ap (λ (m : List ℕ). b ∷ m) (ih 1)
    go false (l ∷ ls) ih (suc (suc n)) = rw (suc-add (suc (length l.bytes))) (ih (suc (suc n)))
