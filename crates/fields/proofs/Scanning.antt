-- One pass over a field: what is known at each byte, and what a field says by its first byte and its length. Assumes nothing.
use mathlib.Core.Path.{◌≡◌, refl, sym, ap, ◌∙◌}
use mathlib.Core.Bool.{Bool, true, false, cond, ◌&&◌}
use mathlib.Core.Logic.{◌⊎◌, ⊎_elim}
use mathlib.Core.List.{List, [], ◌∷◌}
use Prim.Native.Nat.{ℕ, suc, ◌+◌, ◌-◌, ◌*◌, min, ◌≤◌, ◌<◌}
use native.Mathlib.Nat.{le_refl, le_trans, lt_of_not-le}
use native.Mathlib.Decide.{dec_le}
use native.Mathlib.Numerals.{add-one}
use native.Mathlib.Omega.{arith}
use borrow.Author.Tests.{eq-eqb, ne_eqb, leb-true, le-leb, lt-leb}
use lib.Dec.{leb}
use lib.ListN.{length, take, drop, get_or}
use lib.Seq.{drop-cons, drop-length}
use Rattle.decimal.specs.Number.{is_digit, all_digits, is_number, value_from, value}
use Rattle.std.specs.Prelude.{Option, Some, None, MatchOption}
use Rattle.decimal.proofs.Bools.{and_both}
use Rattle.lines.specs.Lines.{LF, COMMA}
use Rattle.lines.specs.Records.{Field, number, dash, other, field_of}
use Rattle.lines.specs.Words.{CAP, word}
use Rattle.fields.specs.Scan.{field_length, field_at, said_of, word_of, Capped, HeldCapped, said_by, digits_from, EndsInLF}
use Rattle.fields.specs.Scan.{Scanning, ScannedAt, FieldReadAt, FieldBounds}
use Rattle.fields.specs.declared.Said.{Said}
use Rattle.fields.specs.declared.Said.TheVariants.{Number, Dash, Other}
use Rattle.fields.specs.declared.Scanned.{Scanned}

-- ---- a field's length, byte by byte

field_past : (b : ℕ) (bs : List ℕ) → (b ≡ LF → ⊥) → (b ≡ COMMA → ⊥) → field_length (b ∷ bs) ≡ suc (field_length bs)
unfolding field_length
field_past b bs p q = simp (ne_eqb b LF p, ne_eqb b COMMA q)

field_lf : (b : ℕ) (bs : List ℕ) → b ≡ LF → field_length (b ∷ bs) ≡ 0
unfolding field_length
field_lf b bs e = simp (eq-eqb b LF e)

field_comma : (b : ℕ) (bs : List ℕ) → b ≡ COMMA → field_length (b ∷ bs) ≡ 0
unfolding field_length
field_comma b bs e = simp (ne_eqb b LF (λ f. omega arith), eq-eqb b COMMA e)

field_none : field_length [] ≡ 0
unfolding field_length
field_none = refl

-- no byte is left where the sheet ends
pub field_over : (s : List ℕ) (i : ℕ) → i ≡ length s → field_length (drop i s) ≡ 0
field_over s i e = ap (λ (j : ℕ). field_length (drop j s)) e ∙ ap field_length (drop-length s) ∙ field_none

from_here : (s : List ℕ) (i : ℕ) → i < length s → drop i s ≡ get_or s i 0 ∷ drop (i + 1) s
from_here s i h = rw add-one (drop-cons s i 0 h)

-- a comma or LF
abbrev pub Stop : (byte : ℕ) → Type 0
Stop byte = (byte ≡ COMMA) ⊎ (byte ≡ LF)

-- no byte of a field is left where it stands
pub field_stop : (s : List ℕ) (i : ℕ) → i < length s → Stop (get_or s i 0) → field_length (drop i s) ≡ 0
field_stop s i h w =
    ap field_length (from_here s i h)
    ∙ ⊎_elim (λ c. field_comma (get_or s i 0) (drop (i + 1) s) c) (λ c. field_lf (get_or s i 0) (drop (i + 1) s) c) w

-- a byte that is neither is one of the field
module _ (s : List ℕ) (i : ℕ) (h : i < length s) (p : get_or s i 0 ≡ LF → ⊥) (q : get_or s i 0 ≡ COMMA → ⊥) where
  pub longer : field_length (drop i s) ≡ suc (field_length (drop (i + 1) s))
  longer = ap field_length (from_here s i h) ∙ field_past (get_or s i 0) (drop (i + 1) s) p q

  pub field_left : field_at s i ≡ get_or s i 0 ∷ field_at s (i + 1)
  field_left = rw (longer, from_here s i h)

-- a field of one byte
pub field_one : (s : List ℕ) (start : ℕ) → start + 1 < length s → Stop (get_or s (start + 1) 0) → COMMA < get_or s start 0
    → start + 1 ≡ start + field_length (drop start s)
field_one s start h w l =
    let more = longer s start (omega arith) (λ e. omega arith) (λ e. omega arith) in
    omega (arith, more, field_stop s (start + 1) h w)

-- a byte that is no LF is not the last of a sheet that ends in LF
pub not_last : (s : List ℕ) (i : ℕ) → EndsInLF s → i < length s → (get_or s i 0 ≡ LF → ⊥) → i + 1 < length s
not_last s i e h n =
    elim (dec_le (length s) (i + 1)) [
      | yes g ↦ absurd (n (ap (λ (k : ℕ). get_or s k 0) (let l : i ≡ length s - 1 = omega arith in l) ∙ e))
      | no g ↦ lt_of_not-le g
    ]

-- ---- digits

pub digit_range : (b : ℕ) → is_digit b ≡ true → (48 ≤ b) × (b ≤ 57)
digit_range b h = let q = and_both (leb 48 b) (leb b 57) h in (leb-true 48 b q.0, leb-true b 57 q.1)

-- digits only make a value larger
pub grows : (n : ℕ) (bs : List ℕ) → n ≤ value_from n bs
unfolding value_from
grows n [] = le_refl n
grows n (b ∷ bs) = le_trans (let h : n ≤ n * 10 + (b - 48) = omega arith in h) (grows (n * 10 + (b - 48)) bs)

-- so a value that is cut to CAP between two digits ends at the same number
cut : (n : ℕ) (bs : List ℕ) → min (value_from (min n CAP) bs) CAP ≡ min (value_from n bs) CAP
cut n bs =
    elim (dec_le n CAP) [
      | yes h ↦ ap (λ (m : ℕ). min (value_from m bs) CAP) (let e : min n CAP ≡ n = omega arith in e)
      | no h ↦ let g : CAP < n = lt_of_not-le h in omega (arith, grows n bs, grows (min n CAP) bs)
    ]

digit_next : (n b : ℕ) (bs : List ℕ) → is_digit b ≡ true
    → digits_from (Some (min (n * 10 + (b - 48)) CAP)) bs ≡ digits_from (Some n) (b ∷ bs)
unfolding digits_from all_digits value_from
digit_next n b bs h = rw (h, cut)

other_next : (held : Option ℕ) (b : ℕ) (bs : List ℕ) → is_digit b ≡ false → digits_from None bs ≡ digits_from held (b ∷ bs)
unfolding digits_from all_digits
other_next (Some n) b bs h = rw h
other_next None b bs h = refl

pub digits_none : (held : Option ℕ) → HeldCapped held → held ≡ digits_from held []
unfolding digits_from all_digits value_from
digits_none (Some n) h = ap Some (let e : n ≡ min n CAP = omega arith in e)
digits_none None h = refl

-- ---- the pass

-- what the pass gives where it stops
abbrev stopped : (held : Option ℕ) → (end : ℕ) → Scanned
stopped held end = record { number = held; end = end }

pub none_scanned : (s : List ℕ) (start : ℕ) → start ≤ length s → Scanning s start (Some 0) start
none_scanned s start h = record { least = le_refl start; inside = h; capped = omega arith; ends = refl; number_is = refl }

module _ (s : List ℕ) (start : ℕ) (held : Option ℕ) (end : ℕ) (k : Scanning s start held end) where
  -- the field ends where no byte of it is left
  scanned : field_length (drop end s) ≡ 0 → ScannedAt s start (stopped held end)
  scanned z =
      record {
        number_is = digits_none held k.capped ∙ ap (λ (n : ℕ). digits_from held (take n (drop end s))) (sym z) ∙ k.number_is;
        end = omega (arith, k.ends);
        most = k.inside;
      }

  pub scanned_end : length s ≤ end → ScannedAt s start (stopped held (length s))
  scanned_end h =
      let e : end ≡ length s = omega (arith, k.inside) in
      rw e at (scanned (field_over s end e))

  module _ (h : end < length s) where
    abbrev b : ℕ
    b = get_or s end 0

    pub scanned_stop : Stop b → ScannedAt s start (stopped held end)
    scanned_stop w = scanned (field_stop s end h w)

    -- one more byte of the field
    module _ (p : b ≡ LF → ⊥) (q : b ≡ COMMA → ⊥) where
      further : (n : Option ℕ) → HeldCapped n → digits_from n (field_at s (end + 1)) ≡ digits_from held (b ∷ field_at s (end + 1))
          → Scanning s start n (end + 1)
      further n c e =
          record {
            least = omega (arith, k.least);
            inside = omega arith;
            capped = c;
            ends = omega (arith, longer s end h p q, k.ends);
            number_is = e ∙ ap (digits_from held) (sym (field_left s end h p q)) ∙ k.number_is;
          }

      pub other_scanned : is_digit b ≡ false → Scanning s start None (end + 1)
      other_scanned d = further None tt (other_next held b (field_at s (end + 1)) d)

    -- a byte below `0`, or above `9`
    pub below_none : (b ≡ LF → ⊥) → (b ≡ COMMA → ⊥) → b < 48 → Scanning s start None (end + 1)
    below_none p q l = other_scanned p q (simp (lt-leb 48 b l))

    pub above_none : 57 < b → Scanning s start None (end + 1)
    above_none g = other_scanned (λ e. omega arith) (λ e. omega arith) (simp (lt-leb b 57 g, le-leb 48 b (omega arith)))

    -- a byte that is no digit
    pub other_step : (b ≡ LF → ⊥) → (b ≡ COMMA → ⊥) → (48 ≤ b → b ≤ 57 → ⊥) → Scanning s start None (end + 1)
    other_step p q n =
        elim (dec_le 48 b) [
          | yes l ↦ above_none (lt_of_not-le (n l))
          | no l ↦ below_none p q (lt_of_not-le l)
        ]

-- no number any more: the rest of the field is passed over
pub none_left : (s : List ℕ) (start end : ℕ) → Scanning s start None end → (last : ℕ) → last ≡ end + field_length (drop end s) → last ≤ length s
    → ScannedAt s start (stopped None last)
unfolding digits_from
none_left s start end k last e l = record { number_is = k.number_is; end = omega (arith, k.ends); most = l }

module _ (s : List ℕ) (start : ℕ) where
  pub digit_scanned : (value end : ℕ) → Scanning s start (Some value) end → end < length s → is_digit (get_or s end 0) ≡ true
      → Scanning s start (Some (min (value * 10 + (get_or s end 0 - 48)) CAP)) (end + 1)
  digit_scanned value end k h d =
      let b = get_or s end 0 in
      let r = digit_range b d in
      further s start (Some value) end k h (λ e. omega arith) (λ e. omega arith) (Some (min (value * 10 + (b - 48)) CAP)) (omega arith)
      (digit_next value b (field_at s (end + 1)) d)

  -- a digit more
  pub digit_step : (value end : ℕ) → Scanning s start (Some value) end → end < length s → 48 ≤ get_or s end 0 → get_or s end 0 ≤ 57
      → (digit : ℕ) → digit ≡ get_or s end 0 - 48 → (next : ℕ) → next ≡ min (value * 10 + digit) CAP → Scanning s start (Some next) (end + 1)
  digit_step value end k h l g digit d next n =
      rw (n, d) (digit_scanned value end k h (simp (le-leb 48 (get_or s end 0) l, le-leb (get_or s end 0) 57 g)))

-- ---- what a field says

-- a field whose bytes are taken for digits
abbrev digits : List ℕ → Said
digits f = said_by (digits_from (Some 0) f)

pub said_none : (f : List ℕ) → length f ≡ 0 → said_of (field_of f) ≡ Other
unfolding field_of is_number
said_none [] h = refl
said_none (b ∷ f) h = absurd (omega arith)

pub said_dash : (f : List ℕ) → length f ≡ 1 → get_or f 0 0 ≡ 45 → said_of (field_of f) ≡ Dash
unfolding field_of is_number
said_dash [] h e = absurd (omega arith)
said_dash (b ∷ []) h e = ap (λ (x : ℕ). said_of (field_of (x ∷ []))) e
said_dash (b ∷ c ∷ f) h e = absurd (omega arith)

pub said_one : (f : List ℕ) → length f ≡ 1 → (get_or f 0 0 ≡ 45 → ⊥) → said_of (field_of f) ≡ digits f
unfolding field_of is_number digits_from all_digits
said_one [] h n = absurd (omega arith)
said_one (b ∷ []) h n = simp (ne_eqb b 45 n) (go (is_digit b))
  where
    go : (t : Bool) → said_of (cond t (number (value (b ∷ []))) other) ≡ said_by (cond (t && true) (Some (min (value (b ∷ [])) CAP)) None)
    go true = refl
    go false = refl
said_one (b ∷ c ∷ f) h n = absurd (omega arith)

pub said_zero : (f : List ℕ) → 1 < length f → get_or f 0 0 ≡ 48 → said_of (field_of f) ≡ Other
unfolding field_of is_number
said_zero [] h e = absurd (omega arith)
said_zero (b ∷ []) h e = absurd (omega arith)
said_zero (b ∷ c ∷ f) h e = simp (eq-eqb b 48 e)

pub said_many : (f : List ℕ) → 1 < length f → (get_or f 0 0 ≡ 48 → ⊥) → said_of (field_of f) ≡ digits f
unfolding field_of is_number digits_from
said_many [] h n = absurd (omega arith)
said_many (b ∷ []) h n = absurd (omega arith)
said_many (b ∷ c ∷ f) h n = simp (ne_eqb b 48 n) (go (all_digits (b ∷ c ∷ f)))
  where
    go : (t : Bool) → said_of (cond t (number (value (b ∷ c ∷ f))) other) ≡ said_by (cond t (Some (min (value (b ∷ c ∷ f)) CAP)) None)
    go true = refl
    go false = refl

said_capped : (f : Field) → Capped (said_of f)
said_capped (number n) = omega arith
said_capped dash = tt
said_capped other = tt

-- what `read_field` promises of a field that says this and ends here
abbrev FieldDone : (s : List ℕ) → (start : ℕ) → (said : Said) → (end : ℕ) → Type 0
FieldDone s start said end =
    FieldReadAt s start (record { said = said; end = end }) × FieldBounds s start (record { said = said; end = end })

module _ (s : List ℕ) (start : ℕ) (f : Scanned) (k : ScannedAt s start f) where
  -- the bytes from the field's start to its end
  abbrev bytes : List ℕ
  bytes = take (f.end - start) (drop start s)

  bytes_lem : bytes ≡ field_at s start
  bytes_lem =
      ap (λ (n : ℕ). take n (drop start s)) (let e : f.end - start ≡ field_length (drop start s) = omega (arith, k.end) in e)

  pub done : (said : Said) → said ≡ said_of (field_of bytes) → FieldDone s start said f.end
  done said e =
      let says : said ≡ said_of (field_of (field_at s start)) = e ∙ ap (λ (b : List ℕ). said_of (field_of b)) bytes_lem in (
        record { said = says; end = k.end },
        record { least = omega (arith, k.end); most = k.most; capped = rw says (said_capped (field_of (field_at s start))) },
      )

  -- a number, if all bytes are digits
  pub done_digits : said_of (field_of bytes) ≡ digits bytes → (said : Said) → MatchOption f.number (said ≡ Other) (λ (n : ℕ). said ≡ Number n)
      → FieldDone s start said f.end
  done_digits e said m = done said (says f.number m ∙ ap said_by k.number_is ∙ ap digits (sym bytes_lem) ∙ sym e)
    where
      says : (held : Option ℕ) → MatchOption held (said ≡ Other) (λ (n : ℕ). said ≡ Number n) → said ≡ said_by held
      says (Some n) e = e
      says None e = e

-- the word of what is said
pub word_said : (f : Field) → word_of (said_of f) ≡ word f
unfolding word
word_said (number n) = refl
word_said dash = refl
word_said other = refl
