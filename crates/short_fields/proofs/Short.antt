-- A short number or `-`: it is read at once, and no other field is. Assumes nothing.
use mathlib.Core.Path.{◌≡◌, refl, sym, ap, ap₂, ◌∙◌}
use mathlib.Core.Bool.{Bool, true, false, cond, ◌&&◌, not}
use mathlib.Core.Logic.{inl, inr}
use mathlib.Core.List.{List, [], ◌∷◌}
use Prim.Native.Nat.{ℕ, ◌+◌, ◌-◌, ◌*◌, min, ◌≤◌, ◌<◌}
use native.Mathlib.Nat.{lt_of_not-le}
use native.Mathlib.Decide.{dec_le, ℕ_discrete}
use native.Mathlib.Omega.{arith}
use borrow.Author.Tests.{ne_eqb, eqb-true, le-ltb, lt-ltb, ltb-true, leb-true, le-leb, lt-leb}
use lib.Dec.{eqb, ltb, leb}
use lib.ListN.{length, take, drop, get_or}
use Rattle.decimal.specs.Number.{is_digit, all_digits, is_number, value_from}
use Rattle.decimal.proofs.Bools.{and_both, never}
use Rattle.lines.specs.Lines.{LF, COMMA}
use Rattle.lines.specs.Records.{number, other, field_of}
use Rattle.lines.specs.Words.{CAP, DASH, OTHER, word}
use Rattle.std.specs.Prelude.{Option, Some, None}
use Rattle.fields.specs.Scan.{field_length, field_at, said_of, word_of, said_by, digits_from}
use Rattle.short_fields.specs.Short.{is_leading, SHORT, DigitsAt, ended_word, is_short, short_at}
use Rattle.short_fields.specs.declared.Digits.{Digits}
use Rattle.fields.specs.declared.Stop.{Stop as Behind}
use Rattle.fields.specs.declared.Stop.TheVariants.{Comma, LineEnd}
use Rattle.short_fields.specs.declared.ShortField.{ShortField}
use Rattle.fields.proofs.Scanning.{Stop, field_stop, field_one, field_left, grows, digits_none, said_one, said_many, word_said}

pub leading_range : (b : ℕ) → is_leading b ≡ true → (49 ≤ b) × (b ≤ 57)
leading_range b h = let q = and_both (ltb 48 b) (leb b 57) h in (let l = ltb-true 48 b q.0 in omega arith, leb-true b 57 q.1)

pub leading_in : (b : ℕ) → 49 ≤ b → b ≤ 57 → is_leading b ≡ true
leading_in b l g = simp (lt-ltb 48 b (omega arith), le-leb b 57 g)

pub digit_in : (b : ℕ) → 48 ≤ b → b ≤ 57 → is_digit b ≡ true
digit_in b l g = simp (le-leb 48 b l, le-leb b 57 g)

pub leading_digit : (b : ℕ) → is_leading b ≡ true → is_digit b ≡ true
leading_digit b h = let r = leading_range b h in digit_in b (omega arith) r.1

-- ---- a field by its first byte

-- digits from `1` on are a number
said_leading : (f : List ℕ) → is_leading (get_or f 0 0) ≡ true → said_of (field_of f) ≡ said_by (digits_from (Some 0) f)
said_leading [] h = absurd (never h)
said_leading (b ∷ []) h = let r = leading_range b h in said_one (b ∷ []) refl (λ e. omega arith)
said_leading (b ∷ c ∷ f) h = let r = leading_range b h in said_many (b ∷ c ∷ f) (omega arith) (λ e. omega arith)

-- a byte that is no digit and no `-` starts no number
other_first : (b : ℕ) (f : List ℕ) → is_digit b ≡ false → (b ≡ 45 → ⊥) → word (field_of (b ∷ f)) ≡ OTHER
unfolding word field_of is_number all_digits
other_first b [] d n = simp (d, ne_eqb b 45 n)
other_first b (c ∷ f) d n = simp d (go (not (eqb b 48)))
  where
    go : (t : Bool) → word (cond (t && false) (number (value_from 0 (b ∷ c ∷ f))) other) ≡ OTHER
    go true = refl
    go false = refl

word_zero : word (field_of (48 ∷ [])) ≡ 0
unfolding word field_of is_number value_from
word_zero = refl

word_dash : word (field_of (45 ∷ [])) ≡ DASH
unfolding word field_of is_number
word_dash = refl

word_zero_more : (b : ℕ) (f : List ℕ) → word (field_of (48 ∷ b ∷ f)) ≡ OTHER
unfolding word field_of is_number
word_zero_more b f = refl

word_dash_more : (b : ℕ) (f : List ℕ) → word (field_of (45 ∷ b ∷ f)) ≡ OTHER
unfolding word field_of is_number all_digits
word_dash_more b f = refl

word_none : word (field_of []) ≡ OTHER
unfolding word field_of is_number
word_none = refl

-- ---- what is read before a comma or LF

abbrev here : (s : List ℕ) → (start : ℕ) → ℕ
here s start = word (field_of (field_at s start))

abbrev ending : (s : List ℕ) → (start : ℕ) → ℕ
ending s start = start + field_length (drop start s)

-- no other field is read
other_short : (s : List ℕ) (start : ℕ) → is_short (here s start) ≡ false → None ≡ short_at s start
unfolding short_at
other_short s start e = ap (λ (t : Bool). cond t (ended_word s (here s start) (ending s start)) None) (sym e)

module _ (s : List ℕ) (start said end : ℕ) where
  abbrev b : ℕ
  b = get_or s end 0

  stop_short : said ≡ here s start → end ≡ ending s start → is_short said ≡ true → ended_word s said end ≡ short_at s start
  unfolding short_at
  stop_short e f t =
      ap₂ (ended_word s) e f
      ∙ ap (λ (t : Bool). cond t (ended_word s (here s start) (ending s start)) None) (sym (ap is_short (sym e) ∙ t))

  no_stop : (b ≡ LF → ⊥) → (b ≡ COMMA → ⊥) → ended_word s said end ≡ None
  no_stop p q = simp (ne_eqb b COMMA q, ne_eqb b LF p)

  -- the field is short where one of the two stands here, and not where none does
  short_at_lem : (Stop b → (said ≡ here s start) × ((end ≡ ending s start) × (is_short said ≡ true)))
      → ((b ≡ LF → ⊥) → (b ≡ COMMA → ⊥) → is_short (here s start) ≡ false) → ended_word s said end ≡ short_at s start
  short_at_lem stopped none =
      elim (ℕ_discrete b COMMA) [
        | yes c ↦ stops (inl c)
        | no q ↦ elim (ℕ_discrete b LF) [
          | yes c ↦ stops (inr c)
          | no p ↦ no_stop p q ∙ other_short s start (none p q)
        ]
      ]
    where
      stops : Stop b → ended_word s said end ≡ short_at s start
      stops w = let y = stopped w in stop_short y.0 y.1.0 y.1.1

-- ---- numbers from `1` on

module _ (s : List ℕ) (start : ℕ) (l : is_leading (get_or s start 0) ≡ true) (i : start < length s) (d : Digits) (k : DigitsAt s start d) where
  abbrev stop : ℕ
  stop = get_or s d.end 0

  first_left : field_at s start ≡ get_or s start 0 ∷ field_at s (start + 1)
  first_left = let r = leading_range (get_or s start 0) l in field_left s start i (λ e. omega arith) (λ e. omega arith)

  digits_said_lem : here s start ≡ word_of (said_by (digits_from (Some d.value) (field_at s d.end)))
  digits_said_lem =
      sym (word_said (field_of (field_at s start)))
      ∙ ap word_of (said_leading (field_at s start) (ap (λ (f : List ℕ). is_leading (get_or f 0 0)) first_left ∙ l) ∙ ap said_by (sym k.scanned.number_is))

  -- all of them, where the field ends behind them
  number_yes : Stop stop
      → (d.value ≡ here s start) × ((d.end ≡ ending s start) × (is_short d.value ≡ true))
  number_yes w =
      let z = field_stop s d.end k.inside w in (
        ap (λ (held : Option ℕ). word_of (said_by held))
            (digits_none (Some d.value) k.scanned.capped ∙ ap (λ (n : ℕ). digits_from (Some d.value) (take n (drop d.end s))) (sym z))
            ∙ sym digits_said_lem,
        (omega (arith, k.scanned.ends, z), simp (lt-ltb d.value CAP k.below)),
      )

  -- not all, where one more byte follows
  past : (b : ℕ) (f : List ℕ) → (d.value < SHORT → is_digit b ≡ false) → is_short (word_of (said_by (digits_from (Some d.value) (b ∷ f)))) ≡ false
  unfolding digits_from all_digits value_from
  past b f t = go (is_digit b) refl (all_digits f)
    where
      go : (p : Bool) → is_digit b ≡ p → (q : Bool)
          → is_short (word_of (said_by (cond (p && q) (Some (min (value_from (d.value * 10 + (b - 48)) f) CAP)) None))) ≡ false
      go true e true =
          let m : SHORT ≤ d.value =
          elim (dec_le SHORT d.value) [ yes g ↦ g | no g ↦ absurd (never (sym (t (lt_of_not-le g)) ∙ e)) ] in
          let v : ℕ = value_from (d.value * 10 + (b - 48)) f in
          let g : d.value * 10 + (b - 48) ≤ v = grows (d.value * 10 + (b - 48)) f in
          simp (le-ltb (min v CAP) CAP (omega arith), ne_eqb (min v CAP) DASH (λ c. omega arith))
      go true e false = refl
      go false e q = refl

  number_no : (stop ≡ LF → ⊥) → (stop ≡ COMMA → ⊥) → is_short (here s start) ≡ false
  number_no p q =
      ap is_short (digits_said_lem ∙ ap (λ (f : List ℕ). word_of (said_by (digits_from (Some d.value) f))) (field_left s d.end k.inside p q))
      ∙ past stop (field_at s (d.end + 1)) k.stops

  pub number_short : ended_word s d.value d.end ≡ short_at s start
  number_short = short_at_lem s start d.value d.end number_yes number_no

-- ---- `0` and `-`

module _ (s : List ℕ) (start : ℕ) (i : start + 1 < length s) where
  abbrev next : ℕ
  next = get_or s (start + 1) 0

  module _ (first said : ℕ) (e : get_or s start 0 ≡ first) (l : COMMA < first) (one : word (field_of (first ∷ [])) ≡ said) (t : is_short said ≡ true)
      (more : (b : ℕ) (f : List ℕ) → word (field_of (first ∷ b ∷ f)) ≡ OTHER) where
    left : field_at s start ≡ first ∷ field_at s (start + 1)
    left = rw e at (field_left s start (omega arith) (λ f. omega arith) (λ f. omega arith))

    byte_yes : Stop next → (said ≡ here s start) × ((start + 1 ≡ ending s start) × (is_short said ≡ true))
    byte_yes w =
        let z = field_stop s (start + 1) i w in
        let empty : field_at s (start + 1) ≡ [] = rw z in (
          sym (ap (λ (f : List ℕ). word (field_of f)) (left ∙ ap (λ (f : List ℕ). first ∷ f) empty) ∙ one),
          (field_one s start i w (omega arith), t),
        )

    byte_no : (next ≡ LF → ⊥) → (next ≡ COMMA → ⊥) → is_short (here s start) ≡ false
    byte_no p q =
        ap (λ (f : List ℕ). is_short (word (field_of f))) (left ∙ ap (λ (f : List ℕ). first ∷ f) (field_left s (start + 1) i p q))
        ∙ ap is_short (more next (field_at s (start + 1 + 1)))

    byte_short : ended_word s said (start + 1) ≡ short_at s start
    byte_short = short_at_lem s start said (start + 1) byte_yes byte_no

  pub zero_short : get_or s start 0 ≡ 48 → ended_word s 0 (start + 1) ≡ short_at s start
  zero_short e = byte_short 48 0 e (omega arith) word_zero refl word_zero_more

  pub dash_short : get_or s start 0 ≡ 45 → ended_word s DASH (start + 1) ≡ short_at s start
  dash_short e = byte_short 45 DASH e (omega arith) word_dash refl word_dash_more

-- ---- any other byte

pub none_short : (s : List ℕ) (start : ℕ) → start < length s → (49 ≤ get_or s start 0 → 57 < get_or s start 0) → (get_or s start 0 ≡ 48 → ⊥)
    → (get_or s start 0 ≡ 45 → ⊥) → None ≡ short_at s start
none_short s start h l z n = other_short s start (ap is_short says)
  where
    b : ℕ
    b = get_or s start 0

    digit : is_digit b ≡ false
    digit =
        elim (dec_le 49 b) [
          | yes g ↦ simp (lt-leb b 57 (l g), le-leb 48 b (omega arith))
          | no g ↦
              let k : b < 49 = lt_of_not-le g in
              simp (lt-leb 48 b (elim (dec_le 48 b) [ yes m ↦ absurd (z (omega arith)) | no m ↦ lt_of_not-le m ]))
        ]

    empty : Stop b → here s start ≡ OTHER
    empty w = ap (λ (k : ℕ). word (field_of (take k (drop start s)))) (field_stop s start h w) ∙ word_none

    says : here s start ≡ OTHER
    says =
        elim (ℕ_discrete b COMMA) [
          | yes c ↦ empty (inl c)
          | no q ↦ elim (ℕ_discrete b LF) [
            | yes c ↦ empty (inr c)
            | no p ↦ ap (λ (f : List ℕ). word (field_of f)) (field_left s start h p q) ∙ other_first b (field_at s (start + 1)) digit n
          ]
        ]

-- ---- what a field that was read says

-- the field that starts at a place of the sheet says this word and ends here, this byte behind it
pub record FieldBefore (sheet : List ℕ) (start said end behind : ℕ) : Type 0 where
  pub says : said ≡ word (field_of (field_at sheet start))
  pub ends : end ≡ start + field_length (drop start sheet)
  pub stops : get_or sheet end 0 ≡ behind

-- the byte that a comma or the end of a line is
abbrev pub byte_of : Behind → ℕ
byte_of Comma = COMMA
byte_of LineEnd = LF

abbrev pub Before : (sheet : List ℕ) → (start : ℕ) → Option ShortField → Type 0
Before sheet start (Some f) = FieldBefore sheet start f.word f.end (byte_of f.stop)
Before sheet start None = Unit {0}

pub short_before : (s : List ℕ) (start : ℕ) → Before s start (short_at s start)
unfolding short_at
short_before s start = go (is_short (here s start)) (eqb b COMMA) refl (eqb b LF) refl
  where
    b : ℕ
    b = get_or s (ending s start) 0

    go : (t p : Bool) → eqb b COMMA ≡ p → (q : Bool) → eqb b LF ≡ q
        → Before s start (cond t (cond p (Some (record { word = here s start; end = ending s start; stop = Comma })) (cond q (Some (record { word = here s start; end = ending s start; stop = LineEnd })) None)) None)
    go false p e q f = tt
    go true true e q f = record { says = refl; ends = refl; stops = eqb-true b COMMA e }
    go true false e true f = record { says = refl; ends = refl; stops = eqb-true b LF f }
    go true false e false f = tt
