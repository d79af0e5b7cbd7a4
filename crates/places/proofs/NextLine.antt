-- A sheet's lines one after the other, over places of the sheet, and the place of a line. Assumes nothing.
use mathlib.Core.Path.{◌≡◌, refl, sym, ap, ap₂, ◌∙◌}
use mathlib.Core.Bool.{Bool, true, false, cond}
use mathlib.Core.List.{List, [], ◌∷◌}
use Prim.Native.Nat.{ℕ, zero, suc, ◌+◌, ◌-◌, min, ◌≤◌, ◌<◌}
use native.Mathlib.Nat.{lt_of_not-le}
use native.Mathlib.Decide.{dec_le}
use native.Mathlib.Numerals.{add-one}
use native.Mathlib.Omega.{arith}
use borrow.Author.Tests.{eq-eqb, ne_eqb, lt-ltb, le-ltb}
use lib.Dec.{eqb, ltb}
use lib.ListN.{length, take, drop, length-take, length-drop, drop_of_length-le}
use lib.Seq.{take-nil, drop-drop}
use Rattle.std.proofs.Common.{Option}
use Rattle.std.specs.List.{AllWithin, HoldsAt}
use Rattle.std.specs.Option.{MatchOption, unwrap_or}
use Rattle.std.proofs.lemmas.Iterator.{index_from_first}
use Rattle.decimal.proofs.Bools.{ltb_suc}
use Rattle.lines.specs.Lines.{LF, Line, line, before_line, lines_of, line_bytes, line_start}
use Rattle.lines.specs.Words.{line_length, line_at}
use Rattle.places.specs.LinePlace.{offending_line, part_of}
use Rattle.places.specs.declared.Place.{Place}
use Rattle.lines.proofs.OneRecord.{line_part}

-- ---- a line's length, byte by byte

line_lf : (b : ℕ) (bytes : List ℕ) → b ≡ LF → line_length (b ∷ bytes) ≡ 0
unfolding line_length
line_lf b bytes e = simp (eq-eqb _ _ e)

line_past : (b : ℕ) (bytes : List ℕ) → (b ≡ LF → ⊥) → line_length (b ∷ bytes) ≡ line_length bytes + 1
unfolding line_length
line_past b bytes n = simp (ne_eqb _ _ n) (omega arith)

-- it ends before the first byte that is an LF
pub line_found : (bytes : List ℕ) (r : Option ℕ)
    → MatchOption r (AllWithin (λ b. b ≡ LF → ⊥) bytes 0 (length bytes)) (λ i. (i < length bytes) × HoldsAt (λ b. b ≡ LF) bytes i × AllWithin (λ b. b ≡ LF → ⊥) bytes 0 i)
    → line_length bytes ≡ unwrap_or r (length bytes)
unfolding line_length
line_found bytes r first = index_from_first line_length (λ b. b ≡ LF) (λ b. b ≡ LF → ⊥) refl line_lf line_past bytes r first

pub line_none : (s : List ℕ) (i : ℕ) → length s ≤ i → line_length (drop i s) ≡ 0
unfolding line_length
line_none s i h = rw (drop_of_length-le s h)

within : (bytes : List ℕ) → line_length bytes ≤ length bytes
unfolding line_length
within [] = omega arith
within (b ∷ bytes) = go (within bytes) (eqb b LF)
  where
    go : line_length bytes ≤ length bytes → (t : Bool) → cond t 0 (suc (line_length bytes)) ≤ suc (length bytes)
    go h true = omega arith
    go h false = omega arith

-- ---- the first line of the bytes that are left

first_line : (b : ℕ) (bytes : List ℕ)
    → lines_of (b ∷ bytes) ≡ line_at (b ∷ bytes) 0 ∷ lines_of (drop (suc (line_length (b ∷ bytes))) (b ∷ bytes))
unfolding lines_of line_length line_at
first_line b [] = go (eqb b LF)
  where
    go : (t : Bool) → cond t (line [] true ∷ []) (before_line b [])
        ≡ line (take (cond t 0 1) (b ∷ [])) (ltb (cond t 0 1) 1) ∷ lines_of (drop (suc (cond t 0 1)) (b ∷ []))
    go true = refl
    go false = refl
first_line b (c ∷ bytes) = go (first_line c bytes) (eqb b LF)
  where
    go : lines_of (c ∷ bytes) ≡ line_at (c ∷ bytes) 0 ∷ lines_of (drop (suc (line_length (c ∷ bytes))) (c ∷ bytes)) → (t : Bool)
        → cond t (line [] true ∷ lines_of (c ∷ bytes)) (before_line b (lines_of (c ∷ bytes)))
        ≡ line (take (cond t 0 (suc (line_length (c ∷ bytes)))) (b ∷ c ∷ bytes)) (ltb (cond t 0 (suc (line_length (c ∷ bytes)))) (suc (suc (length bytes))))
        ∷ lines_of (drop (suc (cond t 0 (suc (line_length (c ∷ bytes))))) (b ∷ c ∷ bytes))
    go ih true = simp (lt-ltb 0 (suc (suc (length bytes))) (omega arith))
    go ih false = rw ltb_suc (ap (before_line b) ih)

first_of : (bytes : List ℕ) → 0 < length bytes → lines_of bytes ≡ line_at bytes 0 ∷ lines_of (drop (suc (line_length bytes)) bytes)
first_of [] h = absurd (omega arith)
first_of (b ∷ bytes) h = first_line b bytes

-- ---- the lines from a place of the sheet on

pub lines_step : (sheet : List ℕ) (start : ℕ) → start < length sheet
    → lines_of (drop start sheet) ≡ line_at sheet start ∷ lines_of (drop (suc (start + line_length (drop start sheet))) sheet)
unfolding line_at
lines_step sheet start h =
    first_of (drop start sheet) (rw length-drop (omega arith))
    ∙ ap (λ (l : List ℕ). line_at sheet start ∷ lines_of l)
    (drop-drop (suc (line_length (drop start sheet))) start sheet
    ∙ ap (λ (n : ℕ). drop n sheet) (let e : start + suc (line_length (drop start sheet)) ≡ suc (start + line_length (drop start sheet)) = omega arith in e))

pub lines_done : (sheet : List ℕ) (start : ℕ) → length sheet ≤ start → lines_of (drop start sheet) ≡ []
unfolding lines_of
lines_done sheet start h = rw (drop_of_length-le sheet h)

pub end_in : (sheet : List ℕ) (start : ℕ) → start ≤ length sheet → start + line_length (drop start sheet) ≤ length sheet
end_in sheet start h = omega (arith, within (drop start sheet), length-drop start sheet)

pub line_ended : (sheet : List ℕ) (start : ℕ) (end : ℕ) → start ≤ length sheet → end ≡ start + line_length (drop start sheet)
    → (line_at sheet start).ended ≡ ltb end (length sheet)
unfolding line_at
line_ended sheet start end h e =
    elim (dec_le (length sheet) end) [
      | yes g ↦ le-ltb n (length (drop start sheet)) (rw length-drop (omega arith)) ∙ sym (le-ltb end (length sheet) g)
      | no g ↦
          let k : end < length sheet = lt_of_not-le g in
          lt-ltb n (length (drop start sheet)) (rw length-drop (omega arith)) ∙ sym (lt-ltb end (length sheet) k)
    ]
  where
    n : ℕ
    n = line_length (drop start sheet)

-- ---- where a line starts

bytes_length : (sheet : List ℕ) (start : ℕ) → length (line_at sheet start).bytes ≡ line_length (drop start sheet)
unfolding line_at
bytes_length sheet start = rw length-take (omega (arith, within (drop start sheet)))

pub start_first : (ls : List Line) (n : ℕ) → n ≤ 1 → line_start ls n ≡ 0
unfolding line_start
start_first ls zero h = refl
start_first [] (suc zero) h = refl
start_first (l ∷ ls) (suc zero) h = refl
start_first ls (suc (suc n)) h = absurd (omega arith)

pub start_past : (sheet : List ℕ) (start n : ℕ) → length sheet ≤ start → line_start (lines_of (drop start sheet)) n ≡ 0
unfolding line_start
start_past sheet start n h = rw (lines_done sheet start h) (go n)
  where
    go : (n : ℕ) → line_start [] n ≡ 0
    go zero = refl
    go (suc n) = refl

pub start_later : (sheet : List ℕ) (start end n : ℕ) → start < length sheet → end ≡ start + line_length (drop start sheet) → 1 < n
    → end + 1 + line_start (lines_of (drop (end + 1) sheet)) (n - 1) ≡ start + line_start (lines_of (drop start sheet)) n
unfolding line_start
start_later sheet start end n h e g = rw (lines_step sheet start h, add-one, e) (go n g)
  where
    rest : List Line
    rest = lines_of (drop (suc (start + line_length (drop start sheet))) sheet)

    go : (n : ℕ) → 1 < n → suc (start + line_length (drop start sheet)) + line_start rest (n - 1) ≡ start + line_start (line_at sheet start ∷ rest) n
    go zero g = absurd (omega arith)
    go (suc zero) g = absurd (omega arith)
    go (suc (suc n)) g =
        let z : suc (suc n) - 1 ≡ suc n = omega arith in
        rw z (omega (arith, bytes_length sheet start))

-- a line's bytes stand from its start on: line suc n of those from here on
abbrev BytesAt : List ℕ → (n start : ℕ) → Type 0
BytesAt sheet n start =
    line_bytes (lines_of (drop start sheet)) (suc n) ≡ (line_at sheet (start + line_start (lines_of (drop start sheet)) (suc n))).bytes

module _ (sheet : List ℕ) (start : ℕ) where
  bytes_past : (n : ℕ) → length sheet ≤ start → BytesAt sheet n start
  unfolding line_bytes line_start line_at
  bytes_past n h =
      let z : length sheet ≤ start + 0 = omega arith in
      rw (lines_done sheet start h, drop_of_length-le sheet z) (sym (take-nil (line_length [])))

  bytes_first : start < length sheet → BytesAt sheet 0 start
  unfolding line_bytes line_start
  bytes_first h =
      rw (lines_step sheet start h) (ap (λ (k : ℕ). (line_at sheet k).bytes) (let e : start ≡ start + 0 = omega arith in e))

  bytes_next : (n : ℕ) → start < length sheet → BytesAt sheet n (suc (start + line_length (drop start sheet))) → BytesAt sheet (suc n) start
  unfolding line_bytes line_start
  bytes_next n h ih =
      rw (lines_step sheet start h) (ih ∙ ap (λ (k : ℕ). (line_at sheet k).bytes) (omega (arith, bytes_length sheet start)))

bytes_from : (sheet : List ℕ) (n start : ℕ) → BytesAt sheet n start
bytes_from sheet zero start =
    elim (dec_le (length sheet) start) [
      | yes h ↦ bytes_past sheet start 0 h
      | no h ↦ bytes_first sheet start (lt_of_not-le h)
    ]
bytes_from sheet (suc n) start =
    elim (dec_le (length sheet) start) [
      | yes h ↦ bytes_past sheet start (suc n) h
      | no h ↦ bytes_next sheet start n (lt_of_not-le h) (bytes_from sheet n (suc (start + line_length (drop start sheet))))
    ]

-- ---- the part of the sheet that is a line

abbrev place : (start size : ℕ) → Place
place start size = record { start = start; length = size }

module _ (sheet : List ℕ) where
  module _ (n start : ℕ) (some : n ≡ 0 → ⊥) (e : start ≡ line_start (lines_of sheet) n) where
    long : length (line_bytes (lines_of sheet) n) ≡ line_length (drop start sheet)
    long = go n some e
      where
        go : (n : ℕ) → (n ≡ 0 → ⊥) → start ≡ line_start (lines_of sheet) n → length (line_bytes (lines_of sheet) n) ≡ line_length (drop start sheet)
        go zero some e = absurd (some refl)
        go (suc n) some e = ap length (bytes_from sheet n 0 ∙ ap (λ (k : ℕ). (line_at sheet k).bytes) (omega arith)) ∙ bytes_length sheet start

    pub place_past : length sheet ≤ start → record { start = length sheet; length = 0 } ≡ offending_line sheet n
    unfolding offending_line
    place_past h =
        let at : length sheet ≡ min (line_start (lines_of sheet) n) (length sheet) = omega arith in
        ap₂ place at (sym (long ∙ line_none sheet start h))

    pub place_of : (end : ℕ) → start < length sheet → end ≡ start + line_length (drop start sheet)
        → record { start = start; length = end - start } ≡ offending_line sheet n
    unfolding offending_line
    place_of end h f =
        let at : start ≡ min (line_start (lines_of sheet) n) (length sheet) = omega arith in
        let size : end - start ≡ length (line_bytes (lines_of sheet) n) = omega (arith, long) in
        ap₂ place at size

  pub place_none : record { start = 0; length = 0 } ≡ offending_line sheet 0
  unfolding offending_line line_bytes line_start
  place_none = ap₂ place (let at : 0 ≡ min 0 (length sheet) = omega arith in at) refl

  -- it lies inside the sheet
  pub part_inside : (n : ℕ) → (offending_line sheet n).start + (offending_line sheet n).length ≤ length sheet
  unfolding offending_line line_bytes line_start
  part_inside zero = omega arith
  part_inside (suc n) =
      let size = long (suc n) at (λ e. absurd (omega arith)) refl in
      elim (dec_le (length sheet) at) [
        | yes h ↦ omega (arith, size, line_none sheet at h)
        | no h ↦ omega (arith, size, end_in sheet at (omega arith))
      ]
    where
      at : ℕ
      at = line_start (lines_of sheet) (suc n)

  -- the part from a place's start to its end is the part at that place
  module _ (n : ℕ) (p : Place) (e : p ≡ offending_line sheet n) where
    pub place_inside : p.start + p.length ≤ length sheet
    place_inside = rw e (part_inside n)

    pub place_cut : take (p.start + p.length - p.start) (drop p.start sheet) ≡ part_of sheet (offending_line sheet n)
    place_cut =
        let z : p.start + p.length - p.start ≡ p.length = omega arith in
        rw z (ap (part_of sheet) e)

  -- its bytes are the line's
  pub part_bytes : (n : ℕ) → part_of sheet (offending_line sheet n) ≡ line_bytes (lines_of sheet) n
  unfolding offending_line
  part_bytes n = rw same (line_part sheet n)
    where
      at : ℕ
      at = line_start (lines_of sheet) n

      same : drop (min at (length sheet)) sheet ≡ drop at sheet
      same =
          elim (dec_le at (length sheet)) [
            | yes h ↦ ap (λ (i : ℕ). drop i sheet) (let e : min at (length sheet) ≡ at = omega arith in e)
            | no h ↦
                let g : length sheet < at = lt_of_not-le h in
                drop_of_length-le sheet (let e : length sheet ≤ min at (length sheet) = omega arith in e)
                ∙ sym (drop_of_length-le sheet (let e : length sheet ≤ at = omega arith in e))
          ]
