-- A number's digits written from the last to the first. Assumes nothing.
use mathlib.Core.Path.{◌≡◌, refl, sym}
use mathlib.Core.List.{List, [], ◌∷◌}
use Prim.Native.Nat.{ℕ, ◌+◌, ◌/◌, ◌%◌, ◌≤◌, ◌<◌}
use native.Mathlib.Omega.{arith}
use lib.ListN.{length, set}
use Rattle.decimal.specs.Spelling.{spelling}
use Rattle.decimal.specs.Writing.{Put}
use Rattle.decimal.proofs.Spelling.{spell_one, spell_more}
use Rattle.decimal.proofs.Writing.{put_one, Behind, behind_all, behind_kept, behind_more}

-- the last two digits of n, had from its remainder by 100
last_digit : (n : ℕ) → n % 100 % 10 ≡ n % 10
last_digit n = omega arith

digit_before : (n : ℕ) → n % 100 / 10 ≡ n / 10 % 10
digit_before n = omega arith

-- of the digits of n those behind the digits of `left` are written
abbrev pub Written : (l : List ℕ) → (end n : ℕ) → (space : List ℕ) → (place left : ℕ) → Type 0
Written l end n space place left = Behind (spelling n) l end (spelling left) space place

module _ (l : List ℕ) (end n : ℕ) (inside : end ≤ length l) where
  -- one digit more
  one_written : (s : List ℕ) (place left : ℕ) → Written l end n s place left → (before : ℕ) → before + 1 ≡ place → 10 ≤ left
      → Written l end n (set s before (48 + left % 10)) before (left / 10)
  one_written s place left w before e h =
      behind_more (spelling (left / 10)) ((48 + left % 10) ∷ []) inside (rw (spell_more left h) at w)
      (put_one s before (48 + left % 10) (omega (arith, (behind_kept inside w).1)) place (sym e))

  module _ (s : List ℕ) (place left : ℕ) (w : Written l end n s place left) where
    -- the first digit
    pub all_written : (before : ℕ) → before + 1 ≡ place → left < 10 → Put l before (spelling n) (set s before (48 + left)) end
    all_written before e h =
        behind_all
        (behind_more [] ((48 + left) ∷ []) inside (rw (spell_one left h) at w)
        (put_one s before (48 + left) (omega (arith, (behind_kept inside w).1)) place (sym e)))

    -- two digits more
    pub two_written : (before : ℕ) → before + 2 ≡ place → 100 ≤ left
        → Written l end n (set (set s (before + 1) (48 + left % 100 % 10)) before (48 + left % 100 / 10)) before (left / 100)
    two_written before e h =
        let h1 : 10 ≤ left = omega arith in
        let h2 : 10 ≤ left / 10 = omega arith in
        let one = one_written s place left w (before + 1) (omega arith) h1 in
        let two = one_written (set s (before + 1) (48 + left % 10)) (before + 1) (left / 10) one before refl h2 in
        let q : left / 10 / 10 ≡ left / 100 = omega arith in
        rw (last_digit left, digit_before left) (rw q at two)

  -- the first two
  pub last_two : (s : List ℕ) (place left : ℕ) → Written l end n s place left → (last first : ℕ) → last + 1 ≡ place → first + 1 ≡ last
      → left < 100 → 10 ≤ left → Put l first (spelling n) (set (set s last (48 + left % 10)) first (48 + left / 10)) end
  last_two s place left w last first e f h k =
      let h1 : left / 10 < 10 = omega arith in
      all_written (set s last (48 + left % 10)) last (left / 10) (one_written s place left w last e k) first f h1
