-- Laws of bytes written at a place. Assumes nothing.
use mathlib.Core.Path.{◌≡◌, sym, ap, ◌∙◌}
use mathlib.Core.List.{List, [], ◌∷◌, ◌++◌, append_assoc, append-nil}
use Prim.Native.Nat.{ℕ, ◌+◌, ◌≤◌, ◌<◌}
use native.Mathlib.Nat.{add-zero, zero-add}
use native.Mathlib.Numerals.{add-one}
use native.Mathlib.Omega.{arith}
use lib.ListN.{length, take, drop, set, length-append, length-drop, take-append-drop}
use lib.Seq.{set_split, length-take-le, take_at, drop_at, take-take, take-append-le, drop-append-add, drop-drop}
use Rattle.decimal.specs.Writing.{written, Put}

pub written_one : (l : List ℕ) (at x : ℕ) → at < length l → set l at x ≡ written l at (x ∷ [])
unfolding written
written_one l at x h = rw (set_split l at x h, add-one)

pub length_written : (l : List ℕ) (at : ℕ) (vs : List ℕ) → at + length vs ≤ length l → length (written l at vs) ≡ length l
unfolding written
length_written l at vs h =
    let p : at ≤ length l = omega arith in
    simp (length-append, length-take-le at l p, length-drop) (omega arith)

-- bytes written after bytes written
written_on : (l : List ℕ) (at : ℕ) (a b : List ℕ) → at + length a ≤ length l
    → written (written l at a) (at + length a) b ≡ written l at (a ++ b)
unfolding written
written_on l at a b h =
    let k : ℕ = at + length a in
    let p : List ℕ = take at l ++ a in
    let n : length p ≡ k = simp (length-append, length-take-le at l (let q : at ≤ length l = omega arith in q)) in
    let t : take k (p ++ drop k l) ≡ p = take_at p (drop k l) k n in
    let d : drop (k + length b) (p ++ drop k l) ≡ drop (k + length b) l =
    ap (λ (m : ℕ). drop (m + length b) (p ++ drop k l)) (sym n) ∙ drop-append-add p (drop k l) (length b) ∙ drop-drop (length b) k l in
    let s : at + (length a + length b) ≡ k + length b = omega arith in
    rw (← append_assoc (take at l) a (drop k l), t, d) (simp (length-append, append_assoc, s))

-- bytes written before bytes written
written_first : (l : List ℕ) (at : ℕ) (a b : List ℕ) → at + length b + length a ≤ length l
    → written (written l (at + length b) a) at b ≡ written l at (b ++ a)
unfolding written
written_first l at a b h =
    let k : ℕ = at + length b in
    let tail : List ℕ = a ++ drop (k + length a) l in
    let n : length (take k l) ≡ k = length-take-le k l (let q : k ≤ length l = omega arith in q) in
    let t : take at (take k l ++ tail) ≡ take at l =
    take-append-le at (take k l) tail (omega arith) ∙ take-take at k l (let q : at ≤ k = omega arith in q) in
    let d : drop k (take k l ++ tail) ≡ tail = drop_at (take k l) tail k n in
    let s : at + (length b + length a) ≡ k + length a = omega arith in
    rw (t, d) (simp (length-append, append_assoc, s))

-- one after the other: what every writer of several parts is proved by
pub then : {l : List ℕ} {at : ℕ} {a b m n : List ℕ} {j k : ℕ} → at + length a ≤ length l → Put l at a m j → Put m j b n k → Put l at (a ++ b) n k
then {l} {at} {a} {b} h p q =
    record {
      place = omega (arith, p.place, q.place, length-append a b);
      bytes_are = q.bytes_are ∙ rw (p.bytes_are, p.place) (written_on l at a b h);
    }

-- one before the other: what a writer from the last part to the first is proved by
pub before : {l : List ℕ} {at i : ℕ} {a b m n : List ℕ} {j : ℕ} → j ≤ length l → Put l at a m j → Put m i b n at → Put l i (b ++ a) n j
before {l} {at} {i} {a} {b} h p q =
    record {
      place = omega (arith, p.place, q.place, length-append b a);
      bytes_are = q.bytes_are ∙ rw (p.bytes_are, q.place) (written_first l i a b (omega (arith, p.place, q.place)));
    }

pub put_none : (l : List ℕ) (at : ℕ) → Put l at [] l at
unfolding written
put_none l at =
    record { place = omega arith; bytes_are = rw add-zero (sym (take-append-drop at l)) }

pub put_kept : {l : List ℕ} {at : ℕ} {vs m : List ℕ} {k : ℕ} → at + length vs ≤ length l → Put l at vs m k → length m ≡ length l
put_kept {l} {at} {vs} h p = rw p.bytes_are (length_written l at vs h)

-- one byte
pub put_one : (l : List ℕ) (at x : ℕ) → at < length l → (k : ℕ) → k ≡ at + 1 → Put l at (x ∷ []) (set l at x) k
put_one l at x h k e = record { place = e; bytes_are = written_one l at x h }

pub byte_before : {l vs m : List ℕ} {at j : ℕ} → j ≤ length l → Put l at vs m j → (i x : ℕ) → i + 1 ≡ at → Put l i (x ∷ vs) (set m i x) j
byte_before {l} {vs} {m} {at} h p i x e =
    let kept : length m ≡ length l = put_kept (omega (arith, p.place)) p in
    before h p (put_one m i x (omega (arith, p.place)) at (sym e))

-- put at the start: the bytes, and what stood past them
pub start_bytes : {l vs m : List ℕ} {k : ℕ} → Put l 0 vs m k → m ≡ vs ++ drop (length vs) l
unfolding written
start_bytes {l} {vs} p = p.bytes_are ∙ ap (λ (n : ℕ). vs ++ drop n l) (zero-add (length vs))

pub start_place : {l vs m : List ℕ} {k : ℕ} → Put l 0 vs m k → k ≡ length vs
start_place {l} {vs} p = omega (arith, p.place)

-- ---- bytes put from the last to the first

-- of all bytes those behind the first ones are put, from a place to the end
pub record Behind (all l : List ℕ) (end : ℕ) (first space : List ℕ) (place : ℕ) : Type 0 where
  pub tail : List ℕ
  pub are : all ≡ first ++ tail
  pub put : Put l place tail space end

pub behind_none : (all l : List ℕ) (end : ℕ) → Behind all l end all l end
behind_none all l end = record { tail = []; are = sym (append-nil all); put = put_none l end }

pub behind_all : {all l : List ℕ} {end : ℕ} {space : List ℕ} {place : ℕ} → Behind all l end [] space place → Put l place all space end
behind_all w = rw w.are w.put

-- the room before the place: that before all, and that of the first ones
pub behind_room : {all l : List ℕ} {end : ℕ} {first space : List ℕ} {place : ℕ} → Behind all l end first space place → place + length all ≡ end + length first
behind_room {all} {l} {end} {first} w = omega (arith, w.put.place, ap length w.are, length-append first w.tail)

pub behind_kept : {all l : List ℕ} {end : ℕ} {first space : List ℕ} {place : ℕ} → end ≤ length l → Behind all l end first space place
    → (length space ≡ length l) × (place ≤ length space)
behind_kept {all} {l} {end} {first} {space} {place} h w =
    let kept : length space ≡ length l = put_kept (omega (arith, w.put.place)) w.put in
    (kept, omega (arith, w.put.place))

-- the last of the first ones more
pub behind_more : {all l : List ℕ} {end : ℕ} (first part : List ℕ) {space after : List ℕ} {place at : ℕ} → end ≤ length l
    → Behind all l end (first ++ part) space place → Put space at part after place → Behind all l end first after at
behind_more first part h w p =
    record { tail = part ++ w.tail; are = w.are ∙ append_assoc first part w.tail; put = before h w.put p }
