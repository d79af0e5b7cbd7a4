-- For the code only: what an array holds at the number of each process, and how large it is.
use Rattle.std.specs.Prelude.{List, ℕ, ◌+◌, ◌^◌, ◌≤◌, ◌<◌, ℤ, pos, nat_abs, get_or}

-- the signed figure of process k
abbrev pub signed_figures : List ℤ → (k : ℕ) → ℤ
signed_figures l k = get_or l k (pos 0)

-- every figure of a column is at most so much, its sign aside
abbrev pub AtMost : (most : ℕ) → List ℕ → Type 0
AtMost most l = (k : ℕ) → get_or l k 0 ≤ most

abbrev pub SizeAtMost : (most : ℕ) → List ℤ → Type 0
SizeAtMost most l = (k : ℕ) → nat_abs (get_or l k (pos 0)) ≤ most

-- the most that a figure may be, its sign aside, before an entry is booked: with the entry it still stays below 2^63
abbrev pub BEFORE_ENTRY : ℕ
BEFORE_ENTRY = 9200000000000000000

-- two figures of process k together, and that they fit
abbrev pub together : (a b : List ℕ) → (k : ℕ) → ℕ
together a b k = get_or a k 0 + get_or b k 0

abbrev pub FitTogether : (count : ℕ) → (a b : List ℕ) → Type 0
FitTogether count a b = (k : ℕ) → 1 ≤ k → k ≤ count → together a b k < 2 ^ 64
