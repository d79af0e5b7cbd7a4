-- For the reader. Document 01, "The report": the figure of each process, at its number.
use Rattle.std.specs.Prelude.{◌≡◌, List, ℕ, ◌+◌, ◌≤◌, length, get_or}
use Rattle.quantity.specs.Limits.{limits}

-- processes are 1 .. PROCESSES, and place 0 is outside the works
abbrev pub PROCESSES : ℕ
PROCESSES = limits.processes

abbrev pub SIZE : ℕ
SIZE = PROCESSES + 1

-- the figure of process k
abbrev pub figures : List ℕ → (k : ℕ) → ℕ
figures l k = get_or l k 0

-- every place outside 1 .. count has 0
abbrev pub NoneOutside : (count : ℕ) → List ℕ → Type 0
NoneOutside count a = (k : ℕ) → (1 ≤ k → k ≤ count → ⊥) → figures a k ≡ 0

-- the array has the figure of each process 1 .. count at its number, and 0 in every other place
pub record Column (count : ℕ) (figure : ℕ → ℕ) (a : List ℕ) : Type 0 where
  pub size : length a ≡ SIZE
  pub at : (k : ℕ) → 1 ≤ k → k ≤ count → figures a k ≡ figure k
  pub outside : NoneOutside count a
