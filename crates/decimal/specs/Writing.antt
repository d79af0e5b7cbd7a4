-- For the reader. Document 01, "What the contracts say", a: bytes written at a place of a lent space, and each other byte of it.
use Rattle.std.specs.Prelude.{◌≡◌, List, ◌++◌, ℕ, ◌+◌, length, take, drop}

-- the space with the bytes at the place, and every other byte as it was
unfoldable pub written : (space : List ℕ) → (at : ℕ) → (bytes : List ℕ) → List ℕ
written space at bytes = take at space ++ (bytes ++ drop (at + length bytes) space)

-- the bytes were put at the place, the space became `after`, and `stop` is the place after them
pub record Put (space : List ℕ) (at : ℕ) (bytes after : List ℕ) (stop : ℕ) : Type 0 where
  pub place : stop ≡ at + length bytes
  pub bytes_are : after ≡ written space at bytes
