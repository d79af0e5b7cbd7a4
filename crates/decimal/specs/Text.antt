-- For the reader. The bytes of a text of ASCII characters, so that tables of examples can be read.
use Rattle.std.specs.Prelude.{List, ℕ}
use Prim.Native.Char.{code}
use Prim.Native.String.{String, [], ◌∷◌}

abbrev pub bytes : String → List ℕ
bytes [] = List.[]
bytes (c ∷ s) = List.◌∷◌ (code c) (bytes s)
