-- For the code only: a line's fields as the code reads them. Laws join them to Records.
use Rattle.std.specs.Prelude.{◌≡◌, cond, List, map, ℕ, ◌+◌, ◌≤◌, ltb, length, set, replicate}
use Rattle.std.proofs.lemmas.List.Edits.{sets}
use Rattle.lines.specs.Records.{field_of, record_of}
use Rattle.lines.specs.Words.{WORDS, word, line_at}
use Rattle.lines.specs.declared.LineRead.{LineRead}
use Rattle.heads.specs.Left.{field_end, next_fields, last_end}

-- eight words with this one at k, where k is below eight
abbrev pub stored : (words : List ℕ) → (k : ℕ) → (word : ℕ) → List ℕ
stored words k word = cond (ltb k WORDS) (set words k word) words

-- the words of the fields after the one that ends here
abbrev pub next_words : (sheet : List ℕ) → (end : ℕ) → List ℕ
next_words sheet end = map word (map field_of (next_fields sheet end))

-- what is known once the fields up to end are read; the first field ends at first
pub record FieldsRead (sheet : List ℕ) (first : ℕ) (held : List ℕ) (count end : ℕ) : Type 0 where
  pub size : length held ≡ WORDS
  pub words : sets held count (next_words sheet end) ≡ sets (replicate WORDS 0) 0 (next_words sheet first)
  pub counted : count + length (next_fields sheet end) ≡ length (next_fields sheet first)
  pub ended : last_end sheet end ≡ last_end sheet first

-- a line of which some fields are read
pub record ReadSoFar (sheet : List ℕ) (start : ℕ) (l : LineRead) : Type 0 where
  pub letter : l.letter ≡ (record_of (line_at sheet start)).letter
  pub fields : FieldsRead sheet (field_end sheet start) l.words l.count l.end
  pub least : start ≤ l.end
  pub most : l.end ≤ length sheet
  pub fits : l.count ≤ l.end
