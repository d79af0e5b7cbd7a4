-- For the code only: a line's head. Laws join it to Records.
use Rattle.std.specs.Prelude.{◌≡◌, Bool, false, cond, ◌&&◌, Some, None, List, ℕ, ◌+◌, ◌-◌, ◌≤◌, eqb, ltb, length, get_or}
use Rattle.lines.specs.Lines.{LF, COMMA}
use Rattle.lines.specs.Records.{record_of}
use Rattle.lines.specs.Words.{line_at}
use Rattle.fields.specs.declared.Stop.TheVariants.{Comma}
use Rattle.heads.specs.Left.{field_end}
use Rattle.heads.specs.declared.Head.{Head}

-- the letter of a line, and where its first field ends
pub record HeadIs (sheet : List ℕ) (start letter end : ℕ) : Type 0 where
  pub letter_is : letter ≡ (record_of (line_at sheet start)).letter
  pub ends : end ≡ field_end sheet start
  pub most : end ≤ length sheet

-- whether a byte above a comma and a comma behind it start the line, in a sheet that ends in LF
abbrev pub letter_first : (sheet : List ℕ) → (start : ℕ) → Bool
letter_first sheet start =
    cond (ltb start (length sheet - 1) && ltb COMMA (get_or sheet start 0))
    (eqb (get_or sheet (length sheet - 1) 0) LF && eqb (get_or sheet (start + 1) 0) COMMA)
    false

pub record HeadAt (sheet : List ℕ) (start : ℕ) (h : Head) : Type 0 where
  pub is : HeadIs sheet start h.letter h.end
  pub stop : h.stop ≡ cond (letter_first sheet start) (Some Comma) None
