-- For the code only: what the code holds of the lines above, and after one line more. Laws join it to document 01's sums and to the figures that
-- govern a precursor.
use Rattle.std.specs.Prelude.{Bool, true, false, cond, not, Option, None, Some, List, ℕ, ◌+◌, ◌*◌, ◌%◌, ◌^◌, ◌≤◌, ◌<◌, eqb, ltb, get_or, replicate, set, bit_or}
use Rattle.quantity.specs.Limits.{Limits, limits}
use Rattle.sheet.specs.Kinds.{letter, precursor_number}
use Rattle.sheet.specs.declared.Kind.TheVariants.{Process, OwnGood, PrecursorFigures, PrecursorUse}
use Rattle.sheet.specs.Most.{KILOS, MOST}
use Rattle.lines.specs.declared.LineRead.{LineRead}
use Rattle.goods.specs.Settling.{SIZE}
use Rattle.ledger.specs.Columns.{AtMost}
use Rattle.ledger.specs.Ledger.{added, booked, start}
use Rattle.checks.specs.declared.above.Above.{Above}
use Rattle.judge.specs.Line.{line_number}
use Rattle.entries.specs.Entries.{entry}
use Rattle.entries.specs.Read.{record_read}
use Rattle.works.specs.declared.Noted.{Noted}
use Rattle.works.specs.declared.Stated.{Stated}
use Rattle.works.specs.declared.Works.{Works}

-- precursors have the numbers from 1 on
abbrev pub PRECURSORS : ℕ
PRECURSORS = precursor_number.highest + 1

abbrev pub noted_of : (lines count : ℕ) → (outputs taken : List ℕ) → Noted
noted_of lines count outputs taken = record {
  lines = lines;
  count = count;
  outputs = record { 0 = outputs };
  taken = record { 0 = taken };
}

-- the kilograms of a process and of a pair of processes, 0 where there is no such place
abbrev pub of_process : (kilos : List ℕ) → (n : ℕ) → ℕ
of_process kilos n = cond (ltb n SIZE) (get_or kilos n 0) 0

abbrev pub of_pair : (kilos : List ℕ) → (f t : ℕ) → ℕ
of_pair kilos f t = cond (ltb f SIZE) (cond (ltb t SIZE) (get_or kilos (f * SIZE + t) 0) 0) 0

-- the ranks stated for a precursor, none where there is no such place
abbrev pub ranks_of : (ranks : List ℕ) → (p : ℕ) → ℕ
ranks_of ranks p = cond (ltb p PRECURSORS) (get_or ranks p 0) 0

-- kilograms of an own good, none of any other line
abbrev of_good : (byte : ℕ) → ℕ → ℕ
of_good byte n = cond (eqb byte (letter OwnGood)) n 0

-- ranks of a K line, none of any other line
abbrev of_figures : (byte : ℕ) → ℕ → ℕ
of_figures byte n = cond (eqb byte (letter PrecursorFigures)) n 0

-- WHAT THE LINES ABOVE SAY of a line, from the state: the struct, what is stated of precursors, and the kilograms of pairs
abbrev pub above_at : Noted → Stated → (kilos : List ℕ) → LineRead → Above
above_at n s kilos l = record {
  lines = n.lines;
  processes = n.count;
  output = record { 0 = of_good l.letter (of_process n.outputs.0 (get_or l.words 0 0)) };
  taken = record { 0 = of_good l.letter (of_process n.taken.0 (get_or l.words 0 0)) };
  pair = record { 0 = of_good l.letter (of_pair kilos (get_or l.words 0 0) (get_or l.words 1 0)) };
  ranks = of_figures l.letter (ranks_of s.ranks (get_or l.words 0 0));
}

abbrev pub above_of : Works → Stated → (kilos : List ℕ) → LineRead → Above
above_of w s kilos l = above_at w.noted s kilos l

-- whether a line lacks its LF: its end is that of a sheet of so many bytes; None where no line of the sheet can lack it
abbrev pub lacks_lf : (end : ℕ) → (size : Option ℕ) → Bool
lacks_lf end None = false
lacks_lf end (Some size) = eqb end size

-- 2 to 13 and 17 of a line that was read
abbrev pub read_number : Limits → LineRead → (size : Option ℕ) → Above → ℕ
read_number limits l size above = line_number limits (not (lacks_lf l.end size)) l.letter l.count l.words above

-- the same, from the state
abbrev pub state_number : Limits → Noted → Stated → (kilos : List ℕ) → LineRead → (size : Option ℕ) → ℕ
state_number limits n s kilos l size = read_number limits l size (above_at n s kilos l)

-- a P line: one process more, and its output
abbrev pub output_noted : List ℕ → LineRead → List ℕ
output_noted outputs l = added outputs (get_or l.words 0 0) (get_or l.words 1 0)

-- a G line: the kilograms that it takes of an output, and those of its pair of processes
abbrev pub taken_noted : List ℕ → LineRead → List ℕ
taken_noted taken l = added taken (get_or l.words 0 0) (get_or l.words 2 0)

abbrev pub pair_noted : List ℕ → LineRead → List ℕ
pair_noted kilos l = added kilos (get_or l.words 0 0 * SIZE + get_or l.words 1 0) (get_or l.words 2 0)

-- a K line: the bit of its rank
abbrev pub ranks_noted : List ℕ → LineRead → List ℕ
ranks_noted ranks l = set ranks (get_or l.words 0 0) (bit_or (get_or ranks (get_or l.words 0 0) 0) (2 ^ get_or l.words 1 0))

-- and its end, where no lower rank number is stated
abbrev pub ends_noted : (ranks ends : List ℕ) → LineRead → List ℕ
ends_noted ranks ends l =
    cond (eqb (get_or ranks (get_or l.words 0 0) 0 % 2 ^ get_or l.words 1 0) 0) (set ends (get_or l.words 0 0) (l.end % limits.bytes)) ends

abbrev pub stated_of : (ranks ends : List ℕ) → (used : Bool) → Stated
stated_of ranks ends used = record { ranks = ranks; ends = ends; used = used }

abbrev pub figures_noted : Stated → LineRead → Stated
figures_noted s l = stated_of (ranks_noted s.ranks l) (ends_noted s.ranks s.ends l) s.used

-- an N line
abbrev pub use_noted : Stated → Stated
use_noted s = stated_of s.ranks s.ends true

unfoldable pub count_after : ℕ → LineRead → ℕ
count_after count l = cond (eqb l.letter (letter Process)) (count + 1) count

unfoldable pub outputs_after : List ℕ → LineRead → List ℕ
outputs_after outputs l = cond (eqb l.letter (letter Process)) (output_noted outputs l) outputs

unfoldable pub taken_after : List ℕ → LineRead → List ℕ
taken_after taken l = cond (eqb l.letter (letter OwnGood)) (taken_noted taken l) taken

unfoldable pub kilos_after : List ℕ → LineRead → List ℕ
kilos_after kilos l = cond (eqb l.letter (letter OwnGood)) (pair_noted kilos l) kilos

unfoldable pub stated_after : Stated → LineRead → Stated
stated_after s l = cond (eqb l.letter (letter PrecursorFigures)) (figures_noted s l) (cond (eqb l.letter (letter PrecursorUse)) (use_noted s) s)

-- a line of any kind: its kilograms noted
abbrev pub noted_after : Noted → LineRead → Noted
noted_after n l = noted_of (n.lines + 1) (count_after n.count l) (outputs_after n.outputs.0 l) (taken_after n.taken.0 l)

-- and its entry booked
abbrev pub works_after : Works → LineRead → Works
works_after w l = record { noted = noted_after w.noted l; ledger = booked w.ledger (entry (record_read l)) }

-- there is room for the kilograms of one line more
pub record RoomForLine (n : Noted) (kilos : List ℕ) : Type 0 where
  pub lines : n.lines ≤ limits.lines
  pub count : n.count ≤ limits.lines
  pub outputs : AtMost MOST n.outputs.0
  pub taken : AtMost MOST n.taken.0
  pub pairs : AtMost MOST kilos

-- what noting a P line asks, and what noting a G line asks
abbrev pub OutputAsked : (outputs : List ℕ) → LineRead → Type 0
OutputAsked outputs l =
    (get_or l.words 0 0 < SIZE) × (get_or l.words 1 0 ≤ KILOS) × (get_or outputs (get_or l.words 0 0) 0 ≤ MOST)

abbrev pub KilosAsked : (taken kilos : List ℕ) → LineRead → Type 0
KilosAsked taken kilos l =
    (get_or l.words 0 0 < SIZE) × (get_or l.words 1 0 < SIZE) × (get_or l.words 2 0 ≤ KILOS)
    × (get_or taken (get_or l.words 0 0) 0 ≤ MOST) × (get_or kilos (get_or l.words 0 0 * SIZE + get_or l.words 1 0) 0 ≤ MOST)

-- what noting a K line asks
abbrev pub FiguresAsked : LineRead → Type 0
FiguresAsked l = (get_or l.words 0 0 < PRECURSORS) × (get_or l.words 1 0 ≤ 3)

-- above the first line
abbrev pub nothing_stated : Stated
nothing_stated = stated_of (replicate PRECURSORS 0) (replicate PRECURSORS 0) false

abbrev pub nothing_noted : Noted
nothing_noted = noted_of 0 0 (replicate SIZE 0) (replicate SIZE 0)

abbrev pub works_at_start : Works
works_at_start = record { noted = nothing_noted; ledger = start }
