-- For the code only: what reading all lines of a sheet leaves: the first refusal, or document 01's figures, process by process.
use Rattle.std.specs.Prelude.{◌≡◌, ◌⊎◌, ◌++◌, true, false, cond, ◌&&◌, not, ⊤, Option, None, Some, List, [], map, ℕ, ◌-◌, ◌≤◌, ◌<◌, eqb, length, get_or, replicate, take, Result, MatchResult}
use Rattle.lines.specs.Lines.{lines_of}
use Rattle.lines.specs.Records.{Record, record_of, records_of, number_at}
use Rattle.lines.specs.Words.{line_at}
use Rattle.places.specs.LineStart.{start_of}
use Rattle.goods.specs.ByProcess.{SIZE, figures}
use Rattle.goods.specs.Settling.{PAIRS, pairs}
use Rattle.ledger.specs.Columns.{signed_figures}
use Rattle.ledger.specs.Ledger.{Sized, Room}
use Rattle.ledger.specs.declared.Ledger.{Ledger}
use Rattle.quantity.specs.Limits.{limits}
use Rattle.sheet.specs.Kinds.{is}
use Rattle.sheet.specs.declared.Kind.TheVariants.{PrecursorFigures, PrecursorUse}
use Rattle.sheet.specs.Refusals.{any_of, sum_of, taken_in, stated_precursor}
use Rattle.sheet.specs.Verdict.{Check, accepted, first_of, line_checks, lines_checks, figures_checks}
use Rattle.checks.specs.Numbers.{refused_by}
use Rattle.checks.specs.declared.refusals.Refused.{Refused}
use Rattle.attribution.specs.Attribution.{balance, indirect, bought_direct, bought_indirect}
use Rattle.attribution.specs.Governing.{governing_direct, governing_indirect, governed}
use Rattle.attribution.specs.Reckoning.{process_count, output, kilos_between, entered, uncredited}
use Rattle.sheet.specs.Most.{MOST}
use Rattle.works.specs.Works.{PRECURSORS, ranks_of}
use Rattle.works.specs.declared.Stated.{Stated}
use Rattle.works.specs.declared.Works.{Works}

-- every field of the books, by an equation
pub record BooksOf (rs : List Record) (l : Ledger) : Type 0 where
  pub sized : Sized l
  pub balance_at : (i : ℕ) → signed_figures l.balances.0 i ≡ balance rs i
  pub indirect_at : (i : ℕ) → figures l.indirect.0 i ≡ indirect rs i
  pub bought_direct_at : (i : ℕ) → figures l.bought_direct.0 i ≡ bought_direct rs i
  pub bought_indirect_at : (i : ℕ) → figures l.bought_indirect.0 i ≡ bought_indirect rs i
  pub entered_is : l.totals.entered.0 ≡ entered rs
  pub uncredited_is : l.totals.uncredited.0 ≡ uncredited rs
  -- the bounds that keep every figure inside 63 bits
  pub room : Room l

-- every field of the state, by an equation
pub record Gathered (rs : List Record) (w : Works) (kilos : List ℕ) : Type 0 where
  -- how many lines there are, and how many of them are P lines
  pub lines : w.noted.lines ≡ length rs
  pub count : w.noted.count ≡ process_count rs
  pub few : w.noted.count ≤ limits.processes
  pub outputs_size : length w.noted.outputs.0 ≡ SIZE
  pub output_at : (i : ℕ) → figures w.noted.outputs.0 i ≡ output rs i
  -- `G,from,to,kg`: the kilograms that G lines take from each process
  pub taken_size : length w.noted.taken.0 ≡ SIZE
  pub taken_at : (i : ℕ) → figures w.noted.taken.0 i ≡ sum_of (taken_in i) rs
  pub kilos_at : (i j : ℕ) → j < SIZE → pairs kilos i j ≡ kilos_between rs i j
  pub made : (i : ℕ) → 1 ≤ i → i ≤ w.noted.count → 1 ≤ output rs i
  -- the bound that keeps every output inside 63 bits
  pub outputs_small : (i : ℕ) → output rs i ≤ MOST
  pub books : BooksOf rs w.ledger

-- wherever the lines stand: of which precursors no rank is stated, and whether an N line is there
pub record StatedIn (rs : List Record) (s : Stated) : Type 0 where
  pub none_at : (p : ℕ) → eqb (get_or s.ranks p 0) 0 ≡ not (any_of (λ q. is PrecursorFigures q && eqb (stated_precursor q) p) rs)
  pub used : s.used ≡ any_of (is PrecursorUse) rs

-- a place where a K line starts that states the figures that govern precursor p; no row from 2 to 13 nor row 17 applies to it below some lines
pub record PlaceOf (sheet : List ℕ) (rs : List Record) (p place : ℕ) : Type 0 where
  pub inside : place < length sheet
  pub above : List Record
  pub passed : first_of (line_checks limits above (line_at sheet place)) ≡ accepted
  pub states : is PrecursorFigures (record_of (line_at sheet place)) ≡ true
  pub direct : number_at (record_of (line_at sheet place)) 2 ≡ governing_direct rs p
  pub indirect : number_at (record_of (line_at sheet place)) 3 ≡ governing_indirect rs p

-- the K line that governs a precursor of which a rank is stated ends where its end is held
pub record PlacesIn (sheet : List ℕ) (rs : List Record) (s : Stated) : Type 0 where
  pub size : length s.ends ≡ PRECURSORS
  pub within : (p : ℕ) → get_or s.ends p 0 ≤ length sheet
  pub some : (p : ℕ) → eqb (get_or s.ranks p 0) 0 ≡ false → PlaceOf sheet rs p (start_of sheet (get_or s.ends p 0))

-- the figures that govern a precursor, direct and indirect; None where no rank of it is stated
abbrev pub governing_of : List Record → (ranks : List ℕ) → (p : ℕ) → Option (ℕ × ℕ)
governing_of rs ranks p = cond (eqb (ranks_of ranks p) 0) None (Some (governing_direct rs p, governing_indirect rs p))

-- each precursor's, at its number: of those of which a rank is stated, and 0 of the others
pub record FiguresAt (rs : List Record) (ranks direct indirect : List ℕ) : Type 0 where
  pub direct_at : (p : ℕ) → eqb (ranks_of ranks p) 0 ≡ false → get_or direct p 0 ≡ governing_direct rs p
  pub indirect_at : (p : ℕ) → eqb (ranks_of ranks p) 0 ≡ false → get_or indirect p 0 ≡ governing_indirect rs p
  pub direct_none : (p : ℕ) → eqb (ranks_of ranks p) 0 ≡ true → get_or direct p 0 ≡ 0
  pub indirect_none : (p : ℕ) → eqb (ranks_of ranks p) 0 ≡ true → get_or indirect p 0 ≡ 0

-- the records of the lines above line k
abbrev pub records_above : (sheet : List ℕ) → (k : ℕ) → List Record
records_above sheet k = map record_of (take (k - 1) (lines_of sheet))

-- no row from 2 to 13 nor row 17 applies to a line
abbrev pub LinesPass : (sheet : List ℕ) → Type 0
LinesPass sheet = first_of (lines_checks limits [] (lines_of sheet)) ≡ accepted

-- row 18 over all lines
abbrev pub uses_of : (sheet : List ℕ) → List Check
uses_of sheet = figures_checks (records_of sheet) 1 (records_of sheet)

-- it applies to none, and each N line is booked as the B line that it becomes
pub record UsesBooked (sheet : List ℕ) (l : Ledger) : Type 0 where
  pub passed : first_of (uses_of sheet) ≡ accepted
  pub books : BooksOf (governed (records_of sheet)) l

-- the N lines booked, or the number and the line of the first one that is refused
abbrev pub BookedOf : (sheet : List ℕ) → Ledger → Result ⊤ Refused → Type 0
BookedOf sheet l r = MatchResult r (λ _. UsesBooked sheet l) (λ e. first_of (uses_of sheet) ≡ refused_by e)

-- no row from 2 to 13, nor 17 or 18, applies to a line, and what is gathered is of the records with the governing figures
pub record LinesPassed (sheet kilos : List ℕ) (w : Works) : Type 0 where
  pub passed : first_of (lines_checks limits [] (lines_of sheet) ++ uses_of sheet) ≡ accepted
  pub gathered : Gathered (governed (records_of sheet)) w kilos

-- a row from 2 to 13 or 17 does: its number and its line, and the kilograms are those of the lines above it
pub record LineRefused (sheet kilos : List ℕ) (r : Refused) : Type 0 where
  pub verdict : first_of (lines_checks limits [] (lines_of sheet)) ≡ refused_by r
  pub kilos_above : (i j : ℕ) → j < SIZE → pairs kilos i j ≡ kilos_between (records_above sheet r.line) i j

-- or row 18 does, to an N line: its number and its line, and the kilograms are those of all lines
pub record UseRefused (sheet kilos : List ℕ) (r : Refused) : Type 0 where
  pub passed : LinesPass sheet
  pub verdict : first_of (uses_of sheet) ≡ refused_by r
  pub kilos_all : (i j : ℕ) → j < SIZE → pairs kilos i j ≡ kilos_between (records_of sheet) i j

-- rows 2 to 13, 17 and 18 over all lines
abbrev pub ReadOf : (sheet kilos : List ℕ) → Result Works Refused → Type 0
ReadOf sheet kilos r = MatchResult r (LinesPassed sheet kilos) (λ e. LineRefused sheet kilos e ⊎ UseRefused sheet kilos e)

abbrev pub NoKilos : List ℕ → Type 0
NoKilos kilos = kilos ≡ replicate PAIRS 0
