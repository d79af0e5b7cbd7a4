-- N lines booked by the figures that govern, once all lines are booked: line by line each N line's record, which moves no grams by itself, is
-- rebooked as the B line that it becomes; and what is gathered then, of the records with the governing figures. Assumes nothing.
use mathlib.Core.Path.{◌≡◌, sym, ap, ap₂, ◌∙◌, subst}
use mathlib.Core.Bool.{true, false}
use mathlib.Core.List.{List, [], ◌∷◌, ◌++◌, map, append-nil}
use Prim.Native.Nat.{ℕ, suc, ◌+◌, ◌≤◌, ◌<◌}
use native.Mathlib.Omega.{arith}
use lib.Dec.{eqb}
use lib.ListN.{length, length-map, get_or, drop}
use Rattle.lines.specs.Lines.{Line, lines_of}
use Rattle.lines.specs.Records.{Record, record_of, records_of}
use Rattle.lines.specs.Words.{ReadAt, line_at, line_length}
use Rattle.lines.specs.declared.LineRead.{LineRead}
use Rattle.places.proofs.NextLine.{lines_step, lines_done}
use Rattle.quantity.specs.Limits.{limits}
use Rattle.sheet.specs.Kinds.{letter, is, specific_figure}
use Rattle.sheet.specs.declared.Kind.TheVariants.{PrecursorUse}
use Rattle.sheet.specs.Refusals.{sum_of, no_figures}
use Rattle.sheet.proofs.First.{accepted_passes, first_rest}
use Rattle.sheet.proofs.Passed.{PassedLines, lines_passed}
use Rattle.ledger.specs.Ledger.{Small, Room, booked}
use Rattle.ledger.specs.declared.Ledger.{Ledger}
use Rattle.ledger.proofs.Bounds.{within_more}
use Rattle.entries.specs.Entries.{entry, used_entry}
use Rattle.entries.specs.Read.{record_read}
use Rattle.attribution.specs.Governing.{governing_direct, governing_indirect, as_bought, governed}
use Rattle.attribution.specs.Attribution.{indirect}
use Rattle.attribution.proofs.EveryKind.{small_entry}
use Rattle.attribution.proofs.Entries.{balance_is, entered_is, figures}
use Rattle.attribution.proofs.Governing.{entry_bought, use_moves_nothing, other_stays, governed_unused, governed_more}
use Rattle.attribution.proofs.RowFifteen.{lines_few}
use Rattle.attribution.proofs.Stated.{use_small}
use Rattle.attribution.proofs.Sums.{of_among}
use Rattle.works.specs.declared.Stated.{Stated}
use Rattle.works.specs.declared.Works.{Works}
use Rattle.gathering.specs.Gathered.{BooksOf, Gathered, StatedIn, LinesPass, LinesPassed, UsesBooked}
use Rattle.gathering.proofs.AnyOrder.{SameSums, same_length, ledger_same}
use Rattle.gathering.proofs.Gathering.{books_held}
use Rattle.gathering.proofs.HeldLedger.{HeldLedger}
use Rattle.gathering.proofs.Rebooked.{AllSmall, held_by_sums, held_rebooked}
use Rattle.gathering.proofs.Uses.{unused, UsesAt, uses_start, uses_accepted, use_keeps, use_record, use_letter, use_precursor, use_next}

-- ---- a record among others

small_among : (us : List Record) (q : Record) (vs : List Record) → Small (entry q) → AllSmall (us ++ vs) → AllSmall (us ++ (q ∷ vs))
small_among [] q vs s h = (s, h)
small_among (u ∷ us) q vs s h = (h.0, small_among us q vs s h.1)

sums_among : (us : List Record) (q : Record) (vs : List Record) → SameSums (q ∷ (us ++ vs)) (us ++ (q ∷ vs))
unfolding sum_of
sums_among us q vs f = sym (of_among f us q vs)

-- ---- lines of a sheet, those above a place booked as bought

pub record BookingAt (sheet : List ℕ) (at lines : ℕ) (l : Ledger) : Type 0 where
  pub uses : UsesAt sheet at lines
  pub done : List Record
  pub held : HeldLedger (records_of (drop at sheet) ++ done) l
  pub small : AllSmall (records_of (drop at sheet) ++ done)
  pub few : length (records_of (drop at sheet) ++ done) ≤ limits.lines
  pub sums : (f : Record → ℕ) → sum_of f done + sum_of f (map (as_bought (records_of sheet)) (records_of (drop at sheet))) ≡ sum_of f (governed (records_of sheet))

all_small : (above : List Record) (ls : List Line) → PassedLines limits above ls → AllSmall (map record_of ls)
all_small above [] p = tt
all_small above (l ∷ ls) p = (small_entry (record_of l) p.0.ranges, all_small (record_of l ∷ above) ls p.1)

-- the books of small entries, as sums over entries
held_books : (rs : List Record) (l : Ledger) → AllSmall rs → BooksOf rs l → HeldLedger rs l
unfolding indirect
held_books rs l small b =
    held_by_sums rs l small b.sized (λ i. b.balance_at i ∙ balance_is rs i) (λ i. b.indirect_at i ∙ (figures i rs).used)
    (λ i. b.bought_direct_at i ∙ (figures i rs).direct) (λ i. b.bought_indirect_at i ∙ (figures i rs).indirect)
    (b.entered_is ∙ entered_is rs) (b.uncredited_is ∙ (figures 0 rs).uncredited)

pub booking_start : (sheet : List ℕ) (l : Ledger) → LinesPass sheet → BooksOf (records_of sheet) l → BookingAt sheet 0 0 l
unfolding records_of governed sum_of
booking_start sheet l ok b =
    let passed = lines_passed limits [] (lines_of sheet) (accepted_passes _ ok) in
    let small = all_small [] (lines_of sheet) passed in
    let few = lines_few limits [] (lines_of sheet) (omega arith) passed in
    record {
      uses = uses_start sheet ok;
      done = [];
      held = rw (append-nil (records_of sheet)) (held_books (records_of sheet) l small b);
      small = rw (append-nil (records_of sheet)) small;
      few = rw (append-nil (records_of sheet)) (omega (arith, few));
      sums = λ f. omega arith;
    }

module _ (sheet : List ℕ) (at lines : ℕ) (l : Ledger) (b : BookingAt sheet at lines l) where
  pub booking_room : Room l
  booking_room = within_more (omega (arith, b.few)) b.held.within

  -- no line is left
  pub booking_done : length sheet ≤ at → UsesBooked sheet l
  unfolding records_of sum_of
  booking_done done =
      let none = lines_done sheet at done in
      let held = rw none at b.held in
      let few = rw none at b.few in
      let same : SameSums b.done (governed (records_of sheet)) = λ f. let s = rw none at (b.sums f) in omega arith in
      record {
        passed = uses_accepted sheet at lines b.uses done;
        books = books_held (governed (records_of sheet)) l (omega (arith, same_length b.done (governed (records_of sheet)) same, few))
            (ledger_same b.done (governed (records_of sheet)) same l held);
      }

  -- ---- a line is there

  module _ (more : at < length sheet) (line : LineRead) (read : ReadAt sheet at line) where
    abbrev r : Record
    r = record_of (line_at sheet at)

    abbrev q : Record
    q = as_bought (records_of sheet) (record_of (line_at sheet at))

    abbrev rest : List Record
    rest = records_of (drop (suc (at + line_length (drop at sheet))) sheet)

    step : records_of (drop at sheet) ≡ record_of (line_at sheet at) ∷ records_of (drop (suc (at + line_length (drop at sheet))) sheet)
    unfolding records_of
    step = ap (map record_of) (lines_step sheet at more)

    held_here : HeldLedger (r ∷ (rest ++ b.done)) l
    held_here = rw step at b.held

    small_here : AllSmall (r ∷ (rest ++ b.done))
    small_here = rw step at b.small

    few_here : suc (length (rest ++ b.done)) ≤ limits.lines
    few_here = rw step at b.few

    sums_here : (f : Record → ℕ) → sum_of f b.done + sum_of f (q ∷ map (as_bought (records_of sheet)) rest) ≡ sum_of f (governed (records_of sheet))
    sums_here f = rw step at (b.sums f)

    -- the record of this line booked as bought
    next : (l' : Ledger) → HeldLedger (q ∷ (rest ++ b.done)) l' → Small (entry q) → no_figures (records_of sheet) (record_of (line_at sheet at)) ≡ false
        → BookingAt sheet (line.end + 1) (lines + 1) l'
    unfolding sum_of
    next l' held small e =
        let place : line.end + 1 ≡ suc (at + line_length (drop at sheet)) = omega (arith, read.end) in
        let same = sums_among rest q b.done in
        record {
          uses = use_next sheet at lines b.uses more line read e;
          done = q ∷ b.done;
          held = rw place (ledger_same _ _ same l' held);
          small = rw place (small_among rest q b.done small small_here.1);
          few = rw place (omega (arith, same_length (q ∷ (rest ++ b.done)) (rest ++ (q ∷ b.done)) same, few_here));
          sums = λ f. rw place (let s = sums_here f in omega arith);
        }

    -- a line of another kind stays
    pub booking_other : eqb line.letter (letter PrecursorUse) ≡ false → no_figures (records_of sheet) (record_of (line_at sheet at)) ≡ false
        → BookingAt sheet (line.end + 1) (lines + 1) l
    booking_other other e =
        let same : r ≡ q = sym (other_stays (records_of sheet) r (use_letter sheet at lines b.uses more line read ∙ other)) in
        next l (subst (λ (x : Record). HeldLedger (x ∷ (rest ++ b.done)) l) same held_here) (subst (λ (x : Record). Small (entry x)) same small_here.0) e

    -- an N line
    module _ (used : eqb line.letter (letter PrecursorUse) ≡ true) where
      is_use : is PrecursorUse (record_of (line_at sheet at)) ≡ true
      is_use = use_letter sheet at lines b.uses more line read ∙ used

      -- its entry is small by whatever figures
      pub booked_small : (d i : ℕ) → d ≤ specific_figure.highest → i ≤ specific_figure.highest → Small (used_entry d i (record_read line))
      booked_small d i dl il =
          use_small d i dl il (record_read line) (use_keeps sheet at lines b.uses more line read).ranges
          (ap (is PrecursorUse) (use_record sheet at lines b.uses more line read) ∙ is_use)

    -- by the figures that govern its precursor
    module _ (used : eqb line.letter (letter PrecursorUse) ≡ true) (d i : ℕ) (direct : d ≡ governing_direct (records_of sheet) (get_or line.words 1 0))
        (indirect : i ≡ governing_indirect (records_of sheet) (get_or line.words 1 0)) where
      entry_is : entry q ≡ used_entry d i (record_read line)
      entry_is =
          let at1 = use_precursor sheet at lines b.uses more line read (is_use used) in
          entry_bought (records_of sheet) r (is_use used)
          ∙ ap₂ (λ (x y : ℕ). used_entry x y r) (ap (governing_direct (records_of sheet)) at1 ∙ sym direct)
          (ap (governing_indirect (records_of sheet)) at1 ∙ sym indirect)
          ∙ ap (used_entry d i) (sym (use_record sheet at lines b.uses more line read))

      pub booking_use : d ≤ specific_figure.highest → i ≤ specific_figure.highest → no_figures (records_of sheet) (record_of (line_at sheet at)) ≡ false
          → BookingAt sheet (line.end + 1) (lines + 1) (booked l (used_entry d i (record_read line)))
      booking_use dl il e =
          let small : Small (entry q) = subst Small (sym entry_is) (booked_small used d i dl il) in
          let held = held_rebooked (rest ++ b.done) l small_here.1 r held_here (use_moves_nothing r (is_use used)) q small in
          next _ (subst (λ x. HeldLedger (q ∷ (rest ++ b.done)) (booked l x)) entry_is held) small e

-- ---- what is gathered, of the records with the governing figures

none_booked : (sheet : List ℕ) (s : Stated) (l : Ledger) → StatedIn (records_of sheet) s → s.used ≡ false → BooksOf (records_of sheet) l
    → UsesBooked sheet l
none_booked sheet s l stated unused_is b =
    let none = sym stated.used ∙ unused_is in
    record { passed = unused (records_of sheet) (records_of sheet) 1 none; books = rw (governed_unused (records_of sheet) none) b }

gathered_governed : (rs : List Record) (w : Works) (l : Ledger) (kilos : List ℕ) → Gathered rs w kilos → BooksOf (governed rs) l
    → Gathered (governed rs) (record { noted = w.noted; ledger = l }) kilos
unfolding governed
gathered_governed rs w l kilos g b =
    let m = governed_more rs in
    record {
      lines = omega (arith, g.lines, length-map rs (as_bought rs));
      count = g.count ∙ sym m.counted_is;
      few = g.few;
      outputs_size = g.outputs_size;
      output_at = λ i. g.output_at i ∙ sym (m.output_is i);
      taken_size = g.taken_size;
      taken_at = λ i. g.taken_at i ∙ sym (m.taken_is i);
      kilos_at = λ i j h. g.kilos_at i j h ∙ sym (m.kilos_is i j);
      made = λ i a c. omega (arith, g.made i a c, m.output_is i);
      outputs_small = λ i. omega (arith, g.outputs_small i, m.output_is i);
      books = b;
    }

-- ---- the N lines booked, or none there

module _ {sheet kilos : List ℕ} {w : Works} (passed : LinesPass sheet) (g : Gathered (records_of sheet) w kilos) where
  pub with_uses : (books : Ledger) → UsesBooked sheet books → LinesPassed sheet kilos (record { noted = w.noted; ledger = books })
  with_uses books uses = record {
    passed = first_rest _ _ passed ∙ uses.passed;
    gathered = gathered_governed (records_of sheet) w books kilos g uses.books;
  }

  pub without_uses : (s : Stated) → StatedIn (records_of sheet) s → s.used ≡ false → LinesPassed sheet kilos w
  without_uses s stated none = with_uses w.ledger (none_booked sheet s w.ledger stated none g.books)
