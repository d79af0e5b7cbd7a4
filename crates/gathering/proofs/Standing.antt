-- What the code holds of the lines above it, and that one accepted line more keeps it. Assumes nothing.
use mathlib.Core.Path.{◌≡◌, refl, sym, ap, ◌∙◌, subst}
use mathlib.Core.Bool.{Bool, true, false, cond, not, ◌&&◌, ◌||◌}
use mathlib.Core.List.{List, [], ◌∷◌, map}
use Prim.Native.Nat.{ℕ, suc, ◌+◌, ◌*◌, ◌%◌, ◌^◌, ◌≤◌, ◌<◌}
use native.Mathlib.Numerals.{add-one}
use native.Mathlib.Omega.{arith}
use borrow.Author.Tests.{eqb-true, eqb-false, ne_eqb, lt-ltb, ltb-false}
use lib.Dec.{eqb}
use lib.ListN.{length, get_or, set, replicate}
use lib.Seq.{length-sets}
use Rattle.std.proofs.lemmas.Bool.{false≢true}
use Rattle.lines.specs.Lines.{Line}
use Rattle.lines.specs.Records.{Record, record_of, number_at}
use Rattle.lines.specs.Words.{WORDS, CAP, word, words, line_at}
use Rattle.places.specs.LineStart.{start_of}
use Rattle.std.specs.Int.Bits.{bit_or}
use Rattle.lines.specs.declared.LineRead.{LineRead}
use Rattle.goods.specs.Settling.{SIZE}
use Rattle.goods.specs.Sums.{only_at}
use Rattle.goods.proofs.Sums.{at_same, at_other, at_none}
use Rattle.ledger.specs.Ledger.{Room, booked}
use Rattle.ledger.proofs.Bounds.{within_more}
use Rattle.quantity.specs.Limits.{limits}
use Rattle.sheet.specs.Kinds.{letter, is, rules}
use Rattle.sheet.specs.declared.Kind.{Kind}
use Rattle.sheet.specs.declared.Kind.TheVariants.{Process, OwnGood, PrecursorFigures, PrecursorUse, Unknown}
use Rattle.sheet.specs.Refusals.{any_of, sum_of, process, from, to, stated_precursor, rank, output_in}
use Rattle.sheet.specs.Verdict.{accepted, first_of, line_checks}
use Rattle.sheet.proofs.First.{accepted_passes}
use Rattle.sheet.proofs.Passed.{PassedLine, line_passed}
use Rattle.sheet.proofs.Table.{kind_is, letter_is}
use Rattle.sheet.proofs.Held.{Held, GoodHeld, held_none, held_next}
use Rattle.judge.proofs.Line.{AboveHeld}
use Rattle.entries.specs.Entries.{entry}
use Rattle.entries.specs.Read.{record_read, LineKeeps}
use Rattle.entries.proofs.ReadBack.{few_fields, record_back}
use Rattle.entries.proofs.Ranges.{in_rules, are_words}
use Rattle.attribution.proofs.EveryKind.{small_entry}
use Rattle.attribution.specs.Reckoning.{kilos_of, kilos_between}
use Rattle.works.specs.declared.Works.{Works}
use Rattle.works.specs.declared.Stated.{Stated}
use Rattle.works.specs.Works.{PRECURSORS, above_of, works_after, stated_of, use_noted, stated_after, kilos_after, RoomForLine}
use Rattle.works.proofs.AfterLine.{after_process, after_good, after_other, stated_figures, stated_use, stated_other}
use Rattle.gathering.proofs.HeldLedger.{HeldLedger, held_booked}
use Rattle.gathering.proofs.HeldStated.{HeldStated, held_figures, held_use, held_stated}
use Rattle.gathering.proofs.HeldPlaces.{places_other, places_more}
use Rattle.gathering.specs.Gathered.{PlacesIn}
use Rattle.gathering.proofs.HeldGoods.{HeldGoods, held_process, held_good, held_other}

-- a pair has kilograms exactly where a G line above has it
abbrev pub Once : List Record → Type 0
Once above = (f t : ℕ) → eqb (kilos_between above f t) 0 ≡ not (any_of (λ q. is OwnGood q && (eqb (from q) f && eqb (to q) t)) above)

-- a process with a P line above has an output
abbrev pub Made : List Record → Type 0
Made above = (p : ℕ) → any_of (λ r. is Process r && eqb p (process r)) above ≡ true → 1 ≤ sum_of (output_in p) above

pub record Standing (above : List Record) (w : Works) (stated : Stated) (kilos : List ℕ) : Type 0 where
  pub lines : w.noted.lines ≡ length above
  pub few : length above ≤ limits.lines
  pub held : Held limits above w.noted.count
  pub goods : HeldGoods above w.noted.count w.noted.outputs.0 w.noted.taken.0 kilos
  pub made : Made above
  pub once : Once above
  pub precursors : HeldStated above stated
  pub ledger : HeldLedger above w.ledger

-- ---- there is room for one line more

pub room_for_line : (above : List Record) (w : Works) (stated : Stated) (kilos : List ℕ) → Standing above w stated kilos → RoomForLine w.noted kilos
room_for_line above w stated kilos s = record {
  lines = omega (arith, s.lines, s.few);
  count = omega (arith, s.held.few, s.few);
  outputs = λ i. omega (arith, s.goods.outputs_small i, s.few);
  taken = λ i. omega (arith, s.goods.taken_small i, s.few);
  pairs = λ i. omega (arith, s.goods.kilos_small i, s.few);
}

pub room : (above : List Record) (w : Works) (stated : Stated) (kilos : List ℕ) → Standing above w stated kilos → Room w.ledger
room above w stated kilos s = within_more (omega (arith, s.few)) s.ledger.within

-- what is held of an own good's processes
good_held : (above : List Record) (w : Works) (stated : Stated) (kilos : List ℕ) → Standing above w stated kilos → (f t : ℕ) → t ≤ w.noted.count
    → GoodHeld above f t (get_or w.noted.outputs.0 f 0) (get_or w.noted.taken.0 f 0) (get_or kilos (f * SIZE + t) 0)
good_held above w stated kilos s f t c =
    let place : t < SIZE = omega (arith, s.held.most) in
    record {
      out = s.goods.output_at f;
      takes = s.goods.taken_at f;
      once = ap (λ (n : ℕ). eqb n 0) (s.goods.kilos_at f t place) ∙ s.once f t;
    }

-- ---- above the first line

-- nothing above
pub standing_start : (w : Works) (stated : Stated) (kilos : List ℕ) → w.noted.lines ≡ 0 → w.noted.count ≡ 0
    → HeldGoods [] w.noted.count w.noted.outputs.0 w.noted.taken.0 kilos → HeldStated [] stated → HeldLedger [] w.ledger
    → Standing [] w stated kilos
unfolding kilos_between sum_of any_of
standing_start w stated kilos l c g f h = record {
  lines = l;
  few = omega arith;
  held = rw c (held_none limits);
  goods = g;
  made = λ p e. absurd (false≢true e);
  once = λ f t. refl;
  precursors = f;
  ledger = h;
}

-- ---- one P line more, and one G line more

made_next : (above : List Record) (r : Record) → Made above → (is Process r ≡ true → 1 ≤ number_at r 1) → Made (r ∷ above)
unfolding any_of sum_of
made_next above r h some p = go (is Process r) refl (eqb p (process r))
  where
    go : (b : Bool) → is Process r ≡ b → (c : Bool) → ((b && c) || any_of (λ q. is Process q && eqb p (process q)) above) ≡ true
        → 1 ≤ cond (b && c) (number_at r 1) 0 + sum_of (output_in p) above
    go false e c t = omega (arith, h p t)
    go true e false t = omega (arith, h p t)
    go true e true t = omega (arith, some e)

once_next : (above : List Record) (r : Record) → Once above → (is OwnGood r ≡ true → 1 ≤ number_at r 2) → Once (r ∷ above)
unfolding kilos_between sum_of any_of kilos_of
once_next above r h some f t = go (is OwnGood r) refl (eqb (from r) f) refl (eqb (to r) t) refl
  where
    rest : ℕ
    rest = kilos_between above f t

    any : Bool
    any = any_of (λ q. is OwnGood q && (eqb (from q) f && eqb (to q) t)) above

    none : (n : ℕ) → n ≡ 0 → eqb (n + kilos_between above f t) 0 ≡ not any
    none n e = let z : n + kilos_between above f t ≡ kilos_between above f t = omega arith in rw z (h f t)

    go : (g : Bool) → is OwnGood r ≡ g → (a : Bool) → eqb (from r) f ≡ a → (b : Bool) → eqb (to r) t ≡ b
        → eqb (only_at f (from r) (only_at t (to r) (cond g (number_at r 2) 0)) + kilos_between above f t) 0 ≡ not ((g && (a && b)) || any)
    go false p a q b s = none _ (rw (at_none t (to r)) (at_none f (from r)))
    go true p false q b s = none _ (at_other f (from r) _ (λ (e : f ≡ from r). eqb-false (from r) f q (sym e)))
    go true p true q false s = none _ (rw (at_other t (to r) (number_at r 2) (λ (e : t ≡ to r). eqb-false (to r) t s (sym e))) (at_none f (from r)))
    go true p true q true s =
        let e = eqb-true (from r) f q in
        let d = eqb-true (to r) t s in
        let one = some p in
        rw (e, d, at_same t (number_at r 2), at_same f (number_at r 2)) (ne_eqb _ 0 (λ (z : number_at r 2 + kilos_between above f t ≡ 0). omega arith))

-- ---- a line as the code holds it

-- the words say what the record says
pub record Says (l : LineRead) (r : Record) : Type 0 where
  pub letter : l.letter ≡ r.letter
  pub count : l.count ≡ length r.said
  pub words : l.words ≡ words r.said

pub small_limits : limits.processes < CAP
small_limits = omega arith

-- the letter tells the kind
same_kind : (l : LineRead) (r : Record) → Says l r → (k : Kind) → eqb (letter k) (letter Unknown) ≡ false → is k r ≡ eqb l.letter (letter k)
same_kind l r says k known = letter_is r.letter k known ∙ ap (λ (b : ℕ). eqb b (letter k)) (sym says.letter)

-- WHAT THE STATE SAYS OF THE LINES ABOVE holds
pub above_held : (above : List Record) (w : Works) (stated : Stated) (kilos : List ℕ) → Standing above w stated kilos → (l : LineRead) (r : Record) → Says l r
    → AboveHeld limits above r (above_of w stated kilos l)
above_held above w stated kilos s l r says = record {
  lines = s.lines;
  held = s.held;
  good = λ f t ef et e low rising known.
      let most = s.held.most in
      let good : eqb l.letter (letter OwnGood) ≡ true = sym (same_kind l r says OwnGood refl) ∙ rw e refl in
      let wf : f ≡ get_or l.words 0 0 = rw says.words ef in
      let wt : t ≡ get_or l.words 1 0 = rw says.words et in
      simp (good, ← wf, ← wt, lt-ltb f SIZE (omega arith), lt-ltb t SIZE (omega arith)) (good_held above w stated kilos s f t known);
  ranks = λ p k ep ek e range.
      let figures : eqb l.letter (letter PrecursorFigures) ≡ true = sym (same_kind l r says PrecursorFigures refl) ∙ rw e refl in
      let wp : p ≡ get_or l.words 0 0 = rw says.words ep in
      simp (figures, ← wp, lt-ltb p PRECURSORS (omega (arith, range.1))) (s.precursors.ranks.ranks_at p k);
}

-- ---- a line that is accepted

module _ (line : Line) (l : LineRead) (says : Says l (record_of line)) (above : List Record)
    (ok : first_of (line_checks limits above line) ≡ accepted) where
  abbrev r : Record
  r = record_of line

  passed : PassedLine limits above line
  passed = line_passed limits above line (accepted_passes _ ok)

  -- the record of the line that was read is the line's
  pub read_record : record_read l ≡ record_of line
  unfolding record_read
  read_record = rw (says.letter, says.count, says.words) (record_back limits small_limits r passed.ranges)

  sized : length l.words ≡ WORDS
  unfolding words
  sized = ap length says.words ∙ length-sets (replicate WORDS 0) 0 (map word r.said)

  pub line_keeps : LineKeeps l
  line_keeps = record {
    ranges = rw read_record passed.ranges;
    few = omega (arith, says.count, few_fields limits small_limits r passed.ranges);
    sized = sized;
  }

  -- ONE LINE MORE
  module _ (w : Works) (stated : Stated) (kilos : List ℕ) (s : Standing above w stated kilos) where
    booked_next : HeldLedger (r ∷ above) (booked w.ledger (entry (record_read l)))
    booked_next = rw read_record (held_booked above w.ledger r (small_entry r passed.ranges) s.ledger)

    few_next : suc (length above) ≤ limits.lines
    few_next = ltb-false limits.lines (suc (length above)) passed.few

    is_letter_lem : (k : Kind) → eqb (letter k) (letter Unknown) ≡ false → (t : Bool) → is k r ≡ t → eqb l.letter (letter k) ≡ t
    is_letter_lem k known t e = sym (same_kind l r says k known) ∙ e

    -- what is held of precursors
    not_both : is PrecursorFigures r ≡ true → is PrecursorUse r ≡ true → ⊥
    not_both f u = let z : ◌≡◌ {A = ℕ} 75 78 = ap letter (sym (kind_is PrecursorFigures r f) ∙ kind_is PrecursorUse r u) in omega arith

    after_figures : is PrecursorFigures r ≡ true
        → stated_after stated l ≡ stated_of
        (set stated.ranks (stated_precursor r) (bit_or (get_or stated.ranks (stated_precursor r) 0) (2 ^ rank r)))
        (cond (eqb (get_or stated.ranks (stated_precursor r) 0 % 2 ^ rank r) 0) (set stated.ends (stated_precursor r) (l.end % limits.bytes)) stated.ends)
        stated.used
    unfolding rules
    after_figures f =
        let v = are_words l line_keeps PrecursorFigures (rw read_record (kind_is PrecursorFigures r f)) in
        let at0 : stated_precursor r ≡ get_or l.words 0 0 = rw read_record at (v.0 refl) in
        let at1 : rank r ≡ get_or l.words 1 0 = rw read_record at (v.1.0 refl) in
        rw (stated_figures stated l (eqb-true l.letter (letter PrecursorFigures) (is_letter_lem PrecursorFigures refl true f)), ← at0, ← at1) refl

    after_use : is PrecursorUse r ≡ true → stated_after stated l ≡ use_noted stated
    after_use u = stated_use stated l (eqb-true l.letter (letter PrecursorUse) (is_letter_lem PrecursorUse refl true u))

    after_neither : is PrecursorFigures r ≡ false → is PrecursorUse r ≡ false → stated_after stated l ≡ stated
    after_neither f u = stated_other stated l (is_letter_lem PrecursorFigures refl false f) (is_letter_lem PrecursorUse refl false u)

    own_ranges : is PrecursorFigures r ≡ true → (stated_precursor r < PRECURSORS) × (1 ≤ rank r) × (rank r ≤ 3)
    unfolding rules
    own_ranges f =
        let n = in_rules limits r passed.ranges PrecursorFigures (kind_is PrecursorFigures r f) in
        (omega (arith, (n.0 refl).high), (n.1.0 refl).low, (n.1.0 refl).high)

    stated_next : HeldStated (r ∷ above) (stated_after stated l)
    stated_next = go (is PrecursorFigures r) refl (is PrecursorUse r) refl
      where
        go : (a : Bool) → is PrecursorFigures r ≡ a → (b : Bool) → is PrecursorUse r ≡ b → HeldStated (r ∷ above) (stated_after stated l)
        go true f true u = absurd (not_both f u)
        go true f false u =
            let n = own_ranges f in
            rw (after_figures f) (held_figures above stated s.precursors r _ f u n.0 n.1)
        go false f true u = rw (after_use u) (held_use above stated s.precursors r f u)
        go false f false u = rw (after_neither f u) (held_stated above stated s.precursors r f u)

    pub places_next : (sheet : List ℕ) (at : ℕ) → line ≡ line_at sheet at → at < length sheet → l.end < limits.bytes → l.end < length sheet → start_of sheet l.end ≡ at
        → PlacesIn sheet above stated → PlacesIn sheet (r ∷ above) (stated_after stated l)
    places_next sheet at there more short last starts q = go (is PrecursorFigures r) refl (is PrecursorUse r) refl
      where
        go : (a : Bool) → is PrecursorFigures r ≡ a → (b : Bool) → is PrecursorUse r ≡ b → PlacesIn sheet (r ∷ above) (stated_after stated l)
        go true f true u = absurd (not_both f u)
        go true f false u =
            let n = own_ranges f in
            rw (after_figures f)
            (places_more sheet above stated q r s.precursors f n.0 n.1 n.2 (rw f at passed.rank_once) l.end at (ap record_of (sym there)) more short last starts
            (subst (λ (x : Line). first_of (line_checks limits above x) ≡ accepted) there ok) stated.used)
        go false f true u = rw (after_use u) (places_other sheet above stated q r f true)
        go false f false u = rw (after_neither f u) (places_other sheet above stated q r f stated.used)

    -- a line that is no P line and no G line
    standing_other : is Process r ≡ false → is OwnGood r ≡ false → Standing (r ∷ above) (works_after w l) (stated_after stated l) (kilos_after kilos l)
    standing_other p g =
        let a = after_other w.noted kilos l (is_letter_lem Process refl false p) (is_letter_lem OwnGood refl false g) in
        rw (a.0, a.1) record {
          lines = omega (arith, s.lines);
          few = few_next;
          held = rw p at (held_next limits above line w.noted.count s.held ok);
          goods = held_other above w.noted.count w.noted.outputs.0 w.noted.taken.0 kilos s.goods r p g;
          made = made_next above r s.made (λ e. absurd (false≢true (sym p ∙ e)));
          once = once_next above r s.once (λ e. absurd (false≢true (sym g ∙ e)));
          precursors = stated_next;
          ledger = booked_next;
        }

    standing_process : is Process r ≡ true → is OwnGood r ≡ false → Standing (r ∷ above) (works_after w l) (stated_after stated l) (kilos_after kilos l)
    unfolding rules
    standing_process p g =
        let k = kind_is Process r p in
        let n = in_rules limits r passed.ranges Process k in
        let v = are_words l line_keeps Process (rw read_record k) in
        let a = after_process w.noted kilos l (eqb-true l.letter (letter Process) (is_letter_lem Process refl true p)) in
        let at0 : process r ≡ get_or l.words 0 0 = rw read_record at (v.0 refl) in
        let at1 : number_at r 1 ≡ get_or l.words 1 0 = rw read_record at (v.1.0 refl) in
        rw (a.0, a.1, ← at0, ← at1) record {
          lines = omega (arith, s.lines);
          few = few_next;
          held = rw add-one (rw p at (held_next limits above line w.noted.count s.held ok));
          goods = held_process above w.noted.count w.noted.outputs.0 w.noted.taken.0 kilos s.goods r p g (omega (arith, (n.0 refl).high)) (n.1.0 refl).high;
          made = made_next above r s.made (λ z. (n.1.0 refl).low);
          once = once_next above r s.once (λ z. absurd (false≢true (sym g ∙ z)));
          precursors = stated_next;
          ledger = booked_next;
        }

    standing_good : is Process r ≡ false → is OwnGood r ≡ true → Standing (r ∷ above) (works_after w l) (stated_after stated l) (kilos_after kilos l)
    unfolding rules
    standing_good p g =
        let k = kind_is OwnGood r g in
        let n = in_rules limits r passed.ranges OwnGood k in
        let v = are_words l line_keeps OwnGood (rw read_record k) in
        let a = after_good w.noted kilos l (eqb-true l.letter (letter OwnGood) (is_letter_lem OwnGood refl true g)) in
        let at0 : from r ≡ get_or l.words 0 0 = rw read_record at (v.0 refl) in
        let at1 : to r ≡ get_or l.words 1 0 = rw read_record at (v.1.0 refl) in
        let at2 : number_at r 2 ≡ get_or l.words 2 0 = rw read_record at (v.1.1.0 refl) in
        rw (a.0, a.1, ← at0, ← at1, ← at2) record {
          lines = omega (arith, s.lines);
          few = few_next;
          held = rw p at (held_next limits above line w.noted.count s.held ok);
          goods = held_good above w.noted.count w.noted.outputs.0 w.noted.taken.0 kilos s.goods r p g
              (omega (arith, (n.0 refl).high)) (omega (arith, (n.1.0 refl).high)) (n.1.1.0 refl).high;
          made = made_next above r s.made (λ z. absurd (false≢true (sym p ∙ z)));
          once = once_next above r s.once (λ z. (n.1.1.0 refl).low);
          precursors = stated_next;
          ledger = booked_next;
        }

    pub standing_next : Standing (r ∷ above) (works_after w l) (stated_after stated l) (kilos_after kilos l)
    standing_next = go (is Process r) refl (is OwnGood r) refl
      where
        go : (a : Bool) → is Process r ≡ a → (b : Bool) → is OwnGood r ≡ b → Standing (r ∷ above) (works_after w l) (stated_after stated l) (kilos_after kilos l)
        go true p true g = absurd (let z : ◌≡◌ {A = ℕ} 80 71 = ap letter (sym (kind_is Process r p) ∙ kind_is OwnGood r g) in omega arith)
        go true p false g = standing_process p g
        go false p true g = standing_good p g
        go false p false g = standing_other p g
