-- The figures that govern a precursor, as they are read at the place that is held of it. Assumes nothing.
use mathlib.Core.Path.{◌≡◌, refl, sym, ◌∙◌}
use mathlib.Core.Bool.{Bool, true, false, true≢false, cond}
use mathlib.Core.List.{List}
use Prim.Native.Nat.{ℕ, ◌≤◌, ◌<◌}
use native.Mathlib.Omega.{arith}
use lib.Dec.{eqb}
use lib.ListN.{length, get_or, replicate}
use Rattle.std.specs.Prelude.{None, Some}
use Rattle.std.proofs.lemmas.Option.{none-some, same_Some}
use Rattle.quantity.specs.Limits.{limits}
use Rattle.lines.specs.Lines.{Line}
use Rattle.lines.specs.Records.{Record, record_of, number_at}
use Rattle.lines.specs.Words.{ReadAt, line_at}
use Rattle.lines.specs.declared.LineRead.{LineRead}
use Rattle.sheet.specs.Kinds.{rules, specific_figure}
use Rattle.sheet.specs.declared.Kind.TheVariants.{PrecursorFigures}
use Rattle.sheet.proofs.First.{accepted_passes}
use Rattle.sheet.proofs.Passed.{line_passed}
use Rattle.sheet.proofs.Table.{kind_is}
use Rattle.ledger.proofs.Bounds.{each_same}
use Rattle.entries.proofs.Ranges.{in_rules, are_words}
use Rattle.attribution.specs.Governing.{governing_direct, governing_indirect}
use Rattle.works.specs.Works.{PRECURSORS, ranks_of}
use Rattle.gathering.specs.Gathered.{PlaceOf}
use Rattle.gathering.proofs.Standing.{Says, line_keeps, read_record}

-- a precursor with a rank has a place
pub ranked : (n : ℕ) (b : Bool) → eqb (cond b n 0) 0 ≡ false → eqb n 0 ≡ false
ranked n true e = e
ranked n false e = absurd (true≢false e)

-- whether figures govern it
pub none_cond : (b : Bool) (v : ℕ × ℕ) → cond b None (Some v) ≡ None → b ≡ true
none_cond true v e = refl
none_cond false v e = absurd (none-some v (sym e))

pub some_cond : (b : Bool) (v w : ℕ × ℕ) → cond b None (Some v) ≡ Some w → (b ≡ false) × (w ≡ v)
some_cond true v w e = absurd (none-some w e)
some_cond false v w e = (refl, sym (same_Some v w e))

module _ (sheet : List ℕ) (rs : List Record) (p place : ℕ) (w : PlaceOf sheet rs p place) where
  abbrev line : Line
  line = line_at sheet place

  -- they keep the range of their fields
  pub placed_small : (governing_direct rs p ≤ specific_figure.highest) × (governing_indirect rs p ≤ specific_figure.highest)
  unfolding rules
  placed_small =
      let passed = line_passed limits w.above line (accepted_passes _ w.passed) in
      let n = in_rules limits (record_of line) passed.ranges PrecursorFigures (kind_is PrecursorFigures (record_of line) w.states) in
      (omega (arith, (n.1.1.0 refl).high, w.direct), omega (arith, (n.1.1.1.0 refl).high, w.indirect))

  -- and they are the words of the line that is read there
  module _ (l : LineRead) (read : ReadAt sheet place l) where
    says : Says l (record_of (line_at sheet place))
    says = record { letter = read.letter; count = read.count; words = read.words }

    pub placed_words : (get_or l.words 2 0 ≡ governing_direct rs p) × (get_or l.words 3 0 ≡ governing_indirect rs p)
    unfolding rules
    placed_words =
        let same = read_record line l says w.above w.passed in
        let v = are_words l (line_keeps line l says w.above w.passed) PrecursorFigures (rw same (kind_is PrecursorFigures (record_of line) w.states)) in
        let direct : number_at (record_of line) 2 ≡ get_or l.words 2 0 = rw same at (v.1.1.0 refl) in
        let indirect : number_at (record_of line) 3 ≡ get_or l.words 3 0 = rw same at (v.1.1.1.0 refl) in
        (sym direct ∙ w.direct, sym indirect ∙ w.indirect)

-- ---- the figures of the precursors before one, read one after the other

pub record FiguresBefore (rs : List Record) (ranks : List ℕ) (n : ℕ) (direct indirect : List ℕ) : Type 0 where
  pub direct_size : length direct ≡ PRECURSORS
  pub indirect_size : length indirect ≡ PRECURSORS
  pub at : (p : ℕ) → p < n → eqb (ranks_of ranks p) 0 ≡ false
      → (get_or direct p 0 ≡ governing_direct rs p) × (get_or indirect p 0 ≡ governing_indirect rs p)
  pub none : (p : ℕ) → eqb (ranks_of ranks p) 0 ≡ true → (get_or direct p 0 ≡ 0) × (get_or indirect p 0 ≡ 0)

pub figures_start : (rs : List Record) (ranks : List ℕ) → FiguresBefore rs ranks 0 (replicate PRECURSORS 0) (replicate PRECURSORS 0)
figures_start rs ranks = record {
  direct_size = refl;
  indirect_size = refl;
  at = λ p h e. absurd (omega arith);
  none = λ p e. let zero = each_same (λ (x : ℕ). x ≡ 0) 0 refl PRECURSORS p in (zero, zero);
}
