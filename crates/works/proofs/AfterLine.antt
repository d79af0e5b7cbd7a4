-- What noting a line asks of its words, and what it leaves, by its kind. Assumes nothing.
use mathlib.Core.Path.{◌≡◌, refl}
use mathlib.Core.Bool.{false}
use mathlib.Core.List.{List}
use Prim.Native.Nat.{ℕ, ◌+◌, ◌≤◌, ◌<◌}
use native.Mathlib.Omega.{arith}
use lib.Dec.{eqb}
use lib.ListN.{get_or}
use Rattle.sheet.specs.Kinds.{letter, rules}
use Rattle.sheet.specs.declared.Kind.TheVariants.{Process, OwnGood, PrecursorFigures, PrecursorUse}
use Rattle.lines.specs.declared.LineRead.{LineRead}
use Rattle.goods.specs.Settling.{SIZE}
use Rattle.quantity.specs.Limits.{limits}
use Rattle.entries.specs.Read.{record_read, LineKeeps}
use Rattle.entries.proofs.Ranges.{in_rules, are_words}
use Rattle.entries.proofs.OfKind.{kind_at}
use Rattle.works.specs.declared.Noted.{Noted}
use Rattle.works.specs.declared.Stated.{Stated}
use Rattle.works.specs.Works.{noted_of, output_noted, taken_noted, pair_noted, count_after, outputs_after, taken_after, kilos_after, noted_after}
use Rattle.works.specs.Works.{PRECURSORS, figures_noted, use_noted, stated_after}
use Rattle.sheet.specs.Most.{KILOS}

module _ (n : Noted) (kilos : List ℕ) (l : LineRead) where
  -- ---- what is left, by the kind

  -- as long as the line is no P line and no G line
  abbrev line_noted : Noted
  line_noted = noted_of (n.lines + 1) n.count n.outputs.0 n.taken.0

  abbrev process_noted : Noted
  process_noted = noted_of (n.lines + 1) (n.count + 1) (output_noted n.outputs.0 l) n.taken.0

  abbrev good_noted : Noted
  good_noted = noted_of (n.lines + 1) n.count n.outputs.0 (taken_noted n.taken.0 l)

  pub after_process : l.letter ≡ letter Process → (noted_after n l ≡ process_noted) × (kilos_after kilos l ≡ kilos)
  unfolding count_after outputs_after taken_after kilos_after
  after_process e = (rw e, rw e)

  pub after_good : l.letter ≡ letter OwnGood → (noted_after n l ≡ good_noted) × (kilos_after kilos l ≡ pair_noted kilos l)
  unfolding count_after outputs_after taken_after kilos_after
  after_good e = (rw e, rw e)

  pub after_other : eqb l.letter (letter Process) ≡ false → eqb l.letter (letter OwnGood) ≡ false
      → (noted_after n l ≡ line_noted) × (kilos_after kilos l ≡ kilos)
  unfolding count_after outputs_after taken_after kilos_after
  after_other p g = (rw (p, g), rw g)

module _ (s : Stated) (l : LineRead) where
  pub stated_figures : l.letter ≡ letter PrecursorFigures → stated_after s l ≡ figures_noted s l
  unfolding stated_after
  stated_figures e = rw e

  pub stated_use : l.letter ≡ letter PrecursorUse → stated_after s l ≡ use_noted s
  unfolding stated_after
  stated_use e = rw e

  pub stated_other : eqb l.letter (letter PrecursorFigures) ≡ false → eqb l.letter (letter PrecursorUse) ≡ false → stated_after s l ≡ s
  unfolding stated_after
  stated_other f u = rw (f, u)

-- ---- what is asked of the words

module _ (l : LineRead) (keeps : LineKeeps l) where
  pub output_asked : l.letter ≡ letter Process → (get_or l.words 0 0 < SIZE) × (get_or l.words 1 0 ≤ KILOS)
  unfolding rules
  output_asked e =
      let k = kind_at l Process e in
      let n = in_rules limits (record_read l) keeps.ranges Process k in
      let w = are_words l keeps Process k in
      (omega (arith, (n.0 refl).high, w.0 refl), omega (arith, (n.1.0 refl).high, w.1.0 refl))

  pub good_asked : l.letter ≡ letter OwnGood → (get_or l.words 0 0 < SIZE) × ((get_or l.words 1 0 < SIZE) × (get_or l.words 2 0 ≤ KILOS))
  unfolding rules
  good_asked e =
      let k = kind_at l OwnGood e in
      let n = in_rules limits (record_read l) keeps.ranges OwnGood k in
      let w = are_words l keeps OwnGood k in (
        omega (arith, (n.0 refl).high, w.0 refl),
        (omega (arith, (n.1.0 refl).high, w.1.0 refl), omega (arith, (n.1.1.0 refl).high, w.1.1.0 refl)),
      )

  pub figures_asked : l.letter ≡ letter PrecursorFigures → (get_or l.words 0 0 < PRECURSORS) × (get_or l.words 1 0 ≤ 3)
  unfolding rules
  figures_asked e =
      let k = kind_at l PrecursorFigures e in
      let n = in_rules limits (record_read l) keeps.ranges PrecursorFigures k in
      let w = are_words l keeps PrecursorFigures k in
      (omega (arith, (n.0 refl).high, w.0 refl), omega (arith, (n.1.0 refl).high, w.1.0 refl))
