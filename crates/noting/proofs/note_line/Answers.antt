-- `note_line` meets its contract. Assumes nothing.
use mathlib.Core.Path.{refl, sym, ◌∙◌}
use Rattle.sheet.specs.declared.Kind.TheVariants.{Process, OwnGood, PrecursorFigures, PrecursorUse}
use Rattle.sheet.proofs.Table.{letter_of, no_letter_of}
use Rattle.works.proofs.AfterLine.{after_process, after_good, after_other, stated_figures, stated_use, stated_other}
use Rattle.works.proofs.AfterLine.{output_asked, good_asked, figures_asked}
use Rattle.noting.proofs.note_line.Goals as goal

pub note_output-requires : goal.note_output-requires
note_output-requires c =
    let n = output_asked _ c.args.kept.keeps (letter_of _ Process refl (sym c.from.ensures ∙ c.in-Process.is)) in
    (n.0, n.1, c.requires.outputs _)

pub note_good-requires : goal.note_good-requires
note_good-requires c =
    let g = good_asked _ c.args.kept.keeps (letter_of _ OwnGood refl (sym c.from.ensures ∙ c.in-OwnGood.is)) in
    (g.0, g.1.0, g.1.1, c.requires.taken _, c.requires.pairs _)

pub note_figures-requires : goal.note_figures-requires
note_figures-requires c =
    let f = figures_asked _ c.args.kept.keeps (letter_of _ PrecursorFigures refl (sym c.from.ensures ∙ c.in-PrecursorFigures.is)) in
    (f.0, f.1)

pub returns-in-Process : goal.returns-in-Process
returns-in-Process c =
    let e = letter_of _ Process refl (sym c.from.ensures ∙ c.in-Process.is) in
    let after = after_process c.args.noted.now c.args.kilos.now c.args.kept.line.now e in
    let stated = stated_other c.args.stated.now c.args.kept.line.now (rw e refl) (rw e refl) in
    rw c.note_output.ensures (record { noted = sym after.0; stated = sym stated; pairs = sym after.1 })

pub returns-in-OwnGood : goal.returns-in-OwnGood
returns-in-OwnGood c =
    let e = letter_of _ OwnGood refl (sym c.from.ensures ∙ c.in-OwnGood.is) in
    let after = after_good c.args.noted.now c.args.kilos.now c.args.kept.line.now e in
    let stated = stated_other c.args.stated.now c.args.kept.line.now (rw e refl) (rw e refl) in
    rw (c.note_good.ensures.taken, c.note_good.ensures.pairs) (record { noted = sym after.0; stated = sym stated; pairs = sym after.1 })

pub returns-in-PrecursorFigures : goal.returns-in-PrecursorFigures
returns-in-PrecursorFigures c =
    let e = letter_of _ PrecursorFigures refl (sym c.from.ensures ∙ c.in-PrecursorFigures.is) in
    let after = after_other c.args.noted.now c.args.kilos.now c.args.kept.line.now (rw e refl) (rw e refl) in
    record {
      noted = sym after.0;
      stated = c.note_figures.ensures ∙ sym (stated_figures c.args.stated.now c.args.kept.line.now e);
      pairs = sym after.1;
    }

pub returns-in-PrecursorUse : goal.returns-in-PrecursorUse
returns-in-PrecursorUse c =
    let e = letter_of _ PrecursorUse refl (sym c.from.ensures ∙ c.in-PrecursorUse.is) in
    let after = after_other c.args.noted.now c.args.kilos.now c.args.kept.line.now (rw e refl) (rw e refl) in
    record { noted = sym after.0; stated = sym (stated_use c.args.stated.now c.args.kept.line.now e); pairs = sym after.1 }

pub returns-in_default : goal.returns-in_default
returns-in_default c =
    let other = c.in_default in
    let after =
    after_other c.args.noted.now c.args.kilos.now c.args.kept.line.now
    (no_letter_of _ Process refl (λ e. other.not-Process (c.from.ensures ∙ e)))
    (no_letter_of _ OwnGood refl (λ e. other.not-OwnGood (c.from.ensures ∙ e))) in
    let stated =
    stated_other c.args.stated.now c.args.kept.line.now
    (no_letter_of _ PrecursorFigures refl (λ e. other.not-PrecursorFigures (c.from.ensures ∙ e)))
    (no_letter_of _ PrecursorUse refl (λ e. other.not-PrecursorUse (c.from.ensures ∙ e))) in
    record { noted = sym after.0; stated = sym stated; pairs = sym after.1 }
