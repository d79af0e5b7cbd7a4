-- `record_lines::put_record` meets its contract. Assumes nothing.
use mathlib.Core.Path.{◌≡◌, ap, ◌∙◌}
use mathlib.Core.List.{◌∷◌}
use Prim.Native.Nat.{◌+◌, ◌-◌, ◌≤◌}
use native.Mathlib.Omega.{arith}
use lib.ListN.{length, get_or, length-set, length-append}
use Rattle.std.specs.Slice.Iter.{iter_rest}
use Rattle.std.specs.Iterator.Adapters.{rev_source}
use borrow.Author.Rules.{rules}
use Rattle.decimal.proofs.Writing.{put_one, before, byte_before, behind_none, behind_all, behind_room, behind_kept, behind_more}
use Rattle.lines.specs.Lines.{COMMA}
use Rattle.lines.specs.Spelling.{spell_field}
use Rattle.lent.specs.Lent.{field_lent}
use Rattle.lent.proofs.Counts.{count_of}
use Rattle.lent.proofs.Stores.{letter_small}
use Rattle.lent.proofs.Lines.{fields_to, fields_none}
use Rattle.record_lines.proofs.Kept.{some, count_within, line_is, before_last, start_left, one_less, last_field}
use Rattle.record_lines.proofs.put_record.Goals as goal
use Rattle.record_lines.proofs.put_record.Goals.{At-loop-word, Start}

-- the letter, the fields and the LF have room before the end
room : (s : Start) → length (fields_to s.args.words.now (count_of s.args.words.now)) + 2 ≤ s.args.end
room s = omega (arith, ap length (line_is s.args.words.now s.requires.keeps_ranges), s.requires.words_len_bound.0)

-- the space stays as long as it was, and the place is in it
long : (k : At-loop-word) → (length k.loop-word.space ≡ length k.args.space.now) × (k.loop-word.next ≤ length k.loop-word.space)
long k =
    let kept = behind_kept (rw length-set (omega (arith, k.requires.words_len_bound.1))) k.loop-word.invariant.put in
    (rw length-set at kept.0, kept.1)

-- the first fields and the letter have room before the place
front : (k : At-loop-word) → length (fields_to k.args.words.now (length (iter_rest (rev_source k.loop-word.word-iterator)))) + 1 ≤ k.loop-word.next
front k =
    omega (arith, ap length (line_is k.args.words.now k.requires.keeps_ranges), k.requires.words_len_bound.0, behind_room k.loop-word.invariant.put)

pub bounds-words-0 : goal.bounds-words-0
bounds-words-0 c = omega (arith, count_within c.args.words.now c.requires.keeps_ranges)

pub overflow_add-field_count : goal.overflow_add-field_count
overflow_add-field_count c =
    let h : c.field_count.result + 1 ≤ length c.args.words.now = omega (arith, c.field_count.ensures, count_within c.args.words.now c.requires.keeps_ranges) in
    search rules

pub slice_bounds-iter-end : goal.slice_bounds-iter-end
slice_bounds-iter-end c =
    let h : c.field_count.result + 1 ≤ length c.args.words.now = omega (arith, c.field_count.ensures, count_within c.args.words.now c.requires.keeps_ranges) in
    search rules

pub loop-word-init : goal.loop-word-init
loop-word-init c =
    let words = c.args.words.now in
    let it = c.into_iter-word-iterator.ensures.into_iter_gives in
    let rest = ap (λ r. iter_rest (rev_source r)) it ∙ ap iter_rest c.rev-word-items.ensures.source ∙ c.iter.ensures.rest in
    let start = start_left words _ c.field_count.result rest (omega (arith, count_within words c.requires.keeps_ranges, c.field_count.ensures)) in
    record { words_left = start.1; few = omega (arith, start.0, c.field_count.ensures); put = rw (start.0, c.field_count.ensures) (behind_none _ _ _) }

pub put_field-next-requires : goal.put_field-next-requires
put_field-next-requires c =
    let k = (goal.at.put_field-next-requires c).At-loop-word in
    let words = c.args.words.now in
    let rest = iter_rest (rev_source c.next.new.self) in
    let field = COMMA ∷ spell_field (field_lent c.in-Some.word.now) in
    let more = ap length (last_field words _ rest _ c.in-Some.ensures.steps c.loop-word.invariant.words_left) ∙ length-append (fields_to words (length rest)) field in
    (omega (arith, front k, more), (long k).1)

pub loop-word-preserved : goal.loop-word-preserved
loop-word-preserved c =
    let words = c.args.words.now in
    let v = c.loop-word.invariant in
    let rest = iter_rest (rev_source c.next.new.self) in
    let step = c.in-Some.ensures.steps in
    let field = COMMA ∷ spell_field (field_lent c.in-Some.word.now) in
    record {
      words_left = before_last _ _ rest _ step v.words_left;
      few = omega (arith, one_less words _ rest _ step v.words_left, v.few);
      put =
          behind_more (fields_to words (length rest)) field (rw length-set (omega (arith, c.requires.words_len_bound.1)))
          (rw (last_field words _ rest _ step v.words_left) at v.put) c.put_field-next.ensures;
    }

pub overflow_cast-space : goal.overflow_cast-space
overflow_cast-space c = omega (arith, letter_small (get_or c.args.words.now 0 0) (some c.args.words.now c.requires.keeps_ranges))

pub overflow_sub-space : goal.overflow_sub-space
overflow_sub-space c = omega (arith, front (goal.at.overflow_sub-space c).At-loop-word)

pub overflow_sub-result : goal.overflow_sub-result
overflow_sub-result c = omega (arith, front (goal.at.overflow_sub-result c).At-loop-word)

pub returns : goal.returns
returns c =
    let k = (goal.at.returns c).At-loop-word in
    let s = (goal.at.returns c).Start in
    let words = c.args.words.now in
    let end = c.args.end in
    let e : length (iter_rest (rev_source c.loop-word.word-iterator)) ≡ 0 = c.in-None.ensures.steps.0 in
    let fields = behind_all (rw (e, fields_none words) at c.loop-word.invariant.put) in
    let LF-put = put_one c.args.space.now (end - 1) 10 (omega (arith, room s, c.requires.words_len_bound.1)) end (omega (arith, room s)) in
    rw (line_is words c.requires.keeps_ranges)
    (byte_before c.requires.words_len_bound.1 (before c.requires.words_len_bound.1 LF-put fields) (c.loop-word.next - 1) (get_or words 0 0) (omega (arith, front k)))
