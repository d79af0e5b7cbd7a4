-- The fields of a line read one after the other. Assumes nothing.
use mathlib.Core.Path.{◌≡◌, refl, sym, ap, ◌∙◌}
use mathlib.Core.Bool.{Bool, true, false, cond}
use mathlib.Core.List.{List, [], ◌∷◌}
use Prim.Native.Nat.{ℕ, suc, ◌+◌, ◌≤◌}
use native.Mathlib.Nat.{lt_of_not-le}
use native.Mathlib.Decide.{dec_le}
use native.Mathlib.Numerals.{add-one}
use native.Mathlib.Omega.{arith}
use borrow.Author.Tests.{lt-ltb, le-ltb}
use lib.Dec.{eqb}
use lib.ListN.{length, drop, get_or, set, replicate, length-drop, length-set, length-map}
use lib.Seq.{sets, set_out}
use Rattle.decimal.proofs.Bools.{never}
use Rattle.lines.specs.Lines.{LF, COMMA}
use Rattle.lines.specs.Records.{field_of, record_of}
use Rattle.lines.specs.Words.{WORDS, word, words, line_length, line_at, ReadAt}
use Rattle.lines.specs.declared.LineRead.{LineRead}
use Rattle.fields.specs.Scan.{field_length, field_at, word_of, FieldReadAt, FieldBounds, EndsInLF}
use Rattle.fields.specs.declared.FieldRead.{FieldRead}
use Rattle.fields.proofs.Scanning.{word_said}
use Rattle.short_fields.specs.Short.{short_at}
use Rattle.short_fields.proofs.Short.{FieldBefore, byte_of, Before, short_before}
use Rattle.short_fields.specs.declared.ShortField.{ShortField}
use Rattle.fields.specs.declared.Stop.{Stop}
use Rattle.fields.specs.declared.Stop.TheVariants.{Comma, LineEnd}
use Rattle.std.specs.Prelude.{Option, Some, None}
use Rattle.heads.specs.Left.{comma_at, field_end, line_fields, next_fields}
use Rattle.heads.specs.Heads.{letter_first, HeadAt}
use Rattle.heads.specs.declared.Head.{Head}
use Rattle.heads.proofs.Left.{first_field, first_end, comma_in, more_fields, no_fields, more_end, no_end, comma_at_lem, other_at}
use Rattle.heads.proofs.Heads.{head_ahead}
use Rattle.steps.specs.Steps.{no_step, tried, stayed, step_by, step_of}
use Rattle.steps.specs.declared.Step.{Step}
use Rattle.records.specs.Reading.{stored, next_words, FieldsRead, ReadSoFar}

-- ---- the line, field by field

store_set : (l : List ℕ) (k v : ℕ) → length l ≡ WORDS → stored l k v ≡ set l k v
store_set l k v h =
    elim (dec_le WORDS k) [
      | yes g ↦ simp (le-ltb k WORDS g) (sym (set_out l k v (omega arith)))
      | no g ↦ simp (lt-ltb k WORDS (lt_of_not-le g))
    ]

none_read : (s : List ℕ) (first : ℕ) → FieldsRead s first (replicate WORDS 0) 0 first
none_read s first = record { size = refl; words = refl; counted = omega arith; ended = refl }

module _ (s : List ℕ) (first : ℕ) (held : List ℕ) (count end : ℕ) (r : FieldsRead s first held count end) where
  -- one field more, which says this word and ends here
  word_read : (said e : ℕ) → comma_at s end ≡ true → said ≡ word (field_of (field_at s (end + 1))) → e ≡ end + 1 + field_length (drop (end + 1) s)
      → FieldsRead s first (set held count said) (suc count) e
  word_read said e h w k =
      let g : end + 1 ≤ length s = omega (arith, comma_in s end h) in
      let t : next_fields s end ≡ field_at s (end + 1) ∷ next_fields s e = more_fields s end h ∙ first_field s (end + 1) e g k in
      rw w
      record {
        size = length-set held count _ ∙ r.size;
        words = rw t at r.words;
        counted = omega (arith, ap length t, r.counted);
        ended = sym (first_end s (end + 1) e g k) ∙ sym (more_end s end h) ∙ r.ended;
      }

  one_read : (f : FieldRead) → comma_at s end ≡ true → FieldReadAt s (end + 1) f
      → FieldsRead s first (stored held count (word_of f.said)) (count + 1) f.end
  one_read f h k =
      rw (store_set held count (word_of f.said) r.size, add-one count)
      (word_read (word_of f.said) f.end h (ap word_of k.said ∙ word_said (field_of (field_at s (end + 1)))) k.end)

  all_read : (start letter : ℕ) → start ≤ length s → first ≡ field_end s start → letter ≡ (record_of (line_at s start)).letter → comma_at s end ≡ false
      → ReadAt s start (record { letter = letter; count = count; words = held; end = end })
  unfolding record_of line_at line_fields words
  all_read start letter h f l z =
      let t = no_fields s end z in
      let q = first_field s start first h f in
      let n : length (next_fields s first) ≡ count = omega (arith, ap length t, r.counted) in
      let w : held ≡ sets (replicate WORDS 0) 0 (next_words s first) = rw t at r.words in
      let d : end ≡ start + line_length (drop start s) = sym (no_end s end z) ∙ r.ended ∙ sym (first_end s start first h f) in
      record {
        letter = l;
        count = rw (q, length-map) (sym n);
        words = rw q w;
        end = d;
      }

-- ---- steps

field_short : (bs : List ℕ) → field_length bs ≤ length bs
unfolding field_length
field_short [] = omega arith
field_short (b ∷ bs) = go (field_short bs) (eqb b LF) (eqb b COMMA)
  where
    go : field_length bs ≤ length bs → (p q : Bool) → cond p 0 (cond q 0 (suc (field_length bs))) ≤ suc (length bs)
    go h true q = omega arith
    go h false true = omega arith
    go h false false = omega arith

field_most : (s : List ℕ) (start : ℕ) → start ≤ length s → field_end s start ≤ length s
field_most s start h = omega (arith, field_short (drop start s), length-drop start s)

-- what is known after steps for k fields
pub record Steps (s : List ℕ) (first : ℕ) (k : ℕ) (held : List ℕ) (f : Step) : Type 0 where
  pub fields : FieldsRead s first held f.count f.end
  pub ahead : tried f.stop ≡ true → (f.count ≡ k) × (comma_at s f.end ≡ true)
  pub ended : f.stop ≡ Some LineEnd → comma_at s f.end ≡ false
  pub least : first ≤ f.end
  pub most : f.end ≤ length s

module _ (s : List ℕ) (first k : ℕ) (held : List ℕ) (f : Step) (p : Steps s first k held f) (z : set held k 0 ≡ held) where
  -- no field is read, and no more is tried
  steps_stay : (stop : Option Stop) → tried stop ≡ false → (stop ≡ Some LineEnd → f.stop ≡ Some LineEnd)
      → Steps s first (suc k) (set held k 0) (record { word = 0; count = f.count; end = f.end; stop = stop })
  steps_stay stop n same =
      rw z
      record {
        fields = p.fields;
        ahead = λ e. absurd (never (sym n ∙ e));
        ended = λ e. p.ended (same e);
        least = p.least;
        most = p.most;
      }

  -- a field that is read
  steps_pass : tried f.stop ≡ true → (field : ShortField) → FieldBefore s (f.end + 1) field.word field.end (byte_of field.stop)
      → Steps s first (suc k) (set held k field.word) (step_by f (Some field))
  steps_pass e field b =
      let o = p.ahead e in
      let i = comma_in s f.end o.1 in
      let m = field_most s (f.end + 1) (omega arith) in
      let one : f.count + 1 ≡ suc f.count = omega arith in
      record {
        fields = rw (one, sym o.0) (word_read s first held f.count f.end p.fields field.word field.end o.1 b.says b.ends);
        ahead = comma field.stop b.stops;
        ended = line_end field.stop b.stops;
        least = omega (arith, p.least, b.ends);
        most = omega (arith, m, b.ends);
      }
    where
      comma : (stop : Stop) → get_or s field.end 0 ≡ byte_of stop → tried (Some stop) ≡ true → (f.count + 1 ≡ suc k) × (comma_at s field.end ≡ true)
      comma Comma c t = (omega (arith, (p.ahead e).0), comma_at_lem s field.end c)
      comma LineEnd c t = absurd (never t)

      line_end : (stop : Stop) → get_or s field.end 0 ≡ byte_of stop → Some stop ≡ Some LineEnd → comma_at s field.end ≡ false
      line_end Comma c t = cc
      line_end LineEnd c t = other_at s field.end (λ d. omega arith)

  steps_by : tried f.stop ≡ true → (r : Option ShortField) → Before s (f.end + 1) r
      → Steps s first (suc k) (set held k (step_by f r).word) (step_by f r)
  steps_by e (Some field) b = steps_pass e field b
  steps_by e None b = steps_stay None refl (λ d. cc)

  steps_next : Steps s first (suc k) (set held k (step_of s f).word) (step_of s f)
  unfolding step_of
  steps_next = go (tried f.stop) refl
    where
      go : (m : Bool) → tried f.stop ≡ m
          → Steps s first (suc k) (set held k (cond m (step_by f (short_at s (f.end + 1))) (stayed f)).word)
          (cond m (step_by f (short_at s (f.end + 1))) (stayed f))
      go true e = steps_by e (short_at s (f.end + 1)) (short_before s (f.end + 1))
      go false e = steps_stay f.stop e (λ d. d)

  step : (r : Step) → r ≡ step_of s f → Steps s first (suc k) (set held k r.word) r
  step r e = rw e steps_next

-- ---- the line

stop_tried : (stop : Option Stop) → tried stop ≡ true → stop ≡ Some Comma
stop_tried (Some Comma) e = refl
stop_tried (Some LineEnd) e = absurd (never e)
stop_tried None e = absurd (never e)

module _ (s : List ℕ) (start : ℕ) (h : Head) (k : HeadAt s start h) where
  -- the first field is tried at once only behind a comma
  pub head_step : (f : Step) → f ≡ no_step h → tried f.stop ≡ true → EndsInLF s × (comma_at s f.end ≡ true)
  head_step f e =
      rw e (λ t. head_ahead s start h k (stop_tried h.stop t))

  never_end : (t : Bool) → cond t (Some Comma) None ≡ Some LineEnd → comma_at s h.end ≡ false
  never_end true e = cc
  never_end false e = cc

  no_step_lem : Steps s (field_end s start) 0 (replicate WORDS 0) (no_step h)
  no_step_lem =
      let e = k.is.ends in
      record {
        fields = rw e (none_read s (field_end s start));
        ahead = λ m. (refl, (head_ahead s start h k (stop_tried h.stop m)).1);
        ended = λ d. never_end (letter_first s start) (sym k.stop ∙ d);
        least = omega arith;
        most = k.is.most;
      }

-- the line up to the last step, and that it is all of it where that says so
pub eight_read : (s : List ℕ) (start : ℕ) (hd : Head) (z a b c d e f g h : Step) → HeadAt s start hd
    → z ≡ no_step hd → a ≡ step_of s z → b ≡ step_of s a → c ≡ step_of s b → d ≡ step_of s c
    → e ≡ step_of s d → f ≡ step_of s e → g ≡ step_of s f → h ≡ step_of s g → h.count ≤ h.end
    → ReadSoFar s start
    (record {
      letter = hd.letter;
      count = h.count;
      words = a.word ∷ b.word ∷ c.word ∷ d.word ∷ e.word ∷ f.word ∷ g.word ∷ h.word ∷ [];
      end = h.end;
    })
    × (h.stop ≡ Some LineEnd → comma_at s h.end ≡ false)
eight_read s start hd z a b c d e f g h k ez ea eb ec ed ee ef eg eh n =
    let first : ℕ = field_end s start in
    let sa = step s first 0 (replicate WORDS 0) z (rw ez (no_step_lem s start hd k)) refl a ea in
    let sb = step s first 1 _ a sa refl b eb in
    let sc = step s first 2 _ b sb refl c ec in
    let sd = step s first 3 _ c sc refl d ed in
    let se = step s first 4 _ d sd refl e ee in
    let sf = step s first 5 _ e se refl f ef in
    let sg = step s first 6 _ f sf refl g eg in
    let sh = step s first 7 _ g sg refl h eh in
    (record { letter = k.is.letter_is; fields = sh.fields; least = omega (arith, sh.least); most = sh.most; fits = n }, sh.ended)

module _ (s : List ℕ) (start : ℕ) (l : LineRead) (p : ReadSoFar s start l) where
  -- no field is left
  pub so_far_all : comma_at s l.end ≡ false → ReadAt s start l × ((start ≤ l.end) × (l.end ≤ length s))
  so_far_all z =
      let inside : start ≤ length s = omega (arith, p.least, p.most) in
      (all_read s (field_end s start) l.words l.count l.end p.fields start l.letter inside refl p.letter z, (p.least, p.most))

  -- one field more, in a word where that is one of the first eight
  pub so_far_more : (f : FieldRead) → comma_at s l.end ≡ true → FieldReadAt s (l.end + 1) f → FieldBounds s (l.end + 1) f
      → (words : List ℕ) → words ≡ stored l.words l.count (word_of f.said)
      → ReadSoFar s start (record { letter = l.letter; count = l.count + 1; words = words; end = f.end })
  so_far_more f c k b words w =
      rw w
      record {
        letter = p.letter;
        fields = one_read s (field_end s start) l.words l.count l.end p.fields f c k;
        least = omega (arith, p.least, b.least);
        most = b.most;
        fits = omega (arith, p.fits, b.least);
      }
