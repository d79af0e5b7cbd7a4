-- The number that the code gives a line is the number of the verdict. Assumes nothing.
use mathlib.Core.Path.{◌≡◌, refl, sym, ap, ap₂, ◌∙◌}
use mathlib.Core.Bool.{Bool, true, false, cond, ◌&&◌, ◌||◌, not}
use mathlib.Core.List.{List, [], ◌∷◌}
use Prim.Native.Nat.{ℕ, zero, suc, ◌+◌, ◌≤◌, ◌<◌}
use native.Mathlib.Nat.{lt_of_not-le}
use native.Mathlib.Decide.{dec_le}
use native.Mathlib.Omega.{arith}
use borrow.Author.Tests.{eq-eqb, ne_eqb, leb-true, ltb-true, ltb-false, le-leb, lt-leb, lt-ltb, le-ltb, not-false}
use lib.Dec.{eqb, leb, ltb}
use lib.ListN.{length, get_or}
use Rattle.decimal.proofs.Bools.{and_both, or_neither}
use Rattle.lines.specs.Lines.{Line}
use Rattle.lines.specs.Records.{Field, Record, record_of, field, number_at}
use Rattle.lines.specs.Words.{CAP}
use Rattle.quantity.specs.Limits.{Limits}
use Rattle.sheet.specs.Kinds.{kind, is, Rule, rules, sheet_table, named_fields, ends_of}
use Rattle.sheet.specs.declared.Kind.{Kind}
use Rattle.sheet.specs.declared.Kind.TheVariants.{Process, SourceStream, OwnGood, PrecursorFigures}
use Rattle.sheet.specs.Refusals.{any_of, sum_of, from, to, output_in, taken_in, has_process, too_many_lines, unknown_kind}
use Rattle.sheet.specs.Refusals.{process_not_next, missing_process, ends_not_allowed, no_standard_value, second_of_pair, output_exceeded}
use Rattle.sheet.specs.Refusals.{stated_precursor, rank, second_of_rank}
use Rattle.sheet.specs.Verdict.{Verdict, Check, check, accepted, refused, first_of, number_of, field_checks, shape_checks, order_checks, line_checks, All}
use Rattle.sheet.proofs.Table.{kind_is, rules_fit, FitsWords}
use Rattle.sheet.proofs.First.{all_join}
use Rattle.sheet.proofs.Held.{Held, GoodHeld}
use Rattle.checks.specs.Steps.{or_else, words_number, is_stated}
use Rattle.checks.specs.declared.above.Above.{Above}
use Rattle.checks.proofs.Chain.{else_first}
use Rattle.checks.proofs.Fitting.{Fitting}
use Rattle.checks.specs.Judged.{not_next, missing, no_standard, second, exceeded, stated, fields_number, order_number, kind_number}
use Rattle.judge.specs.Line.{line_number}
use Rattle.judge.proofs.Words.{method_at, number_cons}
use Rattle.judge.proofs.Shape.{said_words, table_number, shape_number_lem, dash_word, words_fitting, early_word}

-- ---- what the code holds of the lines above a line

-- a K line of this precursor and rank stands above
abbrev pub any_stated : (above : List Record) → (p k : ℕ) → Bool
any_stated above p k = any_of (λ q. is PrecursorFigures q && (eqb (stated_precursor q) p && eqb (rank q) k)) above

-- the ranges of a K line's precursor and rank
abbrev pub FiguresRange : (p k : ℕ) → Type 0
FiguresRange p k = (1 ≤ p) × (p ≤ 255) × (1 ≤ k) × (k ≤ 3)

-- `f` and `t`, or `p` and `k`, are the words of its first two fields; of an own good its processes' kilograms are held, where rows 2 to 10 do not
-- apply, and of a K line the ranks stated for its precursor, where rows 2 to 7 do not apply
pub record AboveHeld (limits : Limits) (above : List Record) (r : Record) (a : Above) : Type 0 where
  pub lines : a.lines ≡ length above
  pub held : Held limits above a.processes
  pub good : (f t : ℕ) → f ≡ get_or (said_words r) 0 0 → t ≡ get_or (said_words r) 1 0 → kind r ≡ OwnGood → 1 ≤ f → f < t → t ≤ a.processes
      → GoodHeld above f t a.output.0 a.taken.0 a.pair.0
  pub ranks : (p k : ℕ) → p ≡ get_or (said_words r) 0 0 → k ≡ get_or (said_words r) 1 0 → kind r ≡ PrecursorFigures → FiguresRange p k
      → is_stated a.ranks k ≡ any_stated above p k

-- ---- 8 to 13 and 17

-- the tests in the order of judging
abbrev chain : (t8 t9 t10 t11 t12 t13 t17 : Bool) → ℕ
chain t8 t9 t10 t11 t12 t13 t17 = cond t8 8 (cond t9 9 (cond t10 10 (cond t11 11 (cond t12 12 (cond t13 13 (cond t17 17 0))))))

chain_number : (k : ℕ) (t8 t9 t10 t11 t12 t13 t17 : Bool)
    → number_of (first_of (check 8 k t8 ∷ check 9 k t9 ∷ check 10 k t10 ∷ check 11 k t11 ∷ check 12 k t12 ∷ check 13 k t13
    ∷ check 17 k t17 ∷ []))
    ≡ chain t8 t9 t10 t11 t12 t13 t17
unfolding first_of
chain_number k true t9 t10 t11 t12 t13 t17 = refl
chain_number k false true t10 t11 t12 t13 t17 = refl
chain_number k false false true t11 t12 t13 t17 = refl
chain_number k false false false true t12 t13 t17 = refl
chain_number k false false false false true t13 t17 = refl
chain_number k false false false false false true t17 = refl
chain_number k false false false false false false true = refl
chain_number k false false false false false false false = refl

-- 12 and 13 count only where 9 and 10 do not apply
chain_last : (t8 t9 t10 t11 x y u v t17 : Bool) → (t9 ≡ false → t10 ≡ false → (x ≡ y) × (u ≡ v))
    → chain t8 t9 t10 t11 x u t17 ≡ chain t8 t9 t10 t11 y v t17
chain_last true t9 t10 t11 x y u v t17 h = refl
chain_last false true t10 t11 x y u v t17 h = refl
chain_last false false true t11 x y u v t17 h = refl
chain_last false false false t11 x y u v t17 h =
    let q = h refl refl in
    ap₂ (λ (a b : Bool). cond t11 11 (cond a 12 (cond b 13 (cond t17 17 0)))) q.0 q.1

-- the words of a K line to which rows 5 to 7 do not apply
abbrev FiguresFit : Record → Type 0
FiguresFit r = kind r ≡ PrecursorFigures → FiguresRange (get_or (said_words r) 0 0) (get_or (said_words r) 1 0)

figures_fit : (limits : Limits) (k : Kind) (rest : List Rule) (ws : List ℕ) → Fitting 0 (rules limits k rest) ws → k ≡ PrecursorFigures
    → FiguresRange (get_or ws 0 0) (get_or ws 1 0)
unfolding rules
figures_fit limits k rest ws h e = let f = rw e at h in (f.0.0, f.0.1, f.1.0.0, f.1.0.1)

not_leb : (a b : ℕ) → not (leb a b) ≡ ltb b a
not_leb a b =
    elim (dec_le a b) [
      | yes h ↦ simp (le-leb a b h, le-ltb b a h)
      | no h ↦ let g : b < a = lt_of_not-le h in simp (lt-leb a b g, lt-ltb b a g)
    ]

twice : (a b : Bool) → a ≡ not b → b ≡ not a
twice a true e = sym (ap not e)
twice a false e = sym (ap not e)

module _ (limits : Limits) (above : List Record) (r : Record) (a : Above) (said : AboveHeld limits above r a)
    (num : (k : ℕ) → k < 4 → number_at r k ≡ get_or (said_words r) k 0) (fit : FiguresFit r) where
  abbrev w : ℕ → ℕ
  w k = get_or (said_words r) k 0

  same_8 : process_not_next above r ≡ not_next (kind r) (w 0) a
  same_8 =
      rw said.lines
      (ap₂ (λ (n : ℕ) (t : Bool). is Process r && (not (eqb n (suc (length above))) || t)) (num 0 (omega arith)) said.held.others)

  lacks : (n : ℕ) → not (has_process above n) ≡ ltb a.processes n
  lacks n = ap not (said.held.named n) ∙ not_leb n a.processes

  same_9 : missing_process above r ≡ missing (kind r) (w 0) (w 1) a
  same_9 =
      ap₂ (λ (x y : Bool). ltb 0 (named_fields (kind r)) && x || ltb 1 (named_fields (kind r)) && y)
      (lacks (number_at r 0) ∙ ap (ltb a.processes) (num 0 (omega arith))) (lacks (number_at r 1) ∙ ap (ltb a.processes) (num 1 (omega arith)))

  same_10 : ends_not_allowed r ≡ ends_of (kind r) (w 0) (w 1)
  same_10 = ap₂ (ends_of (kind r)) (num 0 (omega arith)) (num 1 (omega arith))

  same_11 : no_standard_value r ≡ no_standard (kind r) (w 2) (w 4) (w 5)
  same_11 =
      ap₂ (λ (n : ℕ) (t : Bool). is SourceStream r && (eqb n 0 && t)) (num 2 (omega arith))
      (ap₂ ◌||◌ (sym (dash_word r 4 (omega arith))) (sym (dash_word r 5 (omega arith))))

  -- 12 and 13, where 9 and 10 do not apply
  same_good : missing (kind r) (w 0) (w 1) a ≡ false → ends_of (kind r) (w 0) (w 1) ≡ false
      → (second_of_pair above r ≡ second (kind r) a) × (output_exceeded above r ≡ exceeded (kind r) (w 2) a)
  same_good m n = go (is OwnGood r) refl
    where
      any : (f t : ℕ) → Bool
      any f t = any_of (λ q. is OwnGood q && (eqb (from q) f && eqb (to q) t)) above

      over : (f kg : ℕ) → Bool
      over f kg = ltb (sum_of (output_in f) above) (sum_of (taken_in f) above + kg)

      good : kind r ≡ OwnGood → (any (from r) (to r) ≡ not (eqb a.pair.0 0)) × (over (from r) (number_at r 2) ≡ ltb a.output.0 (a.taken.0 + w 2))
      good e =
          let rising = and_both (leb 1 (w 0)) (ltb (w 0) (w 1)) (not-false _ (rw e at n)) in
          let named = or_neither (ltb a.processes (w 0)) (ltb a.processes (w 1)) (rw e at m) in
          let known = ltb-false a.processes (w 1) named.1 in
          let h = said.good (w 0) (w 1) refl refl e (leb-true 1 (w 0) rising.0) (ltb-true (w 0) (w 1) rising.1) known in (
            ap₂ any (num 0 (omega arith)) (num 1 (omega arith)) ∙ twice (eqb a.pair.0 0) (any (w 0) (w 1)) h.once,
            ap₂ over (num 0 (omega arith)) (num 2 (omega arith)) ∙ sym (ap₂ (λ (x y : ℕ). ltb x (y + w 2)) h.out h.takes),
          )

      go : (t : Bool) → is OwnGood r ≡ t
          → ((is OwnGood r && any (from r) (to r)) ≡ second (kind r) a) × ((is OwnGood r && over (from r) (number_at r 2)) ≡ exceeded (kind r) (w 2) a)
      go true e = let q = good (kind_is OwnGood r e) in (ap (λ (t : Bool). is OwnGood r && t) q.0, ap (λ (t : Bool). is OwnGood r && t) q.1)
      go false e = (rw e, rw e)

  -- 17
  same_17 : second_of_rank above r ≡ stated (kind r) (w 1) a
  same_17 = go (is PrecursorFigures r) refl
    where
      any : kind r ≡ PrecursorFigures → any_stated above (stated_precursor r) (rank r) ≡ is_stated a.ranks (w 1)
      any e =
          ap₂ (any_stated above) (num 0 (omega arith)) (num 1 (omega arith)) ∙ sym (said.ranks (w 0) (w 1) refl refl e (fit e))

      go : (t : Bool) → is PrecursorFigures r ≡ t → (is PrecursorFigures r && any_stated above (stated_precursor r) (rank r)) ≡ stated (kind r) (w 1) a
      go true e = ap (λ (t : Bool). is PrecursorFigures r && t) (any (kind_is PrecursorFigures r e))
      go false e = rw e

  order_number_lem : (k : ℕ) → number_of (first_of (order_checks k above r)) ≡ order_number (kind r) (said_words r) a
  unfolding order_number
  order_number_lem k =
      chain_number k (process_not_next above r) (missing_process above r) (ends_not_allowed r) (no_standard_value r) (second_of_pair above r)
      (output_exceeded above r) (second_of_rank above r)
      ∙ ap₂ (λ (x y : Bool). chain x y (ends_not_allowed r) (no_standard_value r) (second_of_pair above r) (output_exceeded above r) (second_of_rank above r)) same_8 same_9
      ∙ ap₂ (λ (x y : Bool). chain eight nine x y (second_of_pair above r) (output_exceeded above r) (second_of_rank above r)) same_10 same_11
      ∙ chain_last eight nine (ends_of (kind r) (w 0) (w 1)) (no_standard (kind r) (w 2) (w 4) (w 5))
      (second_of_pair above r) (second (kind r) a) (output_exceeded above r) (exceeded (kind r) (w 2) a) (second_of_rank above r) same_good
      ∙ ap (chain eight nine (ends_of (kind r) (w 0) (w 1)) (no_standard (kind r) (w 2) (w 4) (w 5)) (second (kind r) a) (exceeded (kind r) (w 2) a)) same_17
    where
      eight : Bool
      eight = not_next (kind r) (w 0) a

      nine : Bool
      nine = missing (kind r) (w 0) (w 1) a

-- ---- 2 to 13 and 17

-- every check of a line has a number, and the line's
record At (line : ℕ) (c : Check) : Type 0 where
  numbered : c.number ≡ 0 → ⊥
  lined : c.line ≡ line

-- the verdict of checks of one line, by its number
abbrev on_line : (line : ℕ) → Verdict → Verdict
on_line line v = cond (eqb (number_of v) 0) accepted (refused (number_of v) line)

by_number : (line : ℕ) (cs : List Check) → All (At line) cs → first_of cs ≡ on_line line (first_of cs)
unfolding first_of
by_number line [] a = refl
by_number line (c ∷ cs) a = go c.applies (by_number line cs a.1)
  where
    go : (t : Bool) → first_of cs ≡ on_line line (first_of cs)
        → let v = cond t (refused c.number c.line) (first_of cs) in v ≡ on_line line v
    go true ih = simp (ne_eqb c.number 0 a.0.numbered, a.0.lined)
    go false ih = ih

numbered_at : (k number : ℕ) (t : Bool) → At k (check (suc number) k t)
numbered_at k number t = record { numbered = λ e. omega arith; lined = refl }

fields_at : (line : ℕ) (rs : List Rule) (fields : List Field) → All (At line) (field_checks line rs fields)
unfolding field_checks
fields_at line [] fields = tt
fields_at line (r ∷ rs) [] = tt
fields_at line (r ∷ rs) (f ∷ fs) = (numbered_at line 5 _, (numbered_at line 6 _, fields_at line rs fs))

module _ (limits : Limits) where
  line_at : (above : List Record) (l : Line) → All (At (suc (length above))) (line_checks limits above l)
  unfolding line_checks shape_checks
  line_at above l =
      let k : ℕ = suc (length above) in
      let n = numbered_at k in (
        n 1 _,
        all_join (At k) (shape_checks (sheet_table limits) k l) _
            (n 2 _, (n 3 _, (n 4 _, fields_at k ((sheet_table limits).rules (record_of l)) (record_of l).said)))
            (n 7 _, (n 8 _, (n 9 _, (n 10 _, (n 11 _, (n 12 _, (n 16 _, tt))))))),
      )

-- the number that the code gives a line
abbrev pub given : Limits → Line → Above → ℕ
given limits l a = line_number limits l.ended (record_of l).letter (length (record_of l).said) (said_words (record_of l)) a

module _ (limits : Limits) (small : limits.processes < CAP) (above : List Record) (l : Line) (a : Above) (said : AboveHeld limits above (record_of l) a) where
  abbrev r : Record
  r = record_of l

  fits : FitsWords ((sheet_table limits).rules r)
  fits = rules_fit limits small (kind r) (field r 1)

  -- rows 3 to 7 under the sheet's table are those by the kind
  same_shape : table_number (sheet_table limits) l ≡ cond l.ended (fields_number limits (kind r) (length r.said) (said_words r)) 3
  unfolding fields_number
  same_shape =
      sym (ap (λ (rs : List Rule). cond l.ended (cond (unknown_kind (sheet_table limits) r) 4
      (cond (eqb (length r.said) (length rs)) (words_number 0 rs (said_words r)) 5)) 3)
      (ap (rules limits (kind r)) (method_at r.said)))

  -- THE NUMBER OF THE VERDICT IS THE CODE'S
  pub line_number_lem : number_of (first_of (line_checks limits above l)) ≡ given limits l a
  unfolding line_checks
  line_number_lem =
      number_cons _ _ ∙ ap (cond (too_many_lines limits (suc (length above))) 2) (shape_number_lem (sheet_table limits) l fits k (order_checks k above r) ∙ passed)
      ∙ ap (λ (n : ℕ). cond (too_many_lines limits (suc n)) 2 later) (sym said.lines)
    where
      -- 3 to 13 and 17
      later : ℕ
      later = cond l.ended (kind_number limits (kind r) (length r.said) (said_words r) a) 3

      k : ℕ
      k = suc (length above)

      shape : ℕ
      shape = table_number (sheet_table limits) l

      last : (n : ℕ) → shape ≡ n → or_else n (number_of (first_of (order_checks k above r))) ≡ or_else n (order_number (kind r) (said_words r) a)
      last zero e = order_number_lem limits above r a said (λ j h. sym (early_word (sheet_table limits) l fits e j h))
          (figures_fit limits (kind r) _ (said_words r) (words_fitting (sheet_table limits) l fits e)) k
      last (suc n) e = else_first (suc n) _ (λ z. omega arith) ∙ sym (else_first (suc n) _ (λ z. omega arith))

      ended : (t : Bool) (n m : ℕ) → or_else (cond t n 3) m ≡ cond t (or_else n m) 3
      ended true n m = refl
      ended false n m = refl

      passed : or_else shape (number_of (first_of (order_checks k above r))) ≡ later
      passed = last shape refl ∙ ap (λ (n : ℕ). or_else n (order_number (kind r) (said_words r) a)) same_shape ∙ ended l.ended _ _

  -- the verdict and its line follow from that number
  line_verdict : first_of (line_checks limits above l) ≡ cond (eqb (given limits l a) 0) accepted (refused (given limits l a) (suc (length above)))
  line_verdict =
      by_number (suc (length above)) (line_checks limits above l) (line_at limits above l)
      ∙ ap (λ (n : ℕ). cond (eqb n 0) accepted (refused n (suc (length above)))) line_number_lem

  pub line_accepted : given limits l a ≡ 0 → first_of (line_checks limits above l) ≡ accepted
  line_accepted z = line_verdict ∙ simp (eq-eqb (given limits l a) 0 z)

  pub line_refused : (n : ℕ) → given limits l a ≡ n → (n ≡ 0 → ⊥) → first_of (line_checks limits above l) ≡ refused n (suc (length above))
  line_refused n e h = line_verdict ∙ rw e (simp (ne_eqb n 0 h))
