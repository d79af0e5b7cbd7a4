-- The words of a lent record's fields, as the code holds them: a word each of those behind the letter, whether or not it is a field, since those that
-- are none are 0. Assumes nothing.
use mathlib.Core.Path.{◌≡◌, refl, sym, ap, ap₂, ◌∙◌}
use mathlib.Core.Bool.{Bool, true, false, cond}
use mathlib.Core.List.{List, [], ◌∷◌, ◌++◌, map, map-append, append_assoc}
use Prim.Native.Nat.{ℕ, zero, suc, ◌+◌, ◌-◌, ◌≤◌, ◌<◌}
use native.Mathlib.Numerals.{add-one}
use native.Mathlib.Omega.{arith}
use lib.ListN.{length, get_or, take, drop, set, replicate, length-map, length-take, length-drop, take-append-drop, replicate-append-replicate}
use lib.Seq.{sets-eq, set-append_seam, take-suc, take_all, get_or-drop}
use Rattle.std.proofs.lemmas.List.{drop-replicate}
use Rattle.lines.specs.Records.{Record}
use Rattle.lines.specs.Words.{WORDS, word, words}
use Rattle.lent.specs.Lent.{RECORD, field_lent, all_zero, record_lent}
use Rattle.lent.proofs.Counts.{all_zeros, count_of, letter_some, some_lent}

abbrev zeros : ℕ → List ℕ
zeros n = replicate n 0

abbrev word_of : ℕ → ℕ
word_of w = word (field_lent w)

-- the words of fields
abbrev held : List ℕ → List ℕ
held ws = map word (map field_lent ws)

held_long : (ws : List ℕ) → length (held ws) ≡ length ws
held_long ws = length-map (map field_lent ws) word ∙ length-map ws field_lent

held_append : (a b : List ℕ) → held (a ++ b) ≡ held a ++ held b
held_append a b = ap (map word) (map-append field_lent a b) ∙ map-append word (map field_lent a) (map field_lent b)

held_zeros : (n : ℕ) → held (zeros n) ≡ zeros n
unfolding word
held_zeros zero = refl
held_zeros (suc n) = ap (λ (l : List ℕ). 0 ∷ l) (held_zeros n)

stored : (ws : List ℕ) → length ws ≤ WORDS → words (map field_lent ws) ≡ held ws ++ zeros (WORDS - length ws)
unfolding words
stored ws few =
    let count : 0 + length (held ws) ≡ length ws = omega (arith, held_long ws) in
    sets-eq (held ws) (zeros WORDS) 0 (omega (arith, held_long ws))
    ∙ ap (λ (l : List ℕ). held ws ++ l) (ap (λ (k : ℕ). drop k (zeros WORDS)) count ∙ drop-replicate (length ws) WORDS 0)

-- whichever of the words behind the letter are fields
module _ (behind : List ℕ) (few : length behind ≤ WORDS) where
  first : (n : ℕ) → all_zero (drop n behind) ≡ true
      → held (take n behind) ++ zeros (WORDS - length (take n behind)) ≡ held behind ++ zeros (WORDS - length behind)
  first n h =
      let rest : drop n behind ≡ zeros (length behind - n) = all_zeros (drop n behind) h ∙ ap zeros (length-drop n behind) in
      let all : held behind ≡ held (take n behind) ++ zeros (length behind - n) =
      ap held (sym (take-append-drop n behind)) ∙ held_append (take n behind) (drop n behind)
      ∙ ap (λ (l : List ℕ). held (take n behind) ++ l) (ap held rest ∙ held_zeros (length behind - n)) in
      let spare : zeros (length behind - n) ++ zeros (WORDS - length behind) ≡ zeros (WORDS - length (take n behind)) =
      replicate-append-replicate (length behind - n) (WORDS - length behind) 0
      ∙ ap zeros (let e : length behind - n + (WORDS - length behind) ≡ WORDS - length (take n behind) = omega (arith, length-take n behind) in e) in
      sym
      (ap (λ (l : List ℕ). l ++ zeros (WORDS - length behind)) all ∙ append_assoc (held (take n behind)) (zeros (length behind - n)) (zeros (WORDS - length behind))
      ∙ ap (λ (l : List ℕ). held (take n behind) ++ l) spare)

  whole : (n : ℕ) → words (map field_lent (cond (all_zero (drop n behind)) (take n behind) behind)) ≡ held behind ++ zeros (WORDS - length behind)
  whole n = go (all_zero (drop n behind)) refl
    where
      go : (b : Bool) → all_zero (drop n behind) ≡ b → words (map field_lent (cond b (take n behind) behind)) ≡ held behind ++ zeros (WORDS - length behind)
      go true e = stored (take n behind) (omega (arith, length-take n behind)) ∙ first n e
      go false e = stored behind few

-- the words of the first k words behind the letter, and 0 for the others
abbrev pub held_to : (lent : List ℕ) → (k : ℕ) → List ℕ
held_to lent k = held (take k (drop 1 lent)) ++ zeros (WORDS - k)

module _ (lent : List ℕ) (few : length lent ≤ RECORD) where
  pub one_held : (k w : ℕ) → k + 1 < length lent → w ≡ word_of (get_or lent (k + 1) 0) → set (held_to lent k) k w ≡ held_to lent (k + 1)
  one_held k w h e =
      let behind : List ℕ = drop 1 lent in
      let inside : k < length behind = omega (arith, length-drop 1 lent) in
      let long : length (held (take k behind)) ≡ k = held_long (take k behind) ∙ omega (arith, length-take k behind) in
      let spare : zeros (WORDS - k) ≡ 0 ∷ zeros (WORDS - (k + 1)) =
      ap zeros (let e : WORDS - k ≡ suc (WORDS - (k + 1)) = omega (arith, length-drop 1 lent) in e) in
      let at : get_or behind k 0 ≡ get_or lent (k + 1) 0 =
      get_or-drop 1 lent k 0 ∙ ap (λ (i : ℕ). get_or lent i 0) (let e : 1 + k ≡ k + 1 = omega arith in e) in
      let more : held (take (k + 1) behind) ≡ held (take k behind) ++ (w ∷ []) =
      ap (λ (i : ℕ). held (take i behind)) (add-one k) ∙ ap held (take-suc behind k 0 inside) ∙ held_append (take k behind) (get_or behind k 0 ∷ [])
      ∙ ap (λ (v : ℕ). held (take k behind) ++ (v ∷ [])) (ap word_of at ∙ sym e) in
      ap₂ (λ (l : List ℕ) (i : ℕ). set l i w) (ap (λ (l : List ℕ). held (take k behind) ++ l) spare) (sym long)
      ∙ set-append_seam (held (take k behind)) 0 (zeros (WORDS - (k + 1))) w ∙ sym (append_assoc (held (take k behind)) (w ∷ []) (zeros (WORDS - (k + 1))))
      ∙ ap (λ (l : List ℕ). l ++ zeros (WORDS - (k + 1))) (sym more)

  pub all_held : (k : ℕ) → 1 ≤ (record_lent lent).letter → length lent ≡ k + 1 → held_to lent k ≡ words (record_lent lent).said
  all_held k some h =
      let behind : List ℕ = drop 1 lent in
      let e : length behind ≡ k = omega (arith, length-drop 1 lent) in
      ap₂ (λ (l : List ℕ) (n : ℕ). held l ++ zeros (WORDS - n)) (take_all k behind (omega arith)) (sym e)
      ∙ sym (ap (λ (r : Record). words r.said) (some_lent lent (letter_some lent some)) ∙ whole behind (omega (arith, length-drop 1 lent)) (count_of lent))
