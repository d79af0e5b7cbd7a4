-- The fields of a source stream from its method on, by the rules of the method. Assumes nothing.
use mathlib.Core.Path.{◌≡◌, refl, sym, ◌∙◌}
use mathlib.Core.Bool.{false}
use mathlib.Core.List.{List}
use Prim.Native.Nat.{ℕ, ◌≤◌}
use native.Mathlib.Omega.{arith}
use lib.ListN.{get_or}
use Rattle.lines.specs.Records.{number}
use Rattle.sheet.specs.Kinds.{◌to◌, method_rules}
use Rattle.checks.specs.Steps.{or_else, word_number, words_number}
use Rattle.quantity.specs.Methods.{method_number}
use Rattle.quantity.specs.declared.method.Method.{Method}
use Rattle.quantity.specs.declared.method.Method.TheVariants.{Combustion, ProcessEmission, CarbonIn, CarbonOut}
use Rattle.checks.specs.Judged.{method_number as method_word_number}
use Rattle.checks.proofs.Chain.{else_first}
use Rattle.checks.proofs.Fitting.{word_fits}

-- a method: the rules of the fields behind it
pub of_method : (r : ℕ) (words : List ℕ) (m : Method) → method_number m ≡ get_or words 1 0
    → r ≡ words_number 2 (method_rules (number (method_number m))) words → r ≡ method_word_number words
unfolding words_number word_number
of_method r words m e h = h ∙ sym (rw (← e) (go m))
  where
    go : (m : Method) → or_else (word_number 1 4 false (method_number m)) (words_number 2 (method_rules (number (method_number m))) words)
        ≡ words_number 2 (method_rules (number (method_number m))) words
    go Combustion = refl
    go ProcessEmission = refl
    go CarbonIn = refl
    go CarbonOut = refl

-- none: the fields behind it are not reached
outside : (n : ℕ) → ((m : Method) → method_number m ≡ n → ⊥) → 1 ≤ n → n ≤ 4 → ⊥
outside n none low high =
    let one : n ≡ 1 → ⊥ = λ e. none Combustion (sym e) in
    let two : n ≡ 2 → ⊥ = λ e. none ProcessEmission (sym e) in
    let three : n ≡ 3 → ⊥ = λ e. none CarbonIn (sym e) in
    let four : n ≡ 4 → ⊥ = λ e. none CarbonOut (sym e) in
    omega arith

pub no_method_lem : (r : ℕ) (words : List ℕ) → ((m : Method) → method_number m ≡ get_or words 1 0 → ⊥)
    → r ≡ word_number 1 4 false (get_or words 1 0) → r ≡ method_word_number words
unfolding words_number
no_method_lem r words none h =
    h ∙ sym (else_first (word_number 1 4 false (get_or words 1 0)) (words_number 2 (method_rules (number (get_or words 1 0))) words)
    (λ z. let f = word_fits (1 to 4) false (get_or words 1 0) z in outside (get_or words 1 0) none f.0 f.1))
