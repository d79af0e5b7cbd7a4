-- Words that no rule refuses: numbers of the ranges, or `-` where it may stand. Assumes nothing.
use mathlib.Core.Path.{◌≡◌, refl}
use mathlib.Core.Logic.{◌⊎◌, inl, inr}
use mathlib.Core.Bool.{Bool, true, false, cond, ◌&&◌}
use mathlib.Core.List.{List, [], ◌∷◌}
use Prim.Native.Nat.{ℕ, suc, ◌≤◌}
use native.Mathlib.Omega.{arith}
use borrow.Author.Tests.{eqb-true, leb-true}
use lib.Dec.{eqb, leb}
use lib.ListN.{get_or}
use Rattle.decimal.proofs.Bools.{and_both}
use Rattle.lines.specs.Words.{DASH, OTHER}
use Rattle.sheet.specs.Kinds.{Rule, ◌to◌}
use Rattle.checks.specs.Steps.{word_number, words_number}
use Rattle.checks.proofs.Chain.{else_zero}

abbrev pub InRange : Rule → (word : ℕ) → Type 0
InRange rule word = (rule.lowest ≤ word) × (word ≤ rule.highest)

abbrev pub FitsBy : (dash_allowed : Bool) → Rule → (word : ℕ) → Type 0
FitsBy true rule word = (word ≡ DASH) ⊎ InRange rule word
FitsBy false rule word = InRange rule word

-- the words of the fields from k on
abbrev pub Fitting : (k : ℕ) → List Rule → (words : List ℕ) → Type 0
Fitting k [] words = Unit {0}
Fitting k (rule ∷ rs) words = FitsBy rule.dash_allowed rule (get_or words k 0) × Fitting (suc k) rs words

pub word_fits : (rule : Rule) (d : Bool) (w : ℕ) → word_number rule.lowest rule.highest d w ≡ 0 → FitsBy d rule w
unfolding word_number
word_fits rule d w h = go d (leb rule.lowest w && leb w rule.highest) refl (eqb w DASH) refl (eqb w OTHER) h
  where
    in_range : (leb rule.lowest w && leb w rule.highest) ≡ true → InRange rule w
    in_range e = let both = and_both _ _ e in (leb-true _ _ both.0, leb-true _ _ both.1)

    go : (d a : Bool) → (leb rule.lowest w && leb w rule.highest) ≡ a → (x : Bool) → eqb w DASH ≡ x → (y : Bool)
        → ◌≡◌ {A = ℕ} (cond a 0 (cond x (cond d 0 6) (cond y 6 7))) 0 → FitsBy d rule w
    go true true p x s y h = inr (in_range p)
    go false true p x s y h = in_range p
    go true false p true s y h = inl (eqb-true _ _ s)
    go false false p true s y h = absurd (omega arith)
    go d false p false s true h = absurd (omega arith)
    go d false p false s false h = absurd (omega arith)

-- a word that no rule without `-` refuses is at most the highest number of the range
pub word_at_most : (lowest highest w : ℕ) → word_number lowest highest false w ≡ 0 → w ≤ highest
word_at_most lowest highest w h = (word_fits (lowest to highest) false w h).1

pub words_fit : (k : ℕ) (rs : List Rule) (ws : List ℕ) → words_number k rs ws ≡ 0 → Fitting k rs ws
unfolding words_number
words_fit k [] ws h = tt
words_fit k (r ∷ rs) ws h =
    let z = else_zero (word_number r.lowest r.highest r.dash_allowed (get_or ws k 0)) (words_number (suc k) rs ws) h in
    (word_fits r r.dash_allowed (get_or ws k 0) z.0, words_fit (suc k) rs ws z.1)
