-- The verdict is the first row that applies, in the order of the list of checks; no list is without a verdict. Assumes nothing.
use mathlib.Core.Path.{◌≡◌, refl, sym, ap}
use mathlib.Core.Logic.{◌↔◌, ◌⊎◌, inl, inr}
use mathlib.Core.Bool.{Bool, true, false, cond}
use mathlib.Core.List.{List, [], ◌∷◌, ◌++◌}
use Prim.Native.Nat.{ℕ}
use native.Mathlib.Omega.{arith}
use Rattle.sheet.specs.Verdict.{Check, Verdict, accepted, refused, first_of, All, Passes, First}

pub all_append : {A : Type 0} (P : A → Type 0) (xs ys : List A) → All P (xs ++ ys) → All P xs × All P ys
all_append P [] ys h = (tt, h)
all_append P (x ∷ xs) ys h = let r = all_append P xs ys h.1 in ((h.0, r.0), r.1)

pub all_join : {A : Type 0} (P : A → Type 0) (xs ys : List A) → All P xs → All P ys → All P (xs ++ ys)
all_join P [] ys p q = q
all_join P (x ∷ xs) ys p q = (p.0, all_join P xs ys p.1 q)

not_accepted : (number line : ℕ) → refused number line ≡ accepted → ⊥
not_accepted number line e = let z : ◌≡◌ {A = ℕ} 0 1 = cc in omega arith

-- accepted exactly when no row applies
pub accepted_passes : (cs : List Check) → first_of cs ≡ accepted → All Passes cs
unfolding first_of
accepted_passes [] h = tt
accepted_passes (c ∷ cs) h = go (accepted_passes cs) c.applies refl h
  where
    go : (first_of cs ≡ accepted → All Passes cs) → (t : Bool) → c.applies ≡ t
        → cond t (refused c.number c.line) (first_of cs) ≡ accepted → (c.applies ≡ false) × All Passes cs
    go rest true e h = absurd (not_accepted _ _ h)
    go rest false e h = (e, rest h)

pub passes_accepted : (cs : List Check) → All Passes cs → first_of cs ≡ accepted
unfolding first_of
passes_accepted [] h = refl
passes_accepted (c ∷ cs) h = rw h.0 (passes_accepted cs h.1)

pub accepted_iff : (cs : List Check) → (first_of cs ≡ accepted) ↔ All Passes cs
accepted_iff cs = (accepted_passes cs, passes_accepted cs)

-- refused exactly by the first row that applies
refused_first : (cs : List Check) (number line : ℕ) → first_of cs ≡ refused number line → First cs number line
unfolding first_of
refused_first [] number line h = absurd (not_accepted number line (sym h))
refused_first (c ∷ cs) number line h = go (refused_first cs number line) c.applies refl h
  where
    go : (first_of cs ≡ refused number line → First cs number line) → (t : Bool) → c.applies ≡ t
        → cond t (refused c.number c.line) (first_of cs) ≡ refused number line → First (c ∷ cs) number line
    go rest true e h = record { before = []; found = c; after = cs; split = refl; earlier = tt; applies = e; its_number = cc; its_line = cc }
    go rest false e h =
        let f = rest h in
        record {
          before = c ∷ f.before;
          found = f.found;
          after = f.after;
          split = ap (λ (l : List Check). c ∷ l) f.split;
          earlier = (e, f.earlier);
          applies = f.applies;
          its_number = f.its_number;
          its_line = f.its_line;
        }

first_split : (before : List Check) (c : Check) (after : List Check) → All Passes before → c.applies ≡ true
    → first_of (before ++ (c ∷ after)) ≡ refused c.number c.line
unfolding first_of
first_split [] c after p e = rw e
first_split (b ∷ before) c after p e = rw p.0 (first_split before c after p.1 e)

first_refused : (cs : List Check) (number line : ℕ) → First cs number line → first_of cs ≡ refused number line
first_refused cs number line f = rw (f.split, first_split f.before f.found f.after f.earlier f.applies, f.its_number, f.its_line)

pub refused_iff : (cs : List Check) (number line : ℕ) → (first_of cs ≡ refused number line) ↔ First cs number line
refused_iff cs number line = (refused_first cs number line, first_refused cs number line)

-- checks of which none has the number k do not refuse by it
pub never_by : (k : ℕ) (cs : List Check) → All (λ c. c.number ≡ k → ⊥) cs → (line : ℕ) → first_of cs ≡ refused k line → ⊥
never_by k cs another line r =
    let f = refused_first cs k line r in
    (all_append (λ c. c.number ≡ k → ⊥) f.before (f.found ∷ f.after) (rw f.split at another)).1.0 f.its_number

-- a list of checks accepts, or refuses by its first row that applies
pub decided : (cs : List Check) → All Passes cs ⊎ ((number line : ℕ) × First cs number line)
decided cs = go (first_of cs) refl
  where
    go : (v : Verdict) → first_of cs ≡ v → All Passes cs ⊎ ((number line : ℕ) × First cs number line)
    go accepted e = inl (accepted_passes cs e)
    go (refused number line) e = inr (number, line, refused_first cs number line e)

-- ---- one list of checks before another

pub first_rest : (a b : List Check) → first_of a ≡ accepted → first_of (a ++ b) ≡ first_of b
unfolding first_of
first_rest [] b h = refl
first_rest (c ∷ a) b h = go c.applies refl (λ p. first_rest a b p) h
  where
    go : (t : Bool) → c.applies ≡ t → (first_of a ≡ accepted → first_of (a ++ b) ≡ first_of b)
        → cond t (refused c.number c.line) (first_of a) ≡ accepted → cond t (refused c.number c.line) (first_of (a ++ b)) ≡ first_of b
    go true e ih h = absurd (not_accepted _ _ h)
    go false e ih h = ih h

pub first_here : (a b : List Check) (n k : ℕ) → first_of a ≡ refused n k → first_of (a ++ b) ≡ refused n k
unfolding first_of
first_here [] b n k h = absurd (not_accepted n k (sym h))
first_here (c ∷ a) b n k h = go c.applies (λ p. first_here a b n k p) h
  where
    go : (t : Bool) → (first_of a ≡ refused n k → first_of (a ++ b) ≡ refused n k)
        → cond t (refused c.number c.line) (first_of a) ≡ refused n k → cond t (refused c.number c.line) (first_of (a ++ b)) ≡ refused n k
    go true ih h = h
    go false ih h = ih h
