-- A line by its letter: its kind, and the entry of that kind. Assumes nothing.
use mathlib.Core.Path.{◌≡◌, sym, ap}
use mathlib.Core.Bool.{true}
use Prim.Native.Nat.{ℕ}
use lib.ListN.{get_or}
use Rattle.lines.specs.declared.LineRead.{LineRead}
use Rattle.sheet.specs.Kinds.{letter, kind, is}
use Rattle.sheet.specs.declared.Kind.{Kind}
use Rattle.sheet.proofs.Table.{kind_letter, is_kind}
use Rattle.entries.specs.Entries.{entry_of, entry}
use Rattle.entries.specs.Read.{record_read}

-- a word of the line
abbrev pub w : LineRead → (k : ℕ) → ℕ
w l k = get_or l.words k 0

module _ (l : LineRead) (j : Kind) (e : l.letter ≡ letter j) where
  pub kind_at : kind (record_read l) ≡ j
  unfolding record_read
  kind_at = rw e (kind_letter j)

  pub is_at : is j (record_read l) ≡ true
  is_at = is_kind j (record_read l) kind_at

  pub entry_at : entry_of j (record_read l) ≡ entry (record_read l)
  entry_at = sym (ap (λ (k : Kind). entry_of k (record_read l)) kind_at)
