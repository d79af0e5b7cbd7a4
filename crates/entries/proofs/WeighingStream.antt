-- What weighing an S line asks of its words, and the entry that it leaves. Assumes nothing.
use mathlib.Core.Path.{◌≡◌}
use Prim.Native.Nat.{ℕ}
use native.Mathlib.Omega.{arith}
use borrow.Author.Tests.{not-true}
use lib.IntN.{ℤ}
use lib.ListN.{get_or}
use Rattle.std.specs.Prelude.{Result, IsOk}
use Rattle.lines.specs.Records.{field, number_at}
use Rattle.lines.specs.declared.LineRead.{LineRead}
use Rattle.quantity.specs.declared.method.Method.{Method}
use Rattle.quantity.specs.declared.method.NoMethod.{NoMethod}
use Rattle.quantity.specs.Limits.{limits}
use Rattle.quantity.specs.Methods.{HasNumber}
use Rattle.quantity.specs.Ranges.{StreamRange}
use Rattle.quantity.specs.Standard.{standard_a, standard_b}
use Rattle.quantity.specs.Streams.{stream_grams}
use Rattle.quantity.proofs.MethodNumbers.{is_method}
use Rattle.sheet.specs.Kinds.{letter, kind}
use Rattle.sheet.specs.declared.Kind.TheVariants.{SourceStream}
use Rattle.ledger.specs.Moved.{stream_moved}
use Rattle.entries.specs.Weighed.{or_standard, stream_of}
use Rattle.entries.specs.Entries.{entry}
use Rattle.entries.specs.Read.{record_read, LineKeeps, or_standard_word}
use Rattle.entries.proofs.Ranges.{number_is, standard_is}
use Rattle.entries.proofs.Streams.{plain_stream_lem, method_range, stream_range, eight}
use Rattle.entries.proofs.OfKind.{w, kind_at, is_at, entry_at}

-- `S,n,method,code,kg,a,b,c,d`: a and b as given, or the standard value
abbrev given_a : LineRead → (method : ℕ) → ℕ
given_a l method = or_standard_word (w l 4) (standard_a method (w l 2))

abbrev given_b : LineRead → ℕ
given_b l = or_standard_word (w l 5) (standard_b (w l 2))

-- an S line's words are its numbers; a and b give a value or stand for the standard one
record StreamWords (l : LineRead) : Type 0 where
  process : number_at (record_read l) 0 ≡ get_or l.words 0 0
  method : number_at (record_read l) 1 ≡ get_or l.words 1 0
  code : number_at (record_read l) 2 ≡ get_or l.words 2 0
  mass : number_at (record_read l) 3 ≡ get_or l.words 3 0
  a : (standard : ℕ) → or_standard (field (record_read l) 4) standard ≡ or_standard_word (get_or l.words 4 0) standard
  b : (standard : ℕ) → or_standard (field (record_read l) 5) standard ≡ or_standard_word (get_or l.words 5 0) standard
  oxidation : number_at (record_read l) 6 ≡ get_or l.words 6 0
  biomass : number_at (record_read l) 7 ≡ get_or l.words 7 0

stream_words : (l : LineRead) → LineKeeps l → kind (record_read l) ≡ SourceStream → StreamWords l
stream_words l keeps k =
    let n = eight limits (record_read l) k in
    let p = plain_stream_lem limits (record_read l) k in
    record {
      process = number_is l keeps 0 (omega arith) (not-true _ p.0);
      method = number_is l keeps 1 (omega arith) (not-true _ p.1.0);
      code = number_is l keeps 2 (omega arith) (not-true _ p.1.1.0);
      mass = number_is l keeps 3 (omega arith) (not-true _ p.1.1.1.0);
      a = standard_is l keeps 4 (omega arith);
      b = standard_is l keeps 5 (omega arith);
      oxidation = number_is l keeps 6 (omega arith) (not-true _ p.1.1.1.1.0);
      biomass = number_is l keeps 7 (omega arith) (not-true _ p.1.1.1.1.1.0);
    }

-- what holds of the values of the record holds of those that the words give
stream_same : (P : (method kilos a b c d : ℕ) → Type 0) (l : LineRead) → StreamWords l
    → (let r = record_read l in
    P (number_at r 1) (number_at r 3) (or_standard (field r 4) (standard_a (number_at r 1) (number_at r 2)))
    (or_standard (field r 5) (standard_b (number_at r 2))) (number_at r 6) (number_at r 7))
    → P (w l 1) (w l 3) (given_a l (w l 1)) (given_b l) (w l 6) (w l 7)
stream_same P l s h =
    rw (
      ← s.a (standard_a (w l 1) (w l 2)),
      ← s.b (standard_b (w l 2)),
      ← s.method,
      ← s.code,
      ← s.mass,
      ← s.oxidation,
      ← s.biomass,
    ) h

module _ (l : LineRead) (keeps : LineKeeps l) (e : l.letter ≡ letter SourceStream) where
  kind_is : kind (record_read l) ≡ SourceStream
  kind_is = kind_at l SourceStream e

  same : StreamWords l
  same = stream_words l keeps kind_is

  pub method_known : (r : Result Method NoMethod) → HasNumber (w l 1) r → IsOk r
  method_known r h =
      let m = rw same.method at (method_range limits (record_read l) keeps.ranges kind_is) in
      is_method (w l 1) r h m.0 m.1

  pub stream_asked : {m a b : ℕ} → m ≡ w l 1 → a ≡ given_a l m → b ≡ given_b l → StreamRange m (w l 3) a b (w l 6) (w l 7)
  stream_asked m p q = rw (p, q, m) (stream_same StreamRange l same (stream_range limits (record_read l) keeps.ranges kind_is))

  pub stream_entry : {m a b : ℕ} {z : ℤ} → m ≡ w l 1 → a ≡ given_a l m → b ≡ given_b l → z ≡ stream_grams m (w l 3) a b (w l 6) (w l 7)
      → stream_moved (w l 0) z ≡ entry (record_read l)
  unfolding stream_of
  stream_entry m p q z =
      rw (z, p, q, m, ← same.process)
      (stream_same (λ m kg a b c d. stream_moved (number_at (record_read l) 0) (stream_grams m kg a b c d) ≡ entry (record_read l)) l same
      (rw (is_at l SourceStream e) at (entry_at l SourceStream e)))
