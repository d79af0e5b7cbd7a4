-- For the reader. Document 02, ticket 4: the figures that govern a precursor, and the records of a sheet with each N line as the B line that it
-- weighs like. Everything is said over all records of the sheet, wherever they stand.
use Rattle.std.specs.Prelude.{Bool, cond, ◌&&◌, List, [], ◌∷◌, map, ℕ, eqb}
use Rattle.lines.specs.Records.{number, Record, number_at}
use Rattle.sheet.specs.Kinds.{letter, is}
use Rattle.sheet.specs.declared.Kind.TheVariants.{BoughtPrecursor, PrecursorFigures, PrecursorUse}
use Rattle.sheet.specs.Refusals.{any_of, sum_of, process, stated_precursor, rank, used_precursor}

-- a K line of precursor p at rank k
abbrev pub states : (p k : ℕ) → Record → Bool
states p k r = is PrecursorFigures r && (eqb (stated_precursor r) p && eqb (rank r) k)

module _ (records : List Record) where
  abbrev pub rank_stated : (p k : ℕ) → Bool
  rank_stated p k = any_of (states p k) records

  -- the lowest rank number that is stated; 3 where none is, and then row 18 applies to each N line of the precursor
  abbrev pub governing_rank : (p : ℕ) → ℕ
  governing_rank p = cond (rank_stated p 1) 1 (cond (rank_stated p 2) 2 3)

  -- its figures: by row 17 no more than one line states them
  unfoldable pub governing_direct : (p : ℕ) → ℕ
  governing_direct p = sum_of (λ r. cond (states p (governing_rank p) r) (number_at r 2) 0) records

  unfoldable pub governing_indirect : (p : ℕ) → ℕ
  governing_indirect p = sum_of (λ r. cond (states p (governing_rank p) r) (number_at r 3) 0) records

  -- `N,process,precursor,kg` is `B,n,kg,direct,indirect` with the governing figures; any other record stays
  unfoldable pub as_bought : Record → Record
  as_bought r =
      cond (is PrecursorUse r)
      (record {
        letter = letter BoughtPrecursor;
        said =
            number (process r) ∷ number (number_at r 2) ∷ number (governing_direct (used_precursor r))
            ∷ number (governing_indirect (used_precursor r)) ∷ [];
      })
      r

-- the records whose reckoning is the report
unfoldable pub governed : (records : List Record) → List Record
governed records = map (as_bought records) records
