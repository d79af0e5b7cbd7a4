-- For the reader. Document 01, "The sheet" and "Source streams", and document 02, ticket 4: the kinds of lines as a table. A kind has its
-- letter, its fields, which of them name processes, and the ends that it does not allow.
use Rattle.std.specs.Prelude.{Bool, true, false, cond, ◌&&◌, not, List, [], ◌∷◌, ℕ, eqb, ltb, leb}
use Rattle.quantity.specs.Limits.{Limits}
use Rattle.lines.specs.Records.{Field, number, dash, other, Record, field}
-- the nine kinds of lines, and a line whose first field is none of their letters
use Rattle.sheet.specs.declared.Kind.{Kind}
use Rattle.sheet.specs.declared.Kind.TheVariants.{Process, SourceStream, MeasurableHeat, WasteGas, Electricity, BoughtPrecursor, OwnGood}
use Rattle.sheet.specs.declared.Kind.TheVariants.{PrecursorFigures, PrecursorUse, Unknown}

-- ---- kinds and their letters

abbrev pub letter : Kind → ℕ
letter Process = 80
letter SourceStream = 83
letter MeasurableHeat = 72
letter WasteGas = 87
letter Electricity = 69
letter BoughtPrecursor = 66
letter OwnGood = 71
letter PrecursorFigures = 75
letter PrecursorUse = 78
letter Unknown = 0

abbrev pub kinds : List Kind
kinds =
    Process ∷ SourceStream ∷ MeasurableHeat ∷ WasteGas ∷ Electricity ∷ BoughtPrecursor ∷ OwnGood
    ∷ PrecursorFigures ∷ PrecursorUse ∷ []

-- the kind whose letter is this byte
unfoldable pub kind_among : List Kind → (byte : ℕ) → Kind
kind_among [] byte = Unknown
kind_among (k ∷ ks) byte = cond (eqb byte (letter k)) k (kind_among ks byte)

unfoldable pub kind_of : (byte : ℕ) → Kind
kind_of byte = kind_among kinds byte

abbrev pub kind : Record → Kind
kind r = kind_of r.letter

abbrev pub is : Kind → Record → Bool
is k r = eqb (letter (kind r)) (letter k)

-- ---- the numbers that may stand in a field

-- the lowest and the highest number, and whether `-` may stand for it
pub record Rule : Type 0 where
  pub lowest : ℕ
  pub highest : ℕ
  pub dash_allowed : Bool

infixl 45 ◌to◌
abbrev pub ◌to◌ : (lowest highest : ℕ) → Rule
lowest to highest = record { lowest = lowest; highest = highest; dash_allowed = false }

-- a number in the range, or `-` for the standard value
abbrev pub or_dash : Rule → Rule
or_dash r = record { lowest = r.lowest; highest = r.highest; dash_allowed = true }

-- where only one number may stand
abbrev pub exactly : ℕ → Rule
exactly n = n to n

-- kilograms, of P, S, B, G and N
abbrev pub kilos : Rule
kilos = 1 to 10000000000

-- megajoules, of H and W
abbrev megajoules : Rule
megajoules = 1 to 1000000000000

-- a specific figure of B and K, mg per kg
abbrev pub specific_figure : Rule
specific_figure = 0 to 100000000

-- the number of a precursor, of K and N
abbrev pub precursor_number : Rule
precursor_number = 1 to 255

-- c and d of S, ten-thousandths
abbrev pub share : Rule
share = 0 to 10000

-- ---- a source stream's fields from code on, by its method: code, kg, a, b, c, d

-- 1, burning: a = net calorific value, kJ/kg; b = emission factor, mg/MJ
abbrev pub combustion : List Rule
combustion = (0 to 16) ∷ kilos ∷ or_dash (1 to 200000) ∷ or_dash (0 to 400000) ∷ share ∷ share ∷ []

-- 2, process emission: a = emission factor, mg/kg
abbrev pub process_emission : List Rule
process_emission = (0 to 9) ∷ kilos ∷ or_dash (0 to 4000000) ∷ exactly 0 ∷ share ∷ share ∷ []

-- 3 and 4, carbon going in and carbon going out: a = carbon, mg/kg
abbrev pub mass_balance : List Rule
mass_balance = exactly 0 ∷ kilos ∷ (0 to 1000000) ∷ exactly 0 ∷ exactly 10000 ∷ share ∷ []

-- no method: the method's own field is refused, so these are not reached
abbrev pub no_method : List Rule
no_method = exactly 0 ∷ exactly 0 ∷ exactly 0 ∷ exactly 0 ∷ exactly 0 ∷ exactly 0 ∷ []

unfoldable pub method_rules : (method : Field) → List Rule
method_rules (number n) =
    cond (eqb n 1) combustion (cond (eqb n 2) process_emission (cond (eqb n 3) mass_balance (cond (eqb n 4) mass_balance no_method)))
method_rules dash = no_method
method_rules other = no_method

-- ---- the table: the fields of each kind

module _ (limits : Limits) where
  -- n of P, S and B, and `process` of N
  abbrev pub process_number : Rule
  process_number = 1 to limits.processes

  -- `from` and `to`: 0 is outside the works
  abbrev end_number : Rule
  end_number = 0 to limits.processes

  -- `by_method` are a source stream's fields from code on
  unfoldable pub rules : Kind → (by_method : List Rule) → List Rule
  -- `P,n,kg`
  rules Process by_method = process_number ∷ kilos ∷ []
  -- `S,n,method,code,kg,a,b,c,d`
  rules SourceStream by_method = process_number ∷ (1 to 4) ∷ by_method
  -- `H,from,to,MJ,factor`
  rules MeasurableHeat by_method = end_number ∷ end_number ∷ megajoules ∷ (0 to 400000) ∷ []
  -- `W,from,to,MJ`
  rules WasteGas by_method = end_number ∷ end_number ∷ megajoules ∷ []
  -- `E,from,to,kWh,factor`
  rules Electricity by_method = end_number ∷ end_number ∷ (1 to 100000000000) ∷ (0 to 2000000) ∷ []
  -- `B,n,kg,direct,indirect`
  rules BoughtPrecursor by_method = process_number ∷ kilos ∷ specific_figure ∷ specific_figure ∷ []
  -- `G,from,to,kg`
  rules OwnGood by_method = end_number ∷ end_number ∷ kilos ∷ []
  -- `K,precursor,rank,direct,indirect`: rank 1, verified, 2, supplier's, or 3, default
  rules PrecursorFigures by_method = precursor_number ∷ (1 to 3) ∷ specific_figure ∷ specific_figure ∷ []
  -- `N,process,precursor,kg`
  rules PrecursorUse by_method = process_number ∷ precursor_number ∷ kilos ∷ []
  rules Unknown by_method = []

  -- the rules of a record's fields; the method of a source stream is its second
  abbrev pub rules_of : Record → List Rule
  rules_of r = rules (kind r) (method_rules (field r 1))

-- how many of the first fields name a process that needs a P line above; P itself names the next one
abbrev pub named_fields : Kind → ℕ
named_fields Process = 0
named_fields SourceStream = 1
named_fields MeasurableHeat = 2
named_fields WasteGas = 2
named_fields Electricity = 2
named_fields BoughtPrecursor = 1
named_fields OwnGood = 2
named_fields PrecursorFigures = 0
named_fields PrecursorUse = 1
named_fields Unknown = 0

-- the ends that are not allowed. H and W need two different ends; E needs not both 0; G needs 1 ≤ from < to
abbrev pub ends_of : Kind → (f t : ℕ) → Bool
ends_of Process f t = false
ends_of SourceStream f t = false
ends_of MeasurableHeat f t = eqb f t
ends_of WasteGas f t = eqb f t
ends_of Electricity f t = eqb f 0 && eqb t 0
ends_of BoughtPrecursor f t = false
ends_of OwnGood f t = not (leb 1 f && ltb f t)
ends_of PrecursorFigures f t = false
ends_of PrecursorUse f t = false
ends_of Unknown f t = false

-- ---- lines under any table

-- what a table of kinds says of a record: whether no kind has its letter, and the rules of its fields
pub record Table : Type 0 where
  pub unknown : Record → Bool
  pub rules : Record → List Rule

abbrev pub sheet_table : Limits → Table
sheet_table limits = record { unknown = is Unknown; rules = rules_of limits }
