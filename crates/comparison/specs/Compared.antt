-- What is compared of a view and of a block, for private functions.
--     rows_in value of      the rows of a polynomial of a view, each of the lead's with one part
--     Has value of power r      such a polynomial has the part of degree r at Y^power
--     IsOf value of times      it is there, and has no power of Y above `times`
--     compared_to value D of      it, up to degree D
--     IsWithin ring times D p      a map of residues other than 0, with no degree above D, and no power of Y above
--         `times`
--     AreWithin value D fs      a list of those, one for each root, with its multiplicity
--     terms_at ring j r ts      the terms of degree r with Y^j
--     AreByDegree ring j D ts lists      the lists of those of the degrees from 0 to D
--     IsSameAt value of j lists r      the list at r has the terms of the part of degree r at Y^j
--     IsFirstFactor S fs gs place      None: the factors are the same. A place of a factor: there they differ first.
use Rattle.std.specs.Prelude.{◌≡◌, ℕ, suc, ◌<◌, ◌≤◌, ◌==◌, ◌&&◌, List, [], Option, Some, None, length, map}
use Rattle.std.specs.Prelude.{filter, take, slice_index_or}
use Rattle.ps_model.specs.declared.job.Root.{Root}
use Rattle.ps_model.specs.declared.plain.PlainTerm.{PlainTerm}
use Rattle.ps_model.specs.Bounds.{HasNoDegreeAbove, HasNoPowerAbove}
use Rattle.ps_model.specs.Plain.{key_of, entry_of}
use Rattle.ps_model.specs.PlainLists.{plain_degree, without_y}
use Rattle.ps_model.specs.SeriesRing.{SeriesRing, Poly}
use Rattle.parts.specs.PartValue.{PartValue}
use Rattle.parts.specs.Rings.{eight_weights}
use Rattle.parts.specs.Series.{series, polynomial_in, polynomial_of}
use Rattle.parts.specs.declared.rings.Ring.{Ring}
use Rattle.printer.specs.ReadText.{Coefficients, IsReduced}
use Rattle.printer.specs.Rows.{listed_part, terms_in}
use Rattle.printer.specs.View.{BlockValue, HasUpTo, rows_of, each_alone}
use Rattle.comparison.specs.declared.coefficients.Compared.{Compared}
use Rattle.comparison.specs.declared.coefficients.Compared.TheVariants.{Lead as OfLead, Factor as OfFactor}
use Rattle.comparison.specs.declared.place.Place.{Place}
use Rattle.comparison.specs.declared.place.Place.TheVariants.{Lead, Factor}
use Rattle.comparison.specs.Differences.{FactorsDiffer}

abbrev pub rows_in : BlockValue → Compared → List (List PartValue)
rows_in value OfLead = each_alone value.lead
rows_in value (OfFactor i) = rows_of value i

abbrev pub IsOf : BlockValue → Compared → ℕ → Type 0
IsOf value OfLead times = times ≡ 0
IsOf value (OfFactor i) times =
    (i < length value.roots) × ((root : Root) → times ≡ (slice_index_or value.roots i root).times)

abbrev pub Has : BlockValue → Compared → ℕ → ℕ → Type 0
Has value of power r = (times : ℕ) × IsOf value of times × (power ≤ times) × HasUpTo value r

abbrev pub compared_to : (value : BlockValue) → ℕ → Compared → Poly (series value.ring)
compared_to value D of = polynomial_of value.ring (take (suc D) (rows_in value of))

pub record IsWithin (ring : Ring) (times D : ℕ) (p : Coefficients) : Type 0 where
  pub low : D ≤ 4095
  pub reduced : IsReduced ring p
  pub degree : HasNoDegreeAbove D (polynomial_in ring p)
  pub y_degree : HasNoPowerAbove times (polynomial_in ring p)

pub record AreWithin (value : BlockValue) (D : ℕ) (fs : List Coefficients) : Type 0 where
  pub many : length fs ≡ length value.roots
  pub each : (i : ℕ) (root : Root) (f : Coefficients) → i < length fs
      → IsWithin value.ring (slice_index_or value.roots i root).times D (slice_index_or fs i f)

abbrev pub terms_at : Ring → ℕ → ℕ → List PlainTerm → List PlainTerm
terms_at ring j r ts = filter (λ t. (t.y == j) && (plain_degree (eight_weights ring) (key_of t) == r)) ts

pub record AreByDegree (ring : Ring) (j D : ℕ) (ts : List PlainTerm) (lists : List (List PlainTerm)) : Type 0 where
  pub many : length lists ≡ suc D
  pub at : (r : ℕ) → r ≤ D → slice_index_or lists r [] ≡ terms_at ring j r ts

abbrev pub IsSameAt : BlockValue → Compared → ℕ → List (List PlainTerm) → ℕ → Type 0
IsSameAt value of j lists r = map (λ t. without_y (entry_of t)) (slice_index_or lists r [])
    ≡ terms_in (listed_part (rows_in value of) j r)

module _ (S : SeriesRing) (fs gs : List (Poly S)) where
  abbrev pub IsFirstFactor : Option Place → Type 0
  IsFirstFactor None = fs ≡ gs
  IsFirstFactor (Some (Lead degree)) = ⊥
  IsFirstFactor (Some (Factor number power degree)) = FactorsDiffer S fs gs number power degree
