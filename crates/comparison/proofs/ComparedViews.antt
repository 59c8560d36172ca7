-- A polynomial of a view, searched for the first slice that differs from one that was read.
use Rattle.std.proofs.Common.{◌≡◌, ℕ, suc, ◌<◌, ◌≤◌, List, [], ◌∷◌, length, map, get_or, sym, ◌∙◌, ap, subst, arith}
use Rattle.std.proofs.Common.{Vec, Global}
use Rattle.std.specs.FinMap.{entries}
use Rattle.std.proofs.lemmas.List.{length-map}
use Rattle.ps_model.specs.Plain.{entry_of}
use Rattle.ps_model.specs.PlainLists.{without_y}
use Rattle.ps_model.specs.declared.plain.PlainTerm.{PlainTerm}
use Rattle.parts.specs.PartValue.{PartValue}
use Rattle.parts.specs.RowsOfParts.{AreRowsOfParts}
use Rattle.parts.specs.Series.{series, polynomial_in}
use Rattle.parts.specs.declared.rings.Ring.{Ring}
use Rattle.printer.specs.ReadText.{Coefficients}
use Rattle.printer.specs.View.{BlockValue, IsBlockValue, HasUpTo, each_alone}
use Rattle.printer.proofs.ViewTexts.{no_root}
use Rattle.comparison.specs.declared.coefficients.Compared.{Compared}
use Rattle.comparison.specs.declared.coefficients.Compared.TheVariants.{Lead as OfLead, Factor as OfFactor}
use Rattle.comparison.specs.Compared.{rows_in, IsOf, compared_to, IsWithin, terms_at, AreByDegree, IsSameAt}
use Rattle.comparison.specs.Differences.{IsFirstIn}
use Rattle.comparison.proofs.ComparedSlices.{no_power_above, no_degree_above, slices_same, terms_same}
use Rattle.comparison.proofs.FirstSlices.{SameAt, SameFrom, first_is, same_above, same_more, same_all}

lower_too : (s r D : ℕ) → s < r → r ≤ D → s ≤ D
lower_too s r D lt le = omega arith

module _ (value : BlockValue) (names : List (List ℕ)) (is : IsBlockValue names value) where
  rows_are : (of : Compared) (times : ℕ) → IsOf value of times → AreRowsOfParts value.ring times (rows_in value of)
  rows_are OfLead times there =
      subst (λ n. AreRowsOfParts value.ring n (each_alone value.lead)) (sym there) is.lead_parts
  rows_are (OfFactor i) times there =
      subst (λ n. AreRowsOfParts value.ring n (rows_in value (OfFactor i))) (sym (there.1 no_root))
      (is.rows i no_root there.0)

  rows_long : (D : ℕ) → HasUpTo value D → (of : Compared) (times : ℕ) → IsOf value of times
      → D < length (rows_in value of)
  rows_long D has OfLead times there =
      let lead = has.1 in omega (arith, length-map value.lead (λ (p : PartValue). p ∷ []))
  rows_long D has (OfFactor i) times there = has.0 i there.0

  module _ (D : ℕ) (has : HasUpTo value D) (of : Compared) (times : ℕ) (there : IsOf value of times) (p : Coefficients)
      (within : IsWithin value.ring times D p) where
    abbrev pub Same : ℕ → Type 0
    Same = SameFrom (series value.ring) (compared_to value D of) (polynomial_in value.ring p)

    abbrev rows : List (List PartValue)
    rows = rows_in value of

    are : AreRowsOfParts value.ring times rows
    are = rows_are of times there

    long : D < length rows
    long = rows_long D has of times there

    -- above the multiplicity all is the same
    pub same_start : Same (suc times)
    same_start = same_above (series value.ring) (compared_to value D of) (polynomial_in value.ring p) times D
        (no_power_above value.ring times D rows are long) within.y_degree
        (no_degree_above value.ring times D rows are long) within.degree

    pub same_end : Same 0 → compared_to value D of ≡ polynomial_in value.ring p
    same_end same = same_all (series value.ring) (compared_to value D of) (polynomial_in value.ring p) times D
        (no_power_above value.ring times D rows are long) within.y_degree
        (no_degree_above value.ring times D rows are long) within.degree same

    -- the lists as they were made, of the view's ring, and as they are lent
    module _ (ts : List PlainTerm) (listed : map entry_of ts ≡ entries p) (j : ℕ) (low : j ≤ times) (ring : Ring)
        (ring_is : ring ≡ value.ring) (made lent : List (Vec PlainTerm Global)) (lent_is : lent ≡ made)
        (made_are : AreByDegree ring j D ts (map (λ list. list.items) made)) where
      abbrev lists : List (List PlainTerm)
      lists = map (λ list. list.items) lent

      filled : AreByDegree value.ring j D ts lists
      filled = subst (λ (vs : List (Vec PlainTerm Global)). AreByDegree value.ring j D ts (map (λ list. list.items) vs))
          (sym lent_is) (subst (λ r. AreByDegree r j D ts (map (λ list. list.items) made)) ring_is made_are)

      terms_are : (r : ℕ) → r ≤ D → map (λ u. without_y (entry_of u)) (get_or lists r [])
          ≡ map (λ u. without_y (entry_of u)) (terms_at value.ring j r ts)
      terms_are r le = ap (map (λ u. without_y (entry_of u))) (filled.at r le)

      same_at : (r : ℕ) → r ≤ D → IsSameAt value of j lists r
          → SameAt (series value.ring) (compared_to value D of) (polynomial_in value.ring p) j r
      same_at r le same = slices_same value.ring times D rows are long p within.reduced ts listed j r le low
          (sym (terms_are r le) ∙ same)

      differs_at : (r : ℕ) → r ≤ D → (IsSameAt value of j lists r → ⊥)
          → SameAt (series value.ring) (compared_to value D of) (polynomial_in value.ring p) j r → ⊥
      differs_at r le other same = other (terms_are r le
          ∙ terms_same value.ring times D rows are long p within.reduced ts listed j r le low same)

      up_to : (r : ℕ) → r ≤ D → r < length lent
      up_to r le = let many = filled.many in omega (arith, length-map lent (λ list. list.items))

      permitted : (r : ℕ) → r < length lent → r ≤ D
      permitted r lt = let many = filled.many in omega (arith, length-map lent (λ list. list.items))

      -- at Y^j all is the same
      pub same_next : Same (suc j) → ((r : ℕ) → r < length lent → IsSameAt value of j lists r) → Same j
      same_next above here = same_more (series value.ring) (compared_to value D of) (polynomial_in value.ring p) times D
          (no_power_above value.ring times D rows are long) within.y_degree
          (no_degree_above value.ring times D rows are long) within.degree j above
          (λ r le. same_at r le (here r (up_to r le)))

      -- a degree is the least one that differs
      pub first_here : Same (suc j) → (r : ℕ) → (r < length lent) × (IsSameAt value of j lists r → ⊥)
          × ((s : ℕ) → s < r → IsSameAt value of j lists s)
          → (j ≤ times) × IsFirstIn (series value.ring) (compared_to value D of) (polynomial_in value.ring p) j r
      first_here above r found = (
        low,
        first_is (series value.ring) (compared_to value D of) (polynomial_in value.ring p) j r above
            (differs_at r (permitted r found.0) found.1)
            (λ s less. same_at s (lower_too s r D less (permitted r found.0)) (found.2 s less)),
      )
