-- Rows of parts of slots: what they say of the polynomial that the slots mean.
use Rattle.std.proofs.Common.{◌≡◌, ℕ, suc, ◌<◌, ◌≤◌, List, [], ◌∷◌, ◌++◌, length, Some, refl, sym, ◌∙◌, ap, subst}
use Rattle.std.proofs.Common.{arith}
use Rattle.std.proofs.Common.{get_or}
use Rattle.std.specs.Prelude.{slice_get}
use Rattle.std.specs.List.{All}
use Rattle.std.proofs.lemmas.List.Elements.{All-from_get_or}
use Rattle.ps_model.specs.Bounds.{ExactlyOne}
use Rattle.ps_model.specs.Notation.{homogeneous_part, y_coefficient, slice_at}
use Rattle.ps_model.specs.Rows.{part_of, IsRowOf}
use Rattle.ps_model.specs.SeriesRing.{ring as ring_of, Poly}
use Rattle.ps_model.proofs.SliceValues.{down-zero, slice_at-swap}
use Rattle.ps_model.proofs.Truncations.{truncated-zero}
use Rattle.ps_model.proofs.YCoefficients.{y_coefficient-flat, slice_at-y_coefficient}
use Rattle.ps_model.specs.Ring.{Ring as AnyRing}
use Rattle.ps_model.specs.Polynomial.{Polynomial}
use Rattle.parts.specs.PartValue.{PartValue, IsPartOf}
use Rattle.parts.specs.RowsOfParts.{part_in, nothing, IsRowOfParts}
use Rattle.parts.specs.Series.{series, polynomial_in, row_maps}
use Rattle.parts.specs.declared.rings.Ring.{Ring}
use Rattle.parts.proofs.Polynomials.{part_of-row}
use Rattle.parts.proofs.RowSlices.{row_is}
use Rattle.series_graph.specs.Formula.{place_of, Formula}
use Rattle.series_graph.specs.GraphValue.{GraphValue, IsKnownPart}
use Rattle.series_graph.specs.Meaning.{Means}
use Rattle.series_graph.specs.declared.node.NodeId.{NodeId}
use Rattle.units.specs.SeriesParts.{IsPartAt}
use Rattle.intake.specs.InputRows.{ArePartsOf}
use Rattle.intake.specs.Slots.{meaning_of, slot_at, Mean}
use Rattle.intake.proofs.SlotsAdded.{slot_there}

module _ (R : AnyRing) where
  -- a slice is the part of a coefficient
  slice-coefficient : (r j : ℕ) (p : Polynomial R)
      → homogeneous_part r (y_coefficient {R = R} j p) ≡ slice_at r j p
  slice-coefficient r j p = ap (homogeneous_part r) (sym (y_coefficient-flat R j p) ∙ truncated-zero R R.y_degree _)
      ∙ sym (slice_at-swap R r 0 _ ∙ down-zero R _) ∙ slice_at-y_coefficient R r j p

module _ (graph : GraphValue) (slots : List NodeId) (r : ℕ) (row : List PartValue)
    (are : ArePartsOf graph slots r row) where
  known_part : (ring : Ring) → graph.ring ≡ ring → (j : ℕ) (id : NodeId) → slice_get slots j ≡ Some id
      → IsKnownPart ring graph.formulas (place_of id) r (part_in row j)
  known_part ring e j id there =
      subst (λ (R : Ring). IsKnownPart R graph.formulas (place_of id) r (part_in row j)) e (are.parts j id there)

  -- the part of one slot
  pub slot_part : (ring : Ring) → graph.ring ≡ ring → (j D : ℕ) (id : NodeId) (p : Poly (series ring))
      → slice_get slots j ≡ Some id → r ≤ D → Mean (series ring) D graph.formulas slots p
      → polynomial_in ring (part_in row j).map ≡ slice_at r j p
  slot_part ring e j D id p there le mean =
      let one : ExactlyOne (Means (series ring) D graph.formulas (place_of id)) =
      subst (λ (R : Ring). ExactlyOne (Means (series R) D graph.formulas (place_of id))) e
      (are.meanings j D id there) in
      (known_part ring e j id there).meaning D one.one_value le one.meets
      ∙ ap (homogeneous_part r) (one.meets.2 ∙ sym (ap (meaning_of (series ring) one.meets.0) there)
      ∙ mean one.meets.0 one.meets.1 j)
      ∙ slice-coefficient (ring_of (series ring)) r j p

  part_at : (ring : Ring) → graph.ring ≡ ring → (j : ℕ) → j < length row → IsPartAt ring r (part_in row j)
  part_at ring e j lt =
      let there = slot_there slots j (omega (arith, are.count, lt)) in
      (known_part ring e j there.0 there.1).part

  pub slots_parts : (ring : Ring) → graph.ring ≡ ring → (K : ℕ) → length slots ≡ suc K → IsRowOfParts ring K r row
  slots_parts ring e K long = record {
    places = are.count ∙ long;
    degrees = All-from_get_or (λ (p : PartValue). p.degree ≡ r) row nothing (λ j lt. (part_at ring e j lt).0);
    parts = All-from_get_or (IsPartOf ring) row nothing (λ j lt. (part_at ring e j lt).1);
  }

  pub slots_row : (ring : Ring) → graph.ring ≡ ring → (K D : ℕ) (p : Poly (series ring)) → length slots ≡ suc K → r ≤ D
      → Mean (series ring) D graph.formulas slots p → IsRowOf K r p (row_maps ring row)
  slots_row ring e K D p long le mean = record {
    places = (row_is ring K r row (slots_parts ring e K long)).places;
    slices = λ j within.
        let there = slot_there slots j (omega (arith, long, within)) in
        part_of-row ring row j ∙ slot_part ring e j D there.0 p there.1 le mean;
  }
