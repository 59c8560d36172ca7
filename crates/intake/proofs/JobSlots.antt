-- The slots of a job's input and of its monic input, and the rows that are read from them.
use Rattle.std.proofs.Common.{◌≡◌, ℕ, zero, suc, ◌+◌, ◌-◌, ◌<◌, ◌≤◌, List, [], ◌∷◌, ◌++◌, length, Some}
use Rattle.std.proofs.Common.{refl, sym, ◌∙◌, ap}
use Rattle.std.proofs.Common.{get_or, take, subst, arith}
use Rattle.std.proofs.lemmas.Option.{slice_get_read}
use Rattle.std.specs.FinMap.{entries}
use Rattle.std.specs.List.{All}
use Rattle.std.specs.Prelude.{slice_get, ◌↔◌, Bool, true, IsTrue}
use Rattle.ps_model.specs.declared.job.JobData.{JobData}
use Rattle.ps_model.specs.AcceptedJob.{IsLawfulJob}
use Rattle.ps_model.specs.Bounds.{IsUnit, ExactlyOne, HasNoPowerAbove}
use Rattle.ps_model.specs.Input.{IsValidInput}
use Rattle.ps_model.specs.Job.{series_ring, job_ring}
use Rattle.ps_model.specs.Lead.{lead_in, IsLead, IsLeadShown, IsMonicInput}
use Rattle.ps_model.specs.Notation.{constant_term, homogeneous_part, y_coefficient}
use Rattle.ps_model.specs.Rows.{IsRowOf}
use Rattle.ps_model.specs.SeriesRing.{SeriesRing, ring as ring_of, Poly}
use Rattle.ps_model.specs.Tree.{formal_degree}
use Rattle.ps_model.specs.Value.{variable, IsValue, HasLead}
use Rattle.ps_model.proofs.InputValues.{valid_value}
use Rattle.ps_model.proofs.JobRoots.{valid_input, lawful_lead}
use Rattle.ps_model.proofs.MonicInputs.{HasUnitLead, lead_unit, known_input}
use Rattle.ps_model.proofs.TreeLeads.{value_powers}
use Rattle.ps_model.proofs.TreeValues.{variable_flat}
use Rattle.ps_model.proofs.YCoefficients.{y_coefficient-flat}
use Rattle.parts.specs.JobRows.{IsRingOf, IsInputRow}
use Rattle.parts.specs.PartValue.{PartValue, IsPartOf, IsEntryOf}
use Rattle.parts.specs.Rings.{modulus_of, variables_of, eight_weights}
use Rattle.parts.specs.RowsOfParts.{IsRowOfParts}
use Rattle.parts.specs.Series.{series, maps_modulo, row_maps, polynomial_in, polynomial_modulo}
use Rattle.parts.specs.declared.rings.Ring.{Ring}
use Rattle.parts.proofs.Polynomials.{modulus_is}
use Rattle.series_graph.specs.Calls.{Keeps}
use Rattle.series_graph.specs.Formula.{place_of, Formula}
use Rattle.series_graph.specs.GraphValue.{GraphValue, size_of, IsKnownPart}
use Rattle.series_graph.specs.Meaning.{AreMeanings, Means}
use Rattle.series_graph.specs.declared.node.NodeId.{NodeId}
use Rattle.units.specs.SeriesParts.{IsPartAt}
use Rattle.intake.specs.InputRows.{ArePartsOf}
use Rattle.intake.specs.Jobs.{HasSlots, HasMonicSlots, HoldsRows, IsValueRowOf, IsLeadPartOf}
use Rattle.intake.specs.Slots.{meaning_of, slot_at, Mean, Multiplies, AreIn, IsUnitAt, AddsSlots}
use Rattle.intake.proofs.Built.{MeansMultiplied}
use Rattle.intake.proofs.SlotMeanings.{mean_kept}
use Rattle.intake.proofs.SlotPolynomials.{y_coefficient-above, y_coefficient-own}
use Rattle.intake.proofs.SlotRows.{slots_parts, slots_row}
use Rattle.intake.proofs.SlotSteps.{length_both, grown_in}

-- the last slot, read
pub last_read : (xs : List NodeId) (n K : ℕ) (x : NodeId) → n ≡ length xs → length xs ≡ suc K
    → x ≡ get_or xs (n - 1) x → slice_get xs K ≡ Some x
last_read xs n K x e long is = subst (λ k. slice_get xs k ≡ Some x) place
    (slice_get_read xs (length xs) (n - 1) x refl (omega arith) is)
  where
    place : n - 1 ≡ K
    place = omega arith

-- the last slot means the lead
means_lead : (ring : Ring) (job : JobData) (formulas : List Formula) (slots : List NodeId)
    → HasSlots ring formulas job.expr slots → (id : NodeId) → slice_get slots (formal_degree job.expr) ≡ Some id
    → (D : ℕ) (v : Poly (series ring)) → IsValue (series ring) D job.expr v
    → (f : ℕ → Poly (series ring)) → AreMeanings (series ring) D formulas f
    → f (place_of id) ≡ lead_in (series ring) job.expr v
means_lead ring job formulas slots has id there D v is f are =
    sym (ap (meaning_of (series ring) f) there) ∙ has.mean D v is f are (formal_degree job.expr)

module _ (ring : Ring) (job : JobData) (of : IsRingOf ring job) where
  same_series : job_ring job ≡ series ring
  same_series i = series_ring (sym of.0 i) (sym of.2 i)

  -- whether the lead is shown doesn't depend on the form of the ring
  pub shown_here : IsLeadShown (job_ring job) job.expr → IsLeadShown (series ring) job.expr
  shown_here = subst (λ (S : SeriesRing). IsLeadShown S job.expr) same_series

  pub shown_there : IsLeadShown (series ring) job.expr → IsLeadShown (job_ring job) job.expr
  shown_there = subst (λ (S : SeriesRing). IsLeadShown S job.expr) (sym same_series)

  pub known_here : HasLead (job_ring job) job.expr 1 → HasLead (series ring) job.expr 1
  known_here = subst (λ (S : SeriesRing). HasLead S job.expr 1) same_series

  module _ (lawful : IsLawfulJob job) where
    unit_here : HasUnitLead (series ring) job.expr
    unit_here = subst (λ (S : SeriesRing). HasUnitLead S job.expr) same_series (lawful_lead job lawful)

    valid_here : IsValidInput (series ring) job.expr
    valid_here = subst (λ (S : SeriesRing). IsValidInput S job.expr) same_series (valid_input job lawful.valid)

    value_here : (D : ℕ) → ExactlyOne (IsValue (series ring) D job.expr)
    value_here D = valid_value (series ring) job.expr valid_here job.n lawful.tree D

    module _ (formulas : List Formula) (slots : List NodeId) (has : HasSlots ring formulas job.expr slots) (id : NodeId)
        (there : slice_get slots (formal_degree job.expr) ≡ Some id) where
      pub last_unit : IsUnitAt ring formulas id
      last_unit f are =
          let one = value_here 0 in
          subst (λ m. IsUnit m (constant_term (f (place_of id)))) (modulus_is ring)
          (unit_here (f (place_of id)) (
            one.one_value,
            one.meets,
            means_lead ring job formulas slots has id there 0 one.one_value one.meets f are,
          ))

      last_flat : (D : ℕ) (v : Poly (series ring)) → IsValue (series ring) D job.expr v
          → Mean (series ring) D formulas (id ∷ []) (lead_in (series ring) job.expr v)
      last_flat D v is f are zero = means_lead ring job formulas slots has id there D v is f are
          ∙ sym (y_coefficient-own (ring_of (series ring)) _ (y_coefficient-flat (ring_of (series ring))
          (formal_degree job.expr) v))
      last_flat D v is f are (suc j) = sym (y_coefficient-above (ring_of (series ring)) 0 (suc j) _
          (y_coefficient-flat (ring_of (series ring)) (formal_degree job.expr) v) (omega arith))

      -- divided by it the slots are those of the monic input
      pub divided_monic : (old new : GraphValue) (ids : List NodeId) → old.formulas ≡ formulas
          → MeansMultiplied true old new slots (id ∷ []) ids → length ids ≡ suc (formal_degree job.expr)
          → HasMonicSlots ring new.formulas job.expr ids
      divided_monic old new ids same means long = record {
        count = long;
        mean = λ D q is.
            let lead : IsLead (series ring) D job.expr (lead_in (series ring) job.expr is.value) =
            (is.value, is.is_value, λ i. lead_in (series ring) job.expr is.value) in
            means (series ring) D is.value (lead_in (series ring) job.expr is.value) q
            (subst (λ (K : ℕ). HasNoPowerAbove K is.value) (below (length slots) (formal_degree job.expr) has.count)
            (value_powers (series ring) (variable (series ring)) (variable_flat (series ring)) D job.n job.expr is.value
            lawful.tree is.is_value))
            (y_coefficient-flat (ring_of (series ring)) (formal_degree job.expr) is.value)
            (subst (λ (fs : List Formula). Mean (series ring) D fs slots is.value) (sym same)
            (has.mean D is.value is.is_value))
            (subst (λ (fs : List Formula). Mean (series ring) D fs (id ∷ []) (lead_in (series ring) job.expr is.value))
            (sym same) (last_flat D is.value is.is_value)) (
              y_coefficient-flat (ring_of (series ring)) (formal_degree job.expr) is.value,
              lead_unit (series ring) D job.expr (lead_in (series ring) job.expr is.value) unit_here lead,
              is.quotient,
            );
      }
        where
          below : (n k : ℕ) → n ≡ suc k → k ≡ n - 1
          below n k e = omega arith

    -- where the lead is 1 they are those of the value
    pub same_monic : (formulas : List Formula) (slots : List NodeId) → HasSlots ring formulas job.expr slots
        → HasLead (job_ring job) job.expr 1 → HasMonicSlots ring formulas job.expr slots
    same_monic formulas slots has known = record {
      count = has.count;
      mean = λ D q is. has.mean D q
          ((known_input (series ring) job.n job.expr lawful.tree (known_here known) D q).0 is);
    }

-- more nodes leave what slots are
pub slots_kept : (ring : Ring) (job : JobData) (n count : ℕ) (old new : GraphValue) (ids slots : List NodeId)
    → AddsSlots n count old new ids → HasSlots ring old.formulas job.expr slots
    → HasSlots ring new.formulas job.expr slots
slots_kept ring job n count old new ids slots adds has = record {
  count = has.count;
  mean = λ D v is. subst (λ (fs : List Formula). Mean (series ring) D fs slots v) (sym adds.formulas_are)
      (mean_kept (series ring) D old.formulas adds.added slots v (has.mean D v is));
}

pub in_kept : (n count : ℕ) (old new : GraphValue) (ids slots : List NodeId) → AddsSlots n count old new ids
    → AreIn old slots → AreIn new slots
in_kept n count old new ids slots adds within = grown_in (size_of old) (size_of new) slots
    (grows old.formulas new.formulas adds.added adds.formulas_are) within
  where
    grows : (xs ys zs : List Formula) → ys ≡ xs ++ zs → length xs ≤ length ys
    grows xs ys zs e = let h = length_both xs zs in let k : length ys ≡ length (xs ++ zs) = ap length e in omega arith

-- a part belongs to each ring of the same modulus and weights
part_moved : (a b : Ring) → modulus_of a ≡ modulus_of b → variables_of a ≡ variables_of b
    → eight_weights a ≡ eight_weights b → (p : PartValue) → IsPartOf a p → IsPartOf b p
part_moved a b m n ws p = subst (λ (t : ℕ × List ℕ). All (IsEntryOf t.0 t.1 p.degree) (entries p.map))
    (λ i. (m i, take (n i) (ws i)))

module _ (ring : Ring) (job : JobData) (of : IsRingOf ring job) (graph : GraphValue) (same : graph.ring ≡ ring)
    (slots : List NodeId) (r : ℕ) where
  module _ (row : List PartValue) (are : ArePartsOf graph slots r row)
      (count : length slots ≡ suc (formal_degree job.expr)) where
    row_here : IsRowOfParts ring (formal_degree job.expr) r row
    row_here = slots_parts graph slots r row are ring same (formal_degree job.expr) count

    row_there : (other : Ring) → IsRingOf other job → IsRowOfParts other (formal_degree job.expr) r row
    row_there other of' = record {
      places = row_here.places;
      degrees = row_here.degrees;
      parts = λ j d lt. part_moved ring other (of.0 ∙ sym of'.0) (of.1 ∙ sym of'.1) (of.2 ∙ sym of'.2) _
          (row_here.parts j d lt);
    }

    -- a row of the slots of the value is one of the input
    pub value_row : HasSlots ring graph.formulas job.expr slots → IsValueRowOf job r row
    value_row has = record {
      parts = row_there;
      slices = λ other of'. subst (λ (n : ℕ × List ℕ). (v : Poly (series_ring n.0 n.1))
          → IsValue (series_ring n.0 n.1) r job.expr v
          → IsRowOf (formal_degree job.expr) r v (maps_modulo n.0 n.1 row))
          (λ i. ((of.0 ∙ sym of'.0) i, (of.2 ∙ sym of'.2) i))
          (λ v is. slots_row graph slots r row are ring same (formal_degree job.expr) r v count (omega arith)
          (has.mean r v is));
    }

    -- and one of the slots of the monic input is one of that
    pub monic_row : HasMonicSlots ring graph.formulas job.expr slots → IsInputRow job r row
    monic_row has = record {
      parts = row_there;
      slices = subst (λ (n : ℕ × List ℕ). (q : Poly (series_ring n.0 n.1))
          → IsMonicInput (series_ring n.0 n.1) r job.expr q
          → IsRowOf (formal_degree job.expr) r q (maps_modulo n.0 n.1 row)) (λ i. (of.0 i, of.2 i))
          (λ q is. slots_row graph slots r row are ring same (formal_degree job.expr) r q count (omega arith)
          (has.mean r q is));
    }

  -- the part of the last slot is the lead's
  pub last_part : (has : HasSlots ring graph.formulas job.expr slots) (id : NodeId)
      → slice_get slots (formal_degree job.expr) ≡ Some id → (p : PartValue)
      → IsKnownPart graph.ring graph.formulas (place_of id) r p
      → ((D : ℕ) → ExactlyOne (Means (series graph.ring) D graph.formulas (place_of id))) → IsLeadPartOf job r p
  last_part has id there p known means = record {
    part = λ other of'. (
      here.part.0,
      part_moved ring other (of.0 ∙ sym of'.0) (of.1 ∙ sym of'.1) (of.2 ∙ sym of'.2) p here.part.1,
    );
    is_part = λ other of'. subst (λ (n : ℕ × List ℕ). (l : Poly (series_ring n.0 n.1))
        → IsLead (series_ring n.0 n.1) r job.expr l → polynomial_modulo n.0 n.1 p.map ≡ homogeneous_part r l)
        (λ i. ((of.0 ∙ sym of'.0) i, (of.2 ∙ sym of'.2) i))
        (λ l (v, is, at). here.meaning r one.one_value (omega arith) one.meets ∙ ap (homogeneous_part r)
        (one.meets.2 ∙ means_lead ring job graph.formulas slots has id there r v is one.meets.0 one.meets.1 ∙ sym at));
  }
    where
      here : IsKnownPart ring graph.formulas (place_of id) r p
      here = subst (λ (R : Ring). IsKnownPart R graph.formulas (place_of id) r p) same known

      one : ExactlyOne (Means (series ring) r graph.formulas (place_of id))
      one = subst (λ (R : Ring). ExactlyOne (Means (series R) r graph.formulas (place_of id))) same (means r)

-- that more parts are known leaves the rows
pub rows_kept : (ring : Ring) (job : JobData) (has_lead : Bool) (old new : GraphValue) (input monic : List NodeId)
    → Keeps old new → HoldsRows ring job has_lead old input monic → HoldsRows ring job has_lead new input monic
rows_kept ring job has_lead old new input monic kept h = record {
  ring_is = h.ring_is;
  graph_ring = ap (λ (g : GraphValue). g.ring) kept.new_is ∙ h.graph_ring;
  small = h.small;
  input_in = subst (λ (fs : List Formula). All (λ (id : NodeId). place_of id < length fs) input) same h.input_in;
  monic_in = subst (λ (fs : List Formula). All (λ (id : NodeId). place_of id < length fs) monic) same h.monic_in;
  input_slots = subst (λ (fs : List Formula). HasSlots ring fs job.expr input) same h.input_slots;
  monic_slots = subst (λ (fs : List Formula). HasMonicSlots ring fs job.expr monic) same h.monic_slots;
  shown = h.shown;
}
  where
    same : old.formulas ≡ new.formulas
    same = sym (ap (λ (g : GraphValue). g.formulas) kept.new_is)
