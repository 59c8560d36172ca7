-- The lead's parts of a session, put together, are the lead.
use Rattle.std.proofs.Common.{◌≡◌, ℕ, suc, ◌<◌, ◌≤◌, [], ◌∷◌, Bool, true, false, ◌↔◌, IsTrue, Option, Some, None}
use Rattle.std.proofs.Common.{length, take, get_or, refl, sym, ◌∙◌, ap, subst, arith}
use Rattle.std.specs.Prelude.{if◌then◌else◌}
use Rattle.std.proofs.lemmas.List.{length-map, length-take-le, get_or-map, get_or-take}
use Rattle.ps_model.specs.declared.expr.Expr.{Expr}
use Rattle.ps_model.specs.declared.job.JobData.{JobData}
use Rattle.ps_model.specs.Bounds.{HasNoPowerAbove}
use Rattle.ps_model.specs.Job.{series_ring, job_ring}
use Rattle.ps_model.specs.Lead.{IsLead, IsLeadShown, IsShownLead}
use Rattle.ps_model.specs.Notation.{slice_at, homogeneous_part}
use Rattle.ps_model.specs.Polynomial.{Polynomial}
use Rattle.ps_model.specs.Ring.{Ring as PolynomialRing}
use Rattle.ps_model.specs.Rows.{part_of, IsRowOf}
use Rattle.ps_model.specs.SeriesRing.{SeriesRing, ring as ring_of, degree, Poly}
use Rattle.ps_model.specs.Truncation.{truncated}
use Rattle.ps_model.proofs.InputValues.{valid_lead}
use Rattle.ps_model.proofs.JobRoots.{valid_input}
use Rattle.ps_model.proofs.MonicInputs.{lead_flat, lead_within, lead-truncated}
use Rattle.ps_model.proofs.SliceValues.{slice_at-truncated, slice_at-swap, down-zero}
use Rattle.ps_model.proofs.Truncations.{truncated-zero}
use Rattle.parts.specs.PartValue.{PartValue}
use Rattle.parts.specs.RowsOfParts.{nothing, part_in}
use Rattle.parts.specs.Series.{series, maps_modulo, row_maps, rows_maps, polynomial_in}
use Rattle.parts.specs.declared.rings.Ring.{Ring}
use Rattle.parts.proofs.Polynomials.{part_of-row}
use Rattle.stages.proofs.RowPairs.{AreRowsFor, together}
use Rattle.printer.specs.View.{HasUpTo, each_alone}
use Rattle.printer.specs.Texts.{lead_to, shown_lead}
use Rattle.session.specs.Factors.{job_in}
use Rattle.session.specs.Sessions.{SessionState, value_of, IsSession}
use Rattle.session.proofs.JobRings.{same_job, accepted_in}

-- where there is no Y, a homogeneous part is a slice
flat_part : (R : PolynomialRing) (r : ℕ) (p : Polynomial R) → HasNoPowerAbove 0 p
    → homogeneous_part r p ≡ slice_at r 0 p
flat_part R r p flat = ap (homogeneous_part r) (sym flat ∙ truncated-zero R R.y_degree p)
    ∙ sym (slice_at-swap R r 0 p ∙ down-zero R _)

-- a row of one part
one_map : (ring : Ring) (p : PartValue) → length (row_maps ring (p ∷ [])) ≡ 1
unfolding series_ring maps_modulo
one_map ring p = refl

row_of_part : (ring : Ring) (r : ℕ) (l : Poly (series ring)) (p : PartValue)
    → polynomial_in ring p.map ≡ slice_at r 0 l → IsRowOf 0 r l (row_maps ring (p ∷ []))
row_of_part ring r l p is = record {
  places = one_map ring p;
  slices = λ j le. subst (λ k. part_of (ring_of (series ring)) (row_maps ring (p ∷ [])) k ≡ slice_at r k l) (none j le)
      (part_of-row ring (p ∷ []) 0 ∙ is);
}
  where
    none : (j : ℕ) → j ≤ 0 → 0 ≡ j
    none j le = omega arith

module _ (s : SessionState) (holds : IsSession s) (D : ℕ) (up_to : HasUpTo (value_of s) D) where
  abbrev e : Expr
  e = s.job.job.expr

  abbrev S : SeriesRing
  S = series s.ring

  abbrev R : PolynomialRing
  R = ring_of S

  module _ (l : Poly S) (is : IsLead S D e l) where
    part_is : (r : ℕ) → r ≤ D → polynomial_in s.ring (part_in s.lead r).map ≡ slice_at r 0 l
    part_is r le =
        let lower = lead-truncated S r D e l le is in
        (holds.lead r (let long = up_to.1 in omega arith)).is_part s.ring holds.ring_is
        (truncated R (degree S) r l) lower
        ∙ flat_part R r (truncated R (degree S) r l) (lead_flat S r e _ lower)
        ∙ slice_at-truncated R r r 0 l (omega arith)

    many : suc D ≤ length (each_alone s.lead)
    many = let count = length-map s.lead (λ (p : PartValue). p ∷ []) in let long = up_to.1 in omega arith

    there : (r : ℕ) → r < suc D
        → get_or (rows_maps s.ring (take (suc D) (each_alone s.lead))) r [] ≡ row_maps s.ring (part_in s.lead r ∷ [])
    there r low = get_or-map (row_maps s.ring) (take (suc D) (each_alone s.lead)) r [] []
        (let long = length-take-le (suc D) (each_alone s.lead) many in omega arith)
        ∙ ap (row_maps s.ring) (get_or-take (suc D) (each_alone s.lead) r [] low
        ∙ get_or-map (λ p. p ∷ []) s.lead r nothing [] (let long = up_to.1 in omega arith))

    rows_for : AreRowsFor R 0 (suc D) l (rows_maps s.ring (take (suc D) (each_alone s.lead)))
    rows_for = record {
      count = length-map (take (suc D) (each_alone s.lead)) (row_maps s.ring)
          ∙ length-take-le (suc D) (each_alone s.lead) many;
      row = λ r low. subst (IsRowOf 0 r l) (sym (there r low))
          (row_of_part s.ring r l (part_in s.lead r) (part_is r (omega arith)));
    }

    -- it is each lead
    pub lead_is : lead_to (value_of s) D ≡ l
    lead_is = together R 0 D l (rows_maps s.ring (take (suc D) (each_alone s.lead))) rows_for (lead_flat S D e l is)
        (lead_within S D e l is)

  abbrev job : JobData
  job = job_in s.ring s.job.job

  -- so it is a lead
  pub is_lead : IsLead S D e (lead_to (value_of s) D)
  is_lead =
      let ok = accepted_in s.ring s.job.job holds.ring_is holds.of_job.accepted in
      let one = valid_lead S e (valid_input job ok.valid) job.n ok.tree D in
      subst (IsLead S D e) (sym (lead_is one.one_value one.meets)) one.meets

  shown_by : (b : Bool) → IsTrue b ↔ IsLeadShown S e → (o : Option (Poly S)) → IsShownLead S D e o
      → (if b then Some (lead_to (value_of s) D) else None) ≡ o
  shown_by true shown None known = absurd (shown.0 refl known)
  shown_by true shown (Some l) is = ap Some (lead_is l is.1)
  shown_by false shown None known = refl
  shown_by false shown (Some l) is = absurd (no (shown.1 is.0))
    where
      no : false ≡ true → ⊥
      no same = cc

  -- and it is shown where it is to be
  pub shown_is : (o : Option (Poly S)) → IsShownLead S D e o → shown_lead (value_of s) D ≡ o
  shown_is = shown_by s.shows_lead
      (subst (λ (j : JobData). IsTrue s.shows_lead ↔ IsLeadShown (job_ring j) j.expr)
      (sym (same_job s.ring s.job.job holds.ring_is)) holds.shown)
