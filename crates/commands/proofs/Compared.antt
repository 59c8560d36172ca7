-- A block of a job is compared with what the definitions give.
use Rattle.std.proofs.Common.{◌≡◌, ◌∙◌, sym, ap, refl, subst, ℕ, suc, ◌↔◌, Bool, true, false, IsTrue}
use Rattle.std.proofs.Common.{List, [], ◌∷◌, length, map, Option, Some, None, IfSome}
use Rattle.std.specs.Prelude.{is_some}
use Rattle.std.specs.Option.{option_map}
use Rattle.ps_model.specs.AcceptedJob.{IsAccepted}
use Rattle.ps_model.specs.Bounds.{ExactlyOne, HasNoPowerAbove}
use Rattle.ps_model.specs.Factors.{EachIsFactor}
use Rattle.ps_model.specs.Job.{job_ring, IsFactors}
use Rattle.ps_model.specs.Lead.{IsLeadShown, IsShownLead}
use Rattle.ps_model.specs.SeriesRing.{SeriesRing, Poly}
use Rattle.ps_model.specs.declared.expr.Expr.{Expr}
use Rattle.ps_model.specs.declared.job.JobData.{JobData}
use Rattle.ps_model.specs.declared.job.Root.{Root}
use Rattle.ps_model.proofs.MonicInputs.{lead_flat}
use Rattle.parts.specs.Series.{series, polynomial_in}
use Rattle.parts.specs.declared.rings.Ring.{Ring}
use Rattle.comparison.specs.Differences.{IsFirstDifference}
use Rattle.comparison.specs.declared.place.Place.{Place}
use Rattle.comparison.proofs.PlacesOnce.{exactly_one}
use Rattle.printer.specs.ReadLaw.{ArePrinted, IsLeadPrinted}
use Rattle.printer.specs.ReadText.{Coefficients, IsBlock}
use Rattle.session.specs.Factors.{job_in}
use Rattle.session.proofs.JobRings.{same_job, accepted_in}
use Rattle.commands.specs.Judging.{IsSeen, IsCompared}
use Rattle.commands.proofs.JobRings.{no_truth}
use Rattle.commands.proofs.OutputsOnce.{factors, shown}

-- as many factors as roots
printed_length : (S : SeriesRing) (names : List (List ℕ)) (D : ℕ) (roots : List Root) (fs : List (Poly S))
    → ArePrinted S names D roots fs → length fs ≡ length roots
printed_length S names D [] [] are = refl
printed_length S names D [] (f ∷ fs) are = absurd are
printed_length S names D (r ∷ roots) [] are = absurd are
printed_length S names D (r ∷ roots) (f ∷ fs) are = ap suc (printed_length S names D roots fs are.1)

each_length : (S : SeriesRing) (D : ℕ) (roots : List Root) (fs : List (Poly S)) → EachIsFactor D roots fs
    → length fs ≡ length roots
each_length S D [] [] each = refl
each_length S D [] (f ∷ fs) each = absurd each
each_length S D (r ∷ roots) [] each = absurd each
each_length S D (r ∷ roots) (f ∷ fs) each = ap suc (each_length S D roots fs each.1)

printed_flat : (S : SeriesRing) (names : List (List ℕ)) (D : ℕ) (l : Option (Poly S)) → IsLeadPrinted S names D l
    → IfSome l (HasNoPowerAbove 0)
printed_flat S names D None is = tt
printed_flat S names D (Some l) is = is.y_degree

shown_flat : (S : SeriesRing) (D : ℕ) (e : Expr) (l : Option (Poly S)) → IsShownLead S D e l
    → IfSome l (HasNoPowerAbove 0)
shown_flat S D e None is = tt
shown_flat S D e (Some l) is = lead_flat S D e l is.1

map_shown : (ring : Ring) (l : Option Coefficients) → is_some (option_map (polynomial_in ring) l) ≡ is_some l
map_shown ring None = refl
map_shown ring (Some p) = refl

-- a lead is there exactly where it is shown
lead_there : (S : SeriesRing) (D : ℕ) (e : Expr) (l : Option (Poly S)) (b : Bool) → IsTrue b ↔ IsLeadShown S e
    → IsShownLead S D e l → is_some l ≡ b
lead_there S D e None false both is = refl
lead_there S D e None true both is = absurd (both.0 refl is)
lead_there S D e (Some l) true both is = refl
lead_there S D e (Some l) false both is = absurd (no_truth (both.1 is.0))

module _ (job : JobData) (ok : IsAccepted job) (ring : Ring) (is_shown : Bool) (seen : IsSeen job ring is_shown)
    (names : List (List ℕ)) (text : List ℕ) (D : ℕ) (l : Option Coefficients) (gs : List Coefficients)
    (block : IsBlock ring names job.roots is_shown text D l gs) where
  ok_in : IsAccepted (job_in ring job)
  ok_in = accepted_in ring job seen.ring_is ok

  one_fs : ExactlyOne (IsFactors (job_in ring job) D)
  one_fs = factors (job_in ring job) ok_in D

  one_l : ExactlyOne (IsShownLead (series ring) D job.expr)
  one_l = shown (job_in ring job) ok_in D

  shown_here : IsTrue is_shown ↔ IsLeadShown (series ring) job.expr
  shown_here = subst (λ (j : JobData). IsTrue is_shown ↔ IsLeadShown (job_ring j) j.expr)
      (sym (same_job ring job seen.ring_is)) seen.shown_is

  place : ExactlyOne (IsFirstDifference (series ring) one_l.one_value one_fs.one_value
      (option_map (polynomial_in ring) l) (map (polynomial_in ring) gs))
  place = exactly_one (series ring) one_l.one_value (option_map (polynomial_in ring) l) one_fs.one_value
      (map (polynomial_in ring) gs)
      (lead_there (series ring) D job.expr one_l.one_value is_shown shown_here one_l.meets
      ∙ sym (map_shown ring l ∙ block.lead_shown))
      (shown_flat (series ring) D job.expr one_l.one_value one_l.meets)
      (printed_flat (series ring) names D (option_map (polynomial_in ring) l) block.text_is.lead_is)
      (each_length (series ring) D job.roots one_fs.one_value one_fs.meets.are_factors.each
      ∙ sym (printed_length (series ring) names D job.roots (map (polynomial_in ring) gs) block.text_is.factors_are))

  -- it differs somewhere first, or nowhere
  pub compared : (place : Option Place) × IsCompared names job ring is_shown text D place
  compared = (
    place.one_value,
    record {
      lead = l;
      factors = gs;
      is_block = block;
      job_lead = one_l.one_value;
      job_factors = one_fs.one_value;
      are_factors = one_fs.meets;
      is_lead = one_l.meets;
      differ = place.meets;
    },
  )
