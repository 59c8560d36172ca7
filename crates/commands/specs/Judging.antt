-- Blocks of a job, judged by the text of their lines; names are those of the job's variables.
--     IsSeen job ring shown      the job's ring, and whether its lead is shown
--     IsRefusedAt names job ring shown text k f      line k of the block, counted from 1, is its first that is refused,
--         and this is told of it; where the text ends early it is the line that would follow
--     IsCompared names job ring shown text D place      the text is a block of precision D, and at this place its lead
--         and factors first differ from the job's; None where they are the job's
--     verdict_text place, verdict_status place      what is written of such a block, and the status
use Rattle.std.specs.Prelude.{◌≡◌, ◌↔◌, ℕ, Bool, IsTrue, List, ◌++◌, map, codes, decimal, Option, Some, None, Err}
use Rattle.std.specs.Option.{option_map}
use Rattle.ps_model.specs.BlockText.{newline}
use Rattle.ps_model.specs.Job.{job_ring, IsFactors}
use Rattle.ps_model.specs.Lead.{IsLeadShown, IsShownLead}
use Rattle.ps_model.specs.SeriesRing.{Poly}
use Rattle.ps_model.specs.declared.job.JobData.{JobData}
use Rattle.parts.specs.JobRows.{IsRingOf}
use Rattle.parts.specs.Rings.{weights_of}
use Rattle.parts.specs.Series.{series, polynomial_in}
use Rattle.parts.specs.declared.rings.Ring.{Ring}
use Rattle.printer.specs.ReadText.{Coefficients, IsBlock, IsRefused}
use Rattle.printer.specs.declared.block_error.BlockError.{BlockError}
use Rattle.printer.specs.declared.block_error.BlockError.TheVariants as block
use Rattle.comparison.specs.Differences.{IsFirstDifference}
use Rattle.comparison.specs.declared.place.Place.{Place}
use Rattle.comparison.specs.declared.place.Place.TheVariants.{Lead, Factor}
use Rattle.session.specs.Factors.{job_in}
use Rattle.script.specs.Requests.{degree_in}
use Rattle.script.specs.declared.refusal.Refusal.{Refusal}
use Rattle.script.specs.declared.refusal.Refusal.TheVariants as refusal

pub record IsSeen (job : JobData) (ring : Ring) (shown : Bool) : Type 0 where
  pub ring_is : IsRingOf ring job
  pub shown_is : IsTrue shown ↔ IsLeadShown (job_ring job) job.expr

-- the line that is refused for this, and what is told: of a precision the same as of a request's
abbrev pub Tells : List ℕ → BlockError → ℕ → Refusal → Type 0
Tells ws (block.NotPermitted precision) k f = (k ≡ 1) × (degree_in ws precision ≡ Err f)
Tells ws (block.NotABlock line) k f = (k ≡ line) × (f ≡ refusal.NotABlock)
Tells ws block.OutOfMemory k f = ⊥

module _ (names : List (List ℕ)) (job : JobData) (ring : Ring) (shown : Bool) (text : List ℕ) where
  abbrev pub IsRefusedAt : ℕ → Refusal → Type 0
  IsRefusedAt k f =
      (e : BlockError) × IsRefused ring names job.roots shown text e × Tells (weights_of ring) e k f

  pub record IsCompared (D : ℕ) (place : Option Place) : Type 0 where
    pub lead : Option Coefficients
    pub factors : List Coefficients
    pub is_block : IsBlock ring names job.roots shown text D lead factors
    pub job_lead : Option (Poly (series ring))
    pub job_factors : List (Poly (series ring))
    pub are_factors : IsFactors (job_in ring job) D job_factors
    pub is_lead : IsShownLead (series ring) D job.expr job_lead
    pub differ : IsFirstDifference (series ring) job_lead job_factors (option_map (polynomial_in ring) lead)
        (map (polynomial_in ring) factors) place

abbrev pub verdict_text : Option Place → List ℕ
verdict_text None = codes "right\n"
verdict_text (Some (Lead degree)) = codes "wrong lead degree " ++ decimal degree ++ newline
verdict_text (Some (Factor number power degree)) =
    codes "wrong factor " ++ decimal number ++ codes " power " ++ decimal power ++ codes " degree " ++ decimal degree
    ++ newline

abbrev pub verdict_status : Option Place → ℕ
verdict_status None = 0
verdict_status (Some place) = 6
