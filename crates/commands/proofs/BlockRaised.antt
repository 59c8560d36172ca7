-- A block beside a session that was raised to its precision.
use Rattle.std.proofs.Common.{◌≡◌, ◌∙◌, sym, ap, refl, subst, ℕ, suc, ◌+◌, ◌*◌, ◌≤◌, ◌↔◌, max, Bool, IsTrue, arith}
use Rattle.std.proofs.Common.{List, length, Option}
use Rattle.ps_model.specs.AcceptedJob.{IsAccepted}
use Rattle.ps_model.specs.Job.{job_ring}
use Rattle.ps_model.specs.Lead.{IsLeadShown}
use Rattle.ps_model.specs.declared.job.JobData.{JobData}
use Rattle.parts.specs.JobRows.{IsPermitted}
use Rattle.parts.specs.Series.{series}
use Rattle.parts.specs.declared.rings.Ring.{Ring}
use Rattle.comparison.specs.Blocks.{IsRead, DifferFrom}
use Rattle.comparison.specs.declared.place.Place.{Place}
use Rattle.expr_reader.specs.NameLists.{as_names}
use Rattle.intake.specs.Jobs.{JobValue}
use Rattle.printer.specs.ReadBlock.{variable_names}
use Rattle.printer.specs.ReadText.{Coefficients, IsBlock}
use Rattle.printer.specs.Texts.{factors_to, shown_lead, lead_to}
use Rattle.printer.specs.View.{HasUpTo}
use Rattle.script.specs.declared.request.Request.TheVariants.{Show}
use Rattle.session.specs.Calls.{IsFresh, KeepsSession, IsRaised, IsWithin, prepared_degrees}
use Rattle.session.specs.Factors.{HasFactorsTo}
use Rattle.session.specs.Precisions.{weights_in, IsGreatestPermitted}
use Rattle.session.specs.Sessions.{SessionState, value_of, IsSession, HasItems}
use Rattle.session.proofs.JobRings.{same_job}
use Rattle.session.proofs.Opened.{same_weights}
use Rattle.session.proofs.Written.{written}
use Rattle.commands.specs.Answering.{FactoringValue}
use Rattle.commands.specs.Factorings.{factoring_of, IsFactoring}
use Rattle.commands.specs.Judged.{IsBlockBy}
use Rattle.commands.specs.Judging.{IsSeen, IsCompared}
use Rattle.commands.proofs.FactoringSteps.{known, steps, steps_more, steps_most}
use Rattle.commands.proofs.FactorTexts.{shown_by}
use Rattle.commands.proofs.JobRings.{one_seen}
use Rattle.commands.proofs.Openings.{opened_even, opened_is}

-- what a session is of
module _ (s : SessionState) (holds : IsSession s) (text : List ℕ) (D : ℕ) (l : Option Coefficients)
    (gs : List Coefficients) (block : IsBlockBy s.job.names s.job.job text D l gs) where
  seen : IsSeen s.job.job s.ring s.shows_lead
  seen = record { ring_is = holds.ring_is; shown_is = holds.shown }

  is_block : IsBlock s.ring (variable_names s.ring (as_names s.job.names)) s.job.job.roots s.shows_lead text D l gs
  is_block =
      let same = one_seen s.job.job block.0 s.ring block.1 s.shows_lead block.2 seen in
      subst (λ (x : Ring × Bool).
      IsBlock x.0 (variable_names x.0 (as_names s.job.names)) s.job.job.roots x.1 text D l gs)
      (λ i. (same.0 i, same.1 i)) block.3

  pub is_read : IsRead (value_of s) D l gs
  is_read = (as_names s.job.names, text, is_block)

  module _ (fits : HasItems s) (up_to : HasUpTo (value_of s) D) (place : Option Place)
      (differ : DifferFrom (value_of s) D l gs place) where
    has : HasFactorsTo s D
    has = written s D holds fits up_to

    pub block_compared : (ring : Ring) × (shown : Bool) × IsSeen s.job.job ring shown
        × IsCompared (variable_names ring (as_names s.job.names)) s.job.job ring shown text D place
    block_compared = (
      s.ring,
      s.shows_lead,
      seen,
      record {
        lead = l;
        factors = gs;
        is_block = is_block;
        job_lead = shown_lead (value_of s) D;
        job_factors = factors_to (value_of s) D;
        are_factors = has.factors;
        is_lead = shown_by s holds fits D up_to (series s.ring) s.shows_lead
            (subst (λ (j : JobData). IsTrue s.shows_lead ↔ IsLeadShown (job_ring j) j.expr)
            (sym (same_job s.ring s.job.job holds.ring_is)) holds.shown) (lead_to (value_of s) D) has.lead;
        differ = differ;
      },
    )

-- from its opening on
module _ (job : JobValue) (ok : IsAccepted job.job) (old : SessionState)
    (opened : (d : ℕ) → IsGreatestPermitted (weights_in job.job) d → IsFresh (d + 1) job old) (D : ℕ) where
  abbrev v : FactoringValue
  v = record { names = job.names; job = job.job; degrees = 0 }

  is_v : factoring_of old ≡ v
  is_v = opened_is job old ok opened

  even : IsFactoring old
  even = opened_even job old ok opened

  pub opened_job : old.job ≡ job
  opened_job = λ i. record { names = (is_v i).names; job = (is_v i).job }

  none_yet : length old.lead ≡ 0
  none_yet = ap (λ (u : FactoringValue). u.degrees) is_v

  -- the block's precision may be asked for
  pub block_permitted : (text : List ℕ) (l : Option Coefficients) (gs : List Coefficients)
      → IsBlockBy job.names job.job text D l gs → IsPermitted (weights_in old.job.job) D
  block_permitted text l gs (ring, shown, seen, block) =
      subst (λ (j : JobValue). IsPermitted (weights_in j.job) D) (sym opened_job)
      (subst (λ ws. IsPermitted ws D) (same_weights ring job.job seen.ring_is) block.permitted)

  module _ (holds : IsSession old) (new : SessionState) (keeps : KeepsSession old new) where
    pub raised_job : new.job ≡ job
    raised_job = keeps.job ∙ opened_job

    module _ (t t' : ℕ) (ticks : t' + prepared_degrees old ≡ t + prepared_degrees new) where
      pub raised_more : t ≤ t'
      raised_more = steps_more v old new is_v even holds (Show D) D refl keeps t t' ticks

      pub raised_most : IsWithin (D + 1) old new → t' ≤ t + length job.job.roots * suc D
      raised_most within =
          let most = steps_most v old new is_v even holds (Show D) D refl keeps t t' ticks within in
          let zero : length job.job.roots * 0 ≡ 0 = omega arith in
          let whole : length job.job.roots * max (suc D) 0 ≡ length job.job.roots * suc D =
          ap (λ k. length job.job.roots * k) (no_less (suc D)) in
          omega (arith, most, zero, whole)
        where
          no_less : (k : ℕ) → max k 0 ≡ k
          no_less k = omega arith

      pub raised_steps : IsSession new → HasItems new → IsRaised (D + 1) old new
          → t' ≡ t + length job.job.roots * suc D
      raised_steps holds' fits raised =
          let exact = steps v old new is_v even holds (Show D) D refl keeps holds' fits raised t t' ticks in
          let zero : length job.job.roots * 0 ≡ 0 = omega arith in
          let whole : length job.job.roots * length new.lead ≡ length job.job.roots * suc D =
          ap (λ k. length job.job.roots * k) (many (length new.lead) (length old.lead) raised.lead none_yet) in
          omega (arith, exact, zero, whole)
        where
          many : (n m : ℕ) → n ≡ max (D + 1) m → m ≡ 0 → n ≡ suc D
          many n m is none = omega arith

    pub raised_known : IsSession new → HasItems new → IsRaised (D + 1) old new → HasUpTo (value_of new) D
    raised_known holds' fits raised = known v old new is_v even holds (Show D) D refl keeps holds' fits raised

    module _ (holds' : IsSession new) (fits : HasItems new) (raised : IsRaised (D + 1) old new) (text : List ℕ)
        (l : Option Coefficients) (gs : List Coefficients) (block : IsBlockBy job.names job.job text D l gs) where
      of_session : IsBlockBy new.job.names new.job.job text D l gs
      of_session = subst (λ (j : JobValue). IsBlockBy j.names j.job text D l gs) (sym raised_job) block

      pub raised_read : IsRead (value_of new) D l gs
      raised_read = is_read new holds' text D l gs of_session

      pub raised_compared : (place : Option Place) → DifferFrom (value_of new) D l gs place
          → (ring : Ring) × (shown : Bool) × IsSeen job.job ring shown
          × IsCompared (variable_names ring (as_names job.names)) job.job ring shown text D place
      raised_compared place differ =
          subst (λ (j : JobValue). (ring : Ring) × (shown : Bool) × IsSeen j.job ring shown
          × IsCompared (variable_names ring (as_names j.names)) j.job ring shown text D place) raised_job
          (block_compared new holds' text D l gs of_session fits (raised_known holds' fits raised) place differ)
