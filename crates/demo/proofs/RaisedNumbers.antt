-- The session of a number's job, opened and raised to degree 40.
use Rattle.std.proofs.Common.{◌≡◌, ℕ, ◌+◌, ◌≤◌, length, refl, sym, ◌∙◌, ap, subst}
use Rattle.ps_model.specs.AcceptedJob.{IsAccepted}
use Rattle.parts.specs.JobRows.{IsPermitted}
use Rattle.printer.specs.View.{HasUpTo}
use Rattle.intake.specs.Jobs.{JobValue}
use Rattle.session.specs.Calls.{IsEven, IsFresh, IsRaised, IsWithin, KeepsSession, prepared_degrees}
use Rattle.session.specs.Precisions.{weights_in, IsGreatestPermitted}
use Rattle.session.specs.Sessions.{HasItems, IsSession, SessionState, value_of}
use Rattle.demo.specs.Generator.{demo_job, demo_names}
use Rattle.demo.proofs.DemoJobs.{accepted}
use Rattle.demo.proofs.OpenedPrecisions.{opened_even, opened_job, permitted_40}
use Rattle.demo.proofs.RaisedSteps.{known, steps, steps_more, steps_most}

abbrev IsOf : ℕ → JobValue → Type 0
IsOf seed job = job ≡ record { names = demo_names; job = demo_job seed }

module _ (seed : ℕ) (job : JobValue) (is : IsOf seed job) where
  pub job_accepted : IsAccepted job.job
  job_accepted = subst (λ (j : JobValue). IsAccepted j.job) (sym is) (accepted seed)

  pub job_named : length job.names ≡ job.job.n
  job_named = subst (λ (j : JobValue). length j.names ≡ j.job.n) (sym is) refl

  module _ (old : SessionState)
      (opened : (d : ℕ) → IsGreatestPermitted (weights_in job.job) d → IsFresh (d + 1) job old) where
    old_job : IsOf seed old.job
    old_job = opened_job job old job_accepted opened ∙ is

    pub may_raise : IsPermitted (weights_in old.job.job) 40
    may_raise = subst (λ (j : JobValue). IsPermitted (weights_in j.job) 40) (sym old_job) permitted_40

    even : IsEven 0 old
    even = opened_even job old job_accepted opened

    four : length old.job.job.roots ≡ 4
    four = ap (λ (j : JobValue). length j.job.roots) old_job

    module _ (holds : IsSession old) (new : SessionState) (keeps : KeepsSession old new) where
      pub raised_job : IsOf seed new.job
      raised_job = keeps.job ∙ old_job

      module _ (t t' : ℕ) (ticks : t' + prepared_degrees old ≡ t + prepared_degrees new) where
        pub raised_more : t ≤ t'
        raised_more = steps_more old new holds even keeps four t t' ticks

        pub raised_most : IsWithin 41 old new → t' ≤ t + 164
        raised_most within = steps_most old new holds even keeps four t t' ticks within

        pub raised_steps : IsSession new → IsRaised 41 old new → t' ≡ t + 164
        raised_steps holds' raised = steps old new holds even keeps four holds' raised t t' ticks

      pub raised_known : IsSession new → HasItems new → IsRaised 41 old new → HasUpTo (value_of new) 40
      raised_known holds' fits raised = known old new holds even keeps four holds' raised fits
