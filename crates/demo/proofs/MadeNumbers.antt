-- That a number's job is made, where memory can be had.
use Rattle.std.proofs.Common.{◌≡◌, ◌≢◌, ℕ, List, sym, ◌∙◌}
use Rattle.std.proofs.Common.{subst}
use Rattle.ps_model.specs.AcceptedJob.{IsAccepted}
use Rattle.ps_model.specs.Examples.{one_each}
use Rattle.ps_model.specs.declared.expr.Expr.{Expr}
use Rattle.ps_model.specs.declared.job.JobData.{JobData}
use Rattle.ps_model.specs.declared.job.Root.{Root}
use Rattle.intake.specs.Jobs.{JobValue, data_of}
use Rattle.intake.specs.JobErrors.{IsJobRefusal}
use Rattle.intake.specs.declared.job_error.JobError.{JobError}
use Rattle.intake.specs.declared.job_error.JobError.TheVariants.{OutOfMemory}
use Rattle.demo.specs.Generator.{demo_job, demo_names, first_of, prime, roots_by, second_of, times_of, tree_by}
use Rattle.demo.proofs.DemoJobs.{accepted}

module _ (seed : ℕ) (m : ℕ) (names : List (List ℕ)) (e : Expr) (rs : List Root) (k1 k2 k3 k4 : ℕ)
    (is1 : k1 ≡ times_of seed 0) (is2 : k2 ≡ times_of seed 1) (is3 : k3 ≡ times_of seed 2) (is4 : k4 ≡ times_of seed 3)
    (modulus_is : m ≡ prime) (names_are : names ≡ demo_names)
    (tree_is : e ≡ tree_by k1 k2 k3 k4 (first_of seed) (second_of seed)) (roots_are : rs ≡ roots_by k1 k2 k3 k4) where
  abbrev made : JobData
  made = data_of m names one_each e rs

  data_is : made ≡ demo_job seed
  data_is = λ i. data_of (modulus_is i) (names_are i) one_each
      ((tree_is ∙ (λ j. tree_by (is1 j) (is2 j) (is3 j) (is4 j) (first_of seed) (second_of seed))) i)
      ((roots_are ∙ (λ j. roots_by (is1 j) (is2 j) (is3 j) (is4 j))) i)

  pub made_accepted : IsAccepted made
  made_accepted = subst IsAccepted (sym data_is) (accepted seed)

  pub no_refusal : (error : JobError) → error ≢ OutOfMemory → IsJobRefusal made error → ⊥
  no_refusal error other refusal =
      let why = refusal other in made_accepted.valid why.0 why.1.holds

  pub job_is : (job : JobValue) → job ≡ record { names = names; job = made }
      → job ≡ record { names = demo_names; job = demo_job seed }
  job_is job is = is ∙ (λ i. record { names = names_are i; job = data_is i })
