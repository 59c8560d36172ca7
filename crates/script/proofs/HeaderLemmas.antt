-- What the line of the roots says where its job is refused.
use Rattle.std.proofs.Common.{◌≡◌, ◌≢◌, refl, sym, subst, ℕ, ◌<◌, List, [], ◌∷◌, length, Ok, arith}
use mathlib.Core.Logic.{inr}
use Rattle.ps_model.specs.declared.expr.Expr.{Expr}
use Rattle.ps_model.specs.declared.job.Root.{Root}
use Rattle.intake.specs.JobErrors.{IsJobRefusal}
use Rattle.intake.specs.Jobs.{data_of}
use Rattle.intake.specs.declared.job_error.JobError.{JobError}
use Rattle.intake.specs.declared.job_error.JobError.TheVariants as job
use Rattle.script.specs.Header.{Said, WithTree, roots_from, RootsSaid, JobSaid}
use Rattle.script.specs.Header as header
use Rattle.script.specs.Sayings.{SaysBehind}
use Rattle.script.specs.Words.{words}
use Rattle.script.specs.declared.refusal.Refusal.TheVariants as refusal

module _ (m : ℕ) (names : List (List ℕ)) (ws : List ℕ) (e : Expr) where
  job_said : (roots : List Root) → 0 < length roots → (s : Said) → JobSaid names (data_of m names ws e roots) s
      → RootsSaid m names ws e (Ok roots) s
  job_said [] some s p = absurd (omega (arith, some))
  job_said (root ∷ roots) some s p = p

  pub job_refused : (text : List ℕ) (roots : List Root) → roots_from m 1 (words text) ≡ Ok roots → 0 < length roots
      → (error : JobError) → error ≢ job.OutOfMemory → IsJobRefusal (data_of m names ws e roots) error
      → SaysBehind (WithTree m names ws e) text (header.Refused (refusal.BadJob error))
  job_refused text roots is some error other p =
      subst (λ r. RootsSaid m names ws e r (header.Refused (refusal.BadJob error))) (sym is)
      (job_said roots some (header.Refused (refusal.BadJob error)) (inr (error, other, p, refl)))
