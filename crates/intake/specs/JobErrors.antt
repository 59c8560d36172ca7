-- Errors of jobs.
--     of_input e      the error of a job for that of its input
--     job_error_of f      the error that tells the fault f
--     IsJobRefusal job e      e refuses the job: it tells its first fault, or that memory could not be had
--     job_error_text e      what is printed for e; a number is written in decimal
use Rattle.std.specs.Prelude.{◌≡◌, ◌≢◌, ℕ, List, ◌++◌, codes, decimal}
use Rattle.ps_model.specs.declared.job.JobData.{JobData}
use Rattle.ps_model.specs.Job.{Fault, IsFirstFault}
use Rattle.ps_model.specs.Job as fault
use Rattle.intake.specs.InputErrors.{error_of}
use Rattle.intake.specs.declared.free_error.FreeError.{FreeError}
use Rattle.intake.specs.declared.free_error.FreeError.TheVariants as input
use Rattle.intake.specs.declared.job_error.JobError.{JobError}
use Rattle.intake.specs.declared.job_error.JobError.TheVariants.{DividesByY, TooManyNodes, DegreeTooLarge, NotAUnit}
use Rattle.intake.specs.declared.job_error.JobError.TheVariants.{LeadNotAUnit, DegreeMismatch, NotApart, RootsMismatch}
use Rattle.intake.specs.declared.job_error.JobError.TheVariants.{OutOfMemory}

abbrev pub of_input : FreeError → JobError
of_input (input.DividesByY division) = DividesByY division
of_input (input.TooManyNodes count) = TooManyNodes count
of_input (input.DegreeTooLarge degree) = DegreeTooLarge degree
of_input (input.NotAUnit division value gcd) = NotAUnit division value gcd
of_input input.OutOfMemory = OutOfMemory

abbrev pub job_error_of : Fault → JobError
job_error_of (fault.OfInput f) = of_input (error_of f)
job_error_of (fault.LeadNotAUnit value gcd) = LeadNotAUnit value gcd
job_error_of (fault.DegreeMismatch degree total) = DegreeMismatch degree total
job_error_of (fault.NotApart first second difference gcd) = NotApart first second difference gcd
job_error_of (fault.RootsMismatch power input roots) = RootsMismatch power input roots

abbrev pub IsJobRefusal : JobData → JobError → Type 0
IsJobRefusal job e = e ≢ OutOfMemory → (f : Fault) × IsFirstFault job f × (e ≡ job_error_of f)

abbrev pub job_error_text : JobError → List ℕ
job_error_text (DividesByY division) = codes "division " ++ decimal division ++ codes " by Y"
job_error_text (TooManyNodes count) = decimal count ++ codes " nodes, limit 4096"
job_error_text (DegreeTooLarge degree) = codes "degree " ++ decimal degree ++ codes ", limit 32"
job_error_text (NotAUnit division value gcd) =
    codes "division " ++ decimal division ++ codes ": " ++ decimal value ++ codes " has no inverse, gcd " ++ decimal gcd
job_error_text (LeadNotAUnit value gcd) =
    codes "leading coefficient " ++ decimal value ++ codes " has no inverse, gcd " ++ decimal gcd
job_error_text (DegreeMismatch degree total) =
    codes "degree " ++ decimal degree ++ codes ", roots give " ++ decimal total
job_error_text (NotApart first second difference gcd) =
    codes "roots " ++ decimal first ++ codes " and " ++ decimal second ++ codes ": difference " ++ decimal difference
    ++ codes " has no inverse, gcd " ++ decimal gcd
job_error_text (RootsMismatch power input roots) =
    codes "power " ++ decimal power ++ codes ": input " ++ decimal input ++ codes ", roots " ++ decimal roots
job_error_text OutOfMemory = codes "out of memory"
