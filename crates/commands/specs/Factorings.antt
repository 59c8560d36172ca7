-- What contracts see of a job whose factors answer requests.
--     factoring_code      the code of these values
--     factoring_of s      the names and the job of the session, and how many degrees it has
--     IsFactoring s      between calls each row, each preparation and the lead have as many degrees
--     AnswersFactors f f' q result ..      Ok: the one text that answers the request was written, in the steps of the new
--         degrees, which are there behind it; else a beginning of it, in no more steps. Of the sink the bytes written and
--         the count of faults, before and now, and the tally
use Rattle.std.specs.Prelude.{◌≡◌, ℕ, suc, ◌+◌, ◌*◌, ◌≤◌, max, List, length, Option, Result, OnOk, refl}
use Rattle.std.specs.Coded.{Coded, code_by, coded×, coded_ℕ, coded_list}
use Rattle.ps_model.specs.declared.job.JobData.{JobData}
use Rattle.ps_model.specs.contracts.job.JobData.{the_row}
use Rattle.script.specs.Requests.{precision_of}
use Rattle.script.specs.Script.{Has}
use Rattle.script.specs.declared.request.Request.{Request}
use Rattle.session.specs.Calls.{IsEven}
use Rattle.session.specs.Sessions.{SessionState}
use Rattle.commands.specs.declared.command.ScriptCommand.TheVariants.{Factor}
use Rattle.commands.specs.declared.stop.Stop.{Stop}
use Rattle.commands.specs.Answering.{Answered, FactoringValue}

abbrev pub factoring_code : Coded FactoringValue
factoring_code = code_by (List (List ℕ) × (JobData × ℕ))
    (coded× (coded_list (coded_list coded_ℕ)) (coded× the_row.coded coded_ℕ))
    (λ v. (v.names, (v.job, v.degrees))) (λ p. record { names = p.0; job = p.1.0; degrees = p.1.1 }) (λ _. refl)

abbrev pub factoring_of : SessionState → FactoringValue
factoring_of s = record { names = s.job.names; job = s.job.job; degrees = length s.lead }

abbrev pub IsFactoring : SessionState → Type 0
IsFactoring s = IsEven (length s.lead) s

pub record AnswersFactors (f f' : FactoringValue) (q : Request) {A : Type 0} (result : Result A Stop)
    (old new : Option (List ℕ)) (before now tally tally' : ℕ) : Type 0 where
  pub next : OnOk result (f' ≡ record f { degrees = max (suc (precision_of q)) f.degrees })
  pub answered : Answered Factor (Has f.names f.job) q result old new before now
  pub spent : OnOk result (tally' + length f.job.roots * f.degrees
      ≡ tally + length f.job.roots * max (suc (precision_of q)) f.degrees)
  pub more : tally ≤ tally'
  pub at_most : tally' + length f.job.roots * f.degrees
      ≤ tally + length f.job.roots * max (suc (precision_of q)) f.degrees
