-- What contracts see of a job whose input answers requests.
--     expanding_code      the code of these values
--     expanding_of job      its names and its data
--     AreValueRows job rows      the parts of the degrees from 0 on of what the job's tree stands for
--     IsExpanding job rows      the job can be factored, its variables are named, and the rows are its own
use Rattle.std.specs.Prelude.{◌≡◌, ℕ, ◌<◌, ◌≤◌, List, length, refl}
use Rattle.std.specs.Coded.{Coded, code_by, coded×, coded_ℕ, coded_list}
use Rattle.ps_model.specs.AcceptedJob.{IsAccepted}
use Rattle.ps_model.specs.declared.job.JobData.{JobData}
use Rattle.ps_model.specs.contracts.job.JobData.{the_row}
use Rattle.parts.specs.PartValue.{PartValue}
use Rattle.expr_reader.specs.NameLists.{as_names}
use Rattle.intake.specs.Jobs.{JobValue, IsValueRowOf}
use Rattle.printer.specs.Rows.{row_in}
use Rattle.commands.specs.Answering.{ExpandingValue}

abbrev pub expanding_code : Coded ExpandingValue
expanding_code = code_by (List (List ℕ) × JobData) (coded× (coded_list (coded_list coded_ℕ)) the_row.coded)
    (λ v. (v.names, v.job)) (λ p. record { names = p.0; job = p.1 }) (λ _. refl)

abbrev pub expanding_of : JobValue → ExpandingValue
expanding_of job = record { names = job.names; job = job.job }

abbrev pub AreValueRows : JobData → List (List PartValue) → Type 0
AreValueRows job rows = (r : ℕ) → r < length rows → IsValueRowOf job r (row_in rows r)

pub record IsExpanding (job : JobValue) (rows : List (List PartValue)) : Type 0 where
  pub accepted : IsAccepted job.job
  pub count : length job.names ≡ job.job.n
  pub named : as_names job.names ≡ job.names
  pub are_rows : AreValueRows job.job rows
  pub few : length rows ≤ 4096
