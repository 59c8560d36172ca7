-- The parts of a job's lead, from degree 0 on.
--     AreLeadParts job lead      the part at place r is that of degree r of the lead; so of no part
--     ExtendsLead n old new      new begins with old, and has no more than the greater of n and what old had
use Rattle.std.specs.Prelude.{◌≡◌, ℕ, ◌<◌, ◌≤◌, max, List, ◌++◌, length}
use Rattle.ps_model.specs.declared.job.JobData.{JobData}
use Rattle.parts.specs.PartValue.{PartValue}
use Rattle.parts.specs.RowsOfParts.{part_in}
use Rattle.intake.specs.Jobs.{IsLeadPartOf}

abbrev pub AreLeadParts : JobData → List PartValue → Type 0
AreLeadParts job lead = (r : ℕ) → r < length lead → IsLeadPartOf job r (part_in lead r)

pub record ExtendsLead (n : ℕ) (old new : List PartValue) : Type 0 where
  pub more : List PartValue
  pub begins : new ≡ old ++ more
  pub count : length new ≤ max n (length old)
