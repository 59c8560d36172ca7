-- Facts of which there is one proof at most, for ghost fields.
--     IsLeadPartOf-IsProp      that a part is one of a job's lead
--     IsSession-IsProp, HasItems-IsProp      what is true of each session
use Rattle.std.specs.Prelude.{ℕ, List}
use Rattle.std.specs.Coded.{Coded-set, le_prop, coded_list, coded_ℕ}
use Rattle.std.proofs.Math.Nat.{ℕ_set}
use Rattle.std.proofs.Math.Bool.{Bool-set}
use Rattle.ps_model.specs.declared.job.JobData.{JobData}
use Rattle.ps_model.specs.Keys.{Key}
use Rattle.ps_model.specs.Plain.{coded_key}
use Rattle.ps_model.specs.Props.{Poly-IsSet, IsAccepted-IsProp}
use Rattle.parts.specs.PartValue.{PartValue}
use Rattle.stages.specs.Items.{IsItem-IsProp}
use Rattle.stages.specs.Titles.{TitleValue, title_code}
use Rattle.intake.specs.Jobs.{IsLeadPartOf}
use Rattle.session.specs.Sessions.{SessionState, IsSession, HasItems}

Key-IsSet : IsSet (Key 8)
Key-IsSet = Coded-set coded_key

numbers-IsSet : IsSet (List ℕ)
numbers-IsSet = Coded-set (coded_list coded_ℕ)

title-IsSet : IsSet TitleValue
title-IsSet = Coded-set title_code

pub IsLeadPartOf-IsProp : (job : JobData) (r : ℕ) (p : PartValue) → IsProp (IsLeadPartOf job r p)
IsLeadPartOf-IsProp job r p = hlevel (ℕ_set, le_prop, Key-IsSet, Poly-IsSet)

pub IsSession-IsProp : (s : SessionState) → IsProp (IsSession s)
IsSession-IsProp s =
    hlevel (ℕ_set, le_prop, Bool-set, numbers-IsSet, title-IsSet, IsAccepted-IsProp, IsLeadPartOf-IsProp)

pub HasItems-IsProp : (s : SessionState) → IsProp (HasItems s)
HasItems-IsProp s = hlevel (IsItem-IsProp)
