-- Which stage of which job.
--     TitleValue      what contracts see of a title: the job, and the number of the stage, from 0
--     root_at job s      the root of stage s; 0 with multiplicity 0 past the last
--     times_at job s      its multiplicity
--     later_times job s      the multiplicities of the roots behind it, added up; 0 for the last stage
use Rattle.std.specs.Prelude.{ℕ, suc, slice_index_or, drop, refl}
use Rattle.std.specs.Coded.{Coded, code_by, coded×, coded_ℕ}
use Rattle.ps_model.specs.contracts.job.JobData.{the_row}
use Rattle.ps_model.specs.declared.job.JobData.{JobData}
use Rattle.ps_model.specs.declared.job.Root.{Root}
use Rattle.ps_model.specs.Factors.{total_times}

pub record TitleValue : Type 0 where
  pub job : JobData
  pub stage : ℕ

abbrev pub title_code : Coded TitleValue
title_code =
    code_by (JobData × ℕ) (coded× the_row.coded coded_ℕ) (λ t. (t.job, t.stage))
    (λ p. record { job = p.0; stage = p.1 }) (λ _. refl)

-- the root past the last
abbrev pub no_root : Root
no_root = record { value = 0; times = 0 }

abbrev pub root_at : JobData → ℕ → Root
root_at job s = slice_index_or job.roots s no_root

abbrev pub times_at : JobData → ℕ → ℕ
times_at job s = (root_at job s).times

abbrev pub later_times : JobData → ℕ → ℕ
later_times job s = total_times (drop (suc s) job.roots)
