use Rattle.std.proofs.Common.{subst}
use Rattle.std.specs.Arc.{arc_value}
use Rattle.rows.specs.Fits.{AllFit, values}
use Rattle.stages.specs.Items.{IsItem}
use Rattle.stages.proofs.Cores.{fresh_empty, fresh_lengths, empty_in, line_back, lengths_back, line_of_job}
use Rattle.stages.proofs.FactorsOf.{line_factors}
use Rattle.stages.proofs.LineTitles.{few_roots, of_stages}
use Rattle.stages.proofs.schedule.run_schedule.Goals as goal

pub empty_rows-requires-clause-few : goal.empty_rows-requires-clause-few
empty_rows-requires-clause-few g c = few_roots (arc_value c.args.job) c.requires.accepted

pub run_uncounted-requires-clause-empty : goal.run_uncounted-requires-clause-empty
run_uncounted-requires-clause-empty g c κs within = empty_in _ _ _ c.deref_mut.ensures.value
    (fresh_empty _ _ _ _ _ c.in-Ok.ensures.states)

pub invariant_of-line-clause-of_job : goal.invariant_of-line-clause-of_job
invariant_of-line-clause-of_job g c some = of_stages _ _ _
    (line_back _ c.in-Ok.line.stages _ _ c.deref_mut.ensures.value c.run_uncounted.ensures.kept _
    c.in-Ok.ensures.whole)

pub returns-clause-lengths : goal.returns-clause-lengths
returns-clause-lengths g c = lengths_back _ c.in-Ok.line.stages _ _ c.deref_mut.ensures.value
    c.in_ok-run_uncounted.ensures.kept _ c.args.events.now (fresh_lengths _ _ _ _ _ c.in-Ok.ensures.states)
    c.in_ok-run_uncounted.ensures.lengths

pub returns-clause-factors : goal.returns-clause-factors
returns-clause-factors g c = λ D have. line_factors _ _ (arc_value c.args.job)
    (line_of_job _ _ _ c.in-Ok.ensures.job (line_back _ c.in-Ok.line.stages _ _ c.deref_mut.ensures.value
    c.in_ok-run_uncounted.ensures.kept _ c.in-Ok.ensures.whole))
    (λ x. subst (λ t. AllFit (IsItem t) (values x.row.items.items)) x.same_title x.row.fit) c.args.ring D have
