use Rattle.std.proofs.Common.{map, refl}
use Rattle.ps_model.specs.declared.expr.Expr.TheBlock.{hidden-the_row-Summand-0, shape-the_row-Summand-0}
use Rattle.ps_model.specs.declared.expr.Expr.TheBlock.{hidden-the_row-Factor-1, shape-the_row-Factor-1}
use Rattle.ps_model.specs.declared.expr.Expr.TheBlock.{hidden-the_row-Expr-2}
use denote.Hole.Carrier.{hidden}
use Rattle.ps_model.specs.Job.{series_ring, job_ring, IsFactors}
use Rattle.ps_model.specs.Examples.{root, geometric_job, geometric_terms, geometric_factors, halved_job, halved_terms}
use Rattle.ps_model.specs.Examples.{halved_factors}
use Rattle.ps_model.proofs.FactorSums.{is_factor, entries_of, factors_listed}
use Rattle.ps_model.proofs.Divided.{square_less_series, square_less_geometric, half, halved_value}
use Rattle.ps_model.proofs.examples.factors_with_divisions.Goals as goal

by_series : IsFactors geometric_job 2 geometric_factors
unfolding series_ring hidden-the_row-Summand-0 shape-the_row-Summand-0 hidden-the_row-Factor-1 shape-the_row-Factor-1
    hidden-the_row-Expr-2 hidden
by_series = let factor = is_factor (job_ring geometric_job) 2 in factors_listed geometric_job 2 square_less_series
    (map (entries_of (job_ring geometric_job).variables) geometric_terms) square_less_geometric
    (factor (root 1 1) _ refl refl refl, (factor (root 6 1) _ refl refl refl, tt)) refl

by_number : IsFactors halved_job 1 halved_factors
unfolding series_ring hidden-the_row-Summand-0 shape-the_row-Summand-0 hidden-the_row-Factor-1 shape-the_row-Factor-1
    hidden-the_row-Expr-2 hidden
by_number = let factor = is_factor (job_ring halved_job) 1 in factors_listed halved_job 1 half
    (map (entries_of (job_ring halved_job).variables) halved_terms) halved_value
    (factor (root 0 2) _ refl refl refl, tt) refl

pub returns : goal.returns
returns c = record { series = by_series; number = by_number }
