use Rattle.std.proofs.Common.{refl}
use Rattle.ps_model.specs.declared.expr.Expr.TheBlock.{hidden-the_row-Summand-0, shape-the_row-Summand-0}
use Rattle.ps_model.specs.declared.expr.Expr.TheBlock.{hidden-the_row-Factor-1, shape-the_row-Factor-1}
use Rattle.ps_model.specs.declared.expr.Expr.TheBlock.{hidden-the_row-Expr-2}
use denote.Hole.Carrier.{hidden}
use Rattle.ps_model.specs.Job.{series_ring, job_ring, IsFactors}
use Rattle.ps_model.specs.Examples.{root, quadratic_job, quadratic_terms, quadratic_factors, split_job}
use Rattle.ps_model.specs.Examples.{split_terms_to_4, split_factors_to_4, cubic_job, cubic_terms, cubic_factors}
use Rattle.ps_model.specs.Examples.{three_roots_job, three_roots_terms, three_roots_factors}
use Rattle.ps_model.proofs.FactorSums.{is_factor, factors_written}
use Rattle.ps_model.proofs.examples.more_factors.Goals as goal

quadratic : IsFactors quadratic_job 2 quadratic_factors
unfolding series_ring hidden-the_row-Summand-0 shape-the_row-Summand-0 hidden-the_row-Factor-1 shape-the_row-Factor-1
    hidden-the_row-Expr-2 hidden
quadratic = let factor = is_factor (job_ring quadratic_job) 2 in factors_written quadratic_job 2 quadratic_terms tt
    (factor (root 10 1) _ refl refl refl, (factor (root 91 1) _ refl refl refl, tt)) refl

split : IsFactors split_job 4 split_factors_to_4
unfolding series_ring hidden-the_row-Summand-0 shape-the_row-Summand-0 hidden-the_row-Factor-1 shape-the_row-Factor-1
    hidden-the_row-Expr-2 hidden
split = let factor = is_factor (job_ring split_job) 4 in factors_written split_job 4 split_terms_to_4 tt
    (factor (root 0 1) _ refl refl refl, (factor (root 1 1) _ refl refl refl, tt)) refl

cubic : IsFactors cubic_job 1 cubic_factors
unfolding series_ring hidden-the_row-Summand-0 shape-the_row-Summand-0 hidden-the_row-Factor-1 shape-the_row-Factor-1
    hidden-the_row-Expr-2 hidden
cubic = let factor = is_factor (job_ring cubic_job) 1 in factors_written cubic_job 1 cubic_terms tt
    (factor (root 0 2) _ refl refl refl, (factor (root 1 1) _ refl refl refl, tt)) refl

three_roots : IsFactors three_roots_job 1 three_roots_factors
unfolding series_ring hidden-the_row-Summand-0 shape-the_row-Summand-0 hidden-the_row-Factor-1 shape-the_row-Factor-1
    hidden-the_row-Expr-2 hidden
three_roots = let factor = is_factor (job_ring three_roots_job) 1 in
    factors_written three_roots_job 1 three_roots_terms tt (
      factor (root 0 1) _ refl refl refl,
      (factor (root 1 1) _ refl refl refl, (factor (root 2 1) _ refl refl refl, tt)),
    ) refl

pub returns : goal.returns
returns c = record { quadratic = quadratic; split = split; cubic = cubic; three_roots = three_roots }
