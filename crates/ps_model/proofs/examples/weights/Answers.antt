use Rattle.std.proofs.Common.{◌≡◌, [], ◌∷◌, ◌∙◌, refl}
use Rattle.std.specs.Prelude.{codes}
use Rattle.std.specs.Fmt.{digits}
use Rattle.ps_model.specs.declared.expr.Expr.TheBlock.{hidden-the_row-Summand-0, shape-the_row-Summand-0}
use Rattle.ps_model.specs.declared.expr.Expr.TheBlock.{hidden-the_row-Factor-1, shape-the_row-Factor-1}
use Rattle.ps_model.specs.declared.expr.Expr.TheBlock.{hidden-the_row-Expr-2}
use denote.Hole.Carrier.{hidden}
use Rattle.ps_model.specs.SeriesRing.{SeriesRing, ring}
use Rattle.ps_model.specs.Notation.{truncated}
use Rattle.ps_model.specs.Job.{series_ring, job_ring, IsFactors}
use Rattle.ps_model.specs.BlockText.{power_line}
use Rattle.ps_model.specs.Examples.{root, degree_of, two_variables, four_terms, two_of_four, weighted_job}
use Rattle.ps_model.specs.Examples.{weighted_terms}
use Rattle.ps_model.specs.Examples.{weighted_factors}
use Rattle.ps_model.proofs.FormalSums.{same_sums}
use Rattle.ps_model.proofs.Evaluated.{truncated_listed}
use Rattle.ps_model.proofs.FactorSums.{is_factor, factors_written}
use Rattle.ps_model.proofs.WrittenTerms.{two_variables-terms}
use Rattle.ps_model.proofs.examples.weights.Goals as goal

abbrev S : SeriesRing
S = series_ring 7 (1 ∷ 3 ∷ [])

by_weights : degree_of S (2 ∷ 1 ∷ []) 4 ≡ 5
unfolding series_ring
by_weights = refl

least : degree_of (series_ring 7 (0 ∷ 3 ∷ [])) (2 ∷ 1 ∷ 4 ∷ []) 0 ≡ 9
unfolding series_ring
least = refl

up_to_3 : truncated 3 (four_terms S) ≡ two_of_four S
unfolding series_ring
up_to_3 = truncated_listed S 3 _ ∙ same_sums (ring S) _ _ refl

factors : IsFactors weighted_job 1 weighted_factors
unfolding series_ring hidden-the_row-Summand-0 shape-the_row-Summand-0 hidden-the_row-Factor-1 shape-the_row-Factor-1
    hidden-the_row-Expr-2 hidden
factors = let factor = is_factor (job_ring weighted_job) 1 in
    factors_written weighted_job 1 weighted_terms tt (
      factor (root 0 1) _ refl refl refl,
      (factor (root 1 1) _ refl refl refl, (factor (root 2 1) _ refl refl refl, tt)),
    ) refl

abbrev R : SeriesRing
R = series_ring 7 (1 ∷ 2 ∷ [])

the_line : power_line R (codes "x" ∷ codes "z" ∷ []) 2 (two_variables R) 0 ≡ codes "Y^0: 5 + 3*x + 1*x^2 + 2*z\n"
unfolding series_ring digits
the_line = rw (two_variables-terms (1 ∷ 2 ∷ [])) refl

pub returns : goal.returns
returns c = record { degree = by_weights; least = least; truncated = up_to_3; factors = factors; line = the_line }
