use Rattle.std.proofs.Common.{◌≡◌, ℕ, ◌<◌, List, [], ◌∷◌, refl, lit<, lit≤}
use Rattle.ps_model.specs.declared.expr.Expr.TheBlock.{hidden-the_row-Summand-0, shape-the_row-Summand-0}
use Rattle.ps_model.specs.declared.expr.Expr.TheBlock.{hidden-the_row-Factor-1, shape-the_row-Factor-1}
use Rattle.ps_model.specs.declared.expr.Expr.TheBlock.{hidden-the_row-Expr-2}
use denote.Hole.Carrier.{hidden}
use Rattle.ps_model.specs.Keys.{Key}
use Rattle.ps_model.specs.Polynomial.{polynomial}
use Rattle.ps_model.specs.SeriesRing.{SeriesRing, ring, Poly}
use Rattle.std.proofs.lemmas.List.Elements.{All-cons, All-nil}
use Rattle.ps_model.specs.declared.job.Root.{Root}
use Rattle.ps_model.specs.Job.{series_ring, job_ring, IsFactors}
use Rattle.ps_model.specs.AcceptedJob.{IsLawfulJob}
use Rattle.ps_model.specs.Examples.{root, key, split, split_job, split_factors, double_root_job}
use Rattle.ps_model.specs.Examples.{double_root_factors, double_root_start}
use Rattle.ps_model.proofs.Evaluated.{evaluated, is_value}
use Rattle.ps_model.proofs.FactorSums.{is_factor, product_is}
use Rattle.ps_model.proofs.JobFactors.{same_factors}
use Rattle.ps_model.proofs.ValidJobs.{split_valid}
use Rattle.ps_model.proofs.examples.factors.Goals as goal

abbrev S : SeriesRing
S = job_ring split_job

abbrev first : List (Key S.variables × ℕ)
first = (key S.variables [] 1, 1) ∷ (key S.variables (1 ∷ []) 0, 14) ∷ []

abbrev second : List (Key S.variables × ℕ)
second = (key S.variables [] 1, 1) ∷ (key S.variables [] 0, 14) ∷ (key S.variables (1 ∷ []) 0, 1) ∷ []

split_is : IsFactors split_job 1 split_factors
unfolding series_ring hidden-the_row-Summand-0 shape-the_row-Summand-0 hidden-the_row-Factor-1 shape-the_row-Factor-1
    hidden-the_row-Expr-2 hidden
split_is = record {
  value = polynomial (ring S) (evaluated S 1 split);
  is_value = is_value S 1 split tt;
  are_factors = record {
    each = (is_factor S 1 (root 0 1) first refl refl refl, (is_factor S 1 (root 1 1) second refl refl refl, tt));
    product_is = product_is S 1 2 (first ∷ second ∷ []) (evaluated S 1 split) refl;
  };
}

split_lawful : IsLawfulJob split_job
unfolding series_ring hidden-the_row-Summand-0 shape-the_row-Summand-0 hidden-the_row-Factor-1 shape-the_row-Factor-1
    hidden-the_row-Expr-2 hidden
split_lawful = record {
  modulus = lit≤ tt;
  tree = (tt, ((tt, lit≤ tt), (tt, (lit< tt, tt))));
  residues = All-cons (λ (r : Root). r.value < 15) (root 0 1) (root 1 1 ∷ []) (lit< tt)
      (All-cons (λ (r : Root). r.value < 15) (root 1 1) [] (lit< tt) (All-nil (λ (r : Root). r.value < 15)));
  valid = split_valid;
}

only : (fs : List (Poly S)) → IsFactors split_job 1 fs → fs ≡ split_factors
only fs is = same_factors split_job split_lawful 1 fs split_factors is split_is

abbrev R : SeriesRing
R = job_ring double_root_job

abbrev square : List (Key R.variables × ℕ)
square = (key R.variables [] 2, 1) ∷ []

abbrev square_and_x : List (Key R.variables × ℕ)
square_and_x = (key R.variables [] 2, 1) ∷ (key R.variables (1 ∷ []) 0, 1) ∷ []

abbrev linear : List (Key R.variables × ℕ)
linear = (key R.variables [] 1, 1) ∷ (key R.variables [] 0, 6) ∷ []

double : IsFactors double_root_job 3 double_root_factors
unfolding series_ring hidden-the_row-Summand-0 shape-the_row-Summand-0 hidden-the_row-Factor-1 shape-the_row-Factor-1
    hidden-the_row-Expr-2 hidden
double = record {
  value = polynomial (ring R) (evaluated R 3 double_root_job.expr);
  is_value = is_value R 3 double_root_job.expr tt;
  are_factors = record {
    each = (
      is_factor R 3 (root 0 2) square_and_x refl refl refl,
      (is_factor R 3 (root 1 1) linear refl refl refl, tt),
    );
    product_is = product_is R 3 3 (square_and_x ∷ linear ∷ []) (evaluated R 3 double_root_job.expr) refl;
  };
}

start : IsFactors double_root_job 0 double_root_start
unfolding series_ring hidden-the_row-Summand-0 shape-the_row-Summand-0 hidden-the_row-Factor-1 shape-the_row-Factor-1
    hidden-the_row-Expr-2 hidden
start = record {
  value = polynomial (ring R) (evaluated R 0 double_root_job.expr);
  is_value = is_value R 0 double_root_job.expr tt;
  are_factors = record {
    each = (
      is_factor R 0 (root 0 2) square refl refl refl,
      (is_factor R 0 (root 1 1) linear refl refl refl, tt),
    );
    product_is = product_is R 0 3 (square ∷ linear ∷ []) (evaluated R 0 double_root_job.expr) refl;
  };
}

pub returns : goal.returns
returns c = record { split = split_is; only = only; double = double; start = start }
