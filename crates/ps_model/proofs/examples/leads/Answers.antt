use Rattle.std.proofs.Common.{◌≡◌, ℕ, ◌+◌, ◌*◌, ◌%◌, List, [], ◌∷◌, map, refl, sym, ◌∙◌, lit<}
use Rattle.ps_model.specs.declared.expr.Expr.TheBlock.{hidden-the_row-Summand-0, shape-the_row-Summand-0}
use Rattle.ps_model.specs.declared.expr.Expr.TheBlock.{hidden-the_row-Factor-1, shape-the_row-Factor-1}
use Rattle.ps_model.specs.declared.expr.Expr.TheBlock.{hidden-the_row-Expr-2}
use denote.Hole.Carrier.{hidden}
use Rattle.ps_model.specs.Keys.{Key}
use Rattle.ps_model.specs.Polynomial.{polynomial}
use Rattle.ps_model.specs.SeriesRing.{SeriesRing, ring}
use Rattle.ps_model.specs.Tree.{formal_degree}
use Rattle.ps_model.specs.Value.{IsValue}
use Rattle.ps_model.specs.Lead.{IsLead, IsLeadShown}
use Rattle.ps_model.specs.Job.{series_ring, job_ring, IsFactors}
use Rattle.ps_model.specs.declared.expr.Expr.{Expr}
use Rattle.ps_model.specs.Examples.{root, key, number, x, y, subtracted, written, ring_modulo, two_y_plus_one, two_job}
use Rattle.ps_model.specs.Examples.{two_terms, two_factors, series_times_square, square_job, two_and_x, square_terms}
use Rattle.ps_model.specs.Examples.{square_factors, y_over_series, quotient_job, three_ones, quotient_factors}
use Rattle.ps_model.proofs.FormalSums.{normal, same_sums}
use Rattle.ps_model.proofs.Evaluated.{evaluated, is_value}
use Rattle.ps_model.proofs.YCoefficients.{y_entries, y_coefficient_listed}
use Rattle.ps_model.proofs.AtOrigin.{unit}
use Rattle.ps_model.proofs.FactorSums.{is_factor, entries_of, factors_listed, factors_written}
use Rattle.ps_model.proofs.Divided.{divided_value}
use Rattle.ps_model.proofs.examples.leads.Goals as goal

-- the lead of a value that is told
lead_of : (S : SeriesRing) (D : ℕ) (e : Expr) (vs ls : List (Key S.variables × ℕ))
    → IsValue S D e (polynomial (ring S) vs)
    → normal (ring S) (y_entries (ring S) (formal_degree e) vs) ≡ normal (ring S) ls
    → IsLead S D e (polynomial (ring S) ls)
lead_of S D e vs ls is same = (
  polynomial (ring S) vs,
  is,
  sym (y_coefficient_listed (ring S) (formal_degree e) vs ∙ same_sums (ring S) _ _ same),
)

two_lead : IsLead (ring_modulo 7) 0 two_y_plus_one (written (ring_modulo 7) ((2, [], 0) ∷ []))
unfolding series_ring hidden-the_row-Summand-0 shape-the_row-Summand-0 hidden-the_row-Factor-1 shape-the_row-Factor-1
    hidden-the_row-Expr-2 hidden
two_lead = lead_of (ring_modulo 7) 0 two_y_plus_one (evaluated (ring_modulo 7) 0 two_y_plus_one) _
    (is_value (ring_modulo 7) 0 two_y_plus_one tt) refl

two_shown : IsLeadShown (ring_modulo 7) two_y_plus_one
unfolding series_ring hidden-the_row-Summand-0 shape-the_row-Summand-0 hidden-the_row-Factor-1 shape-the_row-Factor-1
    hidden-the_row-Expr-2 hidden
two_shown (a, others, (b, rest, two, (c, end, one, end_is, rest_is), a_is), others_is, is) =
    contradiction (is ∙ λ i. (product_is i + others_is i) % 7)
  where
    product_is : a ≡ 2
    product_is = a_is ∙ λ i. (two i * ((rest_is ∙ λ j. (one j * end_is j) % 7) i)) % 7

    contradiction : ◌≡◌ {A = ℕ} 1 2 → ⊥
    contradiction e = cc

two_are : IsFactors two_job 0 two_factors
unfolding series_ring hidden-the_row-Summand-0 shape-the_row-Summand-0 hidden-the_row-Factor-1 shape-the_row-Factor-1
    hidden-the_row-Expr-2 hidden
two_are = let factor = is_factor (job_ring two_job) 0 in
    factors_written two_job 0 two_terms tt (factor (root 3 1) _ refl refl refl, tt) refl

square_lead : IsLead (ring_modulo 7) 2 series_times_square (written (ring_modulo 7) two_and_x)
unfolding series_ring hidden-the_row-Summand-0 shape-the_row-Summand-0 hidden-the_row-Factor-1 shape-the_row-Factor-1
    hidden-the_row-Expr-2 hidden
square_lead = lead_of (ring_modulo 7) 2 series_times_square (evaluated (ring_modulo 7) 2 series_times_square) _
    (is_value (ring_modulo 7) 2 series_times_square tt) refl

square_shown : IsLeadShown (ring_modulo 7) series_times_square
unfolding series_ring hidden-the_row-Summand-0 shape-the_row-Summand-0 hidden-the_row-Factor-1 shape-the_row-Factor-1
    hidden-the_row-Expr-2 hidden
square_shown (
  a,
  others,
  (b, rest, (two, series, two_is, (c, end, unknown, last, series_is), sum_is), square, a_is),
  others_is,
  is,
) =
    unknown

square_are : IsFactors square_job 2 square_factors
unfolding series_ring hidden-the_row-Summand-0 shape-the_row-Summand-0 hidden-the_row-Factor-1 shape-the_row-Factor-1
    hidden-the_row-Expr-2 hidden
square_are = let factor = is_factor (job_ring square_job) 2 in
    factors_written square_job 2 square_terms tt (factor (root 0 2) _ refl refl refl, tt) refl

abbrev S : SeriesRing
S = ring_modulo 7

-- Y + x*Y + x^2*Y
abbrev series : List (Key S.variables × ℕ)
series = (key S.variables [] 1, 1) ∷ (key S.variables (1 ∷ []) 1, 1) ∷ (key S.variables (2 ∷ []) 1, 1) ∷ []

quotient_value : IsValue S 2 y_over_series (polynomial (ring S) series)
unfolding series_ring hidden-the_row-Summand-0 shape-the_row-Summand-0 hidden-the_row-Factor-1 shape-the_row-Factor-1
    hidden-the_row-Expr-2 hidden
quotient_value = divided_value S 2 y (subtracted (number 1) x) series tt tt refl (unit 7 1 1 (lit< tt) refl) refl refl

quotient_lead : IsLead S 2 y_over_series (written S three_ones)
unfolding series_ring hidden-the_row-Summand-0 shape-the_row-Summand-0 hidden-the_row-Factor-1 shape-the_row-Factor-1
    hidden-the_row-Expr-2 hidden
quotient_lead = lead_of S 2 y_over_series series _ quotient_value refl

quotient_are : IsFactors quotient_job 2 quotient_factors
unfolding series_ring hidden-the_row-Summand-0 shape-the_row-Summand-0 hidden-the_row-Factor-1 shape-the_row-Factor-1
    hidden-the_row-Expr-2 hidden
quotient_are = let factor = is_factor (job_ring quotient_job) 2 in factors_listed quotient_job 2 series
    (map (entries_of (job_ring quotient_job).variables) (((1, [], 1) ∷ []) ∷ [])) quotient_value
    (factor (root 0 1) _ refl refl refl, tt) refl

pub returns : goal.returns
returns c = record {
  two = two_lead;
  two_shown = two_shown;
  two_factors = two_are;
  square = square_lead;
  square_shown = square_shown;
  square_factors = square_are;
  quotient = quotient_lead;
  quotient_factors = quotient_are;
}
