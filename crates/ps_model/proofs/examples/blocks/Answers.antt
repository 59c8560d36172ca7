use Rattle.std.proofs.Common.{◌≡◌, ℕ, ◌++◌, List, [], ◌∷◌, refl, lit<}
use Rattle.std.specs.Prelude.{codes, Some, None}
use Rattle.std.specs.Fmt.{digits}
use Rattle.ps_model.specs.Keys.{Key}
use Rattle.ps_model.specs.Polynomial.{polynomial, terms}
use Rattle.ps_model.specs.SeriesRing.{SeriesRing, ring}
use Rattle.ps_model.specs.Job.{series_ring, job_ring}
use Rattle.ps_model.specs.Examples.{key, split_job, split_factors, two_variables, double_root_job}
use Rattle.ps_model.specs.Examples.{one_each, ring_modulo, double_root_factors, double_root_start, quadratic_job}
use Rattle.ps_model.specs.Examples.{quadratic_factors}
use Rattle.ps_model.specs.Examples.{written, square_job, two_and_x, square_factors}
use Rattle.ps_model.specs.BlockText.{power_line, block_text}
use Rattle.ps_model.proofs.FormalSums.{terms_are}
use Rattle.ps_model.proofs.WrittenTerms.{two_variables-terms}
use Rattle.ps_model.proofs.examples.blocks.Goals as goal

abbrev S : SeriesRing
S = job_ring split_job

abbrev first : List (Key S.variables × ℕ)
first = (key S.variables [] 1, 1) ∷ (key S.variables (1 ∷ []) 0, 14) ∷ []

abbrev second : List (Key S.variables × ℕ)
second = (key S.variables [] 1, 1) ∷ (key S.variables [] 0, 14) ∷ (key S.variables (1 ∷ []) 0, 1) ∷ []

first_terms : terms (ring S) (polynomial (ring S) first) ≡ (key S.variables [] 1, 1)
    ∷ (key S.variables (1 ∷ []) 0, 14) ∷ []
unfolding series_ring
first_terms = terms_are (ring S) first _ refl tt (lit< tt, lit< tt, (lit< tt, lit< tt, tt))

second_terms : terms (ring S) (polynomial (ring S) second) ≡ (key S.variables [] 1, 1)
    ∷ (key S.variables (1 ∷ []) 0, 1) ∷ (key S.variables [] 0, 14) ∷ []
unfolding series_ring
second_terms = terms_are (ring S) second _ refl tt (lit< tt, lit< tt, (lit< tt, lit< tt, (lit< tt, lit< tt, tt)))

the_block : block_text S (codes "x" ∷ []) None split_job.roots split_factors 1
    ≡ codes "precision 1\n" ++ codes "factor 1 root 0 times 1\n" ++ codes "Y^1: 1\n" ++ codes "Y^0: 14*x\n"
    ++ codes "factor 2 root 1 times 1\n" ++ codes "Y^1: 1\n" ++ codes "Y^0: 14 + 1*x\n"
unfolding series_ring digits
the_block = rw (first_terms, second_terms) refl

abbrev Q : SeriesRing
Q = job_ring double_root_job

abbrev square : List (Key Q.variables × ℕ)
square = (key Q.variables [] 2, 1) ∷ []

abbrev square_and_x : List (Key Q.variables × ℕ)
square_and_x = (key Q.variables [] 2, 1) ∷ (key Q.variables (1 ∷ []) 0, 1) ∷ []

abbrev linear : List (Key Q.variables × ℕ)
linear = (key Q.variables [] 1, 1) ∷ (key Q.variables [] 0, 6) ∷ []

square_terms : terms (ring Q) (polynomial (ring Q) square) ≡ square
unfolding series_ring
square_terms = terms_are (ring Q) square square refl tt (lit< tt, lit< tt, tt)

square_and_x_terms : terms (ring Q) (polynomial (ring Q) square_and_x) ≡ square_and_x
unfolding series_ring
square_and_x_terms = terms_are (ring Q) square_and_x square_and_x refl tt (lit< tt, lit< tt, (lit< tt, lit< tt, tt))

linear_terms : terms (ring Q) (polynomial (ring Q) linear) ≡ linear
unfolding series_ring
linear_terms = terms_are (ring Q) linear linear refl tt (lit< tt, lit< tt, (lit< tt, lit< tt, tt))

double : block_text Q (codes "x" ∷ []) None double_root_job.roots double_root_factors 3 ≡ codes "precision 3\n"
    ++ codes "factor 1 root 0 times 2\n" ++ codes "Y^2: 1\n" ++ codes "Y^1: 0\n" ++ codes "Y^0: 1*x\n"
    ++ codes "factor 2 root 1 times 1\n" ++ codes "Y^1: 1\n" ++ codes "Y^0: 6\n"
unfolding series_ring digits
double = rw (square_and_x_terms, linear_terms) refl

start : block_text Q (codes "x" ∷ []) None double_root_job.roots double_root_start 0 ≡ codes "precision 0\n"
    ++ codes "factor 1 root 0 times 2\n" ++ codes "Y^2: 1\n" ++ codes "Y^1: 0\n" ++ codes "Y^0: 0\n"
    ++ codes "factor 2 root 1 times 1\n" ++ codes "Y^1: 1\n" ++ codes "Y^0: 6\n"
unfolding series_ring digits
start = rw (square_terms, linear_terms) refl

abbrev P : SeriesRing
P = job_ring quadratic_job

abbrev near_ten : List (Key P.variables × ℕ)
near_ten = (key P.variables [] 1, 1) ∷ (key P.variables [] 0, 91) ∷ (key P.variables (1 ∷ []) 0, 51)
    ∷ (key P.variables (2 ∷ []) 0, 77) ∷ []

abbrev near_ninety_one : List (Key P.variables × ℕ)
near_ninety_one = (key P.variables [] 1, 1) ∷ (key P.variables [] 0, 10) ∷ (key P.variables (1 ∷ []) 0, 51)
    ∷ (key P.variables (2 ∷ []) 0, 24) ∷ []

near_ten_terms : terms (ring P) (polynomial (ring P) near_ten) ≡ (key P.variables [] 1, 1)
    ∷ (key P.variables (2 ∷ []) 0, 77) ∷ (key P.variables (1 ∷ []) 0, 51) ∷ (key P.variables [] 0, 91) ∷ []
unfolding series_ring
near_ten_terms = terms_are (ring P) near_ten _ refl tt
    (lit< tt, lit< tt, (lit< tt, lit< tt, (lit< tt, lit< tt, (lit< tt, lit< tt, tt))))

near_ninety_one_terms : terms (ring P) (polynomial (ring P) near_ninety_one) ≡ (key P.variables [] 1, 1)
    ∷ (key P.variables (2 ∷ []) 0, 24) ∷ (key P.variables (1 ∷ []) 0, 51) ∷ (key P.variables [] 0, 10) ∷ []
unfolding series_ring
near_ninety_one_terms = terms_are (ring P) near_ninety_one _ refl tt
    (lit< tt, lit< tt, (lit< tt, lit< tt, (lit< tt, lit< tt, (lit< tt, lit< tt, tt))))

quadratic_block : block_text P (codes "x" ∷ []) None quadratic_job.roots quadratic_factors 2 ≡ codes "precision 2\n"
    ++ codes "factor 1 root 10 times 1\n" ++ codes "Y^1: 1\n" ++ codes "Y^0: 91 + 51*x + 77*x^2\n"
    ++ codes "factor 2 root 91 times 1\n" ++ codes "Y^1: 1\n" ++ codes "Y^0: 10 + 51*x + 24*x^2\n"
unfolding series_ring digits
quadratic_block = rw (near_ten_terms, near_ninety_one_terms) refl

abbrev L : SeriesRing
L = job_ring square_job

abbrev lead : List (Key L.variables × ℕ)
lead = (key L.variables [] 0, 2) ∷ (key L.variables (1 ∷ []) 0, 1) ∷ []

abbrev split_square : List (Key L.variables × ℕ)
split_square = (key L.variables [] 2, 1) ∷ (key L.variables (1 ∷ []) 0, 4) ∷ (key L.variables (2 ∷ []) 0, 5) ∷ []

lead_terms : terms (ring L) (polynomial (ring L) lead) ≡ (key L.variables (1 ∷ []) 0, 1) ∷ (key L.variables [] 0, 2)
    ∷ []
unfolding series_ring
lead_terms = terms_are (ring L) lead _ refl tt (lit< tt, lit< tt, (lit< tt, lit< tt, tt))

split_square_terms : terms (ring L) (polynomial (ring L) split_square) ≡ (key L.variables [] 2, 1)
    ∷ (key L.variables (2 ∷ []) 0, 5) ∷ (key L.variables (1 ∷ []) 0, 4) ∷ []
unfolding series_ring
split_square_terms = terms_are (ring L) split_square _ refl tt
    (lit< tt, lit< tt, (lit< tt, lit< tt, (lit< tt, lit< tt, tt)))

with_lead : block_text L (codes "x" ∷ []) (Some (written L two_and_x)) square_job.roots square_factors 2
    ≡ codes "precision 2\n" ++ codes "lead: 2 + 1*x\n" ++ codes "factor 1 root 0 times 2\n" ++ codes "Y^2: 1\n"
    ++ codes "Y^1: 0\n" ++ codes "Y^0: 4*x + 5*x^2\n"
unfolding series_ring digits
with_lead = rw (lead_terms, split_square_terms) refl

abbrev R : SeriesRing
R = ring_modulo 7

the_line : power_line R (codes "x" ∷ codes "z" ∷ []) 2 (two_variables R) 0
    ≡ codes "Y^0: 5 + 3*x + 2*z + 1*x^2 + 4*x*z + 6*z^2\n"
unfolding series_ring digits
the_line = rw (two_variables-terms one_each) refl

pub returns : goal.returns
returns c = record {
  split = the_block;
  double = double;
  start = start;
  quadratic = quadratic_block;
  lead = with_lead;
  line = the_line;
}
