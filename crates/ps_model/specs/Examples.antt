-- Trees and jobs of the worked examples.
--     x, y, number c      the variable, Y and a number
--     added a b, subtracted a b, multiplied a b, divided a b, raised a e      a + b, a - b, a * b, a / b, a ^ e
--     one_each      eight weights, each 1
--     ring_modulo m      the ring of these weights, modulo m
--     job m e roots      the job of the tree e modulo m, in one variable
--     root value times      a root
--     key n powers j      the key of n variables with these powers, 0 past their end, and Y^j
--     degree_of S powers j      the degree of this key
--     written S ts      the polynomial whose terms have these coefficients, powers and powers of Y
--     all_written S tss      a list of such polynomials
use Rattle.std.specs.Prelude.{ℕ, true, false, List, [], ◌∷◌, map, replicate}
use Rattle.ps_model.specs.declared.expr.Expr.{Expr, Number, Name, MainVariable, Sum, Product, Power}
use Rattle.ps_model.specs.declared.job.JobData.{JobData}
use Rattle.ps_model.specs.declared.job.Root.{Root}
use Rattle.ps_model.specs.Keys.{Key, powers_of}
use Rattle.ps_model.specs.Polynomial.{polynomial}
use Rattle.ps_model.specs.SeriesRing.{SeriesRing, ring, degree, Poly}
use Rattle.ps_model.specs.Job.{series_ring, job_ring}

abbrev pub x : Expr
x = Name 0

abbrev pub y : Expr
y = MainVariable

abbrev pub number : ℕ → Expr
number c = Number c

abbrev pub added : Expr → Expr → Expr
added a b = Sum (record { minus = false; of = a } ∷ record { minus = false; of = b } ∷ [])

abbrev pub subtracted : Expr → Expr → Expr
subtracted a b = Sum (record { minus = false; of = a } ∷ record { minus = true; of = b } ∷ [])

abbrev pub multiplied : Expr → Expr → Expr
multiplied a b = Product (record { divide = false; of = a } ∷ record { divide = false; of = b } ∷ [])

abbrev pub divided : Expr → Expr → Expr
divided a b = Product (record { divide = false; of = a } ∷ record { divide = true; of = b } ∷ [])

abbrev pub raised : Expr → ℕ → Expr
raised a e = Power a e

abbrev pub one_each : List ℕ
one_each = replicate 8 1

abbrev pub ring_modulo : ℕ → SeriesRing
ring_modulo m = series_ring m one_each

abbrev pub job : ℕ → Expr → List Root → JobData
job m e roots = record { modulus = m; n = 1; weights = one_each; expr = e; roots = roots }

abbrev pub root : ℕ → ℕ → Root
root value times = record { value = value; times = times }

abbrev pub key : (n : ℕ) → List ℕ → ℕ → Key n
key n powers j = record { powers = powers_of n powers; y = j }

abbrev pub degree_of : SeriesRing → List ℕ → ℕ → ℕ
degree_of S powers j = degree S (key S.variables powers j)

abbrev pub written : (S : SeriesRing) → List (ℕ × List ℕ × ℕ) → Poly S
written S ts = polynomial (ring S) (map (λ t. (key S.variables t.1 t.2, t.0)) ts)

abbrev pub all_written : (S : SeriesRing) → List (List (ℕ × List ℕ × ℕ)) → List (Poly S)
all_written S tss = map (written S) tss

-- Y^2 + x*Y + 1
abbrev pub quadratic : Expr
quadratic = Sum (record { minus = false; of = raised y 2 } ∷ record { minus = false; of = multiplied x y }
    ∷ record { minus = false; of = number 1 } ∷ [])

-- Y + 1
abbrev pub y_plus_one : Expr
y_plus_one = added y (number 1)

-- (((Y^255)^255)^255)^255
abbrev pub tower : Expr
tower = raised (raised (raised (raised y 255) 255) 255) 255

-- Y * Y / 2 * Y
abbrev pub halved_cube : Expr
halved_cube = Product (record { divide = false; of = y } ∷ record { divide = false; of = y }
    ∷ record { divide = true; of = number 2 } ∷ record { divide = false; of = y } ∷ [])

-- Y / (1 - x)
abbrev pub y_over_series : Expr
y_over_series = divided y (subtracted (number 1) x)

-- Y + 1 / (1 / x)
abbrev pub double_division : Expr
double_division = added y (divided (number 1) (divided (number 1) x))

-- a sum and a product of one member
abbrev pub lone_summand : Expr
lone_summand = Sum (record { minus = false; of = y } ∷ [])

abbrev pub lone_minus : Expr
lone_minus = Sum (record { minus = true; of = y } ∷ [])

abbrev pub lone_factor : Expr
lone_factor = Product (record { divide = false; of = y } ∷ [])

-- a product whose first factor divides
abbrev pub divided_first : Expr
divided_first = Product (record { divide = true; of = number 2 } ∷ record { divide = false; of = y } ∷ [])

-- 2*Y^2
abbrev pub two_y_squared : Expr
two_y_squared = multiplied (number 2) (raised y 2)

-- Y^3 - Y^3 + Y
abbrev pub vanishing_cube : Expr
vanishing_cube = Sum (record { minus = false; of = raised y 3 } ∷ record { minus = true; of = raised y 3 }
    ∷ record { minus = false; of = y } ∷ [])

-- (2*Y^2 + x) / 2
abbrev pub halved : Expr
halved = divided (added two_y_squared x) (number 2)

-- Y + 1 / Y
abbrev pub one_over_y : Expr
one_over_y = added y (divided (number 1) y)

-- Y + 1 / x
abbrev pub one_over_x : Expr
one_over_x = added y (divided (number 1) x)

-- Y + 1 / (2 + x)
abbrev pub one_over_two_plus_x : Expr
one_over_two_plus_x = added y (divided (number 1) (added (number 2) x))

-- Y + 1 / x + 1 / Y
abbrev pub over_x_and_y : Expr
over_x_and_y = Sum (record { minus = false; of = y } ∷ record { minus = false; of = divided (number 1) x }
    ∷ record { minus = false; of = divided (number 1) y } ∷ [])

-- Y + (1 / x)^0
abbrev pub power_zero_of_quotient : Expr
power_zero_of_quotient = added y (raised (divided (number 1) x) 0)

-- Y^4 + x
abbrev pub fourth_power_plus_x : Expr
fourth_power_plus_x = added (raised y 4) x

-- Y^2 + x
abbrev pub square_plus_x : Expr
square_plus_x = added (raised y 2) x

-- Y^2 + x*Y - 1
abbrev pub minus_one : Expr
minus_one = Sum (record { minus = false; of = raised y 2 } ∷ record { minus = false; of = multiplied x y }
    ∷ record { minus = true; of = number 1 } ∷ [])

-- Y^2 + 1
abbrev pub square_plus_one : Expr
square_plus_one = added (raised y 2) (number 1)

-- Y^2 + Y
abbrev pub square_plus_y : Expr
square_plus_y = added (raised y 2) y

-- Y^2 - Y + x
abbrev pub split : Expr
split = Sum (record { minus = false; of = raised y 2 } ∷ record { minus = true; of = y }
    ∷ record { minus = false; of = x } ∷ [])

-- 2 * x * 3 * x
abbrev pub two_x_three_x : Expr
two_x_three_x = Product (record { divide = false; of = number 2 } ∷ record { divide = false; of = x }
    ∷ record { divide = false; of = number 3 } ∷ record { divide = false; of = x } ∷ [])

-- 1 / (1 - x)
abbrev pub geometric : Expr
geometric = divided (number 1) (subtracted (number 1) x)

-- the job of Y^2 - Y + x modulo 15, whose roots are 0 and 1
abbrev pub split_job : JobData
split_job = job 15 split (root 0 1 ∷ root 1 1 ∷ [])

-- its factors up to degree 1: Y + 14*x and Y + 14 + x
abbrev pub split_factors : List (Poly (job_ring split_job))
split_factors = written (job_ring split_job) ((1, [], 1) ∷ (14, 1 ∷ [], 0) ∷ [])
    ∷ written (job_ring split_job) ((1, [], 1) ∷ (14, [], 0) ∷ (1, 1 ∷ [], 0) ∷ []) ∷ []

-- the job of (Y^2 + x) * (Y - 1) modulo 7, whose roots are 0, twice, and 1
abbrev pub double_root_job : JobData
double_root_job = job 7 (multiplied (added (raised y 2) x) (subtracted y (number 1))) (root 0 2 ∷ root 1 1 ∷ [])

-- its factors from degree 1 on: Y^2 + x and Y + 6
abbrev pub double_root_factors : List (Poly (job_ring double_root_job))
double_root_factors = written (job_ring double_root_job) ((1, [], 2) ∷ (1, 1 ∷ [], 0) ∷ [])
    ∷ written (job_ring double_root_job) ((1, [], 1) ∷ (6, [], 0) ∷ []) ∷ []

-- and up to degree 0: Y^2 and Y + 6
abbrev pub double_root_start : List (Poly (job_ring double_root_job))
double_root_start = written (job_ring double_root_job) ((1, [], 2) ∷ [])
    ∷ written (job_ring double_root_job) ((1, [], 1) ∷ (6, [], 0) ∷ []) ∷ []

-- 5 + 3*x + 2*z + x^2 + 4*x*z + 6*z^2 + x*Y, not in order
abbrev pub two_variables : (S : SeriesRing) → Poly S
two_variables S = written S ((6, 0 ∷ 2 ∷ [], 0) ∷ (1, 1 ∷ [], 1) ∷ (3, 1 ∷ [], 0) ∷ (1, 2 ∷ [], 0) ∷ (5, [], 0)
    ∷ (4, 1 ∷ 1 ∷ [], 0) ∷ (2, 0 ∷ 1 ∷ [], 0) ∷ [])

-- x^3 + x*z + z*Y + z^2, and what of it has a degree of at most 3 where z has weight 3
abbrev pub four_terms : (S : SeriesRing) → Poly S
four_terms S = written S ((1, 3 ∷ [], 0) ∷ (1, 1 ∷ 1 ∷ [], 0) ∷ (1, 0 ∷ 1 ∷ [], 1) ∷ (1, 0 ∷ 2 ∷ [], 0) ∷ [])

abbrev pub two_of_four : (S : SeriesRing) → Poly S
two_of_four S = written S ((1, 3 ∷ [], 0) ∷ (1, 0 ∷ 1 ∷ [], 1) ∷ [])

-- the job of Y^2 + x*Y + 1 modulo 101, whose roots are 10 and -10, and its factors up to degree 2
abbrev pub quadratic_job : JobData
quadratic_job = job 101 quadratic (root 10 1 ∷ root 91 1 ∷ [])

abbrev pub quadratic_terms : List (List (ℕ × List ℕ × ℕ))
quadratic_terms = ((1, [], 1) ∷ (91, [], 0) ∷ (51, 1 ∷ [], 0) ∷ (77, 2 ∷ [], 0) ∷ [])
    ∷ ((1, [], 1) ∷ (10, [], 0) ∷ (51, 1 ∷ [], 0) ∷ (24, 2 ∷ [], 0) ∷ []) ∷ []

abbrev pub quadratic_factors : List (Poly (job_ring quadratic_job))
quadratic_factors = all_written (job_ring quadratic_job) quadratic_terms

-- the factors of Y^2 - Y + x modulo 15 up to degree 4
abbrev pub split_terms_to_4 : List (List (ℕ × List ℕ × ℕ))
split_terms_to_4 = ((1, [], 1) ∷ (14, 1 ∷ [], 0) ∷ (14, 2 ∷ [], 0) ∷ (13, 3 ∷ [], 0) ∷ (10, 4 ∷ [], 0) ∷ [])
    ∷ ((1, [], 1) ∷ (14, [], 0) ∷ (1, 1 ∷ [], 0) ∷ (1, 2 ∷ [], 0) ∷ (2, 3 ∷ [], 0)
    ∷ (5, 4 ∷ [], 0) ∷ []) ∷ []

abbrev pub split_factors_to_4 : List (Poly (job_ring split_job))
split_factors_to_4 = all_written (job_ring split_job) split_terms_to_4

-- the job of Y^2 * (Y - 1) + x modulo 7, whose roots are 0, twice, and 1, and its factors up to degree 1
abbrev pub cubic_job : JobData
cubic_job = job 7 (added (multiplied (raised y 2) (subtracted y (number 1))) x) (root 0 2 ∷ root 1 1 ∷ [])

abbrev pub cubic_terms : List (List (ℕ × List ℕ × ℕ))
cubic_terms = ((1, [], 2) ∷ (6, 1 ∷ [], 1) ∷ (6, 1 ∷ [], 0) ∷ [])
    ∷ ((1, [], 1) ∷ (6, [], 0) ∷ (1, 1 ∷ [], 0) ∷ []) ∷ []

abbrev pub cubic_factors : List (Poly (job_ring cubic_job))
cubic_factors = all_written (job_ring cubic_job) cubic_terms

-- the job of Y * (Y - 1) * (Y - 2) + x + z*Y modulo 101, in two variables, and its factors up to degree 1
abbrev pub three_roots_tree : Expr
three_roots_tree = Sum (record {
  minus = false;
  of = Product (record { divide = false; of = y } ∷ record { divide = false; of = subtracted y (number 1) }
      ∷ record { divide = false; of = subtracted y (number 2) } ∷ []);
} ∷ record { minus = false; of = x } ∷ record { minus = false; of = multiplied (Name 1) y } ∷ [])

abbrev pub three_roots_job : JobData
three_roots_job = record {
  modulus = 101;
  n = 2;
  weights = one_each;
  expr = three_roots_tree;
  roots = root 0 1 ∷ root 1 1 ∷ root 2 1 ∷ [];
}

abbrev pub three_roots_terms : List (List (ℕ × List ℕ × ℕ))
three_roots_terms = ((1, [], 1) ∷ (51, 1 ∷ [], 0) ∷ [])
    ∷ ((1, [], 1) ∷ (100, [], 0) ∷ (100, 1 ∷ [], 0) ∷ (100, 0 ∷ 1 ∷ [], 0) ∷ [])
    ∷ ((1, [], 1) ∷ (99, [], 0) ∷ (51, 1 ∷ [], 0) ∷ (1, 0 ∷ 1 ∷ [], 0) ∷ []) ∷ []

abbrev pub three_roots_factors : List (Poly (job_ring three_roots_job))
three_roots_factors = all_written (job_ring three_roots_job) three_roots_terms

-- the same where z has weight 2: up to degree 1 no term with z is left
abbrev pub weighted_job : JobData
weighted_job = record {
  modulus = 101;
  n = 2;
  weights = 1 ∷ 2 ∷ replicate 6 1;
  expr = three_roots_tree;
  roots = root 0 1 ∷ root 1 1 ∷ root 2 1 ∷ [];
}

abbrev pub weighted_terms : List (List (ℕ × List ℕ × ℕ))
weighted_terms = ((1, [], 1) ∷ (51, 1 ∷ [], 0) ∷ [])
    ∷ ((1, [], 1) ∷ (100, [], 0) ∷ (100, 1 ∷ [], 0) ∷ [])
    ∷ ((1, [], 1) ∷ (99, [], 0) ∷ (51, 1 ∷ [], 0) ∷ []) ∷ []

abbrev pub weighted_factors : List (Poly (job_ring weighted_job))
weighted_factors = all_written (job_ring weighted_job) weighted_terms

-- the job of Y^2 - 1 / (1 - x) modulo 7, whose roots are 1 and -1, and its factors up to degree 2
abbrev pub geometric_job : JobData
geometric_job = job 7 (subtracted (raised y 2) geometric) (root 1 1 ∷ root 6 1 ∷ [])

abbrev pub geometric_terms : List (List (ℕ × List ℕ × ℕ))
geometric_terms = ((1, [], 1) ∷ (6, [], 0) ∷ (3, 1 ∷ [], 0) ∷ (4, 2 ∷ [], 0) ∷ [])
    ∷ ((1, [], 1) ∷ (1, [], 0) ∷ (4, 1 ∷ [], 0) ∷ (3, 2 ∷ [], 0) ∷ []) ∷ []

abbrev pub geometric_factors : List (Poly (job_ring geometric_job))
geometric_factors = all_written (job_ring geometric_job) geometric_terms

-- the job of (2*Y^2 + x) / 2 modulo 7, whose root is 0, twice, and its factor from degree 1 on
abbrev pub halved_job : JobData
halved_job = job 7 halved (root 0 2 ∷ [])

abbrev pub halved_terms : List (List (ℕ × List ℕ × ℕ))
halved_terms = ((1, [], 2) ∷ (4, 1 ∷ [], 0) ∷ []) ∷ []

abbrev pub halved_factors : List (Poly (job_ring halved_job))
halved_factors = all_written (job_ring halved_job) halved_terms

-- 3*Y + x
abbrev pub three_y_plus_x : Expr
three_y_plus_x = added (multiplied (number 3) y) x

-- 2*Y + 1
abbrev pub two_y_plus_one : Expr
two_y_plus_one = added (multiplied (number 2) y) (number 1)

-- (2 + x)*Y^2 + x
abbrev pub series_times_square : Expr
series_times_square = added (multiplied (added (number 2) x) (raised y 2)) x

-- the job of 2*Y + 1 modulo 7, whose root is 3, and its factor Y + 4
abbrev pub two_job : JobData
two_job = job 7 two_y_plus_one (root 3 1 ∷ [])

abbrev pub two_terms : List (List (ℕ × List ℕ × ℕ))
two_terms = ((1, [], 1) ∷ (4, [], 0) ∷ []) ∷ []

abbrev pub two_factors : List (Poly (job_ring two_job))
two_factors = all_written (job_ring two_job) two_terms

-- the job of (2 + x)*Y^2 + x modulo 7, whose root is 0, twice; its lead, and its factor up to degree 2
abbrev pub square_job : JobData
square_job = job 7 series_times_square (root 0 2 ∷ [])

abbrev pub two_and_x : List (ℕ × List ℕ × ℕ)
two_and_x = (2, [], 0) ∷ (1, 1 ∷ [], 0) ∷ []

abbrev pub square_terms : List (List (ℕ × List ℕ × ℕ))
square_terms = ((1, [], 2) ∷ (4, 1 ∷ [], 0) ∷ (5, 2 ∷ [], 0) ∷ []) ∷ []

abbrev pub square_factors : List (Poly (job_ring square_job))
square_factors = all_written (job_ring square_job) square_terms

-- the job of Y / (1 - x) modulo 7, whose root is 0; its lead up to degree 2, and its factor
abbrev pub quotient_job : JobData
quotient_job = job 7 y_over_series (root 0 1 ∷ [])

abbrev pub three_ones : List (ℕ × List ℕ × ℕ)
three_ones = (1, [], 0) ∷ (1, 1 ∷ [], 0) ∷ (1, 2 ∷ [], 0) ∷ []

abbrev pub quotient_factors : List (Poly (job_ring quotient_job))
quotient_factors = all_written (job_ring quotient_job) (((1, [], 1) ∷ []) ∷ [])
