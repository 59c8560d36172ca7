-- The job that is made of a number of 64 bits, the seed.
--     next state      the state behind a draw
--     state_behind seed n      the state behind n draws, the seed behind none
--     drawn state bound      what is drawn below the bound, where this is the state behind the draw
--     draw seed n bound      the draw at place n, from 0
--     times_of seed i      the multiplicity of the root i, 1 or 2: the draws 0 to 3
--     first_of seed j, second_of seed j      the coefficients of x and y at Y^j: the draws 4 + 2*j and 5 + 2*j
--     degree_by k1 .. k4      the sum of the multiplicities, the formal degree in Y
--     roots_by k1 .. k4      the roots 0, 1, 2 and 3 with these multiplicities
--     less c      Y - c
--     powers_by k1 .. k4      Y^k1*(Y-1)^k2*(Y-2)^k3*(Y-3)^k4
--     term_by a b j      (a*x + b*y)*Y^j
--     terms_by a b n      the summands (a 0*x + b 0*y)*Y^0 to (a (n-1)*x + b (n-1)*y)*Y^(n-1); none for 0
--     tree_by k1 .. k4 a b      the powers, and as many terms as their degree
--     job_by k1 .. k4 a b      the job of this tree and these roots in x and y modulo the prime 1000003
--     demo_job seed      that of the numbers drawn
use Rattle.std.specs.Prelude.{ℕ, suc, zero, ◌+◌, ◌*◌, ◌/◌, ◌%◌, ◌^◌, false, List, [], ◌∷◌, map, codes}
use Rattle.std.specs.List.{range_with_len}
use Rattle.ps_model.specs.declared.expr.Expr.{Expr, Number, Name, MainVariable, Sum, Product, Power}
use Rattle.ps_model.specs.declared.expr.Factor.{Factor}
use Rattle.ps_model.specs.declared.expr.Summand.{Summand}
use Rattle.ps_model.specs.declared.job.JobData.{JobData}
use Rattle.ps_model.specs.declared.job.Root.{Root}
use Rattle.ps_model.specs.Examples.{added, multiplied, one_each, root, subtracted}

abbrev pub next : ℕ → ℕ
next state = (state * 6364136223846793005 + 1442695040888963407) % 2 ^ 64

unfoldable pub state_behind : ℕ → ℕ → ℕ
state_behind seed zero = seed
state_behind seed (suc n) = next (state_behind seed n)

-- a shift by 33 bits
abbrev pub drawn : ℕ → ℕ → ℕ
drawn state bound = state / 2 ^ 33 % bound

abbrev pub draw : ℕ → ℕ → ℕ → ℕ
draw seed n bound = drawn (state_behind seed (suc n)) bound

abbrev pub prime : ℕ
prime = 1000003

abbrev pub times_of : ℕ → ℕ → ℕ
times_of seed i = 1 + draw seed i 2

abbrev pub first_of : ℕ → ℕ → ℕ
first_of seed j = draw seed (4 + 2 * j) prime

abbrev pub second_of : ℕ → ℕ → ℕ
second_of seed j = draw seed (5 + 2 * j) prime

abbrev pub less : ℕ → Expr
less c = subtracted MainVariable (Number c)

abbrev pub factor : Expr → Factor
factor e = record { divide = false; of = e }

abbrev pub summand : Expr → Summand
summand e = record { minus = false; of = e }

abbrev pub term_by : ℕ → ℕ → ℕ → Expr
term_by a b j =
    multiplied (added (multiplied (Number a) (Name 0)) (multiplied (Number b) (Name 1))) (Power MainVariable j)

abbrev pub terms_by : (ℕ → ℕ) → (ℕ → ℕ) → ℕ → List Summand
terms_by a b n = map (λ j. summand (term_by (a j) (b j) j)) (range_with_len 0 n)

module _ (k1 k2 k3 k4 : ℕ) where
  abbrev pub degree_by : ℕ
  degree_by = k1 + k2 + k3 + k4

  abbrev pub roots_by : List Root
  roots_by = root 0 k1 ∷ root 1 k2 ∷ root 2 k3 ∷ root 3 k4 ∷ []

  abbrev pub powers_by : Expr
  powers_by = Product (factor (Power MainVariable k1) ∷ factor (Power (less 1) k2) ∷ factor (Power (less 2) k3)
      ∷ factor (Power (less 3) k4) ∷ [])

  module _ (a b : ℕ → ℕ) where
    abbrev pub tree_by : Expr
    tree_by = Sum (summand powers_by ∷ terms_by a b degree_by)

    abbrev pub job_by : JobData
    job_by = record { modulus = prime; n = 2; weights = one_each; expr = tree_by; roots = roots_by }

abbrev pub degree_of : ℕ → ℕ
degree_of seed = degree_by (times_of seed 0) (times_of seed 1) (times_of seed 2) (times_of seed 3)

abbrev pub demo_job : ℕ → JobData
demo_job seed = job_by (times_of seed 0) (times_of seed 1) (times_of seed 2) (times_of seed 3) (first_of seed)
    (second_of seed)

abbrev pub demo_names : List (List ℕ)
demo_names = codes "x" ∷ codes "y" ∷ []
