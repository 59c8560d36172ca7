-- Expression trees: degree and nodes by their form, and which trees stand for an expression.
--     formal_degree e      a bound of the power of Y, by the tree's form; 0 of a number
--     node_count e      how many nodes a graph of the tree has; 1 of a number
--     has_y e      whether Y stands in the tree
--     is_number e      whether neither a variable nor Y stands in it
--     divisors e      what stands behind the signs of division, from left to right; none of a number
--     IsValidTree names e      the tree is one that an expression over so many names has
use Rattle.std.specs.Prelude.{ℕ, zero, suc, ◌+◌, ◌*◌, ◌^◌, ◌<◌, ◌≤◌, Bool, true, false, ◌||◌, ◌&&◌, IsTrue, not}
use Rattle.std.specs.Prelude.{if◌then◌else◌, max, List, [], ◌∷◌, ◌++◌}
use Rattle.ps_model.specs.declared.expr.Expr.{Expr, Number, Name, MainVariable, Sum', Product', Power'}
use Rattle.ps_model.specs.declared.expr.Expr.{end_of-Expr, more_of-Expr}
use Rattle.ps_model.specs.declared.expr.Expr.{Row_of-Summand, end_of-Summand, more_of-Summand}
use Rattle.ps_model.specs.declared.expr.Expr.{Row_of-Factor, end_of-Factor, more_of-Factor}

abbrev mutual
  pub formal_degree : Expr → ℕ
  formal_degree (Number c) = 0
  formal_degree (Name i) = 0
  formal_degree MainVariable = 1
  formal_degree (Sum' shape summands) = greatest_degree summands
  formal_degree (Product' shape factors) = product_degree factors
  formal_degree (Power' shape (more_of-Expr base end_of-Expr) exponent) = exponent * formal_degree base

  pub greatest_degree : {m : _} → Row_of-Summand m → ℕ
  greatest_degree end_of-Summand = 0
  greatest_degree (more_of-Summand minus of rest) = max (formal_degree of) (greatest_degree rest)

  -- a factor that divides leaves the degree
  pub product_degree : {m : _} → Row_of-Factor m → ℕ
  product_degree end_of-Factor = 0
  product_degree (more_of-Factor divide of rest) = (if divide then 0 else formal_degree of) + product_degree rest

-- the sum over i from 2 to the exponent of i * degree + 1
abbrev pub power_nodes : ℕ → ℕ → ℕ
power_nodes degree zero = 0
power_nodes degree (suc zero) = 0
power_nodes degree (suc (suc e)) = power_nodes degree (suc e) + (suc (suc e) * degree + 1)

-- the nodes of a power, from those of its base and the base's degree
abbrev pub nodes_of_power : ℕ → ℕ → ℕ → ℕ
nodes_of_power nodes degree zero = nodes + 1
nodes_of_power nodes degree (suc e) = nodes + power_nodes degree (suc e)

-- a sum or a product of degree d has d + 1 nodes for itself
abbrev mutual
  pub node_count : Expr → ℕ
  node_count (Number c) = 1
  node_count (Name i) = 1
  node_count MainVariable = 2
  node_count (Sum' shape summands) = summand_nodes summands + greatest_degree summands + 1
  node_count (Product' shape factors) = product_nodes factors
  node_count (Power' shape (more_of-Expr base end_of-Expr) exponent) =
      nodes_of_power (node_count base) (formal_degree base) exponent

  pub summand_nodes : {m : _} → Row_of-Summand m → ℕ
  summand_nodes end_of-Summand = 0
  summand_nodes (more_of-Summand minus of rest) = node_count of + summand_nodes rest

  pub product_nodes : {m : _} → Row_of-Factor m → ℕ
  product_nodes end_of-Factor = 0
  product_nodes (more_of-Factor divide of rest) = node_count of + later_nodes (formal_degree of) rest

  -- the nodes of the later factors and of the products so far, from the running degree
  pub later_nodes : {m : _} → ℕ → Row_of-Factor m → ℕ
  later_nodes running end_of-Factor = 0
  later_nodes running (more_of-Factor divide of rest) =
      let now = running + (if divide then 0 else formal_degree of) in
      node_count of + (now + 1) + later_nodes now rest

abbrev mutual
  pub has_y : Expr → Bool
  has_y (Number c) = false
  has_y (Name i) = false
  has_y MainVariable = true
  has_y (Sum' shape summands) = summands_have_y summands
  has_y (Product' shape factors) = factors_have_y factors
  has_y (Power' shape (more_of-Expr base end_of-Expr) exponent) = has_y base

  pub summands_have_y : {m : _} → Row_of-Summand m → Bool
  summands_have_y end_of-Summand = false
  summands_have_y (more_of-Summand minus of rest) = has_y of || summands_have_y rest

  pub factors_have_y : {m : _} → Row_of-Factor m → Bool
  factors_have_y end_of-Factor = false
  factors_have_y (more_of-Factor divide of rest) = has_y of || factors_have_y rest

abbrev mutual
  pub is_number : Expr → Bool
  is_number (Number c) = true
  is_number (Name i) = false
  is_number MainVariable = false
  is_number (Sum' shape summands) = are_numbers summands
  is_number (Product' shape factors) = factors_are_numbers factors
  is_number (Power' shape (more_of-Expr base end_of-Expr) exponent) = is_number base

  pub are_numbers : {m : _} → Row_of-Summand m → Bool
  are_numbers end_of-Summand = true
  are_numbers (more_of-Summand minus of rest) = is_number of && are_numbers rest

  pub factors_are_numbers : {m : _} → Row_of-Factor m → Bool
  factors_are_numbers end_of-Factor = true
  factors_are_numbers (more_of-Factor divide of rest) = is_number of && factors_are_numbers rest

abbrev mutual
  pub divisors : Expr → List Expr
  divisors (Number c) = []
  divisors (Name i) = []
  divisors MainVariable = []
  divisors (Sum' shape summands) = summand_divisors summands
  divisors (Product' shape factors) = factor_divisors factors
  divisors (Power' shape (more_of-Expr base end_of-Expr) exponent) = divisors base

  pub summand_divisors : {m : _} → Row_of-Summand m → List Expr
  summand_divisors end_of-Summand = []
  summand_divisors (more_of-Summand minus of rest) = divisors of ++ summand_divisors rest

  -- a sign of division stands before those of its divisor
  pub factor_divisors : {m : _} → Row_of-Factor m → List Expr
  factor_divisors end_of-Factor = []
  factor_divisors (more_of-Factor divide of rest) =
      (if divide then of ∷ divisors of else divisors of) ++ factor_divisors rest

abbrev mutual
  pub IsValidTree : ℕ → Expr → Type 0
  IsValidTree names (Number c) = c < 2 ^ 64
  IsValidTree names (Name i) = i < names
  IsValidTree names MainVariable = Unit {0}
  IsValidTree names (Sum' shape summands) = AreSummands summands × AreValidSummands names summands
  IsValidTree names (Product' shape factors) = AreFactors factors × AreValidFactors names factors
  IsValidTree names (Power' shape (more_of-Expr base end_of-Expr) exponent) =
      IsValidTree names base × (exponent ≤ 255)

  -- two summands at least, or one with a minus
  pub AreSummands : {m : _} → Row_of-Summand m → Type 0
  AreSummands end_of-Summand = ⊥
  AreSummands (more_of-Summand minus of end_of-Summand) = IsTrue minus
  AreSummands (more_of-Summand minus of (more_of-Summand m o rest)) = Unit {0}

  pub AreValidSummands : {m : _} → ℕ → Row_of-Summand m → Type 0
  AreValidSummands names end_of-Summand = Unit {0}
  AreValidSummands names (more_of-Summand minus of rest) = IsValidTree names of × AreValidSummands names rest

  -- two factors at least, the first of which doesn't divide
  pub AreFactors : {m : _} → Row_of-Factor m → Type 0
  AreFactors end_of-Factor = ⊥
  AreFactors (more_of-Factor divide of end_of-Factor) = ⊥
  AreFactors (more_of-Factor divide of (more_of-Factor d o rest)) = IsTrue (not divide)

  pub AreValidFactors : {m : _} → ℕ → Row_of-Factor m → Type 0
  AreValidFactors names end_of-Factor = Unit {0}
  AreValidFactors names (more_of-Factor divide of rest) = IsValidTree names of × AreValidFactors names rest
