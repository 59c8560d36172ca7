-- Lawful sums and products, by their lists.
use Rattle.std.proofs.Common.{ℕ, Bool, true, false, List, [], ◌∷◌, IsTrue, not, ◌≤◌}
use Rattle.ps_model.specs.Tree.{IsValidTree, AreSummands, AreValidSummands, AreFactors, AreValidFactors}
use Rattle.ps_model.specs.declared.expr.Expr.{Expr, Sum, Product, Power}
use Rattle.ps_model.specs.declared.expr.Summand.{Summand}
use Rattle.ps_model.specs.declared.expr.Factor.{Factor}
use Rattle.ps_model.specs.declared.expr.Expr.TheBlock.{hidden-the_row-Summand-0, shape-the_row-Summand-0}
use Rattle.ps_model.specs.declared.expr.Expr.TheBlock.{hidden-the_row-Factor-1, shape-the_row-Factor-1}
use Rattle.ps_model.specs.declared.expr.Expr.TheBlock.{hidden-the_row-Expr-2}
use Rattle.ps_model.proofs.Induct.{OfSummands, OfFactors}
use denote.Hole.Carrier.{hidden}

-- two summands at least, or one with a minus
pub data SummandsForm : List Summand → Type 0 where
  negative : (e : Expr) (ss : List Summand) → SummandsForm (record { minus = true; of = e } ∷ ss)
  positive : (e : Expr) (s : Summand) (ss : List Summand) → SummandsForm (record { minus = false; of = e } ∷ s ∷ ss)

-- two factors at least, the first of which doesn't divide
pub data FactorsForm : List Factor → Type 0 where
  several : (e : Expr) (f : Factor) (fs : List Factor) → FactorsForm (record { divide = false; of = e } ∷ f ∷ fs)

two_summands : (m : Bool) (e : Expr) (s : Summand) (ss : List Summand) → SummandsForm
    (record { minus = m; of = e } ∷ s ∷ ss)
two_summands true e s ss = negative e (s ∷ ss)
two_summands false e s ss = positive e s ss

one_summand : (m : Bool) (e : Expr) → IsTrue m → SummandsForm (record { minus = m; of = e } ∷ [])
one_summand true e h = negative e []
one_summand false e h = absurd (cc h)

two_factors : (d : Bool) (e : Expr) (f : Factor) (fs : List Factor) → IsTrue (not d) → FactorsForm
    (record { divide = d; of = e } ∷ f ∷ fs)
two_factors true e f fs h = absurd (cc h)
two_factors false e f fs h = several e f fs

summands_form : (ss : List Summand) → AreSummands (hidden-the_row-Summand-0 ss) → SummandsForm ss
unfolding hidden-the_row-Summand-0 shape-the_row-Summand-0 hidden
summands_form [] h = absurd h
summands_form (s ∷ []) h = one_summand s.minus s.of h
summands_form (s ∷ t ∷ ss) h = two_summands s.minus s.of t ss

factors_form : (fs : List Factor) → AreFactors (hidden-the_row-Factor-1 fs) → FactorsForm fs
unfolding hidden-the_row-Factor-1 shape-the_row-Factor-1 hidden
factors_form [] h = absurd h
factors_form (f ∷ []) h = absurd h
factors_form (f ∷ g ∷ fs) h = two_factors f.divide f.of g fs h

each_summand : (n : ℕ) (ss : List Summand) → AreValidSummands n (hidden-the_row-Summand-0 ss) → OfSummands
    (IsValidTree n) ss
unfolding hidden-the_row-Summand-0 shape-the_row-Summand-0 hidden
each_summand n [] h = tt
each_summand n (s ∷ ss) h = (h.0, each_summand n ss h.1)

each_factor : (n : ℕ) (fs : List Factor) → AreValidFactors n (hidden-the_row-Factor-1 fs) → OfFactors (IsValidTree n) fs
unfolding hidden-the_row-Factor-1 shape-the_row-Factor-1 hidden
each_factor n [] h = tt
each_factor n (f ∷ fs) h = (h.0, each_factor n fs h.1)

pub valid_sum : (n : ℕ) (ss : List Summand) → IsValidTree n (Sum ss) → SummandsForm ss × OfSummands (IsValidTree n) ss
valid_sum n ss h = (summands_form ss h.0, each_summand n ss h.1)

pub valid_product : (n : ℕ) (fs : List Factor) → IsValidTree n (Product fs) → FactorsForm fs × OfFactors
    (IsValidTree n) fs
valid_product n fs h = (factors_form fs h.0, each_factor n fs h.1)

pub valid_power : (n : ℕ) (b : Expr) (e : ℕ) → IsValidTree n (Power b e) → IsValidTree n b × (e ≤ 255)
unfolding hidden-the_row-Expr-2 hidden
valid_power n b e h = h
