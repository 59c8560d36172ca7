-- The definitions over trees, read at a first summand or factor and the later ones.
use Rattle.std.proofs.Common.{◌≡◌, ℕ, ◌+◌, ◌-◌, ◌*◌, ◌%◌, true, false, List, [], ◌∷◌, ◌++◌, refl, ◌||◌, ◌&&◌}
use Rattle.std.specs.Prelude.{if◌then◌else◌}
use Rattle.ps_model.specs.declared.expr.Expr.{Expr, Sum, Product, Power}
use Rattle.ps_model.specs.declared.expr.Summand.{Summand}
use Rattle.ps_model.specs.declared.expr.Factor.{Factor}
use Rattle.ps_model.specs.declared.expr.Expr.TheBlock.{hidden-the_row-Summand-0, shape-the_row-Summand-0}
use Rattle.ps_model.specs.declared.expr.Expr.TheBlock.{hidden-the_row-Factor-1, shape-the_row-Factor-1}
use Rattle.ps_model.specs.declared.expr.Expr.TheBlock.{hidden-the_row-Expr-2}
use Rattle.ps_model.specs.Tree.{has_y, is_number, divisors}
use Rattle.intake.specs.Origin.{HasOrigin, HasSumOrigin, HasProductOrigin, IsShare}
use Rattle.intake.specs.Passes.{divisors_of}
use denote.Hole.Carrier.{hidden}

pub divisors-Sum_none : divisors (Sum []) ≡ []
unfolding hidden-the_row-Summand-0 shape-the_row-Summand-0 hidden
divisors-Sum_none = refl

pub divisors-Sum_more : (s : Summand) (ss : List Summand)
    → divisors (Sum (s ∷ ss)) ≡ divisors s.of ++ divisors (Sum ss)
unfolding hidden-the_row-Summand-0 shape-the_row-Summand-0 hidden
divisors-Sum_more s ss = refl

pub divisors-Product_none : divisors (Product []) ≡ []
unfolding hidden-the_row-Factor-1 shape-the_row-Factor-1 hidden
divisors-Product_none = refl

pub divisors-Product_more : (f : Factor) (fs : List Factor)
    → divisors (Product (f ∷ fs)) ≡ divisors_of f ++ divisors (Product fs)
unfolding hidden-the_row-Factor-1 shape-the_row-Factor-1 hidden
divisors-Product_more f fs = refl

pub divisors-Power : (b : Expr) (e : ℕ) → divisors (Power b e) ≡ divisors b
unfolding hidden-the_row-Expr-2 hidden
divisors-Power b e = refl

pub has_y-Sum_none : has_y (Sum []) ≡ false
unfolding hidden-the_row-Summand-0 shape-the_row-Summand-0 hidden
has_y-Sum_none = refl

pub has_y-Sum_more : (s : Summand) (ss : List Summand) → has_y (Sum (s ∷ ss)) ≡ (has_y s.of || has_y (Sum ss))
unfolding hidden-the_row-Summand-0 shape-the_row-Summand-0 hidden
has_y-Sum_more s ss = refl

pub has_y-Product_none : has_y (Product []) ≡ false
unfolding hidden-the_row-Factor-1 shape-the_row-Factor-1 hidden
has_y-Product_none = refl

pub has_y-Product_more : (f : Factor) (fs : List Factor) → has_y (Product (f ∷ fs)) ≡ (has_y f.of || has_y (Product fs))
unfolding hidden-the_row-Factor-1 shape-the_row-Factor-1 hidden
has_y-Product_more f fs = refl

pub has_y-Power : (b : Expr) (e : ℕ) → has_y (Power b e) ≡ has_y b
unfolding hidden-the_row-Expr-2 hidden
has_y-Power b e = refl

pub is_number-Sum_none : is_number (Sum []) ≡ true
unfolding hidden-the_row-Summand-0 shape-the_row-Summand-0 hidden
is_number-Sum_none = refl

pub is_number-Sum_more : (s : Summand) (ss : List Summand)
    → is_number (Sum (s ∷ ss)) ≡ (is_number s.of && is_number (Sum ss))
unfolding hidden-the_row-Summand-0 shape-the_row-Summand-0 hidden
is_number-Sum_more s ss = refl

pub is_number-Product_none : is_number (Product []) ≡ true
unfolding hidden-the_row-Factor-1 shape-the_row-Factor-1 hidden
is_number-Product_none = refl

pub is_number-Product_more : (f : Factor) (fs : List Factor)
    → is_number (Product (f ∷ fs)) ≡ (is_number f.of && is_number (Product fs))
unfolding hidden-the_row-Factor-1 shape-the_row-Factor-1 hidden
is_number-Product_more f fs = refl

pub is_number-Power : (b : Expr) (e : ℕ) → is_number (Power b e) ≡ is_number b
unfolding hidden-the_row-Expr-2 hidden
is_number-Power b e = refl

module _ (m : ℕ) where
  -- the values of the summands from one on, with the sum so far
  abbrev pub SumFrom : ℕ → List Summand → ℕ → Type 0
  SumFrom so_far ss n = HasSumOrigin m so_far (hidden-the_row-Summand-0 ss) n

  pub sum-none : (so_far : ℕ) → SumFrom so_far [] so_far
  unfolding hidden-the_row-Summand-0 shape-the_row-Summand-0 hidden
  sum-none so_far = refl

  pub sum-more : (so_far a n : ℕ) (s : Summand) (ss : List Summand) → HasOrigin m s.of a
      → SumFrom ((so_far + (if s.minus then m - a else a)) % m) ss n → SumFrom so_far (s ∷ ss) n
  unfolding hidden-the_row-Summand-0 shape-the_row-Summand-0 hidden
  sum-more so_far a n s ss h later = (a, h, later)

  pub sum-all : (ss : List Summand) (n : ℕ) → SumFrom 0 ss n → HasOrigin m (Sum ss) n
  sum-all ss n h = h

  abbrev pub ProductFrom : ℕ → List Factor → ℕ → Type 0
  ProductFrom so_far fs n = HasProductOrigin m so_far (hidden-the_row-Factor-1 fs) n

  pub product-none : (so_far : ℕ) → ProductFrom so_far [] so_far
  unfolding hidden-the_row-Factor-1 shape-the_row-Factor-1 hidden
  product-none so_far = refl

  pub product-more : (so_far a b n : ℕ) (f : Factor) (fs : List Factor) → HasOrigin m f.of a → IsShare m f.divide a b
      → ProductFrom ((so_far * b) % m) fs n → ProductFrom so_far (f ∷ fs) n
  unfolding hidden-the_row-Factor-1 shape-the_row-Factor-1 hidden
  product-more so_far a b n f fs h share later = (a, b, h, share, later)

  pub product-all : (fs : List Factor) (n : ℕ) → ProductFrom 1 fs n → HasOrigin m (Product fs) n
  product-all fs n h = h
