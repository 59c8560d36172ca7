-- Weierstrass preparation: a polynomial as the product of one that is monic in Y and a unit.
--     IsPreparable G k q      G has no power of Y above k + q, below Y^k its coefficients have
--         constant term 0, and at Y^k a unit
--     IsPrepared G k q D p u      p is monic of degree k in Y, and Y^k at the origin; u has no
--         power of Y above q and a unit as constant term; neither has an entry of degree above D,
--         and their product is G up to degree D
--     IsQuotient D a b q      q has no entry of degree above D, and q * b is a up to degree D
use Rattle.std.specs.Prelude.{◌≡◌, ℕ, ◌+◌, ◌<◌}
use Rattle.ps_model.specs.Ring.{Ring}
use Rattle.ps_model.specs.Polynomial.{Polynomial}
use Rattle.ps_model.specs.Notation.{monomial, coefficient, constant_term, product, truncated}
use Rattle.ps_model.specs.Bounds.{HasNoPowerAbove, HasNoDegreeAbove, IsMonic, IsUnit}

module _ {R : Ring} where
  pub record IsPreparable (G : Polynomial R) (k q : ℕ) : Type 0 where
    pub no_power_above : HasNoPowerAbove (k + q) G
    pub lower : (j : ℕ) → j < k → coefficient G (R.y j) ≡ 0
    pub unit : IsUnit R.modulus (coefficient G (R.y k))

  pub record IsPrepared (G : Polynomial R) (k q D : ℕ) (p u : Polynomial R) : Type 0 where
    pub monic : IsMonic k p
    pub at_origin : truncated 0 p ≡ monomial 1 (R.y k)
    pub u_no_power_above : HasNoPowerAbove q u
    pub u_unit : IsUnit R.modulus (constant_term u)
    pub p_within : HasNoDegreeAbove D p
    pub u_within : HasNoDegreeAbove D u
    pub product_is : truncated D (product p u) ≡ truncated D G

  pub record IsQuotient (D : ℕ) (a b q : Polynomial R) : Type 0 where
    pub within : HasNoDegreeAbove D q
    pub multiplies_back : truncated D (product q b) ≡ a
