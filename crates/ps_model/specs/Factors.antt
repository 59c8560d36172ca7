-- Monic factors of a polynomial in Y with given roots at the origin.
--     total_times roots      the sum of the multiplicities
--     IsApart m r roots      the difference of r to each of the roots is a unit modulo m
--     AreApart m roots      each root is a residue, apart from the later ones
--     product_of fs      the product of a list, 1 of none
--     each_truncated D fs      each member truncated at D
--     product_from D s fs      the product of the members from place s on, truncated at D: what
--         stands before stage s; 1 past the end
--     root_power r      (Y - value) ^ times
--     root_powers roots      the product of all root powers
--     IsFactorable F roots      F is monic, at the origin the product of the root powers, and the
--         roots are apart
--     IsFactor D r f      f is monic, at the origin the root's power, with no degree above D
--     EachIsFactor D roots fs      fs has one factor for each root, in their order
--     IsFactorList D F roots fs      so it has, and the product of all is F up to degree D
use Rattle.std.specs.Prelude.{◌≡◌, ℕ, ◌+◌, ◌-◌, List, [], ◌∷◌, ◌<◌, drop}
use Rattle.ps_model.specs.declared.job.Root.{Root}
use Rattle.ps_model.specs.Ring.{Ring}
use Rattle.ps_model.specs.Polynomial.{Polynomial}
use Rattle.ps_model.specs.Notation.{one, product, power, truncated, linear}
use Rattle.ps_model.specs.Bounds.{HasNoDegreeAbove, IsMonic, IsUnit}

abbrev pub total_times : List Root → ℕ
total_times [] = 0
total_times (r ∷ rs) = r.times + total_times rs

module _ (m : ℕ) where
  abbrev pub IsApart : Root → List Root → Type 0
  IsApart r [] = Unit {0}
  IsApart r (s ∷ ss) = IsUnit m ((m - s.value) + r.value) × IsApart r ss

  abbrev pub AreApart : List Root → Type 0
  AreApart [] = Unit {0}
  AreApart (r ∷ rs) = (r.value < m) × IsApart r rs × AreApart rs

module _ {R : Ring} where
  abbrev pub product_of : List (Polynomial R) → Polynomial R
  product_of [] = one
  product_of (f ∷ fs) = product f (product_of fs)

  abbrev pub each_truncated : ℕ → List (Polynomial R) → List (Polynomial R)
  each_truncated D [] = []
  each_truncated D (f ∷ fs) = truncated D f ∷ each_truncated D fs

  abbrev pub product_from : ℕ → ℕ → List (Polynomial R) → Polynomial R
  product_from D s fs = truncated D (product_of (drop s fs))

  abbrev pub root_power : Root → Polynomial R
  root_power r = power (linear (R.modulus - r.value)) r.times

  abbrev pub root_powers : List Root → Polynomial R
  root_powers [] = one
  root_powers (r ∷ rs) = product (root_power r) (root_powers rs)

  pub record IsFactorable (F : Polynomial R) (roots : List Root) : Type 0 where
    pub monic : IsMonic (total_times roots) F
    pub at_origin : truncated 0 F ≡ root_powers roots
    pub apart : AreApart R.modulus roots

  pub record IsFactor (D : ℕ) (r : Root) (f : Polynomial R) : Type 0 where
    pub monic : IsMonic r.times f
    pub at_origin : truncated 0 f ≡ root_power r
    pub within : HasNoDegreeAbove D f

  abbrev pub EachIsFactor : ℕ → List Root → List (Polynomial R) → Type 0
  EachIsFactor D [] [] = Unit {0}
  EachIsFactor D [] (f ∷ fs) = ⊥
  EachIsFactor D (r ∷ rs) [] = ⊥
  EachIsFactor D (r ∷ rs) (f ∷ fs) = IsFactor D r f × EachIsFactor D rs fs

  pub record IsFactorList (D : ℕ) (F : Polynomial R) (roots : List Root) (fs : List (Polynomial R)) : Type 0 where
    pub each : EachIsFactor D roots fs
    pub product_is : truncated D (product_of fs) ≡ truncated D F
