-- Where one lead and list of factors differ from another first.
--     IsFirstIn S p q j r      p and q differ in the homogeneous part of degree r of the coefficient of Y^j, and
--         nowhere before it: at no higher power of Y, and at Y^j at no lower degree
--     LeadsDiffer S l k r      two leads, polynomials without Y, differ at degree r first; never where one is missing
--     FactorsDiffer S fs gs number j r      the first factors that differ are those with this number, counted from 1,
--         and Y^j and degree r come first in them
--     IsFirstDifference S l fs k gs place      None: leads and factors are the same. A place of the lead: there the
--         leads differ first. A place of a factor: the leads are the same, and there the factors differ first.
use Rattle.std.specs.Prelude.{◌≡◌, ℕ, suc, ◌<◌, Option, Some, None, List, ◌∷◌, ◌++◌, length}
use Rattle.ps_model.specs.Notation.{slice_at}
use Rattle.ps_model.specs.SeriesRing.{SeriesRing, Poly}
use Rattle.comparison.specs.declared.place.Place.{Place}
use Rattle.comparison.specs.declared.place.Place.TheVariants.{Lead, Factor}

module _ (S : SeriesRing) where
  pub record IsFirstIn (p q : Poly S) (j r : ℕ) : Type 0 where
    pub differs : slice_at r j p ≡ slice_at r j q → ⊥
    pub higher : (h s : ℕ) → j < h → slice_at s h p ≡ slice_at s h q
    pub lower : (s : ℕ) → s < r → slice_at s j p ≡ slice_at s j q

  abbrev pub LeadsDiffer : Option (Poly S) → Option (Poly S) → ℕ → Type 0
  LeadsDiffer None k r = ⊥
  LeadsDiffer (Some l) None r = ⊥
  LeadsDiffer (Some l) (Some k) r = IsFirstIn l k 0 r

  pub record FactorsDiffer (fs gs : List (Poly S)) (number j r : ℕ) : Type 0 where
    pub before : List (Poly S)
    pub f : Poly S
    pub g : Poly S
    pub fs' : List (Poly S)
    pub gs' : List (Poly S)
    pub fs_are : fs ≡ before ++ f ∷ fs'
    pub gs_are : gs ≡ before ++ g ∷ gs'
    pub number_is : number ≡ suc (length before)
    pub first : IsFirstIn f g j r

  module _ (l : Option (Poly S)) (fs : List (Poly S)) (k : Option (Poly S)) (gs : List (Poly S)) where
    abbrev pub IsFirstPlace : Place → Type 0
    IsFirstPlace (Lead degree) = LeadsDiffer l k degree
    IsFirstPlace (Factor number power degree) = (l ≡ k) × FactorsDiffer fs gs number power degree

    abbrev pub IsFirstDifference : Option Place → Type 0
    IsFirstDifference None = (l ≡ k) × (fs ≡ gs)
    IsFirstDifference (Some place) = IsFirstPlace place
