-- Polynomials given by formal sums: what the operations are there, and one form of each sum, so
-- that what is written out in numbers computes.
use Rattle.std.proofs.Common.{◌≡◌, ℕ, ◌+◌, ◌*◌, ◌%◌, Bool, true, false, cond, T, List, [], ◌∷◌, ◌++◌, refl, sym, ◌∙◌}
use Rattle.std.proofs.Common.{◌-◌}
use Rattle.std.proofs.Common.{ap, arith}
use Rattle.std.specs.Prelude.{◌==◌}
use Rattle.std.specs.declared.cmp.Ordering.TheVariants.{Less, Equal, Greater}
use Rattle.std.specs.FinMap.{entries, is_sorted}
use Rattle.std.proofs.Math.Nat.{add-mod}
use Rattle.std.proofs.lemmas.Nat.{mul-mod_first}
use Rattle.std.proofs.lemmas.Bool.{eqb-true}
use Rattle.ps_model.specs.Sums.{total, multiples, products, kept}
use Rattle.ps_model.specs.Ring.{Ring}
use Rattle.ps_model.specs.Polynomial.{polynomial, terms, zero, one, monomial, sum, scaled, negative, product}
use Rattle.ps_model.specs.Polynomial.{kept_terms}
use Rattle.ps_model.proofs.Totals.{total-append, total-multiples, total-products, total-kept}
use Rattle.ps_model.proofs.Coefficients.{linear_form-polynomial, same_values, map-polynomial, plus-mod}
use Rattle.ps_model.proofs.Values.{linear_form-sum, linear_form-scaled, linear_form-product, linear_form-kept_terms}
use Rattle.ps_model.proofs.Values.{total-mod}
use Rattle.ps_model.proofs.RingLaws.{mul-mod_last}
use Rattle.ps_model.proofs.Maps.{entries-from_entries}
use Rattle.ps_model.proofs.Collected.{AreResidues, is_collected}

-- the entries whose coefficients aren't 0
abbrev pub nonzero : {K : Type 0} → List (K × ℕ) → List (K × ℕ)
nonzero [] = []
nonzero (e ∷ es) = cond (e.1 == 0) (nonzero es) (e ∷ nonzero es)

total-nonzero : {K : Type 0} (f : K → ℕ) (es : List (K × ℕ)) → total f (nonzero es) ≡ total f es
total-nonzero f [] = refl
total-nonzero f (e ∷ es) = elim (e.1 == 0) as (λ b. (e.1 == 0) ≡ b → total f (cond b (nonzero es) (e ∷ nonzero es))
    ≡ e.1 * f e.0 + total f es) [
      | true ↦ λ is. let none : e.1 ≡ 0 = eqb-true e.1 0 is in rw none (omega (arith, total-nonzero f es))
      | false ↦ λ is. omega (arith, total-nonzero f es)
    ] refl

module _ (R : Ring) where
  -- one more entry, at its place by the order of keys
  abbrev pub placed : R.Key → ℕ → List (R.Key × ℕ) → List (R.Key × ℕ)
  placed k c [] = (k, c % R.modulus) ∷ []
  placed k c (e ∷ es) = elim (R.compare k e.0) [
    | Less ↦ (k, c % R.modulus) ∷ e ∷ es
    | Equal ↦ (k, (c + e.1) % R.modulus) ∷ es
    | Greater ↦ e ∷ placed k c es
  ]

  abbrev pub gathered : List (R.Key × ℕ) → List (R.Key × ℕ)
  gathered [] = []
  gathered (e ∷ es) = placed e.0 e.1 (gathered es)

  -- the one form of a formal sum
  abbrev pub normal : List (R.Key × ℕ) → List (R.Key × ℕ)
  normal es = nonzero (gathered es)

  total-placed : (f : R.Key → ℕ) (k : R.Key) (c : ℕ) (es : List (R.Key × ℕ)) → total f (placed k c es) % R.modulus
      ≡ (c * f k + total f es) % R.modulus
  total-placed f k c [] = plus-mod R.modulus _ _ 0 0 (mul-mod_first c (f k) R.modulus) refl
  total-placed f k c (e ∷ es) = elim (R.compare k e.0) as (λ r. R.compare k e.0 ≡ r → total f (elim r [
    | Less ↦ (k, c % R.modulus) ∷ e ∷ es
    | Equal ↦ (k, (c + e.1) % R.modulus) ∷ es
    | Greater ↦ e ∷ placed k c es
  ]) % R.modulus ≡ (c * f k + (e.1 * f e.0 + total f es)) % R.modulus) [
    | Less ↦ λ is. plus-mod R.modulus _ _ _ _ (mul-mod_first c (f k) R.modulus) refl
    | Equal ↦ λ is. plus-mod R.modulus _ _ (total f es) (total f es) (mul-mod_first (c + e.1) (f k) R.modulus) refl
        ∙ rw (← R.antisymmetric k e.0 is) (ap (λ n. n % R.modulus) (omega arith))
    | Greater ↦ λ is. plus-mod R.modulus (e.1 * f e.0) (e.1 * f e.0) _ _ refl (total-placed f k c es)
        ∙ ap (λ n. n % R.modulus) (omega arith)
  ] refl

  total-gathered : (f : R.Key → ℕ) (es : List (R.Key × ℕ)) → total f (gathered es) % R.modulus ≡ total f es % R.modulus
  total-gathered f [] = refl
  total-gathered f (e ∷ es) = total-placed f e.0 e.1 (gathered es)
      ∙ plus-mod R.modulus (e.1 * f e.0) (e.1 * f e.0) _ _ refl (total-gathered f es)

  total-normal : (f : R.Key → ℕ) (es : List (R.Key × ℕ)) → total f (normal es) % R.modulus ≡ total f es % R.modulus
  total-normal f es = ap (λ n. n % R.modulus) (total-nonzero f (gathered es)) ∙ total-gathered f es

  pub polynomial-normal : (es : List (R.Key × ℕ)) → polynomial R (normal es) ≡ polynomial R es
  polynomial-normal es = same_values R _ _ (λ f. linear_form-polynomial R f (normal es) ∙ total-normal f es
      ∙ sym (linear_form-polynomial R f es))

  -- sums of one form are one polynomial
  pub same_sums : (es fs : List (R.Key × ℕ)) → normal es ≡ normal fs → polynomial R es ≡ polynomial R fs
  same_sums es fs is = sym (polynomial-normal es) ∙ ap (polynomial R) is ∙ polynomial-normal fs

  -- the entries are that form, where it is in order
  pub terms_are : (es ns : List (R.Key × ℕ)) → normal es ≡ ns → T (is_sorted R.compare ns) → AreResidues R.modulus ns
      → terms R (polynomial R es) ≡ ns
  terms_are es ns is sorted residues = ap (terms R) (sym (polynomial-normal es) ∙ ap (polynomial R) is)
      ∙ ap entries (map-polynomial R ns ∙ sym (is_collected R ns ns sorted residues (λ q. refl)))
      ∙ entries-from_entries R.compare R.total_order R.antisymmetric ns sorted

  pub zero_listed : zero R ≡ polynomial R []
  unfolding zero
  zero_listed = refl

  pub monomial_listed : (c : ℕ) (k : R.Key) → monomial R c k ≡ polynomial R ((k, c) ∷ [])
  unfolding monomial
  monomial_listed c k = refl

  pub one_listed : one R ≡ polynomial R ((R.origin, 1) ∷ [])
  unfolding one
  one_listed = monomial_listed 1 R.origin

  pub sum_listed : (es fs : List (R.Key × ℕ)) → sum R (polynomial R es) (polynomial R fs) ≡ polynomial R (es ++ fs)
  sum_listed es fs = same_values R _ _ (λ f. linear_form-sum R f _ _
      ∙ (λ i. (linear_form-polynomial R f es i + linear_form-polynomial R f fs i) % R.modulus)
      ∙ sym (linear_form-polynomial R f (es ++ fs) ∙ ap (λ n. n % R.modulus) (total-append f es fs) ∙ add-mod _ _ _))

  pub scaled_listed : (c : ℕ) (es : List (R.Key × ℕ)) → scaled R c (polynomial R es) ≡ polynomial R (multiples c es)
  scaled_listed c es = same_values R _ _ (λ f. linear_form-scaled R f c _
      ∙ (λ i. (c * linear_form-polynomial R f es i) % R.modulus) ∙ mul-mod_last c (total f es) R.modulus
      ∙ sym (linear_form-polynomial R f (multiples c es) ∙ ap (λ n. n % R.modulus) (total-multiples f c es)))

  pub negative_listed : (es : List (R.Key × ℕ)) → negative R (polynomial R es)
      ≡ polynomial R (multiples (R.modulus - 1) es)
  unfolding negative
  negative_listed es = scaled_listed (R.modulus - 1) es

  pub product_listed : (es fs : List (R.Key × ℕ)) → product R (polynomial R es) (polynomial R fs) ≡ polynomial R
      (products R.◌⊕◌ es fs)
  product_listed es fs = same_values R _ _ (λ f. linear_form-product R f _ _
      ∙ linear_form-polynomial R _ es
      ∙ (λ i. total (λ x. linear_form-polynomial R (λ z. f (R.◌⊕◌ x z)) fs i) es % R.modulus)
      ∙ total-mod R.modulus (λ x. total (λ z. f (R.◌⊕◌ x z)) fs) es
      ∙ sym (linear_form-polynomial R f (products R.◌⊕◌ es fs)
      ∙ ap (λ n. n % R.modulus) (total-products R.◌⊕◌ f es fs)))

  pub kept_listed : (t : R.Key → Bool) (es : List (R.Key × ℕ)) → kept_terms R t (polynomial R es) ≡ polynomial R
      (kept t es)
  kept_listed t es = same_values R _ _ (λ f. linear_form-kept_terms R f t _ ∙ linear_form-polynomial R _ es
      ∙ sym (linear_form-polynomial R f (kept t es) ∙ ap (λ n. n % R.modulus) (total-kept f t es)))
