-- A slice, the homogeneous part of one degree of one coefficient, is known by its terms.
use Rattle.std.proofs.Common.{◌≡◌, ℕ, suc, ◌+◌, ◌%◌, ◌<◌, Bool, true, false, cond, ◌&&◌, List, [], ◌∷◌, All, map}
use Rattle.std.proofs.Common.{inl, inr, refl, sym, ◌∙◌, ap, arith}
use Rattle.std.specs.Prelude.{◌==◌, not}
use Rattle.std.specs.List.{filter}
use Rattle.std.specs.FinMap.{entries}
use Rattle.std.specs.Ordering.{nat_cmp, ordering_then}
use Rattle.std.specs.Cmp.{nat_cmp_is}
use Rattle.std.specs.Cmp.Lexicographic.{slice_cmp}
use Rattle.std.specs.declared.cmp.Ordering.TheVariants.{Less, Equal, Greater}
use Rattle.std.proofs.Math.Nat.{one-mul}
use Rattle.std.proofs.lemmas.Bool.{cases_order, eqb-true}
use Rattle.ps_model.specs.BlockText.{terms_of_degree}
use Rattle.ps_model.specs.Keys.{Key, numbers, add_keys, y_key, key_compare}
use Rattle.ps_model.specs.KeyLaws.{no_powers-add}
use Rattle.ps_model.specs.Polynomial.{Polynomial, of_map, terms, kept_terms}
use Rattle.ps_model.specs.Ring.{Ring}
use Rattle.ps_model.specs.SeriesRing.{SeriesRing, ring, degree, Poly, PartMap}
use Rattle.ps_model.specs.Slices.{without_y, slice_at}
use Rattle.ps_model.specs.Sums.{total, kept}
use Rattle.ps_model.specs.Truncation.{homogeneous_part}
use Rattle.ps_model.proofs.Coefficients.{linear_form, linear_form-polynomial, same_values}
use Rattle.ps_model.proofs.Degrees.{kept_terms-commute}
use Rattle.ps_model.proofs.KeptTerms.{kept_terms-kept_terms}
use Rattle.ps_model.proofs.Values.{linear_form-image, linear_form-monomial, linear_form-mod}
use Rattle.printer.proofs.Raised.{unless_zero, terms_raised}

module _ (R : Ring) where
  -- those of one power of Y and one degree
  abbrev pub is_in_slice : ℕ → ℕ → R.Key → Bool
  is_in_slice j r x = (R.y_degree x == j) && (R.degree x == r)

  value_of_kept : (f : R.Key → ℕ) (t : R.Key → Bool) (p : Polynomial R)
      → linear_form R f (kept_terms R t p) ≡ total f (filter (λ e. t e.0) (terms R p)) % R.modulus
  unfolding kept_terms
  value_of_kept f t p = linear_form-polynomial R f (kept t (terms R p))

  value_of_slice : (f : R.Key → ℕ) (r j : ℕ) (p : Polynomial R) → linear_form R f (slice_at R r j p)
      ≡ total (λ x. f (R.rest x)) (filter (λ e. is_in_slice j r e.0) (terms R p)) % R.modulus
  unfolding slice_at without_y homogeneous_part
  value_of_slice f r j p = simp (linear_form-image, linear_form-monomial, one-mul)
      (linear_form-mod R (λ x. f (R.rest x)) _
      ∙ ap (linear_form R (λ x. f (R.rest x)))
      (kept_terms-commute R (λ x. R.y_degree x == j) (λ x. R.degree x == r) p
      ∙ kept_terms-kept_terms R (λ x. R.degree x == r) (λ x. R.y_degree x == j) p)
      ∙ value_of_kept (λ x. f (R.rest x)) (is_in_slice j r) p)

  -- equal terms are those of equal slices
  pub same_slice : (r j : ℕ) (p q : Polynomial R) → filter (λ e. is_in_slice j r e.0) (terms R p)
      ≡ filter (λ e. is_in_slice j r e.0) (terms R q) → slice_at R r j p ≡ slice_at R r j q
  same_slice r j p q is = same_values R _ _ (λ f. value_of_slice f r j p
      ∙ ap (λ es. total (λ x. f (R.rest x)) es % R.modulus) is ∙ sym (value_of_slice f r j q))

-- Y^j more keeps the order of keys
later_powers : (a x y : ℕ) → nat_cmp (a + x) (a + y) ≡ nat_cmp x y
later_powers a x y = elim (cases_order x y) [
  | inl e ↦ sym (nat_cmp_is (a + x) (a + y) Equal (omega arith)) ∙ nat_cmp_is x y Equal e
  | inr d ↦ elim d [
    | inl l ↦ sym (nat_cmp_is (a + x) (a + y) Less (omega arith)) ∙ nat_cmp_is x y Less l
    | inr g ↦ sym (nat_cmp_is (a + x) (a + y) Greater (omega arith)) ∙ nat_cmp_is x y Greater g
  ]
]

same_order : (n j : ℕ) (x z : Key n) → key_compare n (add_keys n (y_key n j) x) (add_keys n (y_key n j) z)
    ≡ key_compare n x z
same_order n j x z = λ i. ordering_then (later_powers j z.y x.y i)
    (slice_cmp nat_cmp (numbers n (no_powers-add n z.powers i)) (numbers n (no_powers-add n x.powers i)))

both_true : (a b : Bool) → a && b ≡ true → a ≡ true
both_true true b e = refl
both_true false b e = e

module _ (S : SeriesRing) (j r : ℕ) where
  -- a term without its power of Y, and with Y^j more
  abbrev pub down : Key S.variables × ℕ → Key S.variables × ℕ
  down e = (record { powers = e.0.powers; y = 0 }, e.1)

  abbrev pub up : Key S.variables × ℕ → Key S.variables × ℕ
  up e = (add_keys S.variables (y_key S.variables j) e.0, e.1)

  abbrev pub at_slice : List (Key S.variables × ℕ) → List (Key S.variables × ℕ)
  at_slice es = filter (λ t. (t.0.y == j) && (degree S t.0 == r)) es

  up_again : (e : Key S.variables × ℕ) → e.0.y ≡ j → up (down e) ≡ e
  up_again e is = λ i. (record { powers = no_powers-add S.variables e.0.powers i; y = (none j ∙ sym is) i }, e.1)
    where
      none : (n : ℕ) → n + 0 ≡ n
      none n = omega arith

  up_down : (es : List (Key S.variables × ℕ)) → map up (map down (at_slice es)) ≡ at_slice es
  up_down [] = refl
  up_down (e ∷ es) = at ((e.0.y == j) && (degree S e.0 == r)) refl (up_down es)
    where
      at : (b : Bool) → (e.0.y == j) && (degree S e.0 == r) ≡ b → map up (map down (at_slice es)) ≡ at_slice es
          → map up (map down (cond b (e ∷ at_slice es) (at_slice es))) ≡ cond b (e ∷ at_slice es) (at_slice es)
      at true is later = λ i. up_again e (eqb-true e.0.y j (both_true (e.0.y == j) (degree S e.0 == r) is)) i ∷ later i
      at false is later = later

  down_again : (e : Key S.variables × ℕ) → e.0.y ≡ 0 → down (up e) ≡ e
  down_again e is = λ i. (record { powers = no_powers-add S.variables e.0.powers i; y = sym is i }, e.1)

  down_up : (es : List (Key S.variables × ℕ)) → All (λ e. e.0.y ≡ 0) es
      → map down (map up (unless_zero es)) ≡ unless_zero es
  down_up [] none = refl
  down_up (e ∷ es) none = at (not (e.1 == 0)) (none 0 e (omega arith))
      (down_up es (λ k x lt. none (suc k) x (omega arith)))
    where
      at : (b : Bool) → e.0.y ≡ 0 → map down (map up (unless_zero es)) ≡ unless_zero es
          → map down (map up (cond b (e ∷ unless_zero es) (unless_zero es)))
          ≡ cond b (e ∷ unless_zero es) (unless_zero es)
      at true is later = λ i. down_again e is i ∷ later i
      at false is later = later

  -- the terms of a part without Y, where it is the slice
  terms_of_part : (p : Poly S) (m : PartMap S) → of_map (ring S) m ≡ slice_at (ring S) r j p
      → All (λ e. e.1 < S.modulus) (entries m) → terms_of_degree S p j r ≡ map up (unless_zero (entries m))
  terms_of_part p m is below = terms_raised (ring S) j r p m is (same_order S.variables j) below

  module _ (p q : Poly S) (m : PartMap S) (is : of_map (ring S) m ≡ slice_at (ring S) r j p)
      (below : All (λ e. e.1 < S.modulus) (entries m)) (no_y : All (λ e. e.0.y ≡ 0) (entries m)) where
    -- the terms of another polynomial at a slice are those of the part exactly where the slices are the same
    pub slices_from_terms : map down (terms_of_degree S q j r) ≡ unless_zero (entries m)
        → slice_at (ring S) r j p ≡ slice_at (ring S) r j q
    slices_from_terms same = same_slice (ring S) r j p q
        (terms_of_part p m is below ∙ sym (ap (map up) same) ∙ up_down (terms (ring S) q))

    pub terms_from_slices : slice_at (ring S) r j p ≡ slice_at (ring S) r j q
        → map down (terms_of_degree S q j r) ≡ unless_zero (entries m)
    terms_from_slices same = ap (map down) (terms_of_part q m (is ∙ same) below) ∙ down_up (entries m) no_y
