-- The polynomials of maps: sums of terms, products and parts.
use Rattle.std.proofs.Common.{◌≡◌, ℕ, ◌+◌, ◌-◌, ◌*◌, ◌%◌, ◌<◌, ◌≤◌, Bool, true, false, cond, List, [], ◌∷◌, map, refl}
use Rattle.std.proofs.Common.{sym, ◌∙◌, ap, subst, arith, All}
use Rattle.std.specs.Prelude.{Option, Some, None, max, nat_le}
use Rattle.std.specs.Option.{unwrap_or}
use Rattle.std.specs.Ordering.{eq_by_cmp}
use Rattle.std.specs.FinMap.{FinMap, get, entries, get-entries, find, retain_keys, get-retain_keys}
use Rattle.std.proofs.Math.Nat.{mod-lt, mod-eq_of_lt}
use Rattle.std.proofs.lemmas.List.Elements.{All-map, All-head, All-tail}
use Rattle.ps_model.specs.Keys.{Key, weights_from, key_compare, add_keys, y_key}
use Rattle.ps_model.specs.KeyLaws.{weights_from-positive, key_compare-IsAntisymmetric}
use Rattle.ps_model.specs.Ring.{Ring}
use Rattle.ps_model.specs.SeriesRing.{ring, ring_of}
use Rattle.ps_model.specs.FiniteMaps.{collected, sum_maps, product_maps}
use Rattle.ps_model.specs.Residues.{HasResidues}
use Rattle.ps_model.specs.Polynomial.{of_map, kept_terms, monomial, one}
use Rattle.ps_model.specs.Truncation as by_degree
use Rattle.ps_model.specs.Shift as shift
use Rattle.ps_model.specs.Notation as words
use Rattle.ps_model.specs.Job.{series_ring}
use Rattle.ps_model.specs.Plain.{entry_of, TermsInOrder}
use Rattle.ps_model.specs.PlainLists.{plain_degree, cut_map}
use Rattle.ps_model.specs.PlainPolynomial.{plain_polynomial, HasResiduesBelow, HasValuesBelow, y_part}
use Rattle.ps_model.specs.declared.plain.PlainTerm.{PlainTerm}
use Rattle.ps_model.proofs.OfMap.{coefficient-of_map, map-of_map, of_map-collected, of_map-sum, of_map-product}
use Rattle.ps_model.proofs.Coefficients.{same_coefficients, same_values, linear_form-collected}
use Rattle.ps_model.proofs.Coefficients.{linear_form-polynomial, above_zero}
use Rattle.ps_model.proofs.Values.{linear_form-sum, linear_form-monomial}
use Rattle.ps_model.proofs.Origin.{coefficient-kept_terms}
use Rattle.std.proofs.Math.Nat.{add-mod}

abbrev Map : Type 0
Map = FinMap (key_compare 8) ℕ

kept_value : (m : ℕ) (b : Bool) (o : Option ℕ) → 0 < m → unwrap_or (cond b o None) 0 % m ≡ cond b (unwrap_or o 0 % m) 0
kept_value m true o h = refl
kept_value m false o h = mod-eq_of_lt h

module _ (R : Ring) where
  -- the keys that pass are the terms that pass
  of_map-retained : (t : R.Key → Bool) (p : FinMap R.compare ℕ) →
      of_map R (retain_keys p t) ≡ kept_terms R t (of_map R p)
  of_map-retained t p = same_coefficients R _ _ (λ k. coefficient-of_map R (retain_keys p t) k
      ∙ ap (λ o. unwrap_or o 0 % R.modulus) (get-retain_keys p t k (λ x e. ap t (sym (R.antisymmetric k x e))))
      ∙ kept_value R.modulus (t k) (get p k) (above_zero R)
      ∙ sym (coefficient-kept_terms R t (of_map R p) k ∙ ap (λ n. cond (t k) n 0) (coefficient-of_map R p k)))

  of_map-cut : (D : ℕ) (p : FinMap R.compare ℕ) → of_map R (retain_keys p (λ k. nat_le (R.degree k) D))
      ≡ by_degree.truncated R R.degree D (of_map R p)
  unfolding by_degree.truncated
  of_map-cut D p = of_map-retained (λ k. nat_le (R.degree k) D) p

  of_map-monomial : (c : ℕ) (k : R.Key) → of_map R (collected R.compare R.modulus ((k, c) ∷ [])) ≡ monomial R c k
  unfolding monomial
  of_map-monomial c k = of_map-collected R ((k, c) ∷ [])

  of_map-linear : (c : ℕ) →
      of_map R (collected R.compare R.modulus ((R.y 1, 1) ∷ (R.origin, c) ∷ [])) ≡ shift.linear R c
  unfolding shift.linear
  of_map-linear c = of_map-collected R ((R.y 1, 1) ∷ (R.origin, c) ∷ [])
      ∙ same_values R _ _ (λ f. linear_form-polynomial R f ((R.y 1, 1) ∷ (R.origin, c) ∷ [])
      ∙ two_values (f (R.y 1)) (f R.origin)
      ∙ sym (linear_form-sum R f (monomial R 1 (R.y 1)) (monomial R c R.origin)
      ∙ (λ i. (linear_form-monomial R f 1 (R.y 1) i + linear_form-monomial R f c R.origin i) % R.modulus)))
    where
      two_values : (x z : ℕ) →
          (1 * x + (c * z + 0)) % R.modulus ≡ ((1 * x) % R.modulus + (c * z) % R.modulus) % R.modulus
      two_values x z = ap (λ n. n % R.modulus) (omega arith) ∙ add-mod (1 * x) (c * z) R.modulus

  of_map-one : of_map R (collected R.compare R.modulus ((R.origin, 1) ∷ [])) ≡ one R
  unfolding one
  of_map-one = of_map-monomial 1 R.origin

  maps_equal : (p q : FinMap R.compare ℕ) → HasResidues R p → HasResidues R q → of_map R p ≡ of_map R q → p ≡ q
  maps_equal p q hp hq e = sym (map-of_map R p hp) ∙ ap (λ x. x.map) e ∙ map-of_map R q hq

pub modulus_is : (m : ℕ) → 2 ≤ m → m ≡ max 2 m
modulus_is m two = omega arith

module _ (m : ℕ) (ws : List ℕ) (two : 2 ≤ m) where
  pub product_polynomial : (a b : Map) → plain_polynomial m ws (product_maps (key_compare 8) (add_keys 8) m a b)
      ≡ words.product (plain_polynomial m ws a) (plain_polynomial m ws b)
  unfolding series_ring plain_polynomial
  product_polynomial a b =
      ap (λ n. of_map (ring (series_ring m ws)) (product_maps (key_compare 8) (add_keys 8) n a b)) (modulus_is m two)
      ∙ of_map-product (ring (series_ring m ws)) a b

  pub sum_polynomial : (a b : Map) → plain_polynomial m ws (sum_maps (key_compare 8) m a b)
      ≡ words.sum (plain_polynomial m ws a) (plain_polynomial m ws b)
  unfolding series_ring plain_polynomial
  sum_polynomial a b = ap (λ n. of_map (ring (series_ring m ws)) (sum_maps (key_compare 8) n a b)) (modulus_is m two)
      ∙ of_map-sum (ring (series_ring m ws)) a b

  pub y_power_polynomial : (k : ℕ) → plain_polynomial m ws (collected (key_compare 8) m ((y_key 8 k, 1) ∷ []))
      ≡ words.monomial 1 ((ring (series_ring m ws)).y k)
  unfolding series_ring plain_polynomial
  y_power_polynomial k = ap
      (λ n. of_map (ring (series_ring m ws)) (collected (key_compare 8) n ((y_key 8 k, 1) ∷ []))) (modulus_is m two)
      ∙ of_map-monomial (ring (series_ring m ws)) 1 (y_key 8 k)

  pub one_polynomial : plain_polynomial m ws (collected (key_compare 8) m ((y_key 8 0, 1) ∷ [])) ≡ words.one
  unfolding series_ring plain_polynomial
  one_polynomial = ap (λ n. of_map (ring (series_ring m ws)) (collected (key_compare 8) n ((y_key 8 0, 1) ∷ [])))
      (modulus_is m two)
      ∙ of_map-one (ring (series_ring m ws))

  pub linear_polynomial : (v : ℕ)
      → plain_polynomial m ws (collected (key_compare 8) m ((y_key 8 1, 1) ∷ (y_key 8 0, m - v) ∷ []))
      ≡ words.linear ((ring (series_ring m ws)).modulus - v)
  unfolding series_ring plain_polynomial
  linear_polynomial v = ap
      (λ n. of_map (ring (series_ring m ws)) (collected (key_compare 8) n ((y_key 8 1, 1) ∷ (y_key 8 0, n - v) ∷ [])))
      (modulus_is m two)
      ∙ of_map-linear (ring (series_ring m ws)) (max 2 m - v)

  -- maps with equal polynomials, all of whose values are residues, and whose terms are listed
  positive : (es : List (Key 8 × ℕ)) (q : Key 8) (c : ℕ) → All (λ e. 0 < e.1) es →
      find (key_compare 8) q es ≡ Some c → 0 < c
  positive [] q c h e = absurd (cc)
  positive (f ∷ es) q c h e = elim (eq_by_cmp (key_compare 8) q f.0) as
      (λ b. cond b (Some f.1) (find (key_compare 8) q es) ≡ Some c → 0 < c) [
        | true ↦ λ is. let v : f.1 ≡ c = cc in subst (λ n. 0 < n) v (All-head (λ (e : Key 8 × ℕ). 0 < e.1) f es h)
        | false ↦ λ is. positive es q c (All-tail (λ (e : Key 8 × ℕ). 0 < e.1) f es h) is
      ] e

  residues : (p : Map) (ts : List PlainTerm) → map entry_of ts ≡ entries p → TermsInOrder ts → HasValuesBelow m p
      → (k : Key 8) (c : ℕ) → get p k ≡ Some c → (0 < c) × (c < max 2 m)
  unfolding HasValuesBelow
  residues p ts listed h below k c e = (
    positive (entries p) k c (subst (All (λ e. 0 < e.1)) listed (All-map (λ e. 0 < e.1) entry_of ts h.1))
        (sym (get-entries p k) ∙ e),
    subst (λ n. c < n) (modulus_is m two) (subst (λ n. n < m) (ap (λ o. unwrap_or o 0) e) (below k)),
  )

  pub same_maps : (p q : Map) (ts us : List PlainTerm) → map entry_of ts ≡ entries p → TermsInOrder ts
      → map entry_of us ≡ entries q → TermsInOrder us → HasValuesBelow m p → HasValuesBelow m q
      → plain_polynomial m ws p ≡ plain_polynomial m ws q → p ≡ q
  unfolding series_ring plain_polynomial
  same_maps p q ts us lp op lq oq hp hq e = maps_equal (ring (series_ring m ws)) p q (residues p ts lp op hp)
      (residues q us lq oq hq) e

module _ (m : ℕ) (two : 2 ≤ m) where
  pub values_collected : (es : List (Key 8 × ℕ)) → HasValuesBelow m (collected (key_compare 8) m es)
  unfolding HasValuesBelow
  values_collected es k = subst (λ n. n < m)
      (sym (linear_form-collected (ring_of 8 m two (weights_from 8 []) (weights_from-positive 8 [])) es k))
      (mod-lt _ (omega arith))

  kept_below : (b : Bool) (o : Option ℕ) → unwrap_or o 0 < m → unwrap_or (cond b o None) 0 < m
  kept_below true o h = h
  kept_below false o h = omega arith

  pub values_retained : (t : Key 8 → Bool) (p : Map) → HasValuesBelow m p → HasValuesBelow m (retain_keys p t)
  unfolding HasValuesBelow
  values_retained t p h k = subst (λ o. unwrap_or o 0 < m)
      (sym (get-retain_keys p t k (λ x e. ap t (sym (key_compare-IsAntisymmetric 8 k x e)))))
      (kept_below (t k) (get p k) (h k))

  found_below : (es : List (Key 8 × ℕ)) (q : Key 8) → All (λ e. e.1 < m) es →
      unwrap_or (find (key_compare 8) q es) 0 < m
  found_below [] q h = omega arith
  found_below (f ∷ es) q h = elim (eq_by_cmp (key_compare 8) q f.0) as
      (λ b. unwrap_or (cond b (Some f.1) (find (key_compare 8) q es)) 0 < m) [
        | true ↦ All-head (λ (e : Key 8 × ℕ). e.1 < m) f es h
        | false ↦ found_below es q (All-tail (λ (e : Key 8 × ℕ). e.1 < m) f es h)
      ]

  pub values_below : (p : Map) → HasResiduesBelow m p → HasValuesBelow m p
  unfolding HasValuesBelow
  values_below p h k = subst (λ o. unwrap_or o 0 < m) (sym (get-entries p k)) (found_below (entries p) k h)

pub cut_polynomial : (m : ℕ) (ws : List ℕ) (d : ℕ) (p : Map) →
    plain_polynomial m ws (cut_map ws d p) ≡ words.truncated d (plain_polynomial m ws p)
unfolding series_ring plain_polynomial plain_degree
cut_polynomial m ws d p = of_map-cut (ring (series_ring m ws)) d p

pub y_part_polynomial : (m : ℕ) (ws : List ℕ) (k : ℕ) (p : Map) →
    plain_polynomial m ws (y_part k p) ≡ words.y_powers_from k (plain_polynomial m ws p)
unfolding series_ring plain_polynomial
y_part_polynomial m ws k p = of_map-retained (ring (series_ring m ws)) (λ x. nat_le k x.y) p
