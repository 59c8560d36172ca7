-- Coefficients of powers of Y as plain data, and their product with the factors.
use Rattle.std.proofs.Common.{◌≡◌, ℕ, ◌+◌, ◌-◌, ◌%◌, ◌^◌, ◌<◌, ◌≤◌, true, false, List, [], ◌∷◌, length, map, drop}
use Rattle.std.proofs.Common.{refl, sym, ◌∙◌, ap, subst, arith, get_or, min, All}
use Rattle.std.specs.Prelude.{◌==◌, if◌then◌else◌, filter}
use Rattle.std.specs.FinMap.{FinMap, empty, entries}
use Rattle.std.proofs.lemmas.Bool.Decides.{nat_tests}
use Rattle.std.proofs.lemmas.List.{get_or-map, length-map}
use Rattle.std.proofs.lemmas.List.Elements.{All-head, All-tail, All-nil, All-cons}
use Rattle.ps_model.specs.Keys.{Key, key_compare, add_keys}
use Rattle.ps_model.specs.SeriesRing.{ring}
use Rattle.ps_model.specs.FiniteMaps.{put, collected, product_maps}
use Rattle.ps_model.specs.Slices.{y_coefficient}
use Rattle.ps_model.specs.Polynomial.{of_map}
use Rattle.ps_model.specs.Ring.{Ring}
use Rattle.ps_model.specs.Notation as words
use Rattle.ps_model.specs.Factors.{product_of}
use Rattle.ps_model.specs.Job.{series_ring}
use Rattle.ps_model.specs.Plain.{entry_of, value_in}
use Rattle.ps_model.specs.PlainLists.{IsInRange, HasProductsInRange, added, without_y, y_terms, cut_map}
use Rattle.ps_model.specs.PlainPolynomial.{plain_polynomial, HasValuesBelow, HasKeysWithin, IsWithin, greatest_key}
use Rattle.ps_model.specs.PlainPolynomial.{total_powers}
use Rattle.ps_model.specs.declared.plain.PlainTerm.{PlainTerm}
use Rattle.ps_model.proofs.OfMap.{of_map-collected}
use Rattle.ps_model.proofs.Factors.{truncated-product_right}
use Rattle.ps_model.proofs.YCoefficients.{y_entries, y_coefficient_listed}
use Rattle.ps_model.proofs.PlainSums.{added_none, added_more, collected_is, from_start}
use Rattle.ps_model.proofs.PlainPolynomials.{modulus_is, product_polynomial, cut_polynomial, values_collected}
use Rattle.ps_model.proofs.PlainPolynomials.{values_retained}
use Rattle.ps_model.proofs.PlainBounds.{in_range_within, collected_within, entries_within, products_in_range}
use Rattle.ps_model.proofs.PlainBounds.{greatest_within, retained_within, total_powers-cons, total_powers-drop}

abbrev Map : Type 0
Map = FinMap (key_compare 8) ℕ

abbrev pub low : PlainTerm → Key 8 × ℕ
low t = without_y (entry_of t)

-- the terms are added from the last one on
pub low_none : (m : ℕ) (ts : List PlainTerm) (p : Map) → p ≡ empty → p ≡ added m (drop (length ts) (map low ts)) empty
low_none m ts p e = added_none m (map low ts) (length ts) p (sym (rw length-map refl))
    ∙ ap (added m (drop (length ts) (map low ts))) e

pub low_more : (m : ℕ) (ts : List PlainTerm) (i : ℕ) (d : PlainTerm) (now new : Map) → 0 < i → i ≤ length ts
    → now ≡ added m (drop i (map low ts)) empty
    → new ≡ put (key_compare 8) now (low (get_or ts (i - 1) d)).0
    (((get_or ts (i - 1) d).coefficient + value_in now (low (get_or ts (i - 1) d)).0) % m)
    → new ≡ added m (drop (i - 1) (map low ts)) empty
low_more m ts i d now new some le so_far step = added_more m (map low ts) i (low (get_or ts (i - 1) d)).0
    (get_or ts (i - 1) d).coefficient empty now new some (rw length-map le)
    (get_or-map low ts (i - 1) d (low (get_or ts (i - 1) d)) (omega arith)) so_far step

pub low_all : (m : ℕ) (ts : List PlainTerm) (i : ℕ) (p : Map) → i ≤ 0 → p ≡ added m (drop i (map low ts)) empty
    → p ≡ collected (key_compare 8) m (map low ts)
low_all m ts i p le is = is ∙ from_start (λ l. added m l empty) (map low ts) (map low ts) i le refl
    ∙ sym (collected_is m (map low ts))

-- the terms with Y^k are the entries with Y^k
low_terms : (k : ℕ) (ts : List PlainTerm) → map low (filter (λ t. t.y == k) ts) ≡ y_terms k (map entry_of ts)
low_terms k [] = refl
low_terms k (t ∷ ts) = elim (t.y == k) as (λ b.
    map low (if b then t ∷ filter (λ t. t.y == k) ts else filter (λ t. t.y == k) ts)
    ≡ map without_y (if b then entry_of t ∷ filter (λ e. e.0.y == k) (map entry_of ts)
    else filter (λ e. e.0.y == k) (map entry_of ts))) [
      | true ↦ ap (λ l. low t ∷ l) (low_terms k ts)
      | false ↦ low_terms k ts
    ]

pub of_terms : (m k : ℕ) (ts us : List PlainTerm) (a : Map) (p : Map) → map entry_of ts ≡ entries a
    → us ≡ filter (λ t. t.y == k) ts → p ≡ collected (key_compare 8) m (map low us)
    → p ≡ collected (key_compare 8) m (y_terms k (entries a))
of_terms m k ts us a p listed kept is = is ∙ ap (collected (key_compare 8) m) (ap (map low) kept ∙ low_terms k ts
    ∙ ap (y_terms k) listed)

-- the same as entries of the ring
same_entries : (R : Ring) (k : ℕ) (es : List (R.Key × ℕ))
    → map (λ e. (R.rest e.0, e.1)) (filter (λ e. R.y_degree e.0 == k) es) ≡ y_entries R k es
same_entries R k [] = refl
same_entries R k (e ∷ es) = elim (R.y_degree e.0 == k) as (λ b.
    map (λ e. (R.rest e.0, e.1)) (if b then e ∷ filter (λ e. R.y_degree e.0 == k) es
    else filter (λ e. R.y_degree e.0 == k) es)
    ≡ (if b then (R.rest e.0, e.1) ∷ y_entries R k es else y_entries R k es)) [
      | true ↦ ap (λ l. (R.rest e.0, e.1) ∷ l) (same_entries R k es)
      | false ↦ same_entries R k es
    ]

of_map-y_entries : (R : Ring) (k : ℕ) (p : FinMap R.compare ℕ)
    → of_map R (collected R.compare R.modulus (y_entries R k (entries p))) ≡ y_coefficient R k (of_map R p)
unfolding of_map
of_map-y_entries R k p = of_map-collected R (y_entries R k (entries p)) ∙ sym (y_coefficient_listed R k (entries p))

pub y_terms_polynomial : (m : ℕ) (ws : List ℕ) → 2 ≤ m → (k : ℕ) (a : Map)
    → plain_polynomial m ws (collected (key_compare 8) m (y_terms k (entries a)))
    ≡ words.y_coefficient k (plain_polynomial m ws a)
unfolding series_ring plain_polynomial
y_terms_polynomial m ws two k a = ap
    (λ n. of_map (ring (series_ring m ws)) (collected (key_compare 8) n (y_terms k (entries a)))) (modulus_is m two)
    ∙ ap (λ es. of_map (ring (series_ring m ws)) (collected (key_compare 8) (ring (series_ring m ws)).modulus es))
    (same_entries (ring (series_ring m ws)) k (entries a))
    ∙ of_map-y_entries (ring (series_ring m ws)) k a

-- a power of Y that is cut at a greater number than any here
capped : (b : Key 8) (es : List (Key 8 × ℕ)) (k : ℕ) → b.y < 2 ^ 32 → All (λ e. IsWithin e.0 b) es
    → y_terms (min k 18446744073709551615) es ≡ y_terms k es
capped b [] k small h = refl
capped b (e ∷ es) k small h = ap (λ t. map without_y (if t then e ∷ filter (λ e. e.0.y == min k 18446744073709551615) es
    else filter (λ e. e.0.y == min k 18446744073709551615) es)) (same e.0.y (All-head (λ (e : Key 8
    × ℕ). IsWithin e.0 b)
    e es h).y)
    ∙ (elim (e.0.y == k) as (λ t. map without_y (if t then e ∷ filter (λ e. e.0.y == min k 18446744073709551615) es
    else filter (λ e. e.0.y == min k 18446744073709551615) es)
    ≡ map without_y (if t then e ∷ filter (λ e. e.0.y == k) es else filter (λ e. e.0.y == k) es)) [
      | true ↦ ap (λ l. without_y e ∷ l) (capped b es k small (All-tail (λ (e : Key 8 × ℕ). IsWithin e.0 b) e es h))
      | false ↦ capped b es k small (All-tail (λ (e : Key 8 × ℕ). IsWithin e.0 b) e es h)
    ])
  where
    same : (y : ℕ) → y ≤ b.y → (y == min k 18446744073709551615) ≡ (y == k)
    same y le = grind (arith, nat_tests)

y_terms_within : (b : Key 8) (k : ℕ) (es : List (Key 8 × ℕ)) → All (λ e. IsWithin e.0 b) es
    → All (λ e. IsWithin e.0 b) (y_terms k es)
y_terms_within b k [] h = All-nil (λ (e : Key 8 × ℕ). IsWithin e.0 b)
y_terms_within b k (e ∷ es) h = elim (e.0.y == k) as (λ t. All (λ e. IsWithin e.0 b)
    (map without_y (if t then e ∷ filter (λ e. e.0.y == k) es else filter (λ e. e.0.y == k) es))) [
      | true ↦ All-cons (λ (e : Key 8 × ℕ). IsWithin e.0 b) (without_y e) (y_terms k es)
          (record { powers = (All-head (λ (e : Key 8 × ℕ). IsWithin e.0 b) e es h).powers; y = omega arith })
          (y_terms_within b k es (All-tail (λ (e : Key 8 × ℕ). IsWithin e.0 b) e es h))
      | false ↦ y_terms_within b k es (All-tail (λ (e : Key 8 × ℕ). IsWithin e.0 b) e es h)
    ]

-- the lead of an input, cut at d, as plain data
pub record IsPlainLead (m : ℕ) (ws : List ℕ) (k : ℕ) (input cut lead : Map) : Type 0 where
  pub is : plain_polynomial m ws lead ≡ words.y_coefficient k (plain_polynomial m ws cut)
  pub within : HasKeysWithin (greatest_key input) lead

pub plain_lead : (m : ℕ) (ws : List ℕ) (d k wide : ℕ) → 2 ≤ m → (input cut lead : Map) (fs : List Map)
    → IsInRange (total_powers (input ∷ fs)) → cut ≡ cut_map ws d input → wide ≡ min k 18446744073709551615
    → lead ≡ collected (key_compare 8) m (y_terms wide (entries cut)) → IsPlainLead m ws k input cut lead
unfolding IsInRange
plain_lead m ws d k wide two input cut lead fs fits cut_is wide_is is = record {
  is = ap (plain_polynomial m ws) lead_is ∙ y_terms_polynomial m ws two k cut;
  within = subst (HasKeysWithin (greatest_key input)) (sym lead_is)
      (collected_within (greatest_key input) m (y_terms k (entries cut)) (y_terms_within (greatest_key input) k
      (entries cut) entries_small));
}
  where
    cut_within : HasKeysWithin (greatest_key input) cut
    cut_within = subst (HasKeysWithin (greatest_key input)) (sym cut_is)
        (retained_within (greatest_key input) _ input (greatest_within input))

    entries_small : All (λ e. IsWithin e.0 (greatest_key input)) (entries cut)
    entries_small = entries_within (greatest_key input) cut cut_within

    y_small : (greatest_key input).y < 2 ^ 32
    y_small = let whole = subst IsInRange (total_powers-cons input fs) fits in
        let sum = whole.1 in omega arith

    lead_is : lead ≡ collected (key_compare 8) m (y_terms k (entries cut))
    lead_is = is ∙ ap (λ n. collected (key_compare 8) m (y_terms n (entries cut))) wide_is
        ∙ ap (collected (key_compare 8) m) (capped (greatest_key input) (entries cut) k y_small entries_small)

pub factors_fit : (input : Map) (fs : List Map) → IsInRange (total_powers (input ∷ fs)) → IsInRange (total_powers fs)
factors_fit input fs fits = in_range_within (total_powers fs) (total_powers (input ∷ fs))
    (total_powers-drop 1 (input ∷ fs)) fits

pub lead_fits : (m : ℕ) (ws : List ℕ) (k : ℕ) (input cut lead product : Map) (fs : List Map)
    → IsInRange (total_powers (input ∷ fs)) → IsPlainLead m ws k input cut lead
    → HasKeysWithin (total_powers fs) product → HasProductsInRange (entries lead) (entries product)
lead_fits m ws k input cut lead product fs fits is within = products_in_range (greatest_key input) (total_powers fs)
    lead product is.within within (subst IsInRange (total_powers-cons input fs) fits)

-- times the product of the factors
pub record IsPlainWhole (m : ℕ) (ws : List ℕ) (d k : ℕ) (cut whole : Map) (fs : List Map) : Type 0 where
  pub is : plain_polynomial m ws whole ≡ words.truncated d (words.product
      (words.y_coefficient k (plain_polynomial m ws cut)) (product_of (map (plain_polynomial m ws) fs)))
  pub residues : HasValuesBelow m whole

pub plain_whole : (m : ℕ) (ws : List ℕ) (d k : ℕ) → 2 ≤ m
    → (input cut lead product multiple whole : Map) (fs : List Map)
    → IsPlainLead m ws k input cut lead
    → plain_polynomial m ws product ≡ words.truncated d (product_of (map (plain_polynomial m ws) fs))
    → multiple ≡ product_maps (key_compare 8) (add_keys 8) m lead product → whole ≡ cut_map ws d multiple
    → IsPlainWhole m ws d k cut whole fs
plain_whole m ws d k two input cut lead product multiple whole fs lead_is product_is made cut_is = record {
  is = ap (plain_polynomial m ws) (cut_is ∙ ap (cut_map ws d) made) ∙ cut_polynomial m ws d _
      ∙ ap (words.truncated d) (product_polynomial m ws two lead product
      ∙ (λ i. words.product (lead_is.is i) (product_is i)))
      ∙ sym (truncated-product_right (ring (series_ring m ws)) (ring (series_ring m ws)).degree
      (ring (series_ring m ws)).degree_adds d _ (product_of (map (plain_polynomial m ws) fs)));
  residues = subst (HasValuesBelow m) (sym (cut_is ∙ ap (cut_map ws d) made))
      (values_retained m two _ _ (values_collected m two _));
}
