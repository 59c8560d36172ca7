-- The terms of a slice, raised by a power of Y, are the terms of one degree at that power.
use Rattle.std.proofs.Common.{◌≡◌, ℕ, zero, suc, ◌+◌, ◌*◌, ◌%◌, Bool, cond, ◌&&◌, T, List, [], ◌∷◌, map, refl, sym, ◌∙◌}
use Rattle.std.proofs.Common.{◌<◌, true, false, All, ap, subst, arith, inl, inr}
use Rattle.std.specs.Prelude.{◌==◌, not, None}
use Rattle.std.proofs.lemmas.Bool.Decides.{nat_tests}
use Rattle.std.specs.List.{filter}
use Rattle.std.specs.Ordering.{nat_cmp, ordering_then, is_lt}
use Rattle.std.specs.Cmp.{nat_cmp_is}
use Rattle.std.specs.Cmp.Lexicographic.{slice_cmp}
use Rattle.std.specs.FinMap.{FinMap, entries, is_sorted, entries_sorted, retain_keys, get-entries, get-retain_keys}
use Rattle.std.specs.FinMap.Entries.{below_all, where_key, is_sorted-where_key, find-where_key, same_entries}
use Rattle.std.specs.declared.cmp.Ordering.{Ordering}
use Rattle.std.specs.declared.cmp.Ordering.TheVariants.{Less, Equal, Greater}
use Rattle.std.proofs.Math.Nat.{mod-mod, one-mul}
use Rattle.std.proofs.lemmas.Bool.{cases_order}
use Rattle.ps_model.specs.BlockText.{term_text, terms_of_degree}
use Rattle.ps_model.specs.Keys.{Key, Powers, numbers, add_powers, add_keys, y_key, key_compare}
use Rattle.ps_model.specs.KeyLaws.{no_powers-add}
use Rattle.ps_model.specs.Polynomial.{Polynomial, polynomial, of_map, terms, monomial, product, kept_terms}
use Rattle.ps_model.specs.Ring.{Ring}
use Rattle.ps_model.specs.SeriesRing.{SeriesRing, ring, Poly}
use Rattle.ps_model.specs.Slices.{slice_at}
use Rattle.ps_model.specs.Sums.{total}
use Rattle.ps_model.specs.Truncation.{homogeneous_part}
use Rattle.ps_model.proofs.Coefficients.{linear_form-polynomial, same_values, map-polynomial}
use Rattle.ps_model.proofs.Collected.{AreResidues, is_collected}
use Rattle.ps_model.proofs.Degrees.{kept_terms-commute}
use Rattle.ps_model.proofs.KeptTerms.{kept_terms-kept_terms}
use Rattle.ps_model.proofs.Maps.{both, first_part, second_part, entries-from_entries}
use Rattle.ps_model.proofs.OfMap.{linear_form-of_map}
use Rattle.ps_model.proofs.Retained.{map-kept_terms}
use Rattle.ps_model.proofs.Slices.{up_slice_at}
use Rattle.ps_model.proofs.Values.{linear_form-monomial, linear_form-product}
use Rattle.printer.specs.Lines.{texts_of}

-- each key with another added
abbrev pub raised_by : {K : Type 0} → (K → K → K) → K → List (K × ℕ) → List (K × ℕ)
raised_by add k es = map (λ e. (add k e.0, e.1)) es

module _ {K : Type 0} (compare : K → K → Ordering) (add : K → K → K) (k : K)
    (keeps : (x z : K) → compare (add k x) (add k z) ≡ compare x z) where
  below_all-raised : (x : K) (es : List (K × ℕ)) → T (below_all compare x es)
      → T (below_all compare (add k x) (raised_by add k es))
  below_all-raised x [] h = tt
  below_all-raised x (e ∷ es) h = both _ _ (subst (λ r. T (is_lt r)) (sym (keeps x e.0)) (first_part _ _ h))
      (below_all-raised x es (second_part _ _ h))

  -- adding a key keeps the order
  pub is_sorted-raised : (es : List (K × ℕ)) → T (is_sorted compare es)
      → T (is_sorted compare (raised_by add k es))
  is_sorted-raised [] h = tt
  is_sorted-raised (e ∷ es) h = both _ _ (below_all-raised e.0 es (first_part _ _ h))
      (is_sorted-raised es (second_part _ _ h))

module _ {K : Type 0} (add : K → K → K) (k : K) where
  AreResidues-raised : (m : ℕ) (es : List (K × ℕ)) → AreResidues m es → AreResidues m (raised_by add k es)
  AreResidues-raised m [] h = tt
  AreResidues-raised m (e ∷ es) h = (h.0, h.1, AreResidues-raised m es h.2)

  total-raised : (f : K → ℕ) (es : List (K × ℕ)) → total f (raised_by add k es) ≡ total (λ x. f (add k x)) es
  total-raised f [] = refl
  total-raised f (e ∷ es) = ap (λ n. e.1 * f (add k e.0) + n) (total-raised f es)

-- the entries with a coefficient other than 0
abbrev pub unless_zero : {K : Type 0} → List (K × ℕ) → List (K × ℕ)
unless_zero es = filter (λ e. not (e.1 == 0)) es

module _ {K : Type 0} (compare : K → K → Ordering) where
  below_all-unless_zero : (x : K) (es : List (K × ℕ)) → T (below_all compare x es)
      → T (below_all compare x (unless_zero es))
  below_all-unless_zero x [] h = tt
  below_all-unless_zero x (e ∷ es) h = at (not (e.1 == 0)) (first_part _ _ h)
      (below_all-unless_zero x es (second_part _ _ h))
    where
      at : (b : Bool) → T (is_lt (compare x e.0)) → T (below_all compare x (unless_zero es))
          → T (below_all compare x (cond b (e ∷ unless_zero es) (unless_zero es)))
      at true first later = both _ _ first later
      at false first later = later

  is_sorted-unless_zero : (es : List (K × ℕ)) → T (is_sorted compare es) → T (is_sorted compare (unless_zero es))
  is_sorted-unless_zero [] h = tt
  is_sorted-unless_zero (e ∷ es) h = at (not (e.1 == 0)) (below_all-unless_zero e.0 es (first_part _ _ h))
      (is_sorted-unless_zero es (second_part _ _ h))
    where
      at : (b : Bool) → T (below_all compare e.0 (unless_zero es)) → T (is_sorted compare (unless_zero es))
          → T (is_sorted compare (cond b (e ∷ unless_zero es) (unless_zero es)))
      at true first later = both _ _ first later
      at false first later = later

-- they have the same totals
total-unless_zero : {K : Type 0} (f : K → ℕ) (es : List (K × ℕ)) → total f (unless_zero es) ≡ total f es
total-unless_zero f [] = refl
total-unless_zero f (e ∷ es) = at (e.1 == 0) refl (total-unless_zero f es)
  where
    zero_is : (c : ℕ) → (c == 0) ≡ true → c ≡ 0
    zero_is c is = grind (arith, nat_tests)

    nothing_adds : (n t : ℕ) → t ≡ 0 * n + t
    nothing_adds n t = omega arith

    zero_adds : (c n t : ℕ) → c ≡ 0 → t ≡ c * n + t
    zero_adds c n t is = nothing_adds n t ∙ sym (ap (λ k. k * n + t) is)

    at : (b : Bool) → (e.1 == 0) ≡ b → total f (unless_zero es) ≡ total f es
        → total f (cond (not b) (e ∷ unless_zero es) (unless_zero es)) ≡ e.1 * f e.0 + total f es
    at true is later = later ∙ zero_adds e.1 (f e.0) (total f es) (zero_is e.1 is)
    at false is later = ap (λ t. e.1 * f e.0 + t) later

-- residues, where each coefficient is below the modulus
AreResidues-unless_zero : {K : Type 0} (m : ℕ) (es : List (K × ℕ)) → All (λ e. e.1 < m) es
    → AreResidues m (unless_zero es)
AreResidues-unless_zero m [] below = tt
AreResidues-unless_zero {K = K} m (e ∷ es) below = at (e.1 == 0) refl (below 0 e (omega arith))
    (AreResidues-unless_zero m es (λ k x lt. below (suc k) x (omega arith)))
  where
    some : (c : ℕ) → (c == 0) ≡ false → 0 < c
    some c is = grind (arith, nat_tests)

    at : (b : Bool) → (e.1 == 0) ≡ b → e.1 < m → AreResidues m (unless_zero es)
        → AreResidues m (cond {A = List (K × ℕ)} (not b) (e ∷ unless_zero es) (unless_zero es))
    at true is lt later = later
    at false is lt later = (some e.1 is, lt, later)

module _ (R : Ring) where
  -- the terms of a formal sum that is in order
  terms_are : (es : List (R.Key × ℕ)) → T (is_sorted R.compare es) → AreResidues R.modulus es
      → terms R (polynomial R es) ≡ es
  terms_are es sorted residues = ap entries (map-polynomial R es)
      ∙ ap entries (sym (is_collected R es es sorted residues (λ q. refl)))
      ∙ entries-from_entries R.compare R.total_order R.antisymmetric es sorted

  -- a key times a polynomial adds the key to each
  monomial-times : (k : R.Key) (m : FinMap R.compare ℕ)
      → product R (monomial R 1 k) (of_map R m) ≡ polynomial R (raised_by R.◌⊕◌ k (entries m))
  monomial-times k m = same_values R _ _ (λ f. linear_form-product R f _ _ ∙ linear_form-monomial R _ 1 k
      ∙ ap (λ n. n % R.modulus) (one-mul _ ∙ linear_form-of_map R (λ x. f (R.◌⊕◌ k x)) m)
      ∙ mod-mod _ R.modulus
      ∙ sym (linear_form-polynomial R f _ ∙ ap (λ n. n % R.modulus) (total-raised R.◌⊕◌ k f (entries m))))

  -- the terms that pass a test are those of the polynomial that is kept
  module _ (t : R.Key → Bool) (p : Polynomial R) where
    entries_kept : filter (λ e. t e.0) (entries p.map) ≡ entries (retain_keys p.map t)
    entries_kept = same_entries R.compare R.total_order R.antisymmetric (where_key R.compare t (entries p.map))
        (entries (retain_keys p.map t)) (is_sorted-where_key R.compare t (entries p.map) (entries_sorted p.map))
        (entries_sorted (retain_keys p.map t)) (λ q. find-where_key R.compare t q (alike q) (entries p.map)
        ∙ ap (λ o. cond (t q) o None) (sym (get-entries p.map q)) ∙ sym (get-retain_keys p.map t q (alike q))
        ∙ get-entries (retain_keys p.map t) q)
      where
        alike : (q x : R.Key) → R.compare q x ≡ Equal → t x ≡ t q
        alike q x e = ap t (sym (R.antisymmetric q x e))

    terms_kept : filter (λ e. t e.0) (terms R p) ≡ terms R (kept_terms R t p)
    terms_kept = entries_kept ∙ sym (ap entries (map-kept_terms R t p))

  -- those of one power of Y and of one degree are the slice's, raised
  kept_slice : (j r : ℕ) (p : Polynomial R) → kept_terms R (λ x. (R.y_degree x == j) && (R.degree x == r)) p
      ≡ product R (monomial R 1 (R.y j)) (slice_at R r j p)
  unfolding homogeneous_part
  kept_slice j r p = sym (kept_terms-kept_terms R (λ x. R.degree x == r) (λ x. R.y_degree x == j) p)
      ∙ kept_terms-commute R (λ x. R.degree x == r) (λ x. R.y_degree x == j) p ∙ sym (up_slice_at R r j p)

  -- without the coefficients 0 it is the same polynomial
  polynomial-unless_zero : (k : R.Key) (es : List (R.Key × ℕ))
      → polynomial R (raised_by R.◌⊕◌ k es) ≡ polynomial R (raised_by R.◌⊕◌ k (unless_zero es))
  polynomial-unless_zero k es = same_values R _ _ (λ f. linear_form-polynomial R f _
      ∙ ap (λ n. n % R.modulus) (total-raised R.◌⊕◌ k f es ∙ sym (total-unless_zero (λ x. f (R.◌⊕◌ k x)) es)
      ∙ sym (total-raised R.◌⊕◌ k f (unless_zero es)))
      ∙ sym (linear_form-polynomial R f _))

  pub terms_raised : (j r : ℕ) (p : Polynomial R) (m : FinMap R.compare ℕ) → of_map R m ≡ slice_at R r j p
      → ((x z : R.Key) → R.compare (R.◌⊕◌ (R.y j) x) (R.◌⊕◌ (R.y j) z) ≡ R.compare x z)
      → All (λ e. e.1 < R.modulus) (entries m)
      → filter (λ e. (R.y_degree e.0 == j) && (R.degree e.0 == r)) (terms R p)
      ≡ raised_by R.◌⊕◌ (R.y j) (unless_zero (entries m))
  terms_raised j r p m is keeps below =
      terms_kept (λ x. (R.y_degree x == j) && (R.degree x == r)) p
      ∙ ap (terms R) (kept_slice j r p ∙ ap (product R (monomial R 1 (R.y j))) (sym is)
      ∙ monomial-times (R.y j) m ∙ polynomial-unless_zero (R.y j) (entries m))
      ∙ terms_are _ (is_sorted-raised R.compare R.◌⊕◌ (R.y j) keeps (unless_zero (entries m))
      (is_sorted-unless_zero R.compare (entries m) (entries_sorted m)))
      (AreResidues-raised R.◌⊕◌ (R.y j) R.modulus (unless_zero (entries m))
      (AreResidues-unless_zero R.modulus (entries m) below))

-- adding a key keeps the order
shifted_cmp : (a x y : ℕ) → nat_cmp (a + x) (a + y) ≡ nat_cmp x y
shifted_cmp a x y = elim (cases_order x y) [
  | inl e ↦ sym (nat_cmp_is (a + x) (a + y) Equal (omega arith)) ∙ nat_cmp_is x y Equal e
  | inr d ↦ elim d [
    | inl l ↦ sym (nat_cmp_is (a + x) (a + y) Less (omega arith)) ∙ nat_cmp_is x y Less l
    | inr g ↦ sym (nat_cmp_is (a + x) (a + y) Greater (omega arith)) ∙ nat_cmp_is x y Greater g
  ]
]

shifted_numbers : (n : ℕ) (k x y : Powers n)
    → slice_cmp nat_cmp (numbers n (add_powers n k x)) (numbers n (add_powers n k y))
    ≡ slice_cmp nat_cmp (numbers n x) (numbers n y)
shifted_numbers zero k x y = refl
shifted_numbers (suc n) k x y = λ i. ordering_then (shifted_cmp k.0 x.0 y.0 i) (shifted_numbers n k.1 x.1 y.1 i)

shifted_order : (n : ℕ) (k x y : Key n) → key_compare n (add_keys n k x) (add_keys n k y) ≡ key_compare n x y
shifted_order n k x y = λ i. ordering_then (shifted_cmp k.y y.y x.y i) (shifted_numbers n k.powers y.powers x.powers i)

-- a power of Y leaves a term's text as it is
texts-raised : (n j : ℕ) (names : List (List ℕ)) (es : List (Key n × ℕ))
    → texts_of names (raised_by (add_keys n) (y_key n j) es) ≡ texts_of names es
texts-raised n j names [] = refl
texts-raised n j names (e ∷ es) = λ i. term_text names (record { powers = no_powers-add n e.0.powers i; y = j }, e.1)
    ∷ texts-raised n j names es i

-- the texts of a slice's terms
pub texts_of_slice : (S : SeriesRing) (names : List (List ℕ)) (j r : ℕ) (p : Poly S)
    (m : FinMap (key_compare S.variables) ℕ) → of_map (ring S) m ≡ slice_at (ring S) r j p
    → All (λ e. e.1 < S.modulus) (entries m)
    → texts_of names (terms_of_degree S p j r) ≡ texts_of names (unless_zero (entries m))
texts_of_slice S names j r p m is below =
    ap (texts_of names) (terms_raised (ring S) j r p m is (shifted_order S.variables (y_key S.variables j)) below)
    ∙ texts-raised S.variables j names (unless_zero (entries m))
