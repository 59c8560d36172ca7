-- What the tests of a list of factors compare.
use Rattle.std.proofs.Common.{◌≡◌, ℕ, zero, suc, ◌+◌, ◌-◌, ◌%◌, ◌<◌, ◌≤◌, Bool, true, false, List, [], ◌∷◌, ◌++◌}
use Rattle.std.proofs.Common.{length}
use Rattle.std.proofs.Common.{get_or, map, take, drop, refl, sym, ◌∙◌, ap, subst, arith}
use Rattle.std.specs.Prelude.{IsTrue, ◌==◌}
use Rattle.std.specs.Ordering.{ordering_index}
use Rattle.std.specs.declared.cmp.Ordering.{Ordering}
use Rattle.std.specs.declared.cmp.Ordering.TheVariants.{Less, Equal, Greater}
use Rattle.std.specs.Cmp.{tied_itself}
use Rattle.std.specs.FinMap.{FinMap, empty, entries, from_entries}
use Rattle.ps_model.specs.FiniteMaps.{collected, put}
use Rattle.ps_model.proofs.Coefficients.{collected-nil, collected-cons}
use Rattle.std.proofs.lemmas.Bool.{eqb-true, eq-eqb}
use Rattle.std.proofs.lemmas.List.{get_or-map, length-map, get_or_default, take_more, map-append}
use Rattle.ps_model.specs.declared.job.Root.{Root}
use Rattle.ps_model.specs.Keys.{Key, key_compare}
use Rattle.ps_model.specs.KeyLaws.{key_compare_total, key_compare-IsAntisymmetric}
use Rattle.ps_model.specs.Ring.{Ring}
use Rattle.ps_model.specs.Polynomial.{Polynomial}
use Rattle.ps_model.specs.Notation.{truncated}
use Rattle.ps_model.specs.Bounds.{IsMonic, HasNoDegreeAbove}
use Rattle.ps_model.specs.Factors.{IsFactor, EachIsFactor, root_power, product_of}
use Rattle.ps_model.specs.Plain.{key_of, entry_of, value_in}
use Rattle.ps_model.specs.PlainLists.{key_order}
use Rattle.ps_model.specs.declared.plain.PlainTerm.{PlainTerm}
use Rattle.ps_model.proofs.PlainKept.{map_listed}
use Rattle.std.proofs.Common.{◌^◌, add-one, below_more}
use Rattle.std.specs.Prelude.{nat_le, Result, Ok, Err, IfOk}
use Rattle.std.proofs.lemmas.List.{drop_all, drop_more}
use Rattle.std.proofs.lemmas.List.Elements.{All-cons, All-nil}
use Rattle.ps_model.specs.declared.job.JobData.{JobData}
use Rattle.ps_model.specs.Sums.{products}
use Rattle.ps_model.specs.FiniteMaps.{product_maps}
use Rattle.ps_model.specs.Keys.{add_keys, y_key}
use Rattle.ps_model.specs.SeriesRing.{ring, Poly}
use Rattle.ps_model.specs.Notation.{power, product, linear}
use Rattle.ps_model.specs.Lead.{lead_in}
use Rattle.ps_model.specs.Job.{series_ring, job_ring, AreFactorsOf}
use Rattle.ps_model.specs.PlainLists.{IsInRange, HasProductsInRange, plain_degree, cut_map}
use Rattle.ps_model.specs.PlainPolynomial.{plain_polynomial, HasValuesBelow, greatest_key, total_powers}
use Rattle.ps_model.specs.PlainPolynomial.{IsWithin, HasKeysWithin}
use Rattle.ps_model.proofs.Factors.{truncated-product_right}
use Rattle.ps_model.proofs.PlainPolynomials.{one_polynomial, linear_polynomial, product_polynomial, cut_polynomial}
use Rattle.ps_model.proofs.PlainPolynomials.{values_collected, values_retained}
use Rattle.ps_model.proofs.PlainBounds.{within-refl, collected_within, product_within, retained_within}
use Rattle.ps_model.proofs.PlainBounds.{products_in_range, in_range_within, y_in_range, y_key-add, greatest_within}
use Rattle.ps_model.proofs.PlainBounds.{total_powers-cons, total_powers-nil, total_powers-drop}

abbrev Map : Type 0
Map = FinMap (key_compare 8) ℕ

first_equal : (o : Ordering) → true ≡ (ordering_index o == 1) → o ≡ Equal
first_equal Less e = absurd (cc)
first_equal Equal e = refl
first_equal Greater e = absurd (cc)

pub same_keys : (a b : PlainTerm) (o : Ordering) → o ≡ key_order a b → true ≡ (ordering_index o == 1)
    → (IsTrue (a.coefficient == b.coefficient) → entry_of a ≡ entry_of b)
    × (entry_of a ≡ entry_of b → IsTrue (a.coefficient == b.coefficient))
unfolding key_order
same_keys a b o is e = (
  λ t. λ i. (key_compare-IsAntisymmetric 8 (key_of a) (key_of b) (sym is ∙ first_equal o e) i, eqb-true _ _ (t) i),
  λ s. eq-eqb _ _ (ap (λ (x : Key 8 × ℕ). x.1) s),
)

pub other_keys : (a b : PlainTerm) (o : Ordering) (r : Bool) → o ≡ key_order a b →
    false ≡ (ordering_index o == 1) → r ≡ false
    → (IsTrue r → entry_of a ≡ entry_of b) × (entry_of a ≡ entry_of b → IsTrue r)
unfolding key_order
other_keys a b o r is e fails = (
  λ t. absurd (let k = t in cc),
  λ s. absurd (let k = is ∙ ap (key_compare 8 (key_of a)) (sym (ap (λ (x : Key 8 × ℕ). x.0) s))
      ∙ tied_itself (key_compare_total 8) (key_of a) in let l = e ∙ ap (λ o. ordering_index o == 1) k in cc),
)

pub taken_more : (a b : List PlainTerm) (i : ℕ) (x z : PlainTerm) → i < length a → i < length b
    → map entry_of (take i a) ≡ map entry_of (take i b) → entry_of (get_or a i x) ≡ entry_of (get_or b i z)
    → map entry_of (take (i + 1) a) ≡ map entry_of (take (i + 1) b)
taken_more a b i x z la lb so_far here =
    ap (map entry_of) (take_more a i x la) ∙ map-append entry_of (take i a) (get_or a i x ∷ [])
    ∙ (λ j. so_far j ++ here j ∷ []) ∙
    sym (ap (map entry_of) (take_more b i z lb) ∙ map-append entry_of (take i b) (get_or b i z ∷ []))

pub differ_at : (a b : List PlainTerm) (i : ℕ) (x z : PlainTerm) (r : Bool) → i < length a → length a ≡ length b →
    r ≡ false
    → (entry_of (get_or a i x) ≡ entry_of (get_or b i z) → IsTrue r)
    → (IsTrue false → map entry_of a ≡ map entry_of b) × (map entry_of a ≡ map entry_of b → IsTrue false)
differ_at a b i x z r lt long fails h = (
  λ t. absurd (cc),
  λ e. absurd (let yes = h (sym (get_or-map entry_of a i x (entry_of x) lt) ∙ ap (λ l. get_or l i (entry_of x)) e
      ∙ get_or-map entry_of b i z (entry_of x) (omega arith)) in cc),
)

pub same_listed : (ts us : List PlainTerm) (a b : Map) (r : Bool) → map entry_of ts ≡ entries a →
    map entry_of us ≡ entries b
    → (IsTrue r → map entry_of ts ≡ map entry_of us) × (map entry_of ts ≡ map entry_of us → IsTrue r)
    → (IsTrue r → a ≡ b) × (a ≡ b → IsTrue r)
same_listed ts us a b r la lb h = (
  λ t. sym (map_listed ts a la) ∙ ap from_entries (h.0 t) ∙ map_listed us b lb,
  λ e. h.1 (la ∙ ap entries e ∙ sym lb),
)

pub rewritten : {A : Type 0} (r : Bool) (x y v w : A) → x ≡ v → y ≡ w → (IsTrue r → x ≡ y) × (x ≡ y → IsTrue r)
    → (IsTrue r → v ≡ w) × (v ≡ w → IsTrue r)
rewritten r x y v w p q h = (λ t. sym p ∙ h.0 t ∙ q, λ e. h.1 (p ∙ e ∙ sym q))

-- a term more of a formal sum
pub collected_more : (m : ℕ) (es : List (Key 8 × ℕ)) (p q : Map) (k key : Key 8) (c : ℕ)
    → p ≡ collected (key_compare 8) m es → key ≡ k
    → q ≡ put (key_compare 8) p key ((c + value_in p key) % m) → q ≡ collected (key_compare 8) m ((k, c) ∷ es)
collected_more m es p q k key c is at e = e
    ∙ (λ i. put (key_compare 8) (is i) (at i) ((c + value_in (is i) (at i)) % m))
    ∙ sym (collected-cons (key_compare 8) m k c es)

pub collected_none : (m : ℕ) (p : Map) → p ≡ empty → p ≡ collected (key_compare 8) m []
collected_none m p e = e ∙ sym (collected-nil (key_compare 8) m)

-- the factors one by one
module _ {R : Ring} (D : ℕ) where
  abbrev pub EachOf : List Root → List (Polynomial R) → Type 0
  EachOf rs fs = (length rs ≡ length fs)
      × ((i : ℕ) (r : Root) (f : Polynomial R) → i < length rs → IsFactor D (get_or rs i r) (get_or fs i f))

  pub each_from : (rs : List Root) (fs : List (Polynomial R)) → EachOf rs fs → EachIsFactor D rs fs
  each_from [] [] h = tt
  each_from [] (f ∷ fs) h = absurd (let e = h.0 in omega arith)
  each_from (r ∷ rs) [] h = absurd (let e = h.0 in omega arith)
  each_from (r ∷ rs) (f ∷ fs) h = (
    h.1 0 r f (omega arith),
    each_from rs fs (let e = h.0 in omega arith, λ i s g lt. h.1 (suc i) s g (omega arith)),
  )

  at_place : (r : Root) (rs : List Root) (f : Polynomial R) (fs : List (Polynomial R)) → IsFactor D r f
      → ((i : ℕ) (s : Root) (g : Polynomial R) → i < length rs → IsFactor D (get_or rs i s) (get_or fs i g))
      → (i : ℕ) (s : Root) (g : Polynomial R) → i < length (r ∷ rs)
      → IsFactor D (get_or (r ∷ rs) i s) (get_or (f ∷ fs) i g)
  at_place r rs f fs h k zero s g lt = h
  at_place r rs f fs h k (suc i) s g lt = k i s g (omega arith)

  pub each_at : (rs : List Root) (fs : List (Polynomial R)) → EachIsFactor D rs fs → EachOf rs fs
  each_at [] [] h = (refl, λ i r f lt. absurd (omega arith))
  each_at [] (f ∷ fs) h = absurd h
  each_at (r ∷ rs) [] h = absurd h
  each_at (r ∷ rs) (f ∷ fs) h = (ap suc (each_at rs fs h.1).0, at_place r rs f fs h.0 (each_at rs fs h.1).1)

-- the power of a root, one factor more at a time
pub one_within : (m : ℕ) → HasKeysWithin (y_key 8 0) (collected (key_compare 8) m ((y_key 8 0, 1) ∷ []))
one_within m = collected_within (y_key 8 0) m ((y_key 8 0, 1) ∷ [])
    (All-cons (λ (e : Key 8 × ℕ). IsWithin e.0 (y_key 8 0)) (y_key 8 0, 1) [] (within-refl (y_key 8 0))
    (All-nil (λ (e : Key 8 × ℕ). IsWithin e.0 (y_key 8 0))))

linear_within : (m c : ℕ) →
    HasKeysWithin (y_key 8 1) (collected (key_compare 8) m ((y_key 8 1, 1) ∷ (y_key 8 0, c) ∷ []))
linear_within m c = collected_within (y_key 8 1) m ((y_key 8 1, 1) ∷ (y_key 8 0, c) ∷ [])
    (All-cons (λ (e : Key 8 × ℕ). IsWithin e.0 (y_key 8 1)) (y_key 8 1, 1) ((y_key 8 0, c) ∷ [])
    (within-refl (y_key 8 1))
    (All-cons (λ (e : Key 8 × ℕ). IsWithin e.0 (y_key 8 1)) (y_key 8 0, c) []
    (record { powers = (within-refl (y_key 8 0)).powers; y = omega arith })
    (All-nil (λ (e : Key 8 × ℕ). IsWithin e.0 (y_key 8 1)))))

pub record IsRootPower (m v i : ℕ) (p : Map) : Type 0 where
  pub is : (ws : List ℕ) →
      plain_polynomial m ws p ≡ power (linear {R = ring (series_ring m ws)} ((ring (series_ring m ws)).modulus - v)) i
  pub within : HasKeysWithin (y_key 8 i) p
  pub residues : HasValuesBelow m p

pub root_none : (m v : ℕ) → 2 ≤ m → (p : Map) → p ≡ collected (key_compare 8) m ((y_key 8 0, 1) ∷ []) →
    IsRootPower m v 0 p
root_none m v two p e = record {
  is = λ ws. ap (plain_polynomial m ws) e ∙ one_polynomial m ws two;
  within = subst (HasKeysWithin (y_key 8 0)) (sym e) (one_within m);
  residues = subst (HasValuesBelow m) (sym e) (values_collected m two ((y_key 8 0, 1) ∷ []));
}

pub root_fits : (m v i times : ℕ) (l p : Map) → i < times → times < 2 ^ 32
    → l ≡ collected (key_compare 8) m ((y_key 8 1, 1) ∷ (y_key 8 0, m - v) ∷ []) → IsRootPower m v i p
    → HasProductsInRange (entries l) (entries p)
root_fits m v i times l p lt small e h = products_in_range (y_key 8 1) (y_key 8 i) l p
    (subst (HasKeysWithin (y_key 8 1)) (sym e) (linear_within m (m - v))) h.within
    (subst IsInRange (sym (y_key-add 1 i)) (y_in_range (1 + i) (omega arith)))

pub root_more : (m v i : ℕ) → 2 ≤ m → (l p q : Map)
    → l ≡ collected (key_compare 8) m ((y_key 8 1, 1) ∷ (y_key 8 0, m - v) ∷ []) → IsRootPower m v i p
    → q ≡ product_maps (key_compare 8) (add_keys 8) m l p → IsRootPower m v (i + 1) q
root_more m v i two l p q e h made = subst (λ j. IsRootPower m v j q) (sym (add-one i)) (record {
  is = λ ws. ap (plain_polynomial m ws) made ∙ product_polynomial m ws two l p
      ∙ (λ j. product ((ap (plain_polynomial m ws) e ∙ linear_polynomial m ws two v) j) (h.is ws j));
  within = subst (HasKeysWithin (y_key 8 (suc i))) (sym made)
      (subst (λ k. HasKeysWithin k (product_maps (key_compare 8) (add_keys 8) m l p))
      (y_key-add 1 i ∙ ap (y_key 8) next)
      (product_within (y_key 8 1) (y_key 8 i) m l p
      (subst (HasKeysWithin (y_key 8 1)) (sym e) (linear_within m (m - v))) h.within));
  residues = subst (HasValuesBelow m) (sym made)
      (values_collected m two (products (add_keys 8) (entries l) (entries p)));
})
  where
    next : 1 + i ≡ suc i
    next = omega arith

pub root_all : (m : ℕ) (r : Root) (i : ℕ) (p : Map) → i ≤ r.times → r.times ≤ i → IsRootPower m r.value i p
    → (ws : List ℕ) → plain_polynomial m ws p ≡ root_power r
root_all m r i p le ge h ws =
    h.is ws ∙ ap (power (linear {R = ring (series_ring m ws)} ((ring (series_ring m ws)).modulus - r.value))) same
  where
    same : i ≡ r.times
    same = omega arith

-- the product of factors, one more at a time, from the last one on
pub record IsProductOf (m : ℕ) (ws : List ℕ) (d : ℕ) (fs : List Map) (p : Map) : Type 0 where
  pub is : plain_polynomial m ws p ≡ truncated d (product_of (map (plain_polynomial m ws) fs))
  pub within : HasKeysWithin (total_powers fs) p
  pub residues : HasValuesBelow m p

product_none : (m : ℕ) (ws : List ℕ) (d : ℕ) → 2 ≤ m → (one p : Map)
    → one ≡ collected (key_compare 8) m ((y_key 8 0, 1) ∷ []) →
    p ≡ cut_map ws d one
    → IsProductOf m ws d [] p
product_none m ws d two one p e cut = record {
  is = ap (plain_polynomial m ws) (cut ∙ ap (cut_map ws d) e)
      ∙ cut_polynomial m ws d (collected (key_compare 8) m ((y_key 8 0, 1) ∷ [])) ∙
      ap (truncated d) (one_polynomial m ws two);
  within = subst (λ k. HasKeysWithin k p) (sym total_powers-nil) (subst (HasKeysWithin (y_key 8 0)) (sym cut)
      (retained_within (y_key 8 0) (λ k. nat_le (plain_degree ws k) d) one
      (subst (HasKeysWithin (y_key 8 0)) (sym e) (one_within m))));
  residues = subst (HasValuesBelow m) (sym cut) (values_retained m two (λ k. nat_le (plain_degree ws k) d) one
      (subst (HasValuesBelow m) (sym e) (values_collected m two ((y_key 8 0, 1) ∷ []))));
}

pub product_begun : (m : ℕ) (ws : List ℕ) (d : ℕ) → 2 ≤ m → (fs : List Map) (one p : Map) →
    one ≡ collected (key_compare 8) m ((y_key 8 0, 1) ∷ [])
    → p ≡ cut_map ws d one → IsProductOf m ws d (drop (length fs) fs) p
product_begun m ws d two fs one p e cut = subst (λ l. IsProductOf m ws d l p) (sym (drop_all (length fs) fs
    (omega arith)))
    (product_none m ws d two one p e cut)

next_drop : (fs : List Map) (i : ℕ) (f : Map) → f ≡ get_or fs (i - 1) f → 0 < i → i ≤ length fs
    → drop (i - 1) fs ≡ f ∷ drop i fs
next_drop fs i f is some le = drop_more fs (i - 1) f (omega arith) ∙ (λ j. sym is j ∷ drop (whole j) fs)
  where
    whole : (i - 1) + 1 ≡ i
    whole = omega arith

pub product_fits : (m : ℕ) (ws : List ℕ) (d : ℕ) (fs : List Map) (i : ℕ) (f p : Map) → f ≡ get_or fs (i - 1) f → 0 < i
    → i ≤ length fs
    → IsInRange (total_powers fs) → IsProductOf m ws d (drop i fs) p → HasProductsInRange (entries f) (entries p)
product_fits m ws d fs i f p is some le fits h = products_in_range (greatest_key f) (total_powers (drop i fs)) f p
    (greatest_within f) h.within
    (subst IsInRange (total_powers-cons f (drop i fs))
    (subst (λ l. IsInRange (total_powers l)) (next_drop fs i f is some le)
    (in_range_within (total_powers (drop (i - 1) fs)) (total_powers fs) (total_powers-drop (i - 1) fs) fits)))

pub product_more : (m : ℕ) (ws : List ℕ) (d : ℕ) → 2 ≤ m → (fs : List Map) (i : ℕ) (f p next q : Map)
    → f ≡ get_or fs (i - 1) f → 0 < i
    → i ≤ length fs → IsProductOf m ws d (drop i fs) p → next ≡ product_maps (key_compare 8) (add_keys 8) m f p
    → q ≡ cut_map ws d next → IsProductOf m ws d (drop (i - 1) fs) q
product_more m ws d two fs i f p next q read some le h made cut = subst (λ l. IsProductOf m ws d l q)
    (sym (next_drop fs i f read some le)) (record {
      is = ap (plain_polynomial m ws) cut ∙ cut_polynomial m ws d next
          ∙ ap (truncated d) (ap (plain_polynomial m ws) made ∙ product_polynomial m ws two f p
          ∙ ap (product (plain_polynomial m ws f)) h.is)
          ∙ sym (truncated-product_right (ring (series_ring m ws)) (ring (series_ring m ws)).degree
          (ring (series_ring m ws)).degree_adds d
          (plain_polynomial m ws f) (product_of (map (plain_polynomial m ws) (drop i fs))));
      within = subst (HasKeysWithin (total_powers (f ∷ drop i fs))) (sym cut)
          (retained_within (total_powers (f ∷ drop i fs)) (λ k. nat_le (plain_degree ws k) d) next
          (subst (HasKeysWithin (total_powers (f ∷ drop i fs))) (sym made)
          (subst (λ k. HasKeysWithin k (product_maps (key_compare 8) (add_keys 8) m f p))
          (sym (total_powers-cons f (drop i fs)))
          (product_within (greatest_key f) (total_powers (drop i fs)) m f p (greatest_within f) h.within))));
      residues = subst (HasValuesBelow m) (sym cut) (values_retained m two (λ k. nat_le (plain_degree ws k) d) next
          (subst (HasValuesBelow m) (sym made)
          (values_collected m two (products (add_keys 8) (entries f) (entries p)))));
    })

pub product_all : (m : ℕ) (ws : List ℕ) (d : ℕ) (fs : List Map) (i : ℕ) (p : Map) → i ≤ 0
    → IsProductOf m ws d (drop i fs) p →
    IsProductOf m ws d fs p
product_all m ws d fs i p h is = subst (λ j. IsProductOf m ws d (drop j fs) p) none is
  where
    none : i ≡ 0
    none = omega arith

-- the list of factors as a whole
pub refused : {P : Type 0} (r : Bool) → r ≡ false → (P → IsTrue r) → (IsTrue false → P) × (P → IsTrue false)
refused r e h = (λ t. absurd (cc), λ p. absurd (let t = h p in cc))

pub list_refused : (job : JobData) (d : ℕ) (value : Poly (job_ring job)) (fs : List (Poly (job_ring job)))
    (r : Bool) → r ≡ false
    → (EachIsFactor d job.roots fs → IsTrue r)
    → (IsTrue false → AreFactorsOf job d value fs) × (AreFactorsOf job d value fs → IsTrue false)
list_refused job d value fs r e h = refused r e (λ a. h a.each)

pub list_accepted : (job : JobData) (d : ℕ) (value : Poly (job_ring job)) (fs : List (Poly (job_ring job))) (b r : Bool)
    → b ≡ true → (IsTrue b → EachIsFactor d job.roots fs)
    → (IsTrue r → truncated d (product (lead_in (job_ring job) job.expr value) (product_of fs)) ≡ value)
    × (truncated d (product (lead_in (job_ring job) job.expr value) (product_of fs)) ≡ value → IsTrue r)
    → (IsTrue r → AreFactorsOf job d value fs) × (AreFactorsOf job d value fs → IsTrue r)
list_accepted job d value fs b r e each h = (
  λ t. record { each = each e; product_is = h.0 t },
  λ a. h.1 a.product_is,
)

-- the factor tested at a place
pub tested_at : (m : ℕ) (ws : List ℕ) (d i : ℕ) (fs : List Map) (f : Map) (r : Root) (b : Bool) → i < length fs
    → f ≡ get_or fs i f
    → (IsTrue b → IsFactor d r (plain_polynomial m ws f)) × (IsFactor d r (plain_polynomial m ws f) → IsTrue b)
    → (g : Poly (series_ring m ws))
    → (IsTrue b → IsFactor d r (get_or (map (plain_polynomial m ws) fs) i g))
    × (IsFactor d r (get_or (map (plain_polynomial m ws) fs) i g) → IsTrue b)
tested_at m ws d i fs f r b lt read h g = subst (λ p. (IsTrue b → IsFactor d r p) × (IsFactor d r p → IsTrue b))
    (ap (plain_polynomial m ws) read ∙ sym (get_or-map (plain_polynomial m ws) fs i f g lt)) h

pub one_fails : (m : ℕ) (ws : List ℕ) (d i : ℕ) (rs : List Root) (fs : List Map) (f : Map) (r : Root) (b : Bool)
    → i < length rs
    → length rs ≡ length fs → f ≡ get_or fs i f → b ≡ false
    → (IsTrue b → IsFactor d (get_or rs i r) (plain_polynomial m ws f))
    × (IsFactor d (get_or rs i r) (plain_polynomial m ws f) → IsTrue b)
    → (IsTrue false → EachIsFactor d rs (map (plain_polynomial m ws) fs))
    × (EachIsFactor d rs (map (plain_polynomial m ws) fs) → IsTrue false)
one_fails m ws d i rs fs f r b lt long read fails h = refused b fails (λ each. (tested_at m ws d i fs f
    (get_or rs i r) b
    (omega arith) read h (plain_polynomial m ws f)).1
    ((each_at d rs (map (plain_polynomial m ws) fs) each).1 i r (plain_polynomial m ws f) lt))

pub one_passes : (m : ℕ) (ws : List ℕ) (d i : ℕ) (rs : List Root) (fs : List Map) (f : Map) (s : Root) (b : Bool)
    → i < length rs
    → length rs ≡ length fs → f ≡ get_or fs i f → b ≡ true
    → (IsTrue b → IsFactor d (get_or rs i s) (plain_polynomial m ws f))
    × (IsFactor d (get_or rs i s) (plain_polynomial m ws f) → IsTrue b)
    → ((k : ℕ) (r : Root) (g : Poly (series_ring m ws)) → k < i
    → IsFactor d (get_or rs k r) (get_or (map (plain_polynomial m ws) fs) k g))
    → (k : ℕ) (r : Root) (g : Poly (series_ring m ws)) → k < i + 1
    → IsFactor d (get_or rs k r) (get_or (map (plain_polynomial m ws) fs) k g)
one_passes m ws d i rs fs f s b lt long read passes h before k r g below = below_more
    (λ k. (r : Root) (g : Poly (series_ring m ws)) →
    IsFactor d (get_or rs k r) (get_or (map (plain_polynomial m ws) fs) k g)) i
    (λ k l r g. before k r g l)
    (λ r g. subst (λ x. IsFactor d x (get_or (map (plain_polynomial m ws) fs) i g)) (get_or_default rs i s r lt)
    ((tested_at m ws d i fs f (get_or rs i s) b (omega arith) read h g).0 passes)) k below r g

pub all_pass : (m : ℕ) (ws : List ℕ) (d i : ℕ) (rs : List Root) (fs : List Map) → length rs ≤ i → length rs ≡ length fs
    → ((k : ℕ) (r : Root) (g : Poly (series_ring m ws)) → k < i
    → IsFactor d (get_or rs k r) (get_or (map (plain_polynomial m ws) fs) k g))
    → (IsTrue true → EachIsFactor d rs (map (plain_polynomial m ws) fs))
    × (EachIsFactor d rs (map (plain_polynomial m ws) fs) → IsTrue true)
all_pass m ws d i rs fs le long h = (
  λ t. each_from d rs (map (plain_polynomial m ws) fs) (
    long ∙ sym (rw length-map refl),
    λ k r g lt. h k r g (omega arith),
  ),
  λ e. refl,
)

pub other_lengths : (m : ℕ) (ws : List ℕ) (d : ℕ) (rs : List Root) (fs : List Map) → (length rs ≡ length fs → ⊥)
    → (IsTrue false → EachIsFactor d rs (map (plain_polynomial m ws) fs))
    × (EachIsFactor d rs (map (plain_polynomial m ws) fs) → IsTrue false)
other_lengths m ws d rs fs h = (
  λ t. absurd (cc),
  λ e. absurd (h ((each_at d rs (map (plain_polynomial m ws) fs) e).0 ∙ rw length-map refl)),
)

-- a factor is one that passes all three tests
pub factor_tested : {E : Type 0} (m : ℕ) (ws : List ℕ) (d : ℕ) (r : Root) (f : Map) (x y : Bool) (q : Result Bool E)
    → 2 ≤ m →
    HasValuesBelow m f
    → x ≡ true → (IsTrue x → IsMonic r.times (plain_polynomial m ws f)) ×
    (IsMonic r.times (plain_polynomial m ws f) → IsTrue x)
    → y ≡ true
    → (IsTrue y → truncated 0 (plain_polynomial m ws f) ≡ root_power r)
    × (truncated 0 (plain_polynomial m ws f) ≡ root_power r → IsTrue y)
    → IfOk q (λ b. (n : ℕ) → 2 ≤ n → HasValuesBelow n f
    → (IsTrue b → HasNoDegreeAbove d (plain_polynomial n ws f)) × (HasNoDegreeAbove d (plain_polynomial n ws f)
    → IsTrue b))
    → IfOk q (λ b. (IsTrue b → IsFactor d r (plain_polynomial m ws f)) × (IsFactor d r (plain_polynomial m ws f)
    → IsTrue b))
factor_tested m ws d r f x y (Ok b) two below ex hx ey hy h = (
  λ t. record { monic = hx.0 ex; at_origin = hy.0 ey; within = (h m two below).0 t },
  λ k. (h m two below).1 k.within,
)
factor_tested m ws d r f x y (Err e) two below ex hx ey hy h = tt
