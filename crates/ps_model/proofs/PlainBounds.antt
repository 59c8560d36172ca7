-- The greatest powers of products.
use Rattle.std.proofs.Common.{◌≡◌, ℕ, zero, suc, ◌+◌, ◌*◌, ◌%◌, ◌^◌, ◌<◌, ◌≤◌, Bool, true, false, cond, T, List, []}
use Rattle.std.proofs.Common.{◌∷◌, length}
use Rattle.std.proofs.Common.{get_or, map, drop, refl, sym, ◌∙◌, ap, subst, arith, All}
use Rattle.std.specs.Prelude.{Option, Some, None, ◌==◌}
use Rattle.std.specs.Ordering.{eq_by_cmp, is_eq, is_lt, ordering_reverse}
use Rattle.std.specs.declared.cmp.Ordering.{Ordering}
use Rattle.std.specs.declared.cmp.Ordering.TheVariants.{Less, Equal, Greater}
use Rattle.std.specs.Cmp.{tied_itself}
use Rattle.std.specs.FinMap.{FinMap, empty, get, entries, entries_sorted, get-entries, get-empty, find, is_sorted}
use Rattle.std.specs.FinMap.{retain_keys, get-retain_keys}
use Rattle.std.specs.FinMap.Entries.{below_all}
use Rattle.std.proofs.lemmas.List.Elements.{All-append, All-map, All-head, All-tail, All-cons, All-nil}
use Rattle.ps_model.specs.Sums.{products}
use Rattle.ps_model.specs.Keys.{Key, Powers, numbers, no_powers, add_powers, key_compare, add_keys, y_key}
use Rattle.ps_model.specs.KeyLaws.{key_compare_total, key_compare-IsAntisymmetric, no_powers-add}
use Rattle.ps_model.specs.FiniteMaps.{collected, put, product_maps, value_at}
use Rattle.ps_model.specs.Residues.{get-put}
use Rattle.ps_model.specs.PlainLists.{IsInRange, HasProductsInRange}
use Rattle.ps_model.specs.PlainPolynomial.{greater_powers, greatest, greatest_key, total_powers, AreAtMost, IsWithin}
use Rattle.ps_model.specs.PlainPolynomial.{HasKeysWithin}
use Rattle.ps_model.specs.PlainPolynomial.{HasResiduesBelow, HasValuesBelow, small_key}
use Rattle.std.specs.Option.{unwrap_or}
use Rattle.ps_model.proofs.Maps.{first_part, second_part}
use Rattle.ps_model.proofs.Coefficients.{collected-nil, collected-cons}

abbrev Map : Type 0
Map = FinMap (key_compare 8) ℕ

abbrev cmp8 : Key 8 → Key 8 → Ordering
cmp8 = key_compare 8

at_most-refl : (n : ℕ) (x : Powers n) → AreAtMost n x x
at_most-refl zero x = tt
at_most-refl (suc n) x = (omega arith, at_most-refl n x.1)

at_most-trans : (n : ℕ) (x z b : Powers n) → AreAtMost n x z → AreAtMost n z b → AreAtMost n x b
at_most-trans zero x z b h g = tt
at_most-trans (suc n) x z b h g = (omega arith, at_most-trans n x.1 z.1 b.1 h.1 g.1)

at_most-add : (n : ℕ) (x z a b : Powers n) → AreAtMost n x a → AreAtMost n z b
    → AreAtMost n (add_powers n x z) (add_powers n a b)
at_most-add zero x z a b h g = tt
at_most-add (suc n) x z a b h g = (omega arith, at_most-add n x.1 z.1 a.1 b.1 h.1 g.1)

at_most-left : (n : ℕ) (x z : Powers n) → AreAtMost n x (greater_powers n x z)
at_most-left zero x z = tt
at_most-left (suc n) x z = (omega arith, at_most-left n x.1 z.1)

at_most-right : (n : ℕ) (x z : Powers n) → AreAtMost n z (greater_powers n x z)
at_most-right zero x z = tt
at_most-right (suc n) x z = (omega arith, at_most-right n x.1 z.1)

at_most-sum : (n : ℕ) (x z : Powers n) → AreAtMost n z (add_powers n x z)
at_most-sum zero x z = tt
at_most-sum (suc n) x z = (omega arith, at_most-sum n x.1 z.1)

pub within-refl : (x : Key 8) → IsWithin x x
within-refl x = record { powers = at_most-refl 8 x.powers; y = omega arith }

within-trans : (x z b : Key 8) → IsWithin x z → IsWithin z b → IsWithin x b
within-trans x z b h g = record {
  powers = at_most-trans 8 x.powers z.powers b.powers h.powers g.powers;
  y = let p = h.y in let q = g.y in omega arith;
}

within-add : (x z a b : Key 8) → IsWithin x a → IsWithin z b → IsWithin (add_keys 8 x z) (add_keys 8 a b)
within-add x z a b h g = record {
  powers = at_most-add 8 x.powers z.powers a.powers b.powers h.powers g.powers;
  y = let p = h.y in let q = g.y in omega arith;
}

numbers_below : (n m : ℕ) (x b : Powers n) → AreAtMost n x b → All (λ v. v < m) (numbers n b) →
    All (λ v. v < m) (numbers n x)
numbers_below zero m x b h g = All-nil (λ v. v < m)
numbers_below (suc n) m x b h g = All-cons (λ v. v < m) x.0 (numbers n x.1)
    (let top = All-head (λ v. v < m) b.0 (numbers n b.1) g in omega (arith, h.0, top))
    (numbers_below n m x.1 b.1 h.1 (All-tail (λ v. v < m) b.0 (numbers n b.1) g))

pub in_range_within : (x b : Key 8) → IsWithin x b → IsInRange b → IsInRange x
unfolding IsInRange
in_range_within x b h g =
    (numbers_below 8 (2 ^ 16) x.powers b.powers h.powers g.0, let p = h.y in let q = g.1 in omega arith)

numbers_none : (n m : ℕ) → 0 < m → All (λ v. v < m) (numbers n (no_powers n))
numbers_none zero m h = All-nil (λ v. v < m)
numbers_none (suc n) m h = All-cons (λ v. v < m) 0 (numbers n (no_powers n)) h (numbers_none n m h)

pub y_in_range : (k : ℕ) → k < 2 ^ 32 → IsInRange (y_key 8 k)
unfolding IsInRange
y_in_range k h = (numbers_none 8 (2 ^ 16) (omega arith), h)

pub y_key-add : (i j : ℕ) → add_keys 8 (y_key 8 i) (y_key 8 j) ≡ y_key 8 (i + j)
y_key-add i j = λ l. record { powers = no_powers-add 8 (no_powers 8) l; y = i + j }

found_within : (b : Key 8) (es : List (Key 8 × ℕ)) (q : Key 8) (c : ℕ) → All (λ e. IsWithin e.0 b) es
    → find cmp8 q es ≡ Some c → IsWithin q b
found_within b [] q c h e = absurd (cc)
found_within b (f ∷ es) q c h e = elim (cmp8 q f.0) as
    (λ r. cmp8 q f.0 ≡ r → cond (is_eq r) (Some f.1) (find cmp8 q es) ≡ Some c → IsWithin q b) [
      | Less ↦ λ r is. found_within b es q c (All-tail (λ (e : Key 8 × ℕ). IsWithin e.0 b) f es h) is
      | Equal ↦ λ r is. subst (λ k. IsWithin k b) (sym (key_compare-IsAntisymmetric 8 q f.0 r))
          (All-head (λ (e : Key 8 × ℕ). IsWithin e.0 b) f es h)
      | Greater ↦ λ r is. found_within b es q c (All-tail (λ (e : Key 8 × ℕ). IsWithin e.0 b) f es h) is
    ] refl e

below_at : (k : Key 8) (es : List (Key 8 × ℕ)) (i : ℕ) (d : Key 8 × ℕ) → T (below_all cmp8 k es) → i < length es
    → T (is_lt (cmp8 k (get_or es i d).0))
below_at k [] i d h lt = absurd (omega arith)
below_at k (e ∷ es) zero d h lt = first_part _ _ h
below_at k (e ∷ es) (suc i) d h lt = below_at k es i d (second_part _ _ h) (omega arith)

pub found_at : (es : List (Key 8 × ℕ)) (i : ℕ) (d : Key 8 × ℕ) → T (is_sorted cmp8 es) → i < length es
    → find cmp8 (get_or es i d).0 es ≡ Some (get_or es i d).1
found_at [] i d h lt = absurd (omega arith)
found_at (e ∷ es) zero d h lt =
    ap (λ r. cond (is_eq r) (Some e.1) (find cmp8 e.0 es)) (tied_itself (key_compare_total 8) e.0)
found_at (e ∷ es) (suc i) d h lt = ap (λ r. cond (is_eq r) (Some e.1) (find cmp8 (get_or es i d).0 es))
    (later (cmp8 e.0 (get_or es i d).0) (below_at e.0 es i d (first_part _ _ h) (omega arith)) refl)
    ∙ found_at es i d (second_part _ _ h) (omega arith)
  where
    later : (r : Ordering) → T (is_lt r) → cmp8 e.0 (get_or es i d).0 ≡ r → cmp8 (get_or es i d).0 e.0 ≡ Greater
    later Less p q = (key_compare_total 8).antisymm (get_or es i d).0 e.0 ∙ ap ordering_reverse q
    later Equal p q = absurd p
    later Greater p q = absurd p

pub entries_within : (b : Key 8) (p : Map) → HasKeysWithin b p → All (λ e. IsWithin e.0 b) (entries p)
entries_within b p h i d lt = h.at (get_or (entries p) i d).0 (get_or (entries p) i d).1
    (get-entries p _ ∙ found_at (entries p) i d (entries_sorted p) lt)

no_entry : (k : Key 8) (c : ℕ) → get {X = ℕ} {R = cmp8} empty k ≡ Some c → ⊥
no_entry k c e = let n = get-empty {X = ℕ} cmp8 k in cc

within_put : (b : Key 8) (p : Map) (x : Key 8) (v : ℕ) → IsWithin x b → HasKeysWithin b p → (k : Key 8) (c : ℕ)
    → cond (eq_by_cmp cmp8 k x) (cond (v == 0) None (Some v)) (get p k) ≡ Some c → IsWithin k b
within_put b p x v first rest k c is = elim (cmp8 k x) as (λ r. cmp8 k x ≡ r
    → cond (is_eq r) (cond (v == 0) None (Some v)) (get p k) ≡ Some c → IsWithin k b) [
      | Less ↦ λ r q. rest.at k c q
      | Equal ↦ λ r q. subst (λ k. IsWithin k b) (sym (key_compare-IsAntisymmetric 8 k x r)) first
      | Greater ↦ λ r q. rest.at k c q
    ] refl is

pub collected_within : (b : Key 8) (m : ℕ) (es : List (Key 8 × ℕ)) → All (λ e. IsWithin e.0 b) es
    → HasKeysWithin b (collected cmp8 m es)
collected_within b m [] h = record {
  at = λ k c e. absurd (no_entry k c (subst (λ (p : Map). get p k ≡ Some c) (collected-nil cmp8 m) e));
}
collected_within b m (e ∷ es) h = record {
  at = λ k c is. within_put b (collected cmp8 m es) e.0 ((e.1 + value_at cmp8 (collected cmp8 m es) e.0) % m)
      (All-head (λ (e : Key 8 × ℕ). IsWithin e.0 b) e es h)
      (collected_within b m es (All-tail (λ (e : Key 8 × ℕ). IsWithin e.0 b) e es h)) k c
      (sym (get-put cmp8 (key_compare_total 8) (collected cmp8 m es) e.0
      ((e.1 + value_at cmp8 (collected cmp8 m es) e.0) % m) k)
      ∙ ap (λ (p : Map). get p k) (sym (collected-cons cmp8 m e.0 e.1 es)) ∙ is);
}

all_products : (a b : Key 8) (es fs : List (Key 8 × ℕ)) → All (λ e. IsWithin e.0 a) es → All (λ f. IsWithin f.0 b) fs
    → All (λ e. IsWithin e.0 (add_keys 8 a b)) (products (add_keys 8) es fs)
all_products a b [] fs h g = All-nil (λ (e : Key 8 × ℕ). IsWithin e.0 (add_keys 8 a b))
all_products a b (e ∷ es) fs h g = All-append (λ (x : Key 8 × ℕ). IsWithin x.0 (add_keys 8 a b))
    (map (λ f. (add_keys 8 e.0 f.0, e.1 * f.1)) fs) (products (add_keys 8) es fs)
    (All-map (λ (x : Key 8 × ℕ). IsWithin x.0 (add_keys 8 a b)) (λ f. (add_keys 8 e.0 f.0, e.1 * f.1)) fs
    (λ i d lt. within-add e.0 (get_or fs i d).0 a b (All-head (λ (x : Key 8 × ℕ). IsWithin x.0 a) e es h) (g i d lt)))
    (all_products a b es fs (All-tail (λ (x : Key 8 × ℕ). IsWithin x.0 a) e es h) g)

pub product_within : (a b : Key 8) (m : ℕ) (p q : Map) → HasKeysWithin a p → HasKeysWithin b q
    → HasKeysWithin (add_keys 8 a b) (product_maps cmp8 (add_keys 8) m p q)
product_within a b m p q h g = collected_within (add_keys 8 a b) m (products (add_keys 8) (entries p) (entries q))
    (all_products a b (entries p) (entries q) (entries_within a p h) (entries_within b q g))

pub products_in_range : (a b : Key 8) (p q : Map) → HasKeysWithin a p → HasKeysWithin b q → IsInRange (add_keys 8 a b)
    → HasProductsInRange (entries p) (entries q)
products_in_range a b p q h g fits = λ i d lt j f l. in_range_within _ (add_keys 8 a b)
    (within-add _ _ a b (entries_within a p h i d lt) (entries_within b q g j f l)) fits

kept_some : (b : Bool) (o : Option ℕ) (c : ℕ) → cond b o None ≡ Some c → o ≡ Some c
kept_some true o c e = e
kept_some false o c e = absurd (cc)

pub retained_within : (b : Key 8) (t : Key 8 → Bool) (p : Map) → HasKeysWithin b p → HasKeysWithin b (retain_keys p t)
retained_within b t p h = record {
  at = λ k c e. h.at k c (kept_some (t k) (get p k) c
      (sym (get-retain_keys p t k (λ x r. ap t (sym (key_compare-IsAntisymmetric 8 k x r)))) ∙ e));
}

all_greatest : (es : List (Key 8 × ℕ)) → All (λ e. IsWithin e.0 (greatest es)) es
all_greatest [] = All-nil (λ (e : Key 8 × ℕ). IsWithin e.0 (greatest []))
all_greatest (e ∷ es) = All-cons (λ (x : Key 8 × ℕ). IsWithin x.0 (greatest (e ∷ es))) e es
    (record { powers = at_most-left 8 e.0.powers (greatest es).powers; y = omega arith })
    (λ i d lt. within-trans _ (greatest es) (greatest (e ∷ es)) (all_greatest es i d lt)
    (record { powers = at_most-right 8 e.0.powers (greatest es).powers; y = omega arith }))

pub greatest_within : (p : Map) → HasKeysWithin (greatest_key p) p
unfolding greatest_key
greatest_within p = record {
  at =
      λ k c e. found_within (greatest (entries p)) (entries p) k c (all_greatest (entries p))
      (sym (get-entries p k) ∙ e);
}

pub total_powers-cons : (f : Map) (fs : List Map) →
    total_powers (f ∷ fs) ≡ add_keys 8 (greatest_key f) (total_powers fs)
unfolding total_powers
total_powers-cons f fs = refl

pub total_powers-nil : total_powers [] ≡ y_key 8 0
unfolding total_powers
total_powers-nil = refl

pub total_powers-drop : (i : ℕ) (fs : List Map) → IsWithin (total_powers (drop i fs)) (total_powers fs)
total_powers-drop zero fs = within-refl _
total_powers-drop (suc i) [] = within-refl _
total_powers-drop (suc i) (f ∷ fs) = within-trans _ (total_powers fs) _ (total_powers-drop i fs)
    (subst (IsWithin (total_powers fs)) (sym (total_powers-cons f fs))
    (record { powers = at_most-sum 8 (greatest_key f).powers (total_powers fs).powers; y = omega arith }))

pub within_after : (b : Key 8) (p q : Map) (k : Key 8) (v : ℕ) → IsWithin k b → HasKeysWithin b p → q ≡ put cmp8 p k v
    → HasKeysWithin b q
within_after b p q k v first rest e = subst (HasKeysWithin b) (sym e) (record {
  at = λ x c is. within_put b p k v first rest x c (sym (get-put cmp8 (key_compare_total 8) p k v x) ∙ is);
})

at_most-max : (n : ℕ) (x z b : Powers n) → AreAtMost n x b → AreAtMost n z b → AreAtMost n (greater_powers n x z) b
at_most-max zero x z b h g = tt
at_most-max (suc n) x z b h g = (omega arith, at_most-max n x.1 z.1 b.1 h.1 g.1)

at_most-none : (n : ℕ) (b : Powers n) → AreAtMost n (no_powers n) b
at_most-none zero b = tt
at_most-none (suc n) b = (omega arith, at_most-none n b.1)

greatest_at_most : (b : Key 8) (es : List (Key 8 × ℕ)) → All (λ e. IsWithin e.0 b) es → IsWithin (greatest es) b
greatest_at_most b [] h = record { powers = at_most-none 8 b.powers; y = omega arith }
greatest_at_most b (e ∷ es) h = step (All-head (λ (e : Key 8 × ℕ). IsWithin e.0 b) e es h)
    (greatest_at_most b es (All-tail (λ (e : Key 8 × ℕ). IsWithin e.0 b) e es h))
  where
    step : IsWithin e.0 b → IsWithin (greatest es) b → IsWithin (greatest (e ∷ es)) b
    step p q = record {
      powers = at_most-max 8 e.0.powers (greatest es).powers b.powers p.powers q.powers;
      y = let x = p.y in let z = q.y in omega arith;
    }

pub greatest_key_within : (b : Key 8) (p : Map) → HasKeysWithin b p → IsWithin (greatest_key p) b
unfolding greatest_key
greatest_key_within b p h = greatest_at_most b (entries p) (entries_within b p h)

-- the key b once for each of fs
abbrev pub times_each : Key 8 → List Map → Key 8
times_each b [] = y_key 8 0
times_each b (f ∷ fs) = add_keys 8 b (times_each b fs)

total_powers-within : (b : Key 8) (fs : List Map) → All (HasKeysWithin b) fs →
    IsWithin (total_powers fs) (times_each b fs)
total_powers-within b [] h = subst (λ k. IsWithin k (y_key 8 0)) (sym total_powers-nil) (within-refl (y_key 8 0))
total_powers-within b (f ∷ fs) h = subst (λ k. IsWithin k (times_each b (f ∷ fs))) (sym (total_powers-cons f fs))
    (within-add (greatest_key f) (total_powers fs) b (times_each b fs)
    (greatest_key_within b f (All-head (HasKeysWithin b) f fs h))
    (total_powers-within b fs (All-tail (HasKeysWithin b) f fs h)))

pub all_in_range : (b : Key 8) (fs : List Map) → All (HasKeysWithin b) fs → IsInRange (times_each b fs)
    → IsInRange (total_powers fs)
all_in_range b fs h fits = in_range_within _ (times_each b fs) (total_powers-within b fs h) fits

pub residues_from : (m : ℕ) (p : Map) → HasValuesBelow m p → HasResiduesBelow m p
unfolding HasValuesBelow
residues_from m p h i d lt = subst (λ n. n < m)
    (ap (λ o. unwrap_or o 0) (get-entries p _ ∙ found_at (entries p) i d (entries_sorted p) lt))
    (h (get_or (entries p) i d).0)

pub values_after : (m : ℕ) (p q : Map) (k : Key 8) (v : ℕ) → 0 < m → v < m → HasValuesBelow m p → q ≡ put cmp8 p k v
    → HasValuesBelow m q
unfolding HasValuesBelow
values_after m p q k v some small h e x = subst (λ n. n < m)
    (sym (ap (λ (q : Map). unwrap_or (get q x) 0) e ∙
    ap (λ o. unwrap_or o 0) (get-put cmp8 (key_compare_total 8) p k v x)))
    (either (eq_by_cmp cmp8 x k) (v == 0) (get p x) (h x))
  where
    either : (a z : Bool) (o : Option ℕ) → unwrap_or o 0 < m → unwrap_or (cond a (cond z None (Some v)) o) 0 < m
    either true true o below = some
    either true false o below = small
    either false z o below = below

pub values_empty : (m : ℕ) (p : Map) → 0 < m → p ≡ empty → HasValuesBelow m p
unfolding HasValuesBelow
values_empty m p some e k = subst (λ n. n < m)
    (sym (ap (λ (q : Map). unwrap_or (get q k) 0) e ∙ ap (λ o. unwrap_or o 0) (get-empty {X = ℕ} cmp8 k))) some

pub within_empty : (b : Key 8) (p : Map) → p ≡ empty → HasKeysWithin b p
within_empty b p e = record { at = λ k c is. absurd (no_entry k c (ap (λ (q : Map). get q k) (sym e) ∙ is)) }

-- small powers: of the first two variables and of Y up to 3
small_powers : (k y : ℕ) → k < 2 ^ 16 → y < 2 ^ 32 → IsInRange (record { powers = (k, (k, no_powers 6)); y = y })
unfolding IsInRange
small_powers k y small fits = (
  All-cons (λ v. v < 2 ^ 16) k (numbers 7 (k, no_powers 6)) small
      (All-cons (λ v. v < 2 ^ 16) k (numbers 6 (no_powers 6)) small (numbers_none 6 (2 ^ 16) (omega arith))),
  fits,
)

pub small_in_range : IsInRange (add_keys 8 small_key small_key)
small_in_range = small_powers 6 6 (omega arith) (omega arith)

pub small_twice : IsInRange (add_keys 8 small_key (add_keys 8 small_key (y_key 8 0)))
small_twice = small_powers 6 6 (omega arith) (omega arith)

pub small_thrice : IsInRange (add_keys 8 small_key (add_keys 8 small_key (add_keys 8 small_key (y_key 8 0))))
small_thrice = small_powers 9 9 (omega arith) (omega arith)

pub small_four_times : IsInRange (add_keys 8 small_key (add_keys 8 small_key (add_keys 8 small_key
    (add_keys 8 small_key (y_key 8 0)))))
small_four_times = small_powers 12 12 (omega arith) (omega arith)

pub small_within : (x z y : ℕ) → x ≤ 3 → z ≤ 3 → y ≤ 3 → (k : Key 8)
    → k ≡ record { powers = (x, (z, no_powers 6)); y = y } → IsWithin k small_key
small_within x z y h f g k e =
    subst (λ k. IsWithin k small_key) (sym e) (record { powers = (h, (f, at_most-refl 6 (no_powers 6))); y = g })
