-- What an accumulator's steps do to its map.
use Rattle.std.proofs.Common.{◌≡◌, ℕ, zero, suc, ◌+◌, ◌*◌, ◌%◌, ◌^◌, ◌<◌, ◌≤◌, Bool, true, false, cond, T, List, []}
use Rattle.std.proofs.Common.{◌∷◌, ◌++◌, length, get_or, map, take, replicate, zero-add, refl, sym, ◌∙◌, ap, subst}
use Rattle.std.proofs.Common.{arith, All}
use Rattle.std.specs.Prelude.{Option, Some, None, ◌==◌}
use Rattle.std.specs.FinMap.{FinMap, empty, from_entries, is_sorted, entries}
use Rattle.std.proofs.lemmas.List.{length-map, get_or-map}
use Rattle.std.proofs.lemmas.List.Elements.{All-append, All-cons, All-map}
use Rattle.std.proofs.Math.Nat.{mod-lt, zero-mod, le_refl}
use Rattle.ps_model.specs.Sums.{total, multiples, products}
use Rattle.ps_model.specs.FiniteMaps.{collected, product_maps}
use Rattle.ps_model.specs.Keys.{Key, powers_of, numbers, key_compare, add_keys}
use Rattle.ps_model.specs.KeyLaws.{key_compare_total, key_compare-IsAntisymmetric}
use Rattle.ps_model.proofs.Totals.{total-append, total-multiples}
use Rattle.ps_model.proofs.Maps.{entries-from_entries}
use Rattle.ps_model.proofs.Coefficients.{plus-mod}
use Rattle.ps_model.proofs.Collected.{AreResidues}
use Rattle.parts.specs.Cells.{cells_total, row_total}
use Rattle.parts.specs.Places.{dot, size, multipliers, powers_from}
use Rattle.parts.specs.Keys.{key_from}
use Rattle.parts.specs.Terms.{IsKeyOf, entry_of, key_at, kept_entry, finished, products_total, placed_term, sign}
use Rattle.parts.specs.Terms.{TermsInOrder}
use Rattle.parts.specs.declared.terms.Term.{Term}
use Rattle.parts.specs.declared.cells.Placed.{Placed}
use Rattle.parts.specs.PartValue.{IsEntryOf}
use Rattle.parts.specs.AccumulatorValue.{with_product}
use Rattle.parts.specs.Rings.{modulus_of, weights_of}
use Rattle.parts.specs.TermLists.{AreTermsOf}
use Rattle.parts.specs.declared.rings.Ring.{Ring}
use Rattle.parts.proofs.Ordered.{ArePositive, weighs, dot-add}
use Rattle.parts.proofs.Collected.{at_place, total-finished, residues-finished, sorted-finished, collected_from}
use Rattle.parts.proofs.Collected.{falls, products_are, key_at-place, dot-padded, place-below-size, IsKeyOf-add}
use Rattle.parts.proofs.Collected.{found, Found, length-multipliers}

pub positive_take : (n : ℕ) (ws : List ℕ) → All (λ w. 0 < w) ws → ArePositive (take n ws)
positive_take zero ws h = tt
positive_take (suc n) [] h = tt
positive_take (suc n) (w ∷ ws) h = (h 0 0 (omega arith), positive_take n ws (λ k d lt. h (suc k) d (omega arith)))

pub long_take : (n : ℕ) (ws : List ℕ) → n ≤ length ws → length (take n ws) ≡ n
long_take zero ws h = refl
long_take (suc n) [] h = absurd (omega arith)
long_take (suc n) (w ∷ ws) h = omega (arith, long_take n ws (omega arith))

pub all_take : {X : Type 0} (P : X → Type 0) (n : ℕ) (xs : List X) → All P xs → All P (take n xs)
all_take P zero xs h = λ k d lt. absurd (omega arith)
all_take P (suc n) [] h = λ k d lt. absurd (omega arith)
all_take P (suc n) (x ∷ xs) h =
    All-cons P x (take n xs) (h 0 x (omega arith)) (all_take P n xs (λ k d lt. h (suc k) d (omega arith)))

pub all_unmapped : {X Y : Type 0} (P : Y → Type 0) (f : X → Y) (xs : List X) → All P (map f xs) → All (λ x. P (f x)) xs
all_unmapped P f xs h = λ k d lt. subst P (get_or-map f xs k d (f d) lt) (h k (f d) (rw length-map lt))

positive_residues : (m : ℕ) (ts : List Term) → AreResidues m (map entry_of ts) → All (λ t. 0 < t.coefficient) ts
positive_residues m [] h = λ k d lt. absurd (omega arith)
positive_residues m (t ∷ ts) h = All-cons (λ t. 0 < t.coefficient) t ts h.0 (positive_residues m ts h.2)

pub in_order : (m d : ℕ) (ws cells : List ℕ) (ts : List Term) → 0 < m → length ws ≤ 8 → length cells ≤ size d ws →
    map entry_of ts ≡ finished m (key_at d ws) 0 cells → TermsInOrder ts
in_order m d ws cells ts some few below e = (
  subst (λ es. T (is_sorted (key_compare 8) es)) (sym e)
      (sorted-finished m (key_at d ws) (size d ws) 0 cells (falls m d ws few) (omega arith)),
  positive_residues m ts (subst (AreResidues m) (sym e) (residues-finished m (key_at d ws) 0 cells some)),
)

take-front : (n k : ℕ) (xs : List ℕ) → length xs ≡ n → n ≤ k → take n (numbers k (powers_of k xs)) ≡ xs
take-front zero k [] e h = refl
take-front zero k (x ∷ xs) e h = absurd (omega arith)
take-front (suc n) k [] e h = absurd (omega arith)
take-front (suc n) zero (x ∷ xs) e h = absurd (omega arith)
take-front (suc n) (suc k) (x ∷ xs) e h = λ i. x ∷ take-front n k xs (omega arith) (omega arith) i

pub key_weighs : (d : ℕ) (ws : List ℕ) (i : ℕ) (k : Key 8) → length ws ≤ 8 → key_at d ws i ≡ Some k → IsKeyOf ws d k
key_weighs d [] i k few e = absurd (cc)
key_weighs d (w ∷ ws) i k few e = let h = weighs d w ws f.powers d i f.at_powers in
    subst (IsKeyOf (w ∷ ws) d) (sym f.is) (record {
      weighs = dot-padded (w ∷ ws) 8 f.powers few ∙ h.0;
      is = ap key_from (sym (take-front (suc (length ws)) 8 f.powers h.1 few));
    })
  where
    f : Found (powers_from d w ws d i) k
    f = found (powers_from d w ws d i) k e

kept_of : (m d : ℕ) (ws : List ℕ) (i x : ℕ) (o : Option (Key 8)) → 0 < m → length ws ≤ 8 → key_at d ws i ≡ o →
    All (IsEntryOf m ws d) (kept_entry o (x % m))
kept_of m d ws i x None some few e = λ k y lt. absurd (omega arith)
kept_of m d ws i x (Some k) some few e =
    elim (x % m == 0) as (λ b. All (IsEntryOf m ws d) (cond b [] ((k, x % m) ∷ []))) [
      | true ↦ λ k y lt. absurd (omega arith)
      | false ↦ All-cons (IsEntryOf m ws d) (k, x % m) [] (key_weighs d ws i k few e, mod-lt x some)
          (λ k y lt. absurd (omega arith))
    ]

pub entries_of : (m d : ℕ) (ws : List ℕ) (i : ℕ) (cells : List ℕ) → 0 < m → length ws ≤ 8 →
    All (IsEntryOf m ws d) (finished m (key_at d ws) i cells)
entries_of m d ws i [] some few = λ k y lt. absurd (omega arith)
entries_of m d ws i (x ∷ xs) some few =
    All-append (IsEntryOf m ws d) (finished m (key_at d ws) (suc i) xs) (kept_entry (key_at d ws i) (x % m))
    (entries_of m d ws (suc i) xs some few) (kept_of m d ws i x (key_at d ws i) some few refl)

pub listed_cells : (m d : ℕ) (ws cells : List ℕ) → length ws ≤ 8 → length cells ≤ size d ws →
    entries (from_entries {R = key_compare 8} (finished m (key_at d ws) 0 cells)) ≡ finished m (key_at d ws) 0 cells
listed_cells m d ws cells few below =
    entries-from_entries (key_compare 8) (key_compare_total 8) (key_compare-IsAntisymmetric 8)
    (finished m (key_at d ws) 0 cells)
    (sorted-finished m (key_at d ws) (size d ws) 0 cells (falls m d ws few) (omega arith))

finished-zeros : (m : ℕ) (key : ℕ → Option (Key 8)) (n i : ℕ) → finished m key i (replicate n 0) ≡ []
finished-zeros m key zero i = refl
finished-zeros m key (suc n) i = (λ j. finished-zeros m key n (suc i) j ++ kept_entry (key i) (zero-mod m j)) ∙
    no_entry (key i)
  where
    no_entry : (o : Option (Key 8)) → kept_entry o 0 ≡ []
    no_entry None = refl
    no_entry (Some k) = refl

pub made_empty : (m : ℕ) (key : ℕ → Option (Key 8)) (n : ℕ) (cells : List ℕ) → cells ≡ [] →
    finished m key 0 (replicate n 0) ≡ finished m key 0 cells
made_empty m key n cells e = finished-zeros m key n 0 ∙ ap (finished m key 0) (sym e)

pub gained : (m d e n : ℕ) (two : 2 ≤ m) (ws : List ℕ) (minus : Bool) (old new : List ℕ) (ts us : List Term)
    (a b : List (Key 8 × ℕ)) → d + e ≡ n → 0 < length ws → length ws ≤ 8 → ArePositive ws →
    length old ≤ size n ws → length new ≤ size n ws
    → map entry_of ts ≡ a → map entry_of us ≡ b → All (IsEntryOf m ws d) a → All (IsEntryOf m ws e) b
    → ((f : ℕ → ℕ) → cells_total f 0 new % m ≡
    (cells_total f 0 old + sign m minus * products_total f (multipliers n ws) ts
    (map (placed_term (multipliers n ws)) us)) % m)
    → from_entries {R = key_compare 8} (finished m (key_at n ws) 0 new) ≡
    collected (key_compare 8) m
    (entries (from_entries {R = key_compare 8} (finished m (key_at n ws) 0 old)) ++
    multiples (sign m minus) (products (add_keys 8) a b))
gained m d e n two ws minus old new ts us a b sum some few positive fits_old fits_new ta ub all_a all_b same =
    collected_from m (key_at n ws) (size n ws) two new _ (falls m n ws few) fits_new
    (λ g. same (λ j. at_place g (key_at n ws j))
    ∙ plus-mod m _ _ _ _ (sym (total-finished m (key_at n ws) g 0 old))
    (ap (λ t. (sign m minus * t) % m) (by_sum g n sum))
    ∙ ap (λ t. t % m) (sym (total-append g _ _ ∙
    (λ i. total g (listed_cells m n ws old few fits_old i) +
    total-multiples g (sign m minus) (products (add_keys 8) a b) i))))
  where
    keys_a : All (λ t. IsKeyOf ws d (key_from t.monomial.powers)) ts
    keys_a = λ k t lt. (all_unmapped (IsEntryOf m ws d) entry_of ts (subst (All (IsEntryOf m ws d)) (sym ta) all_a)
        k t lt).0

    keys_b : All (λ t. IsKeyOf ws e (key_from t.monomial.powers)) us
    keys_b = λ k t lt. (all_unmapped (IsEntryOf m ws e) entry_of us (subst (All (IsEntryOf m ws e)) (sym ub) all_b)
        k t lt).0

    by_sum : (g : Key 8 → ℕ) (n : ℕ) → d + e ≡ n →
        products_total (λ j. at_place g (key_at n ws j)) (multipliers n ws) ts
        (map (placed_term (multipliers n ws)) us) ≡ total g (products (add_keys 8) a b)
    by_sum g n s = subst (λ n. products_total (λ j. at_place g (key_at n ws j)) (multipliers n ws) ts
        (map (placed_term (multipliers n ws)) us) ≡ total g (products (add_keys 8) a b)) s
        (products_are d e ws some few positive g ts us keys_a keys_b ∙
        (λ i. total g (products (add_keys 8) (ta i) (ub i))))

place_upto : (d e : ℕ) (ws xs : List ℕ) → 0 < length ws → length ws ≤ 8 → ArePositive ws →
    IsKeyOf ws e (key_from xs) → e ≤ d → dot (multipliers d ws) xs < size d ws
place_upto d e ws xs some few positive is le =
    subst (λ n. n < size d ws) (dot-padded (multipliers d ws) 8 xs (omega (arith, length-multipliers d ws)))
    (place-below-size d e ws (key_from xs) some few positive is le)

module _ (m : ℕ) (ws : List ℕ) (some : 0 < length ws) (few : length ws ≤ 8) (positive : ArePositive ws) where
  module _ (e : ℕ) (us : List Term) (b : List (Key 8 × ℕ)) (listed : map entry_of us ≡ b)
      (all : All (IsEntryOf m ws e) b) where
    term_of : (k : ℕ) (u : Term) → k < length us → IsEntryOf m ws e (entry_of (get_or us k u))
    term_of = all_unmapped (IsEntryOf m ws e) entry_of us (subst (All (IsEntryOf m ws e)) (sym listed) all)

    pub places_fit : (d : ℕ) (ms : List ℕ) → ms ≡ multipliers d ws → e ≤ d → size d ws ≤ 2 ^ 24 →
        All (λ u. dot ms u.monomial.powers < 2 ^ 63) us
    places_fit d ms is le small =
        λ k u lt. subst (λ ms. dot ms (get_or us k u).monomial.powers < 2 ^ 63) (sym is)
        (let h : dot (multipliers d ws) (get_or us k u).monomial.powers < size d ws =
        place_upto d e ws (get_or us k u).monomial.powers some few positive (term_of k u lt).0 le in
        omega (arith, h, small))

    pub coefficients_below : All (λ u. u.coefficient < m) us
    coefficients_below = λ k u lt. (term_of k u lt).1

    pub row_below : (ms : List ℕ) (row : List Placed) → row ≡ map (placed_term ms) us → m < 2 ^ 63 →
        All (λ p. p.coefficient < 2 ^ 63) row
    row_below ms row is small =
        subst (All (λ p. p.coefficient < 2 ^ 63)) (sym is)
        (All-map (λ p. p.coefficient < 2 ^ 63) (placed_term ms) us
        (λ k u lt. let h : (get_or us k u).coefficient < m = coefficients_below k u lt in omega (arith, h, small)))

    pub row_inside : (d n : ℕ) (ms : List ℕ) (row : List Placed) → e ≡ d → ms ≡ multipliers d ws →
        row ≡ map (placed_term ms) us → n ≡ size d ws → All (λ p. 0 + p.place < n) row
    row_inside d n ms row same ms_are row_is long =
        subst (All (λ p. 0 + p.place < n)) (sym row_is)
        (All-map (λ p. 0 + p.place < n) (placed_term ms) us
        (λ k u lt. subst (λ ms. 0 + dot ms (get_or us k u).monomial.powers < n) (sym ms_are)
        (let h : dot (multipliers d ws) (get_or us k u).monomial.powers < size d ws =
        place_upto d e ws (get_or us k u).monomial.powers some few positive (term_of k u lt).0
        (omega (arith, same)) in omega (arith, h, long))))

    pub places_inside : (d a n : ℕ) (ms : List ℕ) (row : List Placed) (ts : List Term) (c : List (Key 8 × ℕ)) →
        a + e ≡ d → ms ≡ multipliers d ws → row ≡ map (placed_term ms) us → map entry_of ts ≡ c →
        All (IsEntryOf m ws a) c → n ≡ size d ws → All (λ t. All (λ p. dot ms t.monomial.powers + p.place < n) row) ts
    places_inside d a n ms row ts c sum ms_are row_is tc all_c long =
        λ j t ok. subst (All (λ p. dot ms (get_or ts j t).monomial.powers + p.place < n)) (sym row_is)
        (All-map (λ p. dot ms (get_or ts j t).monomial.powers + p.place < n) (placed_term ms) us
        (λ k u lt. subst (λ ms. dot ms (get_or ts j t).monomial.powers +
        dot ms (get_or us k u).monomial.powers < n) (sym ms_are)
        (subst (λ s. dot (multipliers d ws) (get_or ts j t).monomial.powers +
        dot (multipliers d ws) (get_or us k u).monomial.powers < s) (sym long)
        (subst (λ s. s < size d ws)
        (dot-add (multipliers d ws) 8 (powers_of 8 (get_or ts j t).monomial.powers)
        (powers_of 8 (get_or us k u).monomial.powers) ∙
        (λ i. padded (get_or ts j t).monomial.powers i + padded (get_or us k u).monomial.powers i))
        (place-below-size d d ws
        (add_keys 8 (key_from (get_or ts j t).monomial.powers) (key_from (get_or us k u).monomial.powers))
        some few positive
        (subst (λ s. IsKeyOf ws s
        (add_keys 8 (key_from (get_or ts j t).monomial.powers) (key_from (get_or us k u).monomial.powers)))
        sum (IsKeyOf-add ws a e _ _
        (all_unmapped (IsEntryOf m ws a) entry_of ts (subst (All (IsEntryOf m ws a)) (sym tc) all_c) j t
        ok).0 (term_of k u lt).0)) (le_refl d))))))
      where
        padded : (xs : List ℕ) → dot (multipliers d ws) (numbers 8 (powers_of 8 xs)) ≡ dot (multipliers d ws) xs
        padded xs = dot-padded (multipliers d ws) 8 xs (omega (arith, length-multipliers d ws))

pub part_of : (m d : ℕ) (ws cells : List ℕ) → 0 < m → length ws ≤ 8 → length cells ≤ size d ws →
    All (IsEntryOf m ws d) (entries (from_entries {R = key_compare 8} (finished m (key_at d ws) 0 cells)))
part_of m d ws cells some few below =
    subst (All (IsEntryOf m ws d)) (sym (listed_cells m d ws cells few below)) (entries_of m d ws 0 cells some few)

pub none_listed : entries (empty {X = ℕ} {R = key_compare 8}) ≡ []
none_listed = entries-from_entries (key_compare 8) (key_compare_total 8) (key_compare-IsAntisymmetric 8) [] tt

pub once : (es : List (Key 8 × ℕ)) → multiples 1 es ≡ es
once [] = refl
once (e ∷ es) = λ i. (e.0, one e.1 i) ∷ once es i
  where
    one : (n : ℕ) → 1 * n ≡ n
    one n = omega arith

pub product_alone : (m : ℕ) (a b : FinMap (key_compare 8) ℕ) →
    with_product m false empty a b ≡ product_maps (key_compare 8) (add_keys 8) m a b
product_alone m a b = λ i. collected (key_compare 8) m
    (none_listed i ++ once (products (add_keys 8) (entries a) (entries b)) i)

-- a row from the first place on is a multiple of its part
row_alone : (d : ℕ) (ws : List ℕ) (some : 0 < length ws) (few : length ws ≤ 8) (positive : ArePositive ws)
    (g : Key 8 → ℕ) (c : ℕ) (us : List Term) → All (λ u. IsKeyOf ws d (key_from u.monomial.powers)) us
    → row_total (λ j. at_place g (key_at d ws j)) 0 c (map (placed_term (multipliers d ws)) us) ≡
    c * total g (map entry_of us)
row_alone d ws some few positive g c [] all = omega arith
row_alone d ws some few positive g c (u ∷ us) all =
    (λ i. (c * u.coefficient) * value i +
    row_alone d ws some few positive g c us (λ k x lt. all (suc k) x (omega arith)) i) ∙ omega arith
  where
    value : at_place g (key_at d ws (0 + dot (multipliers d ws) u.monomial.powers)) ≡ g (key_from u.monomial.powers)
    value = ap (λ j. at_place g (key_at d ws j)) (zero-add _ ∙
        sym (dot-padded (multipliers d ws) 8 u.monomial.powers (omega (arith, length-multipliers d ws)))) ∙
        ap (at_place g) (key_at-place d ws (key_from u.monomial.powers) some few positive (all 0 u (omega arith)))

pub gained_multiple : (m d c : ℕ) (two : 2 ≤ m) (ws : List ℕ) (old new : List ℕ) (us : List Term)
    (b : List (Key 8 × ℕ)) → 0 < length ws → length ws ≤ 8 → ArePositive ws → length old ≤ size d ws →
    length new ≤ size d ws
    → map entry_of us ≡ b → All (IsEntryOf m ws d) b
    → ((f : ℕ → ℕ) → cells_total f 0 new % m ≡
    (cells_total f 0 old + row_total f 0 c (map (placed_term (multipliers d ws)) us)) % m)
    → from_entries {R = key_compare 8} (finished m (key_at d ws) 0 new) ≡
    collected (key_compare 8) m
    (entries (from_entries {R = key_compare 8} (finished m (key_at d ws) 0 old)) ++ multiples c b)
gained_multiple m d c two ws old new us b some few positive fits_old fits_new ub all_b same =
    collected_from m (key_at d ws) (size d ws) two new _ (falls m d ws few) fits_new
    (λ g. same (λ j. at_place g (key_at d ws j))
    ∙ plus-mod m _ _ _ _ (sym (total-finished m (key_at d ws) g 0 old))
    (ap (λ t. t % m) (row_alone d ws some few positive g c us keys_b ∙ ap (λ l. c * total g l) ub))
    ∙ ap (λ t. t % m) (sym (total-append g _ _ ∙
    (λ i. total g (listed_cells m d ws old few fits_old i) + total-multiples g c b i))))
  where
    keys_b : All (λ t. IsKeyOf ws d (key_from t.monomial.powers)) us
    keys_b = λ k t lt. (all_unmapped (IsEntryOf m ws d) entry_of us (subst (All (IsEntryOf m ws d)) (sym ub) all_b)
        k t lt).0

pub cells_terms : (ring : Ring) (d : ℕ) (cells : List ℕ) (ts : List Term) → length (weights_of ring) ≤ 8 →
    length cells ≤ size d (weights_of ring) →
    map entry_of ts ≡ finished (modulus_of ring) (key_at d (weights_of ring)) 0 cells → AreTermsOf ring d ts
cells_terms ring d cells ts few below held = record {
  order = in_order (modulus_of ring) d (weights_of ring) cells ts some few below held;
  entries = all_unmapped (IsEntryOf (modulus_of ring) (weights_of ring) d) entry_of ts
      (subst (All (IsEntryOf (modulus_of ring) (weights_of ring) d)) (sym held)
      (entries_of (modulus_of ring) d (weights_of ring) 0 cells some few));
}
  where
    some : 0 < modulus_of ring
    some = let two = ring.modulus.low in omega arith
