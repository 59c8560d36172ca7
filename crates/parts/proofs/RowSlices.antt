-- A part of degree r is a slice, and a row of parts a row of slices.
use Rattle.std.proofs.Common.{◌≡◌, ℕ, zero, suc, ◌+◌, ◌*◌, ◌<◌, ◌≤◌, Bool, true, false, cond, List, [], ◌∷◌, length}
use Rattle.std.proofs.Common.{take, get_or, All, Some, refl, sym, ◌∙◌, ap, subst, arith}
use Rattle.std.proofs.lemmas.List.{get_or-map, length-map, length-take-le}
use Rattle.std.proofs.lemmas.List.Elements.{All-head, All-tail}
use Rattle.std.specs.Prelude.{max}
use Rattle.std.specs.FinMap.{entries, get-entries, find}
use Rattle.std.specs.Ordering.{eq_by_cmp}
use Rattle.ps_model.specs.Bounds.{IsSlice}
use Rattle.ps_model.specs.Job.{series_ring}
use Rattle.ps_model.specs.KeyLaws.{key_compare_total, key_compare-IsAntisymmetric}
use Rattle.ps_model.specs.Keys.{Key, Powers, numbers, powers_of, weights_from, weighted}
use Rattle.ps_model.specs.Keys.{key_compare}
use Rattle.ps_model.specs.Notation.{of_map}
use Rattle.ps_model.specs.Rows.{IsRow, AreRows}
use Rattle.ps_model.specs.SeriesRing.{ring as ring_of}
use Rattle.ps_model.proofs.Coefficients.{tie}
use Rattle.ps_model.proofs.SliceTerms.{slice_from_terms}
use Rattle.parts.specs.PartValue.{PartValue, IsPartOf, IsEntryOf}
use Rattle.parts.specs.Places.{dot}
use Rattle.parts.specs.Rings.{modulus_of, weights_of, eight_weights}
use Rattle.parts.specs.Terms.{IsKeyOf}
use Rattle.parts.specs.declared.rings.Ring.{Ring}
use Rattle.parts.specs.RowsOfParts.{IsRowOfParts, AreRowsOfParts}
use Rattle.parts.specs.Series.{polynomial_modulo, maps_modulo, series, polynomial_in, row_maps, rows_maps}

-- what holds of all entries holds of one that is found
found_all : (P : Key 8 × ℕ → Type 0) (q : Key 8) (c : ℕ) (es : List (Key 8 × ℕ))
    → find (key_compare 8) q es ≡ Some c → All P es → P (q, c)
found_all P q c [] is h = absurd (cc)
found_all P q c (e ∷ es) is h = at (eq_by_cmp (key_compare 8) q e.0) refl is
    (λ found. found_all P q c es found (λ k d lt. h (suc k) d (omega arith)))
  where
    at : (b : Bool) → eq_by_cmp (key_compare 8) q e.0 ≡ b → cond b (Some e.1) (find (key_compare 8) q es) ≡ Some c
        → (find (key_compare 8) q es ≡ Some c → P (q, c)) → P (q, c)
    at true same is later = let value : e.1 ≡ c = cc in
        subst (λ k. P (k, c)) (sym
        (tie (key_compare 8) (key_compare_total 8) (key_compare-IsAntisymmetric 8) q e.0 same))
        (subst (λ v. P (e.0, v)) value (h 0 e (omega arith)))
    at false same is later = later is

weighted-none : (n : ℕ) (w : Powers n) → weighted n w (powers_of n []) ≡ 0
weighted-none zero w = refl
weighted-none (suc n) w = omega (arith, weighted-none n w.1)

positive_kept : (w : ℕ) → 0 < w → max 1 w ≡ w
positive_kept w some = omega arith

-- the degree by the weights of fewer variables, where the others don't occur
degree_is : (N m : ℕ) (ws : List ℕ) (x : Powers N) → All (λ w. 0 < w) ws → length ws ≡ N → m ≤ N
    → x ≡ powers_of N (take m (numbers N x)) → weighted N (weights_from N ws) x ≡ dot (take m ws) (numbers N x)
degree_is zero zero ws x some long le is = refl
degree_is zero (suc m) [] x some long le is = refl
degree_is zero (suc m) (w ∷ ws) x some long le is = absurd (omega arith)
degree_is (suc n) zero ws x some long le is =
    ap (weighted (suc n) (weights_from (suc n) ws)) is ∙ weighted-none (suc n) (weights_from (suc n) ws)
degree_is (suc n) (suc m) [] x some long le is = absurd (omega arith)
degree_is (suc n) (suc m) (w ∷ ws) x some long le is =
    λ i. positive_kept w (All-head (λ w. 0 < w) w ws some) i * x.0
    + degree_is n m ws x.1 (All-tail (λ w. 0 < w) w ws some) (omega arith) (omega arith)
    (ap (λ (z : Powers (suc n)). z.1) is) i

key_degree : (ring : Ring) (d : ℕ) (k : Key 8) → IsKeyOf (weights_of ring) d k
    → (weighted 8 (weights_from 8 (eight_weights ring)) k.powers ≡ d) × (k.y ≡ 0)
key_degree ring d k is = (
  degree_is 8 ring.n ring.weights k.powers ring.positive ring.many ring.few (ap (λ (x : Key 8). x.powers) is.is
      ∙ ap (λ n. powers_of 8 (take n (numbers 8 k.powers))) long) ∙ is.weighs,
  ap (λ (x : Key 8). x.y) is.is,
)
  where
    long : length (weights_of ring) ≡ ring.n
    long = length-take-le ring.n ring.weights (let many = ring.many in let few = ring.few in omega arith)

pub part_slice : (ring : Ring) (p : PartValue) → IsPartOf ring p → IsSlice p.degree (polynomial_in ring p.map)
unfolding series_ring polynomial_modulo
part_slice ring p is = slice_from_terms (ring_of (series ring)) p.degree p.map (λ k c at. key_degree ring p.degree k
    (found_all (IsEntryOf (modulus_of ring) (weights_of ring) p.degree) k c (entries p.map)
    (sym (get-entries p.map k) ∙ at) is).0)

pub row_is : (ring : Ring) (K r : ℕ) (row : List PartValue) → IsRowOfParts ring K r row
    → IsRow (ring_of (series ring)) K r (row_maps ring row)
unfolding series_ring polynomial_modulo maps_modulo
row_is ring K r row is = record {
  places = length-map row (λ (p : PartValue). p.map) ∙ is.places;
  slices = λ i d lt. let within : i < length row = subst (λ n. i < n) (length-map row (λ (p : PartValue). p.map)) lt in
      let other : PartValue = record { degree = r; map = d } in
      subst (λ m. IsSlice r (of_map {R = ring_of (series ring)} m))
      (sym (get_or-map (λ (p : PartValue). p.map) row i other d within))
      (subst (λ n. IsSlice n (polynomial_in ring (get_or row i other).map)) (is.degrees i other within)
      (part_slice ring (get_or row i other) (is.parts i other within)));
}

pub rows_are : (ring : Ring) (K : ℕ) (rows : List (List PartValue)) → AreRowsOfParts ring K rows
    → AreRows (ring_of (series ring)) K (rows_maps ring rows)
rows_are ring K rows are = λ r lt.
    let within : r < length rows = subst (λ n. r < n) (length-map rows (row_maps ring)) lt in
    subst (IsRow (ring_of (series ring)) K r) (sym (get_or-map (row_maps ring) rows r [] [] within))
    (row_is ring K r (get_or rows r []) (are r within))
