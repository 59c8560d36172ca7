-- What a preparation begins with.
use Rattle.std.proofs.Common.{◌≡◌, ℕ, zero, suc, ◌+◌, ◌-◌, ◌*◌, ◌%◌, ◌<◌, ◌≤◌, List, [], ◌∷◌, ◌++◌, length, drop}
use Rattle.std.proofs.Common.{replicate, get_or, All, refl, sym, ◌∙◌, ap, subst, arith}
use Rattle.std.proofs.Common.{get_or-drop}
use Rattle.std.proofs.lemmas.List.{length-drop}
use Rattle.std.specs.FinMap.{entries, len-empty, len-entries}
use Rattle.ps_model.specs.Bounds.{IsUnit}
use Rattle.ps_model.specs.FiniteMaps.{collected}
use Rattle.ps_model.specs.Job.{series_ring}
use Rattle.ps_model.specs.Keys.{key_compare, y_key}
use Rattle.ps_model.specs.Notation.{of_map, one, constant_term}
use Rattle.ps_model.specs.Polynomial.{one as one_of, monomial as monomial_of}
use Rattle.ps_model.specs.SeriesRing.{ring as ring_of}
use Rattle.ps_model.proofs.OfMap.{of_map-collected}
use Rattle.ps_model.proofs.PreparedRows.{rows_first}
use Rattle.parts.specs.PartValue.{PartValue, IsPartOf, single_map}
use Rattle.parts.specs.Rings.{modulus_of}
use Rattle.parts.specs.declared.rings.Ring.{Ring}
use Rattle.prepare.specs.Calls.{HasNoneBelow, IsPowerOfY, Begins}
use Rattle.prepare.specs.PrepValue.{PrepValue, IsPrep}
use Rattle.prepare.specs.Columns.{AreColumns, HasSeries}
use Rattle.parts.specs.RowsOfParts.{nothing, part_in, AreParts, IsRowOfParts, AreRowsOfParts}
use Rattle.parts.specs.SeriesParts.{SeriesValue}
use Rattle.parts.specs.Series.{constant_of, polynomial_modulo, series, polynomial_in, row_maps}
use Rattle.parts.proofs.Polynomials.{modulus_is, polynomial_in-empty, part_of-row}
use Rattle.parts.proofs.RowSlices.{row_is}

polynomial_in-one : (ring : Ring) → polynomial_in ring (single_map ring (y_key 8 0) 1) ≡ one
unfolding series_ring polynomial_modulo one_of monomial_of
polynomial_in-one ring = ap (λ m. of_map {R = ring_of (series ring)} (collected (key_compare 8) m
    ((y_key 8 0, 1) ∷ []))) (sym (modulus_is ring)) ∙ of_map-collected (ring_of (series ring)) ((y_key 8 0, 1) ∷ [])

all_then : (P : PartValue → Type 0) (k : ℕ) (x p : PartValue) → P x → P p → All P (replicate k x ++ p ∷ [])
all_then P zero x p hx hp zero d lt = hp
all_then P zero x p hx hp (suc i) d lt = absurd (omega arith)
all_then P (suc k) x p hx hp zero d lt = hx
all_then P (suc k) x p hx hp (suc i) d lt = all_then P k x p hx hp i d (omega arith)

early : (k i : ℕ) (x p d : PartValue) → i < k → get_or (replicate k x ++ p ∷ []) i d ≡ x
early zero i x p d lt = absurd (omega arith)
early (suc k) zero x p d lt = refl
early (suc k) (suc i) x p d lt = early k i x p d (omega arith)

last : (k : ℕ) (x p d : PartValue) → get_or (replicate k x ++ p ∷ []) k d ≡ p
last zero x p d = refl
last (suc k) x p d = last k x p d

count : (k : ℕ) (x p : PartValue) → length (replicate k x ++ p ∷ []) ≡ suc k
count zero x p = refl
count (suc k) x p = ap suc (count k x p)

nothing_is : (ring : Ring) → IsPartOf ring nothing
nothing_is ring i d lt = let none : length (entries nothing.map) ≡ 0 =
    sym (len-entries nothing.map) ∙ len-empty (key_compare 8) ℕ in
    absurd (omega arith)

pub power_is : (ring : Ring) (k : ℕ) (p : PartValue) (row : List PartValue) → p.degree ≡ 0
    → p.map ≡ single_map ring (y_key 8 0) 1 → IsPartOf ring p → row ≡ replicate k nothing ++ p ∷ []
    → IsPowerOfY ring k row
power_is ring k p row degree map_is part is = subst (IsPowerOfY ring k) (sym is) (record {
  row_is = record {
    places = count k nothing p;
    degrees = all_then (λ x. x.degree ≡ 0) k nothing p refl degree;
    parts = all_then (IsPartOf ring) k nothing p (nothing_is ring) part;
  };
  none = λ i lt. ap (λ (x : PartValue). x.map) (early k i nothing p nothing lt);
  top = ap (λ (x : PartValue). polynomial_in ring x.map) (last k nothing p nothing) ∙ ap (polynomial_in ring) map_is
      ∙ polynomial_in-one ring;
})

one_row : (ring : Ring) (K : ℕ) (row : List PartValue) → IsRowOfParts ring K 0 row → AreRowsOfParts ring K (row ∷ [])
one_row ring K row is zero lt = is
one_row ring K row is (suc r) lt = absurd (omega arith)

-- what the rows of degree 0 give
pub record IsBegun (ring : Ring) (k q inverse : ℕ) (row : List PartValue) (rows_p rows_u : List (List PartValue))
    : Type 0 where
  pub is_prep : IsPrep (record { ring = ring; k = k; q = q; rows_p = rows_p; rows_u = rows_u }) inverse
  pub begins : Begins ring k row (record { ring = ring; k = k; q = q; rows_p = rows_p; rows_u = rows_u })

module _ (ring : Ring) (k q inverse : ℕ) (row row_p : List PartValue) (some : 1 ≤ k) (q_is : k + q + 1 ≡ length row)
    (few : length row ≤ 33) (is : IsRowOfParts ring (length row - 1) 0 row) (none : HasNoneBelow k row)
    (residue : inverse < modulus_of ring)
    (inverts : (constant_of ring (part_in row k) * inverse) % modulus_of ring ≡ 1) (p_is : IsPowerOfY ring k row_p)
  where
    abbrev prep : PrepValue
    prep = record { ring = ring; k = k; q = q; rows_p = row_p ∷ []; rows_u = drop k row ∷ [] }

    rest : (j : ℕ) (d : PartValue) → get_or (drop k row) j d ≡ get_or row (k + j) d
    rest j d = get_or-drop k row j d

    rest_count : length (drop k row) ≡ suc q
    rest_count = omega (arith, length-drop k row)

    u_is : IsRowOfParts ring q 0 (drop k row)
    u_is = record {
      places = rest_count;
      degrees = λ i d lt. subst (λ (p : PartValue). p.degree ≡ 0) (sym (rest i d)) (is.degrees (k + i) d
          (omega (arith, rest_count)));
      parts = λ i d lt. subst (IsPartOf ring) (sym (rest i d)) (is.parts (k + i) d (omega (arith, rest_count)));
    }

    start : part_in (drop k row) 0 ≡ part_in row k
    start = rest 0 nothing ∙ ap (part_in row) (omega arith)

    pub begun : IsPrep prep inverse
    begun = record {
      some = some;
      few = omega arith;
      begun = omega arith;
      permitted = omega arith;
      same = refl;
      p_rows = one_row ring k row_p p_is.row_is;
      u_rows = one_row ring q (drop k row) u_is;
      residue = residue;
      inverts = ap (λ p. (constant_of ring p * inverse) % modulus_of ring) start ∙ inverts;
    }

    unit : IsUnit (series ring).modulus (constant_of ring (part_in row k))
    unit = subst (λ m. IsUnit m (constant_of ring (part_in row k))) (sym (modulus_is ring))
        (record { inverse = inverse; is_residue = residue; inverts = inverts })

    pub begins : Begins ring k row prep
    begins = record {
      ring_is = refl;
      k_is = refl;
      q_is = q_is;
      degrees = refl;
      same = refl;
      p_rows = begun.p_rows;
      u_rows = begun.u_rows;
      pair = λ G powers is_row. rows_first (ring_of (series ring)) k q G powers (row_maps ring row_p)
          (row_maps ring (drop k row)) (row_maps ring row) is_row (row_is ring k 0 row_p p_is.row_is)
          (row_is ring q 0 (drop k row) u_is)
          (λ i lt. part_of-row ring row i ∙ ap (polynomial_in ring) (none i lt) ∙ polynomial_in-empty ring)
          (subst (λ t. IsUnit (series ring).modulus (constant_term t)) (sym (part_of-row ring row k)) unit)
          (λ i lt. part_of-row ring row_p i ∙ ap (polynomial_in ring) (p_is.none i lt) ∙ polynomial_in-empty ring)
          (part_of-row ring row_p k ∙ p_is.top)
          (λ j le. part_of-row ring (drop k row) j
          ∙ ap (λ (p : PartValue). polynomial_in ring p.map) (rest j nothing) ∙ sym (part_of-row ring row (k + j)));
    }

    pub begun_with : (rows_p rows_u : List (List PartValue)) → rows_p ≡ row_p ∷ [] → rows_u ≡ drop k row ∷ []
        → IsBegun ring k q inverse row rows_p rows_u
    begun_with rows_p rows_u ps us = subst (λ t. IsBegun ring k q inverse row t rows_u) (sym ps)
        (subst (λ t. IsBegun ring k q inverse row (row_p ∷ []) t) (sym us) (record {
          is_prep = begun;
          begins =
              begins;
        }))

-- the parts of a row from one place on
pub rest_parts : (ring : Ring) (K k : ℕ) (row : List PartValue) → IsRowOfParts ring K 0 row
    → AreParts ring 0 (drop k row)
rest_parts ring K k row is i d lt = subst (λ (p : PartValue). (p.degree ≡ 0) × IsPartOf ring p)
    (sym (get_or-drop k row i d)) (is.degrees (k + i) d within, is.parts (k + i) d within)
  where
    within : k + i < length row
    within = omega (arith, length-drop k row)

-- and the series of one part each
pub series_with : (ring : Ring) (k q : ℕ) (row row_p : List PartValue) → k + q + 1 ≡ length row
    → IsPowerOfY ring k row_p → (rows_p rows_u : List (List PartValue)) (a w : List SeriesValue) (n : ℕ)
    → rows_p ≡ row_p ∷ [] → rows_u ≡ drop k row ∷ [] → n ≡ length (drop k row) → AreColumns ring k (row_p ∷ []) a
    → AreColumns ring n (drop k row ∷ []) w
    → HasSeries (record { ring = ring; k = k; q = q; rows_p = rows_p; rows_u = rows_u }) a w
series_with ring k q row row_p q_is p_is rows_p rows_u a w n ps us count of_p of_u =
    subst (λ (t : List (List PartValue)).
    HasSeries (record { ring = ring; k = k; q = q; rows_p = t; rows_u = rows_u }) a w) (sym ps)
    (subst (λ (t : List (List PartValue)).
    HasSeries (record { ring = ring; k = k; q = q; rows_p = row_p ∷ []; rows_u = t }) a w) (sym us) (record {
      of_p = of_p;
      of_u = subst (λ m. AreColumns ring m (drop k row ∷ []) w) many of_u;
      none = λ i lt. p_is.none i lt;
    }))
  where
    many : n ≡ suc q
    many = omega (arith, count, length-drop k row)
