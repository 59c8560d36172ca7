-- What a step gives.
use Rattle.std.proofs.Common.{◌≡◌, ℕ, suc, ◌+◌, ◌-◌, ◌*◌, ◌%◌, ◌<◌, ◌≤◌, List, [], ◌∷◌, ◌++◌, length, get_or}
use Rattle.std.proofs.Common.{refl, sym, ◌∙◌, ap, subst, arith, inl, inr}
use Rattle.std.proofs.lemmas.Bool.{cases_lt}
use Rattle.std.proofs.lemmas.List.{get_or_append_left, length-map, length_push, map_push}
use Rattle.std.proofs.Math.Seq.{get_or-append_seam}
use Rattle.ps_model.specs.Bounds.{HasNoPowerAbove}
use Rattle.ps_model.specs.Notation.{sum, scaled, difference, product, sum_between, constant_term}
use Rattle.ps_model.specs.Prepared.{IsPrepared}
use Rattle.ps_model.specs.Recurrences.{crossed_product, FollowsRecurrences}
use Rattle.ps_model.specs.Rows.{part_of, part_at, polynomial_of_rows, IsRowOf}
use Rattle.ps_model.specs.SeriesRing.{ring as ring_of, Poly, Row}
use Rattle.ps_model.proofs.PreparedRows.{rows_next}
use Rattle.ps_model.proofs.SumsBetween.{sum_between-same}
use Rattle.parts.specs.PartValue.{PartValue}
use Rattle.parts.specs.Rings.{modulus_of}
use Rattle.parts.specs.RowsOfParts.{part_in, IsRowOfParts, AreRowsOfParts}
use Rattle.parts.specs.Series.{constant_of, series, polynomial_in, polynomial_of, row_maps, rows_maps}
use Rattle.parts.specs.declared.rings.Ring.{Ring}
use Rattle.parts.proofs.Polynomials.{modulus_is, part_at-rows, part_of-row, polynomial_in-empty}
use Rattle.parts.proofs.RowSlices.{row_is, rows_are}
use Rattle.prepare.specs.Calls.{Adds}
use Rattle.prepare.specs.Columns.{HasNext, HasNoneAtStart}
use Rattle.prepare.specs.PrepValue.{PrepValue, IsPrep, degrees_of}
use Rattle.prepare.specs.Recurrence.{poly, slices, next_p, next_u, IsNextOfP, IsNextOfU}

-- rows with one more
pub rows_more : (ring : Ring) (K : ℕ) (rows : List (List PartValue)) (row : List PartValue)
    → AreRowsOfParts ring K rows → IsRowOfParts ring K (length rows) row → AreRowsOfParts ring K (rows ++ row ∷ [])
rows_more ring K rows row are is r lt = elim (cases_lt r (length rows)) as
    (λ _. IsRowOfParts ring K r (get_or (rows ++ row ∷ []) r [])) [
      | inl low ↦ subst (IsRowOfParts ring K r) (sym (get_or_append_left rows (row ∷ []) [] r low)) (are r low)
      | inr high ↦
          let end : length rows ≡ r = omega (arith, length_push rows row) in
          subst (λ n. IsRowOfParts ring K n (get_or (rows ++ row ∷ []) n [])) end
          (subst (IsRowOfParts ring K (length rows)) (sym (get_or-append_seam rows row [] [])) is)
    ]

-- a slice of the last row
at_end : (ring : Ring) (rows : List (List PartValue)) (last : List PartValue) (n j : ℕ) → length rows ≡ n
    → slices ring (rows ++ last ∷ []) n j ≡ poly ring (part_in last j)
at_end ring rows last n j count = part_at-rows ring (rows ++ last ∷ []) n j
    ∙ ap (λ (t : List PartValue). poly ring (part_in t j)) (ap (λ m. get_or (rows ++ last ∷ []) m []) (sym count)
    ∙ get_or-append_seam rows last [] [])

-- a slice of an earlier one
pub at_early : (ring : Ring) (rows : List (List PartValue)) (last : List PartValue) (s j : ℕ) → s < length rows
    → slices ring rows s j ≡ slices ring (rows ++ last ∷ []) s j
at_early ring rows last s j lt = part_at-rows ring rows s j
    ∙ ap (λ (t : List PartValue). poly ring (part_in t j)) (sym (get_or_append_left rows (last ∷ []) [] s lt))
    ∙ sym (part_at-rows ring (rows ++ last ∷ []) s j)

module _ (ring : Ring) (k q e d : ℕ) (rows_p rows_u : List (List PartValue)) (row row_p row_u : List PartValue)
    (n_p : length rows_p ≡ suc d) (n_u : length rows_u ≡ suc d) where
  crossed_same : (i h : ℕ)
      → crossed_product (suc d) (slices ring (rows_p ++ row_p ∷ [])) (slices ring rows_u) i h
      ≡ crossed_product (suc d) (slices ring (rows_p ++ row_p ∷ [])) (slices ring (rows_u ++ row_u ∷ [])) i h
  crossed_same i h = sum_between-same (ring_of (series ring)) 1 (suc (suc d)) _ _
      (λ s lo hi. ap (product (slices ring (rows_p ++ row_p ∷ []) s i))
      (at_early ring rows_u row_u (suc d - s) h (omega arith)))

  given_same : (l : ℕ) → poly ring (part_in row l) ≡ part_of (ring_of (series ring)) (row_maps ring row) l
  given_same l = sym (part_of-row ring row l)

  p_same : (i : ℕ) → next_p ring e (suc d) rows_p rows_u row row_p i
      ≡ scaled e (difference (part_of (ring_of (series ring)) (row_maps ring row) i) (sum
      (sum_between 0 i (λ h. crossed_product (suc d) (slices ring (rows_p ++ row_p ∷ []))
      (slices ring (rows_u ++ row_u ∷ [])) h (i - h)))
      (sum_between 1 (suc d) (λ s. product (slices ring (rows_p ++ row_p ∷ []) s i)
      (slices ring (rows_u ++ row_u ∷ []) (suc d - s) 0)))))
  p_same i = λ l. scaled e (difference (given_same i l) (sum
      (sum_between-same (ring_of (series ring)) 0 i
      (λ h. crossed_product (suc d) (slices ring (rows_p ++ row_p ∷ [])) (slices ring rows_u) h (i - h))
      (λ h. crossed_product (suc d) (slices ring (rows_p ++ row_p ∷ [])) (slices ring (rows_u ++ row_u ∷ [])) h (i - h))
      (λ h _ _. crossed_same h (i - h)) l)
      (sum_between-same (ring_of (series ring)) 1 (suc d)
      (λ s. product (slices ring (rows_p ++ row_p ∷ []) s i) (slices ring rows_u (suc d - s) 0))
      (λ s. product (slices ring (rows_p ++ row_p ∷ []) s i) (slices ring (rows_u ++ row_u ∷ []) (suc d - s) 0))
      (λ s lo hi. ap (product (slices ring (rows_p ++ row_p ∷ []) s i))
      (at_early ring rows_u row_u (suc d - s) 0 (omega arith))) l)))

  u_same : (j : ℕ) → next_u ring k (suc d) rows_p rows_u row row_p j
      ≡ difference (part_of (ring_of (series ring)) (row_maps ring row) (k + j))
      (sum_between 0 k (λ i. crossed_product (suc d) (slices ring (rows_p ++ row_p ∷ []))
      (slices ring (rows_u ++ row_u ∷ [])) i (k + j - i)))
  u_same j = λ l. difference (given_same (k + j) l)
      (sum_between-same (ring_of (series ring)) 0 k
      (λ i. crossed_product (suc d) (slices ring (rows_p ++ row_p ∷ [])) (slices ring rows_u) i (k + j - i))
      (λ i. crossed_product (suc d) (slices ring (rows_p ++ row_p ∷ [])) (slices ring (rows_u ++ row_u ∷ [])) i
      (k + j - i))
      (λ i _ _. crossed_same i (k + j - i)) l)

  module _ (ps : AreRowsOfParts ring k rows_p) (us : AreRowsOfParts ring q rows_u)
      (inverts : (constant_of ring (part_in (get_or rows_u 0 []) 0) * e) % modulus_of ring ≡ 1)
      (p_is : IsNextOfP ring k e rows_p rows_u row row_p) (u_is : IsNextOfU ring k q rows_p row_p rows_u row row_u)
    where
      formulas : FollowsRecurrences {R = ring_of (series ring)} k q (suc d) e
          (part_of (ring_of (series ring)) (row_maps ring row))
          (slices ring (rows_p ++ row_p ∷ [])) (slices ring (rows_u ++ row_u ∷ []))
      formulas = record {
        of_p = λ i lt. at_end ring rows_p row_p (suc d) i n_p
            ∙ subst (λ n. poly ring (part_in row_p i) ≡ next_p ring e n rows_p rows_u row row_p i) n_p (p_is.parts i lt)
            ∙ p_same i;
        of_u = λ j le. at_end ring rows_u row_u (suc d) j n_u
            ∙ subst (λ n. poly ring (part_in row_u j) ≡ next_u ring k n rows_p rows_u row row_p j) n_p (u_is.parts j le)
            ∙ u_same j;
      }

      maps_p : rows_maps ring (rows_p ++ row_p ∷ []) ≡ rows_maps ring rows_p ++ row_maps ring row_p ∷ []
      maps_p = map_push (row_maps ring) rows_p row_p

      maps_u : rows_maps ring (rows_u ++ row_u ∷ []) ≡ rows_maps ring rows_u ++ row_maps ring row_u ∷ []
      maps_u = map_push (row_maps ring) rows_u row_u

      -- the prepared pair of the next degree
      pair : (G : Poly (series ring)) → HasNoPowerAbove (k + q) G → IsRowOf (k + q) (suc d) G (row_maps ring row)
          → IsPrepared G k q d (polynomial_of ring rows_p) (polynomial_of ring rows_u)
          → IsPrepared G k q (suc d) (polynomial_of ring (rows_p ++ row_p ∷ []))
          (polynomial_of ring (rows_u ++ row_u ∷ []))
      pair G powers is before =
          subst (λ (t : List (Row (series ring))). IsPrepared G k q (suc d) (polynomial_of_rows (ring_of
          (series ring)) t)
          (polynomial_of ring (rows_u ++ row_u ∷ []))) (sym maps_p)
          (subst (λ (t : List (Row (series ring))). IsPrepared G k q (suc d)
          (polynomial_of_rows (ring_of (series ring)) (rows_maps ring rows_p ++ row_maps ring row_p ∷ []))
          (polynomial_of_rows (ring_of (series ring)) t)) (sym maps_u)
          (rows_next (ring_of (series ring)) k q G powers d e (rows_maps ring rows_p) (rows_maps ring rows_u)
          (row_maps ring row_p) (row_maps ring row_u) (row_maps ring row)
          (rows_are ring k rows_p ps) (rows_are ring q rows_u us)
          (length-map rows_p (row_maps ring) ∙ n_p) (length-map rows_u (row_maps ring) ∙ n_u)
          (row_is ring k (suc d) row_p (subst (λ n. IsRowOfParts ring k n row_p) n_p p_is.row_is))
          (row_is ring q (suc d) row_u (subst (λ n. IsRowOfParts ring q n row_u) n_p u_is.row_is))
          is
          (part_of-row ring row_p k ∙ ap (polynomial_in ring) p_is.top ∙ polynomial_in-empty ring)
          (ap (λ (p : Poly (series ring)). (constant_term p * e) % (series ring).modulus) (part_at-rows ring rows_u 0 0)
          ∙ ap (λ m. (constant_of ring (part_in (get_or rows_u 0 []) 0) * e) % m) (modulus_is ring) ∙ inverts)
          before
          (subst (λ (t : List (Row (series ring))). FollowsRecurrences {R = ring_of (series ring)} k q (suc d) e
          (part_of (ring_of (series ring)) (row_maps ring row)) (part_at (ring_of (series ring)) t)
          (part_at (ring_of (series ring)) (rows_maps ring rows_u ++ row_maps ring row_u ∷ []))) maps_p
          (subst (λ (t : List (Row (series ring))). FollowsRecurrences {R = ring_of (series ring)} k q (suc d) e
          (part_of (ring_of (series ring)) (row_maps ring row)) (slices ring (rows_p ++ row_p ∷ []))
          (part_at (ring_of (series ring)) t)) maps_u formulas))))

module _ (prep : PrepValue) (inverse : ℕ) (is : IsPrep prep inverse) (row row_p row_u : List PartValue)
    (p_is : IsNextOfP prep.ring prep.k inverse prep.rows_p prep.rows_u row row_p)
    (u_is : IsNextOfU prep.ring prep.k prep.q prep.rows_p row_p prep.rows_u row row_u) where
  abbrev next : PrepValue
  next = record prep { rows_p = prep.rows_p ++ row_p ∷ []; rows_u = prep.rows_u ++ row_u ∷ [] }

  more_p : length (prep.rows_p ++ row_p ∷ []) ≡ length prep.rows_p + 1
  more_p = length_push prep.rows_p row_p

  -- the invariant
  stepped : degrees_of prep ≤ 4095 → IsPrep next inverse
  stepped le = record {
    some = is.some;
    few = is.few;
    begun = omega (arith, more_p);
    permitted = omega (arith, more_p);
    same = omega (arith, more_p, length_push prep.rows_u row_u, is.same);
    p_rows = rows_more prep.ring prep.k prep.rows_p row_p is.p_rows p_is.row_is;
    u_rows = rows_more prep.ring prep.q prep.rows_u row_u is.u_rows
        (subst (λ n. IsRowOfParts prep.ring prep.q n row_u) (sym is.same) u_is.row_is);
    residue = is.residue;
    inverts = ap (λ (t : List PartValue). (constant_of prep.ring (part_in t 0) * inverse) % modulus_of prep.ring)
        (get_or_append_left prep.rows_u (row_u ∷ []) [] 0 (omega (arith, is.same, is.begun))) ∙ is.inverts;
  }

  -- what was added
  adds : Adds row prep next
  adds = record {
    row_p = row_p;
    row_u = row_u;
    p_is = p_is.row_is;
    u_is = u_is.row_is;
    new_is = refl;
    pair = λ G powers row_G before.
        subst (λ n. IsPrepared G prep.k prep.q n (polynomial_of prep.ring (prep.rows_p ++ row_p ∷ []))
        (polynomial_of prep.ring (prep.rows_u ++ row_u ∷ []))) last
        (pair prep.ring prep.k prep.q inverse (length prep.rows_p - 1) prep.rows_p prep.rows_u row row_p row_u count
        (is.same ∙ count) is.p_rows is.u_rows is.inverts p_is u_is G powers
        (subst (λ n. IsRowOf (prep.k + prep.q) n G (row_maps prep.ring row)) count row_G) before);
  }
    where
      count : length prep.rows_p ≡ suc (length prep.rows_p - 1)
      count = let begun = is.begun in omega arith

      last : suc (length prep.rows_p - 1) ≡ length (prep.rows_p ++ row_p ∷ []) - 1
      last = let begun = is.begun in omega (arith, more_p)

-- what a step gives
module _ (old new : PrepValue) (inverse : ℕ) (row : List PartValue) (is : IsPrep old inverse)
    (next_is : HasNext old new inverse row) where
  pub next_prep : degrees_of old ≤ 4095 → IsPrep new inverse
  next_prep le = subst (λ (t : PrepValue). IsPrep t inverse) (sym next_is.new_is)
      (stepped old inverse is row next_is.row_p next_is.row_u next_is.p_is next_is.u_is le)

  pub next_adds : (seen : PrepValue) → old ≡ seen → Adds row seen new
  next_adds seen same = subst (λ (t : PrepValue). Adds row t new) same
      (subst (Adds row old) (sym next_is.new_is)
      (adds old inverse is row next_is.row_p next_is.row_u next_is.p_is next_is.u_is))

  -- the row of degree 0 stays
  pub next_none : HasNoneAtStart old.k old.rows_p → HasNoneAtStart old.k new.rows_p
  next_none none = subst (λ (t : PrepValue). HasNoneAtStart old.k t.rows_p) (sym next_is.new_is)
      (λ i lt. ap (λ (t : List PartValue). (part_in t i).map)
      (get_or_append_left old.rows_p (next_is.row_p ∷ []) [] 0 (let some = is.begun in omega arith)) ∙ none i lt)

-- the rows that the recurrences give, pushed
pub has_next : (ring : Ring) (k q e : ℕ) (rows_p grown_p rows_u : List (List PartValue))
    (row row_p last row_u : List PartValue) (new_p new_u : List (List PartValue)) → grown_p ≡ rows_p → last ≡ row_p →
    IsNextOfP ring k e rows_p rows_u row row_p → IsNextOfU ring k q grown_p last rows_u row row_u →
    new_p ≡ rows_p ++ row_p ∷ [] → new_u ≡ rows_u ++ row_u ∷ [] →
    HasNext (record { ring = ring; k = k; q = q; rows_p = rows_p; rows_u = rows_u })
    (record { ring = ring; k = k; q = q; rows_p = new_p; rows_u = new_u }) e row
has_next ring k q e rows_p grown_p rows_u row row_p last row_u new_p new_u same_p same_last p_is u_is p_more u_more =
    record {
      row_p = row_p;
      row_u = row_u;
      p_is = p_is;
      u_is = subst (λ (t : List PartValue). IsNextOfU ring k q rows_p t rows_u row row_u) same_last
          (subst (λ (t : List (List PartValue)). IsNextOfU ring k q t last rows_u row row_u) same_p u_is);
      new_is = λ l. record { ring = ring; k = k; q = q; rows_p = p_more l; rows_u = u_more l };
    }

-- the rows, and so the invariant, stay where a step is refused
pub same_prep : (ring : Ring) (k q e : ℕ) (old_p new_p old_u new_u : List (List PartValue)) → new_p ≡ old_p →
    new_u ≡ old_u → IsPrep (record { ring = ring; k = k; q = q; rows_p = old_p; rows_u = old_u }) e →
    IsPrep (record { ring = ring; k = k; q = q; rows_p = new_p; rows_u = new_u }) e
same_prep ring k q e old_p new_p old_u new_u same_p same_u is = subst (λ (t : PrepValue). IsPrep t e)
    (λ l. record { ring = ring; k = k; q = q; rows_p = sym same_p l; rows_u = sym same_u l }) is
