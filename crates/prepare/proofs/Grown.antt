-- Rows that grow part by part, by a formula that may read the parts before.
use Rattle.std.proofs.Common.{◌≡◌, ℕ, zero, suc, ◌+◌, ◌-◌, ◌<◌, ◌≤◌, ◌⊎◌, inl, inr, List, [], ◌∷◌, ◌++◌, length}
use Rattle.std.proofs.Common.{get_or, refl, sym, ◌∙◌, ap, subst, arith}
use Rattle.std.proofs.lemmas.List.{get_or_append_left, length_push}
use Rattle.std.proofs.lemmas.Bool.{cases_lt}
use Rattle.std.proofs.Math.Seq.{get_or-append_seam}
use borrow.Author.Count.{below_more}
use Rattle.ps_model.specs.Notation.{sum, scaled, difference, product, sum_between}
use Rattle.ps_model.specs.Recurrences.{crossed_product}
use Rattle.ps_model.specs.SeriesRing.{ring as ring_of, Poly}
use Rattle.ps_model.proofs.SumsBetween.{sum_between-same}
use Rattle.parts.specs.PartValue.{PartValue}
use Rattle.parts.specs.RowsOfParts.{nothing, part_in, AreParts, IsRowOfParts}
use Rattle.parts.specs.Series.{series}
use Rattle.parts.specs.declared.rings.Ring.{Ring}
use Rattle.parts.proofs.Polynomials.{part_at-rows}
use Rattle.prepare.specs.Recurrence.{poly, slices, next_p}
use Rattle.prepare.proofs.Places.{IsPartAt}

-- parts of degree r, those at the places below n as the formula f says
pub record IsSoFar (ring : Ring) (r : ℕ) (f : ℕ → Poly (series ring)) (row : List PartValue) (n : ℕ) : Type 0 where
  pub places : length row ≡ n
  pub parts : AreParts ring r row
  pub are : (i : ℕ) → i < n → poly ring (part_in row i) ≡ f i

-- a part before the last
pub early : (row : List PartValue) (x : PartValue) (i : ℕ) → i < length row → part_in (row ++ x ∷ []) i ≡ part_in row i
early row x i lt = get_or_append_left row (x ∷ []) nothing i lt

-- the last part
pub last_one : (row : List PartValue) (x : PartValue) → part_in (row ++ x ∷ []) (length row) ≡ x
last_one row x = get_or-append_seam row x [] nothing

-- one part more
pub are_more : (ring : Ring) (r : ℕ) (row : List PartValue) (x : PartValue) → AreParts ring r row → IsPartAt ring r x
    → AreParts ring r (row ++ x ∷ [])
are_more ring r row x are is i d lt = elim (cases_lt i (length row)) as
    (λ _. IsPartAt ring r (get_or (row ++ x ∷ []) i d)) [
      | inl low ↦ subst (IsPartAt ring r) (sym (get_or_append_left row (x ∷ []) d i low)) (are i d low)
      | inr high ↦
          let end : length row ≡ i = omega (arith, length_push row x) in
          subst (IsPartAt ring r) (sym (get_or-append_seam row x [] d)
          ∙ ap (λ n. get_or (row ++ x ∷ []) n d) end) is
    ]

module _ (ring : Ring) (r : ℕ) where
  -- one part more; the formula doesn't read it
  pub so_far-more : (f : List PartValue → ℕ → Poly (series ring)) (row more : List PartValue) (x : PartValue) (n : ℕ)
      → IsSoFar ring r (f row) row n → more ≡ row ++ x ∷ [] → IsPartAt ring r x → poly ring x ≡ f row n
      → ((i : ℕ) → i ≤ n → f row i ≡ f (row ++ x ∷ []) i) → IsSoFar ring r (f more) more (n + 1)
  so_far-more f row more x n before is part value same = subst (λ (t : List PartValue). IsSoFar ring r (f t) t (n + 1))
      (sym is) (record {
        places = omega (arith, length_push row x, before.places);
        parts = are_more ring r row x before.parts part;
        are = below_more (λ i. poly ring (part_in (row ++ x ∷ []) i) ≡ f (row ++ x ∷ []) i) n
            (λ i lt. ap (poly ring) (early row x i (omega (arith, before.places))) ∙ before.are i lt
            ∙ same i (omega arith))
            (ap (λ m. poly ring (part_in (row ++ x ∷ []) m)) (sym before.places) ∙ ap (poly ring) (last_one row x)
            ∙ value ∙ same n (omega arith));
      })

  -- as a row
  pub so_far-row : (K : ℕ) (row : List PartValue) → length row ≡ suc K → AreParts ring r row
      → IsRowOfParts ring K r row
  so_far-row K row count are = record {
    places = count;
    degrees = λ i d lt. (are i d lt).0;
    parts = λ i d lt. (are i d lt).1;
  }

-- in rows whose last one, apart, has a part more
grown_part : (rows : List (List PartValue)) (last : List PartValue) (x : PartValue) (s h : ℕ)
    → (s < length rows) ⊎ (h < length last)
    → part_in (get_or (rows ++ last ∷ []) s []) h ≡ part_in (get_or (rows ++ (last ++ x ∷ []) ∷ []) s []) h
grown_part [] last x zero h (inl lt) = absurd (omega arith)
grown_part [] last x zero h (inr lt) = sym (early last x h lt)
grown_part [] last x (suc s) h lt = refl
grown_part (r ∷ rows) last x zero h lt = refl
grown_part (r ∷ rows) last x (suc s) h (inl lt) = grown_part rows last x s h (inl (omega arith))
grown_part (r ∷ rows) last x (suc s) h (inr lt) = grown_part rows last x s h (inr lt)

grown : (ring : Ring) (rows : List (List PartValue)) (last : List PartValue) (x : PartValue) (s h : ℕ)
    → (s < length rows) ⊎ (h < length last)
    → slices ring (rows ++ last ∷ []) s h ≡ slices ring (rows ++ (last ++ x ∷ []) ∷ []) s h
grown ring rows last x s h lt = part_at-rows ring (rows ++ last ∷ []) s h
    ∙ ap (poly ring) (grown_part rows last x s h lt) ∙ sym (part_at-rows ring (rows ++ (last ++ x ∷ []) ∷ []) s h)

-- the formula for p at place i reads the parts of the last row below place i alone
pub next_p-same : (ring : Ring) (e n : ℕ) (rows_p rows_u : List (List PartValue)) (row last : List PartValue)
    (x : PartValue) (i : ℕ) → length rows_p ≡ n → i ≤ length last
    → next_p ring e n rows_p rows_u row last i ≡ next_p ring e n rows_p rows_u row (last ++ x ∷ []) i
next_p-same ring e n rows_p rows_u row last x i count le = λ l. scaled e (difference (poly ring (part_in row i))
    (sum (first l) (second l)))
  where
    first : sum_between 0 i (λ h. crossed_product n (slices ring (rows_p ++ last ∷ [])) (slices ring rows_u) h (i - h))
        ≡ sum_between 0 i (λ h. crossed_product n (slices ring (rows_p ++ (last ++ x ∷ []) ∷ []))
        (slices ring rows_u) h (i - h))
    first = sum_between-same (ring_of (series ring)) 0 i _ _ (λ h _ lt. sum_between-same (ring_of (series ring)) 1
        (suc n) _ _ (λ s _ _. ap (λ t. product t (slices ring rows_u (n - s) (i - h)))
        (grown ring rows_p last x s h (inr (omega arith)))))

    second : sum_between 1 n (λ s. product (slices ring (rows_p ++ last ∷ []) s i) (slices ring rows_u (n - s) 0))
        ≡ sum_between 1 n (λ s. product (slices ring (rows_p ++ (last ++ x ∷ []) ∷ []) s i)
        (slices ring rows_u (n - s) 0))
    second = sum_between-same (ring_of (series ring)) 1 n _ _
        (λ s _ lt. ap (λ t. product t (slices ring rows_u (n - s) 0))
        (grown ring rows_p last x s i (inl (omega arith))))
