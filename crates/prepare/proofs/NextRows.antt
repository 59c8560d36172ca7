-- The rows of the next degree, once they are whole.
use Rattle.std.proofs.Common.{◌≡◌, ℕ, ◌+◌, List, [], ◌∷◌, ◌++◌, length, sym, ◌∙◌, ap, subst, arith}
use Rattle.std.proofs.lemmas.List.{length_push}
use Rattle.std.specs.FinMap.{FinMap, empty, entries, len-empty, len-entries}
use Rattle.ps_model.specs.Keys.{key_compare}
use Rattle.parts.specs.PartValue.{PartValue, IsPartOf}
use Rattle.parts.specs.RowsOfParts.{part_in, IsRowOfParts}
use Rattle.parts.specs.declared.rings.Ring.{Ring}
use Rattle.prepare.specs.Recurrence.{poly, next_p, next_u, IsNextOfP, IsNextOfU}
use Rattle.prepare.proofs.Grown.{IsSoFar, so_far-row, are_more, early, last_one, next_p-same}

-- the row of u
pub next_u-done : (ring : Ring) (k q n : ℕ) (rows_p rows_u : List (List PartValue)) (row last next : List PartValue)
    (j : ℕ) → length rows_p ≡ n → j ≡ q + 1
    → IsSoFar ring n (next_u ring k n rows_p rows_u row last) next j → IsNextOfU ring k q rows_p last rows_u row next
next_u-done ring k q n rows_p rows_u row last next j count end is =
    let so_far : IsSoFar ring (length rows_p) (next_u ring k (length rows_p) rows_p rows_u row last) next j =
    subst (λ m. IsSoFar ring m (next_u ring k m rows_p rows_u row last) next j) (sym count) is in
    record {
      row_is = so_far-row ring (length rows_p) q next (omega (arith, so_far.places)) so_far.parts;
      parts = λ i le. so_far.are i (omega arith);
    }

-- the row of p
pub next_p-done : (ring : Ring) (k e n : ℕ) (rows_p rows_u : List (List PartValue)) (row last next : List PartValue)
    (x : PartValue) (i : ℕ) → length rows_p ≡ n → i ≡ k
    → IsSoFar ring n (next_p ring e n rows_p rows_u row last) last i → next ≡ last ++ x ∷ [] → x.degree ≡ n
    → x.map ≡ empty → IsNextOfP ring k e rows_p rows_u row next
next_p-done ring k e n rows_p rows_u row last next x i count end is next_is degree none =
    let long = is.places in
    let parts = are_more ring n last x is.parts (degree, nothing_there) in
    let more : IsNextOfP ring k e rows_p rows_u row (last ++ x ∷ []) = record {
      row_is = subst (λ m. IsRowOfParts ring k m (last ++ x ∷ [])) (sym count)
          (so_far-row ring n k (last ++ x ∷ []) (omega (arith, length_push last x)) parts);
      top = ap (λ (p : PartValue). p.map) (ap (part_in (last ++ x ∷ [])) (sym (is.places ∙ end)) ∙ last_one last x)
          ∙ none;
      parts = λ j lt. subst (λ m. poly ring (part_in (last ++ x ∷ []) j)
          ≡ next_p ring e m rows_p rows_u row (last ++ x ∷ []) j) (sym count)
          (ap (poly ring) (early last x j (omega arith)) ∙ is.are j (omega arith)
          ∙ next_p-same ring e n rows_p rows_u row last x j count (omega arith));
    } in
    subst (IsNextOfP ring k e rows_p rows_u row) (sym next_is) more
  where
    nothing_there : IsPartOf ring x
    nothing_there j d lt = let zero : length (entries x.map) ≡ 0 =
        ap (λ (m : FinMap (key_compare 8) ℕ). length (entries m)) none ∙ sym (len-entries empty)
        ∙ len-empty (key_compare 8) ℕ in
        absurd (omega arith)
