-- Numbers in lists of rows: after a row or a number more, and after one was put.
use Rattle.std.proofs.Common.{◌≡◌, ℕ, zero, suc, ◌+◌, ◌<◌, inl, inr, List, [], ◌∷◌, ◌++◌, length, map, get_or, refl}
use Rattle.std.proofs.Common.{◌≤◌, All, sym, ◌∙◌, ap, subst, arith}
use Rattle.std.proofs.Math.ListN.{set}
use Rattle.std.proofs.lemmas.Bool.{cases_eq}
use Rattle.std.proofs.lemmas.Grind.{get_or-set_at}
use Rattle.std.proofs.lemmas.List.{get_or-set_other, length-set, length_push, length-map, get_or-map, get_or_default}
use Rattle.std.proofs.lemmas.List.{map-set, map_push}
use Rattle.std.specs.declared.alloc.Global.{Global}
use Rattle.std.specs.declared.vec.Vec.{Vec}
use Rattle.parts.specs.SeriesRows.{rows_in, entry, HasPlace, SameEntries, KeepsPlaces, Puts}

-- what is past the end, once it is pushed
pub padded : {X : Type 0} (d : X) (xs : List X) (j : ℕ) → get_or (xs ++ d ∷ []) j d ≡ get_or xs j d
padded d [] zero = refl
padded d [] (suc j) = refl
padded d (x ∷ xs) zero = refl
padded d (x ∷ xs) (suc j) = padded d xs j

-- an empty row more
pub more_same : (rows : List (List ℕ)) → SameEntries rows (rows ++ [] ∷ [])
more_same rows f p = ap (λ (row : List ℕ). get_or row p 0) (padded [] rows f)

pub more_kept : (rows : List (List ℕ)) → KeepsPlaces rows (rows ++ [] ∷ [])
more_kept rows f p h = (
  omega (arith, h.0, length_push rows []),
  subst (λ (row : List ℕ). p < length row) (sym (padded [] rows f)) h.1,
)

pub same_through : (a b c : List (List ℕ)) → SameEntries a b → SameEntries b c → SameEntries a c
same_through a b c h k f p = k f p ∙ h f p

pub kept_through : (a b c : List (List ℕ)) → KeepsPlaces a b → KeepsPlaces b c → KeepsPlaces a c
kept_through a b c h k f p place = k f p (h f p place)

-- another row in place of row f
module _ (rows : List (List ℕ)) (f : ℕ) (row : List ℕ) (inside : f < length rows) where
  pub row_at : get_or (set rows f row) f [] ≡ row
  row_at = get_or-set_at rows f f row [] refl inside

  pub row_other : (i : ℕ) → (i ≡ f → ⊥) → get_or (set rows f row) i [] ≡ get_or rows i []
  row_other i ne = get_or-set_other rows f i row [] ne

  -- a longer one with the same numbers
  pub longer_same : ((j : ℕ) → get_or row j 0 ≡ get_or (get_or rows f []) j 0) → SameEntries rows (set rows f row)
  longer_same h i p = elim (cases_eq i f) [
    | inl e ↦ subst (λ n. entry (set rows f row) n p ≡ entry rows n p) (sym e)
        (ap (λ (r : List ℕ). get_or r p 0) row_at ∙ h p)
    | inr ne ↦ ap (λ (r : List ℕ). get_or r p 0) (row_other i ne)
  ]

  pub longer_kept : length (get_or rows f []) ≤ length row → KeepsPlaces rows (set rows f row)
  longer_kept le i p h = (
    omega (arith, h.0, length-set rows f row),
    elim (cases_eq i f) [
      | inl e ↦ subst (λ n. p < length (get_or (set rows f row) n [])) (sym e)
          (subst (λ (r : List ℕ). p < length r) (sym row_at)
          (let k : p < length (get_or rows f []) = subst (λ n. p < length (get_or rows n [])) e h.1 in omega arith))
      | inr ne ↦ subst (λ (r : List ℕ). p < length r) (sym (row_other i ne)) h.1
    ],
  )

  -- and one with one number put
  pub put_is : (p c : ℕ) → p < length (get_or rows f []) → row ≡ set (get_or rows f []) p c →
      Puts f p c rows (set rows f row)
  put_is p c lt is = record {
    here = ap (λ (r : List ℕ). get_or r p 0) (row_at ∙ is) ∙ get_or-set_at (get_or rows f []) p p c 0 refl lt;
    others = λ i j ne. elim (cases_eq i f) [
      | inl e ↦ subst (λ n. entry (set rows f row) n j ≡ entry rows n j) (sym e)
          (ap (λ (r : List ℕ). get_or r j 0) (row_at ∙ is) ∙
          get_or-set_other (get_or rows f []) p j c 0 (λ s. ne (e, s)))
      | inr other ↦ ap (λ (r : List ℕ). get_or r j 0) (row_other i other)
    ];
  }

  pub put_kept : (p c : ℕ) → row ≡ set (get_or rows f []) p c → KeepsPlaces rows (set rows f row)
  put_kept p c is = longer_kept (let n = length-set (get_or rows f []) p c in
      let k : length row ≡ length (set (get_or rows f []) p c) = ap (length {A = ℕ}) is in omega arith)

-- the same of lists of vectors
module _ (rows : List (Vec ℕ Global)) (f : ℕ) (x v : Vec ℕ Global) (inside : f < length rows)
    (is : x ≡ get_or rows f x) where
  rows_set : rows_in (set rows f v) ≡ set (rows_in rows) f v.items
  rows_set = map-set (λ (row : Vec ℕ Global). row.items) rows f v

  rows_inside : f < length (rows_in rows)
  rows_inside = omega (arith, length-map rows (λ (row : Vec ℕ Global). row.items))

  pub row_read : get_or (rows_in rows) f [] ≡ x.items
  row_read = get_or_default (rows_in rows) f [] x.items rows_inside ∙
      get_or-map (λ (row : Vec ℕ Global). row.items) rows f x x.items inside ∙
      ap (λ (row : Vec ℕ Global). row.items) (sym is)

  pub made_same : ((j : ℕ) → get_or v.items j 0 ≡ get_or x.items j 0) →
      SameEntries (rows_in rows) (rows_in (set rows f v))
  made_same h = subst (SameEntries (rows_in rows)) (sym rows_set)
      (longer_same (rows_in rows) f v.items rows_inside
      (λ j. h j ∙ ap (λ (r : List ℕ). get_or r j 0) (sym row_read)))

  pub made_kept : length x.items ≤ length v.items → KeepsPlaces (rows_in rows) (rows_in (set rows f v))
  made_kept le = subst (KeepsPlaces (rows_in rows)) (sym rows_set)
      (longer_kept (rows_in rows) f v.items rows_inside
      (subst (λ (r : List ℕ). length r ≤ length v.items) (sym row_read) le))

  pub made_place : (p : ℕ) → p < length v.items → HasPlace (rows_in (set rows f v)) f p
  made_place p lt = subst (λ (rs : List (List ℕ)). HasPlace rs f p) (sym rows_set) (
    omega (arith, rows_inside, length-set (rows_in rows) f v.items),
    subst (λ (r : List ℕ). p < length r) (sym (row_at (rows_in rows) f v.items rows_inside)) lt,
  )

  pub put_number_is : (p c : ℕ) → p < length x.items → v.items ≡ set x.items p c →
      Puts f p c (rows_in rows) (rows_in (set rows f v))
  put_number_is p c lt e = subst (Puts f p c (rows_in rows)) (sym rows_set)
      (put_is (rows_in rows) f v.items rows_inside p c
      (subst (λ (r : List ℕ). p < length r) (sym row_read) lt)
      (e ∙ ap (λ (r : List ℕ). set r p c) (sym row_read)))

  pub put_number_kept : (p c : ℕ) → v.items ≡ set x.items p c → KeepsPlaces (rows_in rows) (rows_in (set rows f v))
  put_number_kept p c e = made_kept (let n = length-set x.items p c in
      let k : length v.items ≡ length (set x.items p c) = ap (length {A = ℕ}) e in omega arith)

-- the place of a row of vectors
pub has_row : (rows : List (Vec ℕ Global)) (f p : ℕ) → HasPlace (rows_in rows) f p → f < length rows
has_row rows f p h = omega (arith, h.0, length-map rows (λ (row : Vec ℕ Global). row.items))

pub has_place : (rows : List (Vec ℕ Global)) (f p : ℕ) (x : Vec ℕ Global) → HasPlace (rows_in rows) f p →
    x ≡ get_or rows f x → p < length x.items
has_place rows f p x h is = subst (λ (r : List ℕ). p < length r) (row_read rows f x x (has_row rows f p h) is) h.1

-- numbers of a row
pub row_low : (m : ℕ) (rows : List (Vec ℕ Global)) (i : ℕ) (xs : List ℕ) →
    ((f p : ℕ) → entry (rows_in rows) f p < m) → get_or (rows_in rows) i [] ≡ xs → All (λ x. x < m) xs
row_low m rows i xs low is j d lt = subst (λ n. n < m)
    (ap (λ (r : List ℕ). get_or r j 0) is ∙ get_or_default xs j 0 d lt) (low i j)

-- a row more of a list of vectors
pub pushed_rows : (rows new : List (Vec ℕ Global)) (v : Vec ℕ Global) → new ≡ rows ++ v ∷ [] → v.items ≡ [] →
    SameEntries (rows_in rows) (rows_in new) × KeepsPlaces (rows_in rows) (rows_in new)
pushed_rows rows new v e none = (
  subst (SameEntries (rows_in rows)) (sym is) (more_same (rows_in rows)),
  subst (KeepsPlaces (rows_in rows)) (sym is) (more_kept (rows_in rows)),
)
  where
    is : rows_in new ≡ rows_in rows ++ [] ∷ []
    is = ap rows_in e ∙ map_push (λ (row : Vec ℕ Global). row.items) rows v ∙ (λ i. rows_in rows ++ none i ∷ [])
