-- The items of a writer: those that are published, those that were handed over, and all.
use Rattle.std.proofs.Common.{◌≡◌, ℕ, ◌+◌, ◌≤◌, ◌<◌, ◌++◌, ◌∷◌, [], List, length, take, drop, get_or}
use Rattle.std.proofs.Common.{refl, sym, ◌∙◌, ap, subst, arith, zero, suc, add-one, Result, Ok, Err, true, false}
use Rattle.std.proofs.Common.{MatchResult}
use Rattle.std.specs.Result.{is_err, OnOk, OnErr}
use Rattle.std.proofs.lemmas.List.{drop-append-le, take-append-le, length-take-le, take_all, length-map, map-append}
use Rattle.std.specs.declared.sync.Arc.{Arc}
use Rattle.std.specs.declared.alloc.Global.{Global}
use Rattle.std.specs.Arc.{arc_value}
use Rattle.rows.specs.Fits.{AllFit, values}
use Rattle.rows.specs.Rule.{Grows}
use Rattle.rows.specs.Pending.{with_items}
use Rattle.rows.specs.declared.copies.PublishedRow.{PublishedRow}

module _ {T : Type 0} where
  length-values : (xs : List (Arc T Global)) → length (values xs) ≡ length xs
  length-values xs = length-map xs arc_value

  take_more :
      (xs : List (Arc T Global)) (h : ℕ) (a : Arc T Global) → h < length xs → a ≡ get_or xs h a
      → take (suc h) (values xs) ≡ take h (values xs) ++ arc_value a ∷ []
  take_more [] h a lt at = absurd (omega arith)
  take_more (x ∷ xs) zero a lt at = ap (λ (z : Arc T Global). arc_value z ∷ []) (sym at)
  take_more (x ∷ xs) (suc h) a lt at = ap (λ (l : List T). arc_value x ∷ l) (take_more xs h a (omega arith) at)

  -- one item more is handed over
  pub pending_more :
      (waits xs : List (Arc T Global)) (item a : Arc T Global) (p h : ℕ)
      → values waits ≡ drop p (take h (values xs)) → p ≤ h → h < length xs → a ≡ get_or xs h a
      → arc_value item ≡ arc_value a
      → values (waits ++ item ∷ []) ≡ drop p (take (h + 1) (values xs))
  pending_more waits xs item a p h is le lt at same =
      let long : h ≤ length (values xs) = subst (λ n. h ≤ n) (sym (length-values xs)) (omega arith) in
      let room : p ≤ length (take h (values xs)) =
      subst (λ n. p ≤ n) (sym (length-take-le h (values xs) long)) le in
      let joined : values waits ++ arc_value item ∷ [] ≡ drop p (take h (values xs)) ++ arc_value a ∷ [] =
      λ i. is i ++ same i ∷ [] in
      map-append arc_value waits (item ∷ [])
      ∙ joined
      ∙ sym (drop-append-le p (take h (values xs)) (arc_value a ∷ []) room)
      ∙ ap (λ (l : List T). drop p l) (sym (take_more xs h a lt at))
      ∙ ap (λ (n : ℕ). drop p (take n (values xs))) (sym (add-one h))

  -- the published items and the others that were handed over are all that were handed over
  take-drop-take : (vs : List T) (p h : ℕ) → p ≤ h → take p vs ++ drop p (take h vs) ≡ take h vs
  take-drop-take vs zero h le = refl
  take-drop-take vs (suc p) zero le = absurd (omega arith)
  take-drop-take [] (suc p) (suc h) le = refl
  take-drop-take (v ∷ vs) (suc p) (suc h) le = ap (λ (l : List T). v ∷ l) (take-drop-take vs p h (omega arith))

  pub drop-take-nil : (vs : List T) (h : ℕ) → drop h (take h vs) ≡ []
  drop-take-nil vs zero = refl
  drop-take-nil [] (suc h) = refl
  drop-take-nil (v ∷ vs) (suc h) = drop-take-nil vs h

  -- once what is pending is published, all that was handed over is
  pub all_published :
      (xs : List (Arc T Global)) (was waits : List T) (p h : ℕ) → was ≡ take p (values xs)
      → waits ≡ drop p (take h (values xs)) → p ≤ h → was ++ waits ≡ take h (values xs)
  all_published xs was waits p h a b le =
      let joined : was ++ waits ≡ take p (values xs) ++ drop p (take h (values xs)) = λ i. a i ++ b i in
      joined ∙ take-drop-take (values xs) p h le

  all_items : (xs : List (Arc T Global)) (h : ℕ) → h ≡ length xs → take h (values xs) ≡ values xs
  all_items xs h e = take_all h (values xs) (subst (λ n. n ≤ h) (sym (length-values xs)) (omega arith))

  -- an item that is put comes behind all of these
  pub take_pushed : (xs : List (Arc T Global)) (y : Arc T Global) (p : ℕ) → p ≤ length xs
      → take p (values (xs ++ y ∷ [])) ≡ take p (values xs)
  take_pushed xs y p le = ap (λ (l : List T). take p l) (map-append arc_value xs (y ∷ []))
      ∙ take-append-le p (values xs) (arc_value y ∷ []) (subst (λ n. p ≤ n) (sym (length-values xs)) le)

module _ {X E : Type 0} where
  -- which answer it was
  pub was_ok : (r : Result X E) (P : Type 0) → false ≡ is_err r → OnOk r P → P
  was_ok (Ok x) P e p = p
  was_ok (Err x) P e q = let t : false ≡ true = e in cc

  pub ok_of : (r : Result X E) (P : Type 0) (Q : E → Type 0) → false ≡ is_err r → MatchResult r (λ _. P) Q → P
  ok_of (Ok x) P Q e p = p
  ok_of (Err x) P Q e q = let t : false ≡ true = e in cc

  -- what two clauses by cases say together of Ok, and one of them of Err
  pub both_on_ok :
      (r : Result X E) (P Q P' Q' G : Type 0) → MatchResult r (λ _. P) (λ _. Q) → MatchResult r (λ _. P') (λ _. Q')
      → (P → P' → G) → OnOk r G
  both_on_ok (Ok x) P Q P' Q' G p q f = f p q
  both_on_ok (Err e) P Q P' Q' G p q f = tt

  -- what a clause by cases says of Err
  pub on_err_of : (r : Result X E) (P Q G : Type 0) → MatchResult r (λ _. P) (λ _. Q) → (Q → G) → OnErr r G
  on_err_of (Ok x) P Q G p f = tt
  on_err_of (Err e) P Q G q f = f q

module _ {T H : Type 0} (fits : H → ℕ → T → Type 0) where
  -- a publish makes the row grow
  pub grows :
      (row : PublishedRow T H) (xs waits : List (Arc T Global)) (p h : ℕ) → row.items ≡ take p (values xs)
      → values waits ≡ drop p (take h (values xs)) → p ≤ h → h ≡ length xs → AllFit (fits row.title) (values xs)
      → length xs ≤ 4096 → Grows fits row (with_items row waits)
  grows row xs waits p h a b le all fit short =
      let e : row.items ++ values waits ≡ values xs =
      all_published xs row.items (values waits) p h a b le ∙ all_items xs h all in
      record {
        same_title = refl;
        longer = (values waits, refl);
        fit = subst (λ (l : List T). AllFit (fits row.title) l) (sym e) fit;
        short = subst (λ (l : List T). length l ≤ 4096) (sym e)
            (subst (λ n. n ≤ 4096) (sym (length-values xs)) short);
      }
