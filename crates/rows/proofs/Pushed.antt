-- A list whose items fit, with one item more.
use Rattle.std.proofs.Common.{◌≡◌, ℕ, zero, suc, List, [], ◌∷◌, ◌++◌, length, slice_get, refl}
use Rattle.std.proofs.Common.{Option, Some, unwrap_or, ◌⊎◌, inl, inr, ⊎_elim, sym, ap, subst}
use Rattle.std.proofs.lemmas.List.{map-append}
use Rattle.std.specs.Arc.{arc_value}
use Rattle.std.specs.declared.sync.Arc.{Arc}
use Rattle.std.specs.declared.alloc.Global.{Global}
use Rattle.rows.specs.Fits.{AllFit, values}

module _ {T : Type 0} where
  -- an item of the longer list is one of the list, or the last
  pub slice_get-pushed :
      (xs : List T) (y : T) (r : ℕ) (x : T)
      → slice_get (xs ++ y ∷ []) r ≡ Some x
      → (slice_get xs r ≡ Some x) ⊎ ((r ≡ length xs) × (y ≡ x))
  slice_get-pushed [] y zero x e = inr (refl, ap (λ (o : Option T). unwrap_or o y) e)
  slice_get-pushed [] y (suc r) x e = cc
  slice_get-pushed (z ∷ zs) y zero x e = inl e
  slice_get-pushed (z ∷ zs) y (suc r) x e =
      ⊎_elim inl (λ last. inr (ap suc last.0, last.1)) (slice_get-pushed zs y r x e)

  -- all fit still, where the last one fits
  pub AllFit-pushed :
      (fits : ℕ → T → Type 0) (xs : List T) (y : T)
      → AllFit fits xs
      → fits (length xs) y
      → AllFit fits (xs ++ y ∷ [])
  AllFit-pushed fits xs y all fit r x at =
      ⊎_elim (λ h. all r x h)
      (λ (last : (r ≡ length xs) × (y ≡ x)).
      let AtPlace : ℕ → Type 0 = λ n. fits n x in
      let AtEnd : T → Type 0 = λ z. fits (length xs) z in
      subst AtPlace (sym last.0) (subst AtEnd last.1 fit))
      (slice_get-pushed xs y r x at)

  -- the same of shared items
  pub values-pushed :
      (fits : ℕ → T → Type 0) (xs : List (Arc T Global)) (y : Arc T Global)
      → AllFit fits (values xs)
      → fits (length (values xs)) (arc_value y)
      → AllFit fits (values (xs ++ y ∷ []))
  values-pushed fits xs y all fit =
      subst (λ zs. AllFit fits zs) (sym (map-append arc_value xs (y ∷ [])))
      (AllFit-pushed fits (values xs) (arc_value y) all fit)
