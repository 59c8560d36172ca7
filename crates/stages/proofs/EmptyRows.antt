-- A list with one member more.
use Rattle.std.proofs.Common.{◌≡◌, ℕ, ◌+◌, List, [], ◌∷◌, ◌++◌, length, map, replicate, Some, sym, ◌∙◌, ap, subst}
use Rattle.std.proofs.Common.{⊎_elim}
use Rattle.std.specs.Prelude.{slice_get}
use Rattle.std.proofs.lemmas.List.{map_push, replicate-append-replicate}
use Rattle.rows.proofs.Pushed.{slice_get-pushed}

module _ {T : Type 0} where
  -- what holds of each member and its place
  pub each_pushed : (P : ℕ → T → Type 0) (xs all : List T) (y : T) (n : ℕ) → length xs ≡ n → all ≡ xs ++ y ∷ []
      → ((s : ℕ) (x : T) → slice_get xs s ≡ Some x → P s x) → P n y → (s : ℕ) (x : T) → slice_get all s ≡ Some x → P s x
  each_pushed P xs all y n count is each last s x at = ⊎_elim (λ h. each s x h)
      (λ (found : (s ≡ length xs) × (y ≡ x)). subst (P s) found.1 (subst (λ k. P k y) (sym (found.0 ∙ count)) last))
      (slice_get-pushed xs y s x (ap (λ l. slice_get l s) (sym is) ∙ at))

  -- and that the members have one number
  pub same_pushed : (f : T → ℕ) (xs all : List T) (y : T) (n a : ℕ) → all ≡ xs ++ y ∷ [] → map f xs ≡ replicate n a
      → f y ≡ a → map f all ≡ replicate (n + 1) a
  same_pushed f xs all y n a is before last = ap (map f) is ∙ map_push f xs y ∙ (λ i. before i ++ last i ∷ [])
      ∙ replicate-append-replicate n 1 a
