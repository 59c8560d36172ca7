use Rattle.std.proofs.Common.{◌≡◌, ℕ, zero, suc, List, ◌++◌, refl, sym, ◌∙◌, ap, append_assoc}
use Rattle.std.proofs.lemmas.List.{append-nil}
use Rattle.std.specs.Prelude.{codes, decimal}
use Rattle.ps_model.specs.BlockText.{power_text}

laid_none : (old name : List ℕ) (p : ℕ) → p ≡ 0 → old ≡ old ++ power_text name p
laid_none old name p is = sym (append-nil old) ∙ ap (λ k. old ++ power_text name k) (sym is)

module _ (old name bytes star named : List ℕ) (same : bytes ≡ name) (one : star ≡ old ++ codes "*")
    (two : named ≡ star ++ bytes) where
  laid_name : named ≡ old ++ (codes "*" ++ name)
  laid_name = two ∙ (λ i. one i ++ same i) ∙ append_assoc old (codes "*") name

  laid_one : (p : ℕ) → p ≡ 1 → named ≡ old ++ power_text name p
  laid_one p is = laid_name ∙ ap (λ k. old ++ power_text name k) (sym is)

  laid_more : (hat whole : List ℕ) (p q : ℕ) → q ≡ p → (p ≡ 0 → ⊥) → (p ≡ 1 → ⊥) → hat ≡ named ++ codes "^"
      → whole ≡ hat ++ decimal q → whole ≡ old ++ power_text name p
  laid_more hat whole zero q is some more three four = absurd (some refl)
  laid_more hat whole (suc zero) q is some more three four = absurd (more refl)
  laid_more hat whole (suc (suc p)) q is some more three four =
      four ∙ (λ i. three i ++ decimal (is i))
      ∙ ap (λ (l : List ℕ). (l ++ codes "^") ++ decimal (suc (suc p))) laid_name
      ∙ ap (λ (l : List ℕ). l ++ decimal (suc (suc p))) (append_assoc old (codes "*" ++ name) (codes "^"))
      ∙ append_assoc old ((codes "*" ++ name) ++ codes "^") (decimal (suc (suc p)))
