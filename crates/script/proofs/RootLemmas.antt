-- Roots that are read word by word.
use Rattle.std.proofs.Common.{◌≡◌, ◌∙◌, sym, ap, refl, subst, ℕ, zero, suc, List, [], ◌∷◌, ◌++◌, Some, None}
use Rattle.std.proofs.Common.{Result, Ok, Err, arith}
use Rattle.std.proofs.lemmas.List.{append_assoc, append-nil}
use Rattle.std.specs.List.{All}
use Rattle.std.proofs.lemmas.List.Elements.{All-append}
use Rattle.ps_model.specs.declared.job.Root.{Root}
use Rattle.script.specs.Header.{root_in, root_before, roots_from, roots_fault}
use Rattle.script.specs.declared.refusal.Refusal.TheVariants as refusal

-- roots that were read before others
abbrev pub after : List Root → Result (List Root) ℕ → Result (List Root) ℕ
after done (Ok roots) = Ok (done ++ roots)
after done (Err k) = Err k

after-before : (done : List Root) (k : ℕ) (r : Root) (rest : Result (List Root) ℕ)
    → after done (root_before k (Some r) rest) ≡ after (done ++ r ∷ []) rest
after-before done k r (Ok roots) = ap (λ (l : List Root). Ok l) (sym (append_assoc done (r ∷ []) roots))
after-before done k r (Err later) = refl

after-none : (rest : Result (List Root) ℕ) → rest ≡ after [] rest
after-none (Ok roots) = refl
after-none (Err k) = refl

module _ (m : ℕ) (all : Result (List Root) ℕ) (done : List Root) (k : ℕ) (ws : List (List ℕ))
    (so_far : all ≡ after done (roots_from m k ws)) where
  module _ (w : List ℕ) (more : List (List ℕ)) (first : ws ≡ w ∷ more) where
    next : (r : Root) → Some r ≡ root_in m w → all ≡ after (done ++ r ∷ []) (roots_from m (suc k) more)
    next r is =
        so_far ∙ ap (λ l. after done (roots_from m k l)) first
        ∙ ap (λ o. after done (root_before k o (roots_from m (suc k) more))) (sym is)
        ∙ after-before done k r (roots_from m (suc k) more)

    pub one_more : (r : Root) → Some r ≡ root_in m w → (n : ℕ) → suc k ≡ n → (items : List Root)
        → items ≡ done ++ r ∷ [] → all ≡ after items (roots_from m n more)
    one_more r is n e items pushed =
        subst (λ (i : ℕ). all ≡ after items (roots_from m i more)) e
        (subst (λ (l : List Root). all ≡ after l (roots_from m (suc k) more)) (sym pushed) (next r is))

    pub bad_root : None ≡ root_in m w → roots_fault all ≡ Some (refusal.BadRoot k)
    bad_root is =
        ap roots_fault (so_far ∙ ap (λ l. after done (roots_from m k l)) first
        ∙ ap (λ o. after done (root_before k o (roots_from m (suc k) more))) (sym is))

  module _ (none : ws ≡ []) where
    pub all_read : all ≡ Ok done
    all_read =
        so_far ∙ ap (λ l. after done (roots_from m k l)) none ∙ ap (λ (l : List Root). Ok l) (append-nil done)

    pub no_root : done ≡ [] → roots_fault all ≡ Some refusal.NoRoots
    no_root e = ap roots_fault (all_read ∙ ap (λ (l : List Root). Ok l) e)

pub none_read : (m : ℕ) (ws : List (List ℕ)) → roots_from m 1 ws ≡ after [] (roots_from m 1 ws)
none_read m ws = after-none (roots_from m 1 ws)

pub All-push : (P : Root → Type 0) (done items : List Root) (r : Root) → items ≡ done ++ r ∷ [] → All P done → P r
    → All P items
All-push P done items r e all p = subst (All P) (sym e) (All-append P done (r ∷ []) all single)
  where
    single : All P (r ∷ [])
    single zero d lt = p
    single (suc i) d lt = absurd (omega arith)
