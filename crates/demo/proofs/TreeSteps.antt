-- A tree with one term more, of the next two draws.
use Rattle.std.proofs.Common.{◌≡◌, ℕ, suc, ◌+◌, ◌*◌, List, [], ◌∷◌, ◌++◌, refl, sym, ◌∙◌, ap, arith}
use Rattle.std.proofs.lemmas.List.FromFn.{map-range_with_len_more}
use Rattle.ps_model.specs.declared.expr.Expr.{Expr}
use Rattle.ps_model.specs.declared.expr.Summand.{Summand}
use Rattle.demo.specs.Generator.{drawn, first_of, next, prime, second_of, state_behind, summand, term_by, terms_by}

behind_more : (seed n : ℕ) → state_behind seed (suc n) ≡ next (state_behind seed n)
unfolding state_behind
behind_more seed n = refl

module _ (seed j state : ℕ) (at : state ≡ state_behind seed (4 + 2 * j)) where
  one_draw : next state ≡ state_behind seed (suc (4 + 2 * j))
  one_draw = ap next at ∙ sym (behind_more seed (4 + 2 * j))

  next_draw : next state ≡ state_behind seed (5 + 2 * j)
  next_draw = one_draw ∙ ap (state_behind seed) (omega arith)

  two_draws : next (next state) ≡ state_behind seed (suc (5 + 2 * j))
  two_draws = ap next next_draw ∙ sym (behind_more seed (5 + 2 * j))

  pub state_more : next (next state) ≡ state_behind seed (4 + 2 * (j + 1))
  state_more = two_draws ∙ ap (state_behind seed) (omega arith)

  pub terms_more : (items : List Summand) (first : Summand) (of : Expr)
      → of ≡ term_by (drawn (next state) prime) (drawn (next (next state)) prime) j
      → items ≡ first ∷ terms_by (first_of seed) (second_of seed) j
      → items ++ summand of ∷ [] ≡ first ∷ terms_by (first_of seed) (second_of seed) (j + 1)
  terms_more items first of is are =
      (λ i. are i ++ summand ((is ∙ (λ l. term_by (drawn (one_draw l) prime) (drawn (two_draws l) prime) j)) i) ∷ [])
      ∙ ap (λ ts. first ∷ ts) (sym (map-range_with_len_more
      (λ k. summand (term_by (first_of seed k) (second_of seed k) k)) 0 j j (omega arith)))
