-- Lists of terms by degree, filled term by term.
use Rattle.std.proofs.Common.{◌≡◌, ℕ, suc, ◌+◌, ◌<◌, ◌≤◌, ◌&&◌, Bool, true, false, cond, List, [], ◌∷◌, ◌++◌}
use Rattle.std.proofs.Common.{length, take, get_or, set, map, replicate, inl, inr, refl, sym, ◌∙◌, ap, subst, arith}
use Rattle.std.proofs.Common.{Vec, Global}
use Rattle.std.specs.Prelude.{◌==◌}
use Rattle.std.proofs.lemmas.Bool.{eq-eqb, ne_eqb}
use Rattle.std.proofs.lemmas.Bool.Decides.{eqb_tells}
use Rattle.std.proofs.lemmas.List.{append-nil, take_more, take_all, get_or-set_same, get_or-set_other, length-set}
use Rattle.std.proofs.lemmas.List.{get_or-replicate, length-replicate, get_or-map, map-set}
use Rattle.std.proofs.lemmas.List.Elements.{filter-append}
use Rattle.ps_model.specs.Plain.{key_of}
use Rattle.ps_model.specs.PlainLists.{plain_degree}
use Rattle.ps_model.specs.declared.plain.PlainTerm.{PlainTerm}
use Rattle.parts.specs.Rings.{eight_weights}
use Rattle.parts.specs.declared.rings.Ring.{Ring}
use Rattle.comparison.specs.Compared.{terms_at, AreByDegree}

module _ (ring : Ring) (j D : ℕ) where
  abbrev degree_in : PlainTerm → ℕ
  degree_in t = plain_degree (eight_weights ring) (key_of t)

  -- no terms, and no lists but empty ones
  pub none_filled : (lists : List (List PlainTerm)) → lists ≡ replicate (suc D) [] → AreByDegree ring j D [] lists
  none_filled lists is = subst (AreByDegree ring j D []) (sym is) (record {
    many = length-replicate (suc D) [];
    at = λ r le. get_or-replicate (suc D) r [] [] (omega arith);
  })

  -- what one term more adds at a degree
  added : (ts : List PlainTerm) (t : PlainTerm) (r : ℕ) → terms_at ring j r (ts ++ t ∷ [])
      ≡ terms_at ring j r ts ++ cond ((t.y == j) && (degree_in t == r)) (t ∷ []) []
  added ts t r = filter-append (λ t. (t.y == j) && (degree_in t == r)) ts (t ∷ [])

  nothing : (ts : List PlainTerm) (t : PlainTerm) (r : ℕ) (b c : Bool) → b && c ≡ false
      → terms_at ring j r ts ++ cond (b && c) (t ∷ []) [] ≡ terms_at ring j r ts
  nothing ts t r b c is = ap (λ d. terms_at ring j r ts ++ cond d (t ∷ []) []) is ∙ append-nil (terms_at ring j r ts)

  or_false : (a b : Bool) → b ≡ false → a && b ≡ false
  or_false true b is = is
  or_false false b is = refl

  module _ (ts : List PlainTerm) (i : ℕ) (d : PlainTerm) (lt : i < length ts)
      (lists : List (List PlainTerm)) (filled : AreByDegree ring j D (take i ts) lists) where
    abbrev t : PlainTerm
    t = get_or ts i d

    one_more : take (i + 1) ts ≡ take i ts ++ t ∷ []
    one_more = take_more ts i d lt

    -- a term with another power of Y
    pub skipped : (t.y ≡ j → ⊥) → AreByDegree ring j D (take (i + 1) ts) lists
    skipped other = subst (λ us. AreByDegree ring j D us lists) (sym one_more) (record {
      many = filled.many;
      at = λ r le. filled.at r le ∙ sym (added (take i ts) t r ∙ nothing (take i ts) t r (t.y == j) (degree_in t == r)
          (ap (λ b. b && (degree_in t == r)) (ne_eqb t.y j other)));
    })

    -- a term with this one
    pub filled_more : t.y ≡ j → degree_in t ≤ D → (n : ℕ) → n ≡ degree_in t → (new : List (List PlainTerm))
        → new ≡ set lists n (get_or lists n [] ++ t ∷ []) → AreByDegree ring j D (take (i + 1) ts) new
    filled_more same low n n_is new new_is = subst (λ us. AreByDegree ring j D us new) (sym one_more) (record {
      many = ap length new_is ∙ length-set lists n _ ∙ filled.many;
      at = λ r le. at r le;
    })
      where
        within : n < length lists
        within = let many = filled.many in omega arith

        at : (r : ℕ) → r ≤ D → get_or new r [] ≡ terms_at ring j r (take i ts ++ t ∷ [])
        at r le = elim (eqb_tells r n) [
          | inl here ↦ subst (λ m. get_or new m [] ≡ terms_at ring j m (take i ts ++ t ∷ [])) (sym here.1)
              (ap (λ l. get_or l n []) new_is
              ∙ get_or-set_same lists n _ [] within
              ∙ ap (λ us. us ++ t ∷ []) (filled.at n (omega arith))
              ∙ sym (added (take i ts) t n
              ∙ (λ k. terms_at ring j n (take i ts)
              ++ cond (eq-eqb t.y j same k && eq-eqb (degree_in t) n (sym n_is) k) (t ∷ []) [])))
          | inr other ↦ ap (λ l. get_or l r []) new_is
              ∙ get_or-set_other lists n r _ [] other.1
              ∙ filled.at r le
              ∙ sym (added (take i ts) t r ∙ nothing (take i ts) t r (t.y == j) (degree_in t == r)
              (or_false (t.y == j) (degree_in t == r) (ne_eqb (degree_in t) r (λ e. other.1 (sym e ∙ sym n_is)))))
        ]

  pub all_filled : (ts : List PlainTerm) (i : ℕ) (lists : List (List PlainTerm)) → length ts ≤ i
      → AreByDegree ring j D (take i ts) lists → AreByDegree ring j D ts lists
  all_filled ts i lists le filled = subst (λ us. AreByDegree ring j D us lists) (take_all i ts le) filled

-- one term more in a list at a place
pub term_added : (lists : List (Vec PlainTerm Global)) (r : ℕ) (old new : Vec PlainTerm Global) (t : PlainTerm)
    → r < length lists → old ≡ get_or lists r old → new.items ≡ old.items ++ t ∷ []
    → map (λ list. list.items) (set lists r new) ≡ set (map (λ list. list.items) lists) r
    (get_or (map (λ list. list.items) lists) r [] ++ t ∷ [])
term_added lists r old new t lt is new_is = map-set (λ list. list.items) lists r new
    ∙ ap (set (map (λ list. list.items) lists) r) (new_is ∙ ap (λ us. us ++ t ∷ [])
    (sym (get_or-map (λ list. list.items) lists r old [] lt
    ∙ ap (λ (v : Vec PlainTerm Global). v.items) (sym is))))
