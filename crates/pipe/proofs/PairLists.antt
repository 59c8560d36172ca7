-- Pairs of lists, place by place.
use Rattle.std.proofs.Common.{◌≡◌, ℕ, ◌+◌, ◌-◌, suc, ◌<◌, List, [], ◌∷◌, ◌++◌, length, map, get_or, set, refl, sym, ◌∙◌, ap, ap₂, subst, arith}
use Rattle.std.proofs.Common.{inl, inr, length-append, get_or-set_same, get_or-set_other}
use Rattle.std.specs.List.{All}
use Rattle.std.proofs.lemmas.Bool.{cases_lt}
use Rattle.std.proofs.lemmas.Bool.Decides.{eqb_tells}
use Rattle.std.proofs.lemmas.List.{length-set, get_or_default, get_or_append_left, get_or-append_right}
use Rattle.pipe.specs.Pairs.{Pairwise}

module _ {A : Type 0} (Rel : A → A → Type 0) where
  pub pairwise_same : ((x : A) → Rel x x) → (xs : List A) → Pairwise Rel xs xs
  pairwise_same here xs = record {
    count = refl;
    each = λ i d e lt. subst (λ y. Rel (get_or xs i d) y) (get_or_default xs i d e lt) (here (get_or xs i d));
  }

module _ {A B : Type 0} (Rel : A → B → Type 0) where
  -- one element of the second list changes
  pub pairwise_set : (xs : List A) (ys : List B) (i : ℕ) (y : B) → Pairwise Rel xs ys → i < length xs
      → ((d : A) → Rel (get_or xs i d) y) → Pairwise Rel xs (set ys i y)
  pairwise_set xs ys i y p lt h = record {
    count = length-set ys i y ∙ p.count;
    each = λ s d e low. elim (eqb_tells s i) [
      | inl same ↦ subst (λ t. Rel (get_or xs t d) (get_or (set ys i y) t e)) (sym same.1)
          (subst (Rel (get_or xs i d)) (sym (get_or-set_same ys i y e (let c = p.count in omega arith))) (h d))
      | inr other ↦ subst (Rel (get_or xs s d)) (sym (get_or-set_other ys i s y e other.1)) (p.each s d e low)
    ];
  }

  pub pairwise_append : (xs us : List A) (ys vs : List B) → Pairwise Rel xs ys → Pairwise Rel us vs
      → Pairwise Rel (xs ++ us) (ys ++ vs)
  pairwise_append xs us ys vs p q = record {
    count = let c = p.count in let d = q.count in let e = length-append ys vs in let f = length-append xs us in omega arith;
    each = λ i d e low. elim (cases_lt i (length xs)) [
      | inl less ↦ subst (λ x. Rel x (get_or (ys ++ vs) i e)) (sym (get_or_append_left xs us d i less))
          (subst (Rel (get_or xs i d)) (sym (get_or_append_left ys vs e i (let c = p.count in omega arith))) (p.each i d e less))
      | inr not ↦ subst (λ x. Rel x (get_or (ys ++ vs) i e)) (sym (get_or-append_right xs us (length xs) i d refl not))
          (subst (Rel (get_or us (i - length xs) d)) (sym (get_or-append_right ys vs (length xs) i e p.count not))
          (q.each (i - length xs) d e (let f = length-append xs us in omega arith)))
    ];
  }

  -- the first part of two lists that are cut at one place
  pub pairwise_front : (xs us : List A) (ys vs : List B) → length ys ≡ length xs → Pairwise Rel (xs ++ us) (ys ++ vs)
      → Pairwise Rel xs ys
  pairwise_front xs us ys vs same p = record {
    count = same;
    each = λ i d e low. subst (λ x. Rel x (get_or ys i e)) (get_or_append_left xs us d i low)
        (subst (Rel (get_or (xs ++ us) i d)) (get_or_append_left ys vs e i (omega arith))
        (p.each i d e (let f = length-append xs us in omega arith)));
  }

  pub pairwise_back : (xs us : List A) (ys vs : List B) → length ys ≡ length xs → Pairwise Rel (xs ++ us) (ys ++ vs)
      → Pairwise Rel us vs
  pairwise_back xs us ys vs same p = record {
    count = let c = p.count in let e = length-append ys vs in let f = length-append xs us in omega arith;
    each = λ i d e low. let j = length xs + i in
        subst (λ x. Rel x (get_or vs i e)) (behind xs us (length xs) i d refl)
        (subst (Rel (get_or (xs ++ us) j d)) (behind ys vs (length xs) i e same)
        (p.each j d e (let f = length-append xs us in omega arith)));
  }
    where
      behind : {X : Type 0} (xs us : List X) (n i : ℕ) (d : X) → length xs ≡ n → get_or (xs ++ us) (n + i) d ≡ get_or us i d
      behind xs us n i d e = get_or-append_right xs us n (n + i) d e (omega arith)
          ∙ ap (λ k. get_or us k d) (let s : (n + i) - n ≡ i = omega arith in s)

-- a change, and then a relation to a third list
pub pairwise_then : {A C : Type 0} (P : A → A → Type 0) (Q R : A → C → Type 0)
    → ((x y : A) (z : C) → P x y → Q y z → R x z) → (xs ys : List A) (zs : List C) → Pairwise P xs ys → Pairwise Q ys zs
    → Pairwise R xs zs
pairwise_then P Q R both xs ys zs p q = record {
  count = q.count ∙ p.count;
  each = λ i d e low. both _ (get_or ys i d) _ (p.each i d d low) (q.each i d e (let c = p.count in omega arith));
}

-- a relation, and then a change of the second list
pub pairwise_after : {A C : Type 0} (P R : A → C → Type 0) (Q : C → C → Type 0)
    → ((x : A) (y z : C) → P x y → Q y z → R x z) → (xs : List A) (ys zs : List C) → Pairwise P xs ys → Pairwise Q ys zs
    → Pairwise R xs zs
pairwise_after P R Q both xs ys zs p q = record {
  count = q.count ∙ p.count;
  each = λ i d e low. both _ (get_or ys i e) _ (p.each i d e low) (q.each i e e (let c = p.count in omega arith));
}

-- what holds of each element holds after a change of each
pub all_then : {A B : Type 0} (P : A → Type 0) (Q : B → Type 0) (Rel : A → B → Type 0) → ((x : A) (y : B) → P x → Rel x y → Q y)
    → (d : A) (xs : List A) (ys : List B) → All P xs → Pairwise Rel xs ys → All Q ys
all_then P Q Rel step d xs ys all p i e low = let lt : i < length xs = (let c = p.count in omega arith) in
    step (get_or xs i d) (get_or ys i e) (all i d lt) (p.each i d e lt)

later_pairs : {A : Type 0} (Rel : A → A → Type 0) (x y : A) (xs ys : List A) → Pairwise Rel (x ∷ xs) (y ∷ ys) → Pairwise Rel xs ys
later_pairs Rel x y xs ys p = record {
  count = let c = p.count in omega arith;
  each = λ i d e lt. p.each (suc i) d e (omega arith);
}

-- what each pair has in common the lists have
pub alike : {A B : Type 0} (Rel : A → A → Type 0) (f : A → B) → ((x y : A) → Rel x y → f y ≡ f x) → (xs ys : List A)
    → Pairwise Rel xs ys → map f ys ≡ map f xs
alike Rel f same [] [] p = refl
alike Rel f same [] (y ∷ ys) p = absurd (let c = p.count in omega arith)
alike Rel f same (x ∷ xs) [] p = absurd (let c = p.count in omega arith)
alike Rel f same (x ∷ xs) (y ∷ ys) p = ap₂ (λ a l. a ∷ l) (same x y (p.each 0 x y (omega arith)))
    (alike Rel f same xs ys (later_pairs Rel x y xs ys p))
