-- Lists in which no key stands twice, put into order.
use Rattle.std.proofs.Common.{◌≡◌, ℕ, zero, suc, ◌+◌, ◌<◌, ◌≤◌, Bool, true, false, cond, T, List, [], ◌∷◌, ◌++◌, length}
use Rattle.std.proofs.Common.{get_or, map, Option, Some, None, refl, sym, ◌∙◌, ap, subst, arith, All}
use Rattle.std.specs.List.{AllByRecursion, count_by, sum_by}
use Rattle.std.specs.List.Sorted.{IsPermutation, IsSortedBy}
use Rattle.std.specs.Ordering.{eq_by_cmp, is_eq, is_lt, ordering_reverse}
use Rattle.std.specs.Cmp.{IsTotalOrder, tied_itself}
use Rattle.std.specs.FinMap.{IsAntisymmetric, find, is_sorted}
use Rattle.std.specs.FinMap.Entries.{below_all}
use Rattle.std.specs.declared.cmp.Ordering.{Ordering}
use Rattle.std.specs.declared.cmp.Ordering.TheVariants.{Less, Equal, Greater}
use Rattle.std.proofs.lemmas.List.Elements.{All-head, All-tail}
use Rattle.std.proofs.lemmas.List.Sorted.{ranks_by, sorted_far, sum_by-IsPermutation, All-permutation}
use Rattle.std.proofs.lemmas.List.Sums.{sum_by-cons, sum_by-append}
use Rattle.ps_model.proofs.Maps.{both, first_part, second_part}

is_equal : (r : Ordering) → is_eq r ≡ true → r ≡ Equal
is_equal Less h = absurd (cc)
is_equal Equal h = refl
is_equal Greater h = absurd (cc)

less_is : (r : Ordering) → T (is_lt r) → r ≡ Less
less_is Less h = refl
less_is Equal h = absurd h
less_is Greater h = absurd h

-- neither below nor tied
above : (r : Ordering) → is_lt r ≡ false → is_eq r ≡ false → ordering_reverse r ≡ Less
above Less h g = absurd (cc)
above Equal h g = absurd (cc)
above Greater h g = refl

reverse_tie : (r : Ordering) → is_eq (ordering_reverse r) ≡ is_eq r
reverse_tie Less = refl
reverse_tie Equal = refl
reverse_tie Greater = refl

never_less : (r : Ordering) → r ≡ ordering_reverse r → r ≡ Less → ⊥
never_less Less e h = absurd (cc)
never_less Equal e h = absurd (cc)
never_less Greater e h = absurd (cc)

module _ {K : Type 0} (R : K → K → Ordering) (total : IsTotalOrder R) (same : IsAntisymmetric R) where
  -- how often a key is there, and the sum of its coefficients
  abbrev pub count_at : K → List (K × ℕ) → ℕ
  count_at k es = count_by (λ e. eq_by_cmp R k e.0) es

  abbrev total_at : K → List (K × ℕ) → ℕ
  total_at k es = sum_by (λ e. cond (eq_by_cmp R k e.0) e.1 0) es

  count_cons : (k : K) (e : K × ℕ) (es : List (K × ℕ))
      → count_at k (e ∷ es) ≡ cond (eq_by_cmp R k e.0) 1 0 + count_at k es
  count_cons k e es = sum_by-cons (λ (e : K × ℕ). cond (eq_by_cmp R k e.0) 1 0) e es

  total_cons : (k : K) (e : K × ℕ) (es : List (K × ℕ))
      → total_at k (e ∷ es) ≡ cond (eq_by_cmp R k e.0) e.1 0 + total_at k es
  total_cons k e es = sum_by-cons (λ (e : K × ℕ). cond (eq_by_cmp R k e.0) e.1 0) e es

  pub count_append : (k : K) (es fs : List (K × ℕ)) → count_at k (es ++ fs) ≡ count_at k es + count_at k fs
  count_append k es fs = sum_by-append (λ (e : K × ℕ). cond (eq_by_cmp R k e.0) 1 0) es fs

  -- a key that none of the entries has
  apart : (k x : K) → (k ≡ x → ⊥) → eq_by_cmp R k x ≡ false
  apart k x differs = elim (eq_by_cmp R k x) as (λ b. eq_by_cmp R k x ≡ b → b ≡ false) [
    | true ↦ λ e. absurd (differs (same k x (is_equal (R k x) e)))
    | false ↦ λ e. refl
  ] refl

  pub count_none : (P : K × ℕ → Type 0) (k : K) → ((e : K × ℕ) → P e → k ≡ e.0 → ⊥) → (es : List (K × ℕ))
      → AllByRecursion P es → count_at k es ≡ 0
  count_none P k differs [] all = refl
  count_none P k differs (e ∷ es) all =
      count_cons k e es
      ∙ (λ i. cond (apart k e.0 (differs e all.0) i) 1 0 + count_none P k differs es all.1 i)

  pub find_none : (P : K × ℕ → Type 0) (k : K) → ((e : K × ℕ) → P e → k ≡ e.0 → ⊥) → (es : List (K × ℕ))
      → AllByRecursion P es → find R k es ≡ None
  find_none P k differs [] all = refl
  find_none P k differs (e ∷ es) all =
      (λ i. cond (apart k e.0 (differs e all.0) i) (Some e.1) (find R k es)) ∙ find_none P k differs es all.1

  -- what is found of entries of which something holds
  pub find_holds : (P : K × ℕ → Type 0) (k : K) (c : ℕ) (es : List (K × ℕ)) → AllByRecursion P es
      → find R k es ≡ Some c → P (k, c)
  find_holds P k c [] all h = absurd (cc)
  find_holds P k c (e ∷ es) all h = elim (eq_by_cmp R k e.0) as
      (λ b. eq_by_cmp R k e.0 ≡ b → cond b (Some e.1) (find R k es) ≡ Some c → P (k, c)) [
        | true ↦ λ tie is.
            let key : e.0 ≡ k = sym (same k e.0 (is_equal (R k e.0) tie)) in
            let value : e.1 ≡ c = cc in
            subst (λ (x : K × ℕ). P x) (λ i. (key i, value i)) all.0
        | false ↦ λ tie is. find_holds P k c es all.1 is
      ] refl h

  -- in a list in any strict order a key stands once
  module _ (S : K → K → Ordering) (ordered : IsTotalOrder S) where
    differs : (k x : K) → S x k ≡ Less → k ≡ x → ⊥
    differs k x less e =
        never_less (S x x) (ordered.antisymm x x) (ap (S x) (sym e) ∙ less)

    below_differ : (k x : K) (es : List (K × ℕ)) → x ≡ k → T (below_all S x es)
        → AllByRecursion (λ e. S k e.0 ≡ Less) es
    below_differ k x [] e h = tt
    below_differ k x (f ∷ es) e h = (
      ap (λ (z : K). S z f.0) (sym e) ∙ less_is (S x f.0) (first_part _ _ h),
      below_differ k x es e (second_part _ _ h),
    )

    pub count_sorted : (k : K) (es : List (K × ℕ)) → T (is_sorted S es) → count_at k es ≤ 1
    count_sorted k [] h = omega arith
    count_sorted k (e ∷ es) h = elim (eq_by_cmp R k e.0) as
        (λ b. eq_by_cmp R k e.0 ≡ b → count_at k (e ∷ es) ≤ 1) [
          | true ↦ λ tie.
              let key : e.0 ≡ k = sym (same k e.0 (is_equal (R k e.0) tie)) in
              let none = count_none (λ f. S k f.0 ≡ Less) k (λ f less is. differs f.0 k less (sym is)) es
              (below_differ k e.0 es key (first_part _ _ h)) in
              one (count_at k (e ∷ es)) (count_at k es) (count_cons k e es ∙ ap (λ b. cond b 1 0 + count_at k es) tie)
              none
          | false ↦ λ tie.
              more (count_at k (e ∷ es)) (count_at k es)
              (count_cons k e es ∙ ap (λ b. cond b 1 0 + count_at k es) tie)
              (count_sorted k es (second_part _ _ h))
        ] refl
      where
        one : (a b : ℕ) → a ≡ 1 + b → b ≡ 0 → a ≤ 1
        one a b e z = omega arith

        more : (a b : ℕ) → a ≡ 0 + b → b ≤ 1 → a ≤ 1
        more a b e h = omega arith

  -- the coefficient of a key that stands once at most
  abbrev unless_zero : ℕ → Option ℕ
  unless_zero zero = None
  unless_zero (suc c) = Some (suc c)

  kept : (c : ℕ) → 0 < c → Some c ≡ unless_zero c
  kept zero h = absurd (omega arith)
  kept (suc c) h = refl

  total_none : (k : K) (es : List (K × ℕ)) → count_at k es ≡ 0 → total_at k es ≡ 0
  total_none k [] h = refl
  total_none k (e ∷ es) h = elim (eq_by_cmp R k e.0) as
      (λ b. eq_by_cmp R k e.0 ≡ b → total_at k (e ∷ es) ≡ 0) [
        | true ↦ λ tie. absurd (too_many (count_at k es)
            (sym h ∙ count_cons k e es ∙ ap (λ b. cond b 1 0 + count_at k es) tie))
        | false ↦ λ tie.
            zero_more (total_at k (e ∷ es)) (total_at k es)
            (total_cons k e es ∙ ap (λ b. cond b e.1 0 + total_at k es) tie)
            (total_none k es (less (count_at k es) (count_at k (e ∷ es)) h
            (count_cons k e es ∙ ap (λ b. cond b 1 0 + count_at k es) tie)))
      ] refl
    where
      too_many : (n : ℕ) → 0 ≡ 1 + n → ⊥
      too_many n e = omega arith

      less : (n m : ℕ) → m ≡ 0 → m ≡ 0 + n → n ≡ 0
      less n m z e = omega arith

      zero_more : (n m : ℕ) → n ≡ 0 + m → m ≡ 0 → n ≡ 0
      zero_more n m e z = omega arith

  find_counted : (k : K) (es : List (K × ℕ)) → count_at k es ≤ 1 → All (λ e. 0 < e.1) es
      → find R k es ≡ unless_zero (total_at k es)
  find_counted k [] once some = refl
  find_counted k (e ∷ es) once some = elim (eq_by_cmp R k e.0) as
      (λ b. eq_by_cmp R k e.0 ≡ b → cond b (Some e.1) (find R k es) ≡ unless_zero (total_at k (e ∷ es))) [
        | true ↦ λ tie.
            let count = count_cons k e es ∙ ap (λ b. cond b 1 0 + count_at k es) tie in
            let none = total_none k es (rest (count_at k (e ∷ es)) (count_at k es) once count) in
            let all : total_at k (e ∷ es) ≡ e.1 =
            total_cons k e es ∙ ap (λ b. cond b e.1 0 + total_at k es) tie ∙ alone e.1 (total_at k es) none in
            kept e.1 (All-head (λ (e : K × ℕ). 0 < e.1) e es some) ∙ ap unless_zero (sym all)
        | false ↦ λ tie.
            let count = count_cons k e es ∙ ap (λ b. cond b 1 0 + count_at k es) tie in
            let all : total_at k (e ∷ es) ≡ total_at k es =
            none_more (total_at k (e ∷ es)) (total_at k es)
            (total_cons k e es ∙ ap (λ b. cond b e.1 0 + total_at k es) tie) in
            find_counted k es (fewer (count_at k (e ∷ es)) (count_at k es) once count)
            (All-tail (λ (e : K × ℕ). 0 < e.1) e es some)
            ∙ ap unless_zero (sym all)
      ] refl
    where
      rest : (a b : ℕ) → a ≤ 1 → a ≡ 1 + b → b ≡ 0
      rest a b h e = omega arith

      fewer : (a b : ℕ) → a ≤ 1 → a ≡ 0 + b → b ≤ 1
      fewer a b h e = omega arith

      none_more : (n m : ℕ) → n ≡ 0 + m → n ≡ m
      none_more n m e = omega arith

      alone : (c t : ℕ) → t ≡ 0 → c + t ≡ c
      alone c t e = omega arith

  -- the same entries in another order
  pub count_permuted : (k : K) (es fs : List (K × ℕ)) → IsPermutation es fs → count_at k fs ≡ count_at k es
  count_permuted k es fs h = sum_by-IsPermutation (λ (e : K × ℕ). cond (eq_by_cmp R k e.0) 1 0) es fs h

  pub find_permuted : (k : K) (es fs : List (K × ℕ)) → IsPermutation es fs → count_at k es ≤ 1
      → All (λ e. 0 < e.1) es → find R k fs ≡ find R k es
  find_permuted k es fs h once some =
      find_counted k fs (subst (λ n. n ≤ 1) (sym (count_permuted k es fs h)) once)
      (All-permutation (λ (e : K × ℕ). 0 < e.1) es fs h some)
      ∙ ap unless_zero (sum_by-IsPermutation (λ (e : K × ℕ). cond (eq_by_cmp R k e.0) e.1 0) es fs h)
      ∙ sym (find_counted k es once some)

  -- what a sort answers, where no key stands twice
  module _ {X : Type 0} (see : X → K × ℕ) where
    abbrev pub lies_below : X → X → Bool
    lies_below x y = is_lt (R (see x).0 (see y).0)

    not_there : (k : K) (xs : List X) → count_at k (map see xs) ≡ 0 → (i : ℕ) (d : X) → i < length xs
        → eq_by_cmp R k (see (get_or xs i d)).0 ≡ false
    not_there k [] h i d lt = absurd (omega arith)
    not_there k (x ∷ xs) h i d lt =
        let count = count_cons k (see x) (map see xs) in
        elim (eq_by_cmp R k (see x).0) as
        (λ b. eq_by_cmp R k (see x).0 ≡ b → eq_by_cmp R k (see (get_or (x ∷ xs) i d)).0 ≡ false) [
          | true ↦ λ tie. absurd (too_many (count_at k (map see xs))
              (sym h ∙ count ∙ ap (λ b. cond b 1 0 + count_at k (map see xs)) tie))
          | false ↦ λ tie.
              let none = less (count_at k (map see xs)) (count_at k (map see (x ∷ xs))) h
              (count ∙ ap (λ b. cond b 1 0 + count_at k (map see xs)) tie) in
              at i lt tie (λ j ok. not_there k xs none j d ok)
        ] refl
      where
        too_many : (n : ℕ) → 0 ≡ 1 + n → ⊥
        too_many n e = omega arith

        less : (n m : ℕ) → m ≡ 0 → m ≡ 0 + n → n ≡ 0
        less n m z e = omega arith

        at : (i : ℕ) → i < length (x ∷ xs) → eq_by_cmp R k (see x).0 ≡ false
            → ((j : ℕ) → j < length xs → eq_by_cmp R k (see (get_or xs j d)).0 ≡ false)
            → eq_by_cmp R k (see (get_or (x ∷ xs) i d)).0 ≡ false
        at zero lt tie later = tie
        at (suc i) lt tie later = later i (omega arith)

    below_from : (k : K) (zs : List X)
        → ((i : ℕ) (d : X) → i < length zs → R k (see (get_or zs i d)).0 ≡ Less)
        → T (below_all R k (map see zs))
    below_from k [] h = tt
    below_from k (z ∷ zs) h =
        both _ _ (subst (λ r. T (is_lt r)) (sym (h 0 z (omega arith))) tt)
        (below_from k zs (λ i d lt. h (suc i) d (omega arith)))

    sorted_tail : (x : X) (xs : List X) → IsSortedBy lies_below (x ∷ xs) → IsSortedBy lies_below xs
    sorted_tail x xs up k d low high =
        subst (λ n. lies_below (get_or (x ∷ xs) n d) (get_or xs k d) ≡ false) (next k)
        (up (suc k) d (omega arith) (omega arith))
      where
        next : (k : ℕ) → suc k + 1 ≡ suc (k + 1)
        next k = omega arith

    pub strictly_sorted : (xs : List X) → IsSortedBy lies_below xs → ((k : K) → count_at k (map see xs) ≤ 1)
        → T (is_sorted R (map see xs))
    strictly_sorted [] up once = tt
    strictly_sorted (x ∷ xs) up once =
        let key = (see x).0 in
        let count = count_cons key (see x) (map see xs)
        ∙ ap (λ r. cond (is_eq r) 1 0 + count_at key (map see xs)) (tied_self key) in
        let none = rest (count_at key (map see (x ∷ xs))) (count_at key (map see xs)) (once key) count in
        both _ _
        (below_from key xs (λ i d lt.
        let far = sorted_far lies_below (ranks_by total (λ (z : X). (see z).0)) (x ∷ xs) up 0 (suc i) d
        (omega arith) (omega arith) in
        total.antisymm key (see (get_or xs i d)).0
        ∙ above (R (see (get_or xs i d)).0 key) far
        (sym (reverse_tie (R (see (get_or xs i d)).0 key))
        ∙ ap is_eq (sym (total.antisymm key (see (get_or xs i d)).0)) ∙ not_there key xs none i d lt)))
        (strictly_sorted xs (sorted_tail x xs up) (λ k. fewer k))
      where
        rest : (a b : ℕ) → a ≤ 1 → a ≡ 1 + b → b ≡ 0
        rest a b h e = omega arith

        tied_self : (k : K) → R k k ≡ Equal
        tied_self k = tied_itself total k

        fewer : (k : K) → count_at k (map see xs) ≤ 1
        fewer k = smaller (count_at k (map see (x ∷ xs))) (count_at k (map see xs))
            (cond (eq_by_cmp R k (see x).0) 1 0) (once k) (count_cons k (see x) (map see xs))
          where
            smaller : (a b c : ℕ) → a ≤ 1 → a ≡ c + b → b ≤ 1
            smaller a b c h e = omega arith
