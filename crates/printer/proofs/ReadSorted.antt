-- Terms in the order of printing that are a polynomial's are those that are printed of it.
use Rattle.std.proofs.Common.{◌≡◌, ℕ, zero, suc, ◌≤◌, Bool, true, false, cond, ◌&&◌, T, List, [], ◌∷◌, ◌++◌}
use Rattle.std.proofs.Common.{Some, None, eqb, leb, refl, sym, ◌∙◌, ap, subst, arith}
use Rattle.std.specs.List.{filter}
use Rattle.std.specs.Ordering.{eq_by_cmp, is_eq, is_lt, nat_cmp, ordering_then, on, then_cmp}
use Rattle.std.specs.Cmp.{IsTotalOrder, tied_itself, tied_then, nat_cmp_is}
use Rattle.std.specs.FinMap.{get, entries, entries_sorted, get-entries, find, is_sorted}
use Rattle.std.specs.FinMap.Entries.{below_all, is_sorted-where_key, same_entries}
use Rattle.std.specs.declared.cmp.Ordering.{Ordering}
use Rattle.std.specs.declared.cmp.Ordering.TheVariants.{Less, Equal, Greater}
use Rattle.std.proofs.lemmas.Cmp.{then_total, on_total, nat_cmp_total}
use Rattle.std.proofs.lemmas.Bool.{eqb-true}
use Rattle.ps_model.specs.Keys.{Key, key_compare}
use Rattle.ps_model.specs.KeyLaws.{key_compare_total, key_compare-IsAntisymmetric}
use Rattle.ps_model.specs.BlockText.{terms_of_degree, printed_terms}
use Rattle.ps_model.specs.SeriesRing.{SeriesRing, degree, Poly}
use Rattle.ps_model.proofs.Maps.{both, first_part, second_part}
use Rattle.printer.proofs.ReadPrinted.{Each, find_printed}

-- two lists in order, one behind the other
module _ {K : Type 0} (R : K → K → Ordering) where
  below_append : (x : K) (es fs : List (K × ℕ)) → T (below_all R x es) → T (below_all R x fs)
      → T (below_all R x (es ++ fs))
  below_append x [] fs a b = b
  below_append x (e ∷ es) fs a b = both _ _ (first_part _ _ a) (below_append x es fs (second_part _ _ a) b)

  sorted_append : (es fs : List (K × ℕ)) → T (is_sorted R es) → T (is_sorted R fs)
      → Each R (λ e. T (below_all R e.0 fs)) es → T (is_sorted R (es ++ fs))
  sorted_append [] fs a b below = b
  sorted_append (e ∷ es) fs a b below =
      both _ _ (below_append e.0 es fs (first_part _ _ a) below.0) (sorted_append es fs (second_part _ _ a) b below.1)

  each_append : (P : K × ℕ → Type 0) (es fs : List (K × ℕ)) → Each R P es → Each R P fs → Each R P (es ++ fs)
  each_append P [] fs a b = b
  each_append P (e ∷ es) fs a b = (a.0, each_append P es fs a.1 b)

  each_weaker : (P Q : K × ℕ → Type 0) → ((e : K × ℕ) → P e → Q e) → (es : List (K × ℕ)) → Each R P es
      → Each R Q es
  each_weaker P Q f [] h = tt
  each_weaker P Q f (e ∷ es) h = (f e h.0, each_weaker P Q f es h.1)

  less_is : (r : Ordering) → T (is_lt r) → r ≡ Less
  less_is Less h = refl
  less_is Equal h = absurd h
  less_is Greater h = absurd h

  is_less : (r : Ordering) → r ≡ Less → T (is_lt r)
  is_less r e = subst (λ r. T (is_lt r)) (sym e) tt

then_equal : (a b : Ordering) → ordering_then a b ≡ Equal → b ≡ Equal
then_equal Less b e = absurd (cc)
then_equal Equal b e = e
then_equal Greater b e = absurd (cc)

and_false : (a : Bool) → (a && false) ≡ false
and_false true = refl
and_false false = refl

module _ (S : SeriesRing) where
  abbrev keys : Key S.variables → Key S.variables → Ordering
  keys = key_compare S.variables

  abbrev pub order : Key S.variables → Key S.variables → Ordering
  order = then_cmp (on (degree S) nat_cmp) keys

  order_total : IsTotalOrder order
  order_total = then_total (on_total (degree S) nat_cmp_total) (key_compare_total S.variables)

  order_same : (x y : Key S.variables) → order x y ≡ Equal → x ≡ y
  order_same x y e =
      key_compare-IsAntisymmetric S.variables x y (then_equal (nat_cmp (degree S x) (degree S y)) (keys x y) e)

  tie_same : (q k : Key S.variables) → eq_by_cmp order q k ≡ eq_by_cmp keys q k
  tie_same q k =
      sym (tied_then (nat_cmp (degree S q) (degree S k)) (keys q k))
      ∙ elim (keys q k) as
      (λ r. keys q k ≡ r → (is_eq (nat_cmp (degree S q) (degree S k)) && is_eq r) ≡ is_eq r) [
        | Less ↦ λ e. and_false (is_eq (nat_cmp (degree S q) (degree S k)))
        | Equal ↦ λ e.
            ap (λ (x : Key S.variables). is_eq (nat_cmp (degree S q) (degree S x)) && true)
            (sym (key_compare-IsAntisymmetric S.variables q k e))
            ∙ ap (λ r. is_eq r && true) (tied_itself nat_cmp_total (degree S q))
        | Greater ↦ λ e. and_false (is_eq (nat_cmp (degree S q) (degree S k)))
      ] refl

  find_same : (q : Key S.variables) (es : List (Key S.variables × ℕ)) → find order q es ≡ find keys q es
  find_same q [] = refl
  find_same q (e ∷ es) = λ i. cond (tie_same q e.0 i) (Some e.1) (find_same q es i)

  -- terms of one degree and one power of Y
  module _ (p : Poly S) (j : ℕ) where
    abbrev HasDegree : ℕ → Key S.variables × ℕ → Type 0
    HasDegree r e = degree S e.0 ≡ r

    abbrev pub HasNoMore : ℕ → Key S.variables × ℕ → Type 0
    HasNoMore d e = degree S e.0 ≤ d

    kept_degree : (r : ℕ) (es : List (Key S.variables × ℕ))
        → Each order (HasDegree r) (filter (λ t. eqb t.0.y j && eqb (degree S t.0) r) es)
    kept_degree r [] = tt
    kept_degree r (t ∷ es) =
        let later = kept_degree r es in
        elim (eqb t.0.y j) as
        (λ a. Each order (HasDegree r) (cond (a && eqb (degree S t.0) r)
        (t ∷ filter (λ t. eqb t.0.y j && eqb (degree S t.0) r) es)
        (filter (λ t. eqb t.0.y j && eqb (degree S t.0) r) es))) [
          | true ↦ elim (eqb (degree S t.0) r) as
              (λ b. eqb (degree S t.0) r ≡ b → Each order (HasDegree r) (cond b
              (t ∷ filter (λ t. eqb t.0.y j && eqb (degree S t.0) r) es)
              (filter (λ t. eqb t.0.y j && eqb (degree S t.0) r) es))) [
                | true ↦ λ e. (eqb-true (degree S t.0) r e, later)
                | false ↦ λ e. later
              ] refl
          | false ↦ later
        ]

    of_degree : (r : ℕ) → Each order (HasDegree r) (terms_of_degree S p j r)
    of_degree r = kept_degree r (entries p.map)

    below_graded : (r : ℕ) (x : Key S.variables) (es : List (Key S.variables × ℕ)) → degree S x ≡ r
        → Each order (HasDegree r) es → T (below_all keys x es) → T (below_all order x es)
    below_graded r x [] e each h = tt
    below_graded r x (f ∷ es) e each h =
        let same : nat_cmp (degree S x) (degree S f.0) ≡ Equal =
        sym (nat_cmp_is (degree S x) (degree S f.0) Equal (e ∙ sym each.0)) in
        both _ _ (is_less order (order x f.0) (ap (λ r. ordering_then r (keys x f.0)) same
        ∙ less_is order (keys x f.0) (first_part _ _ h))) (below_graded r x es e each.1 (second_part _ _ h))

    sorted_graded : (r : ℕ) (es : List (Key S.variables × ℕ)) → Each order (HasDegree r) es → T (is_sorted keys es)
        → T (is_sorted order es)
    sorted_graded r [] each h = tt
    sorted_graded r (e ∷ es) each h =
        both _ _ (below_graded r e.0 es each.0 each.1 (first_part _ _ h))
        (sorted_graded r es each.1 (second_part _ _ h))

    degree_sorted : (r : ℕ) → T (is_sorted order (terms_of_degree S p j r))
    degree_sorted r = sorted_graded r (terms_of_degree S p j r) (of_degree r)
        (is_sorted-where_key keys (λ k. eqb k.y j && eqb (degree S k) r) (entries p.map) (entries_sorted p.map))

    below_next : (d : ℕ) (x : Key S.variables) (fs : List (Key S.variables × ℕ)) → degree S x ≤ d
        → Each order (HasDegree (suc d)) fs → T (below_all order x fs)
    below_next d x [] low each = tt
    below_next d x (f ∷ fs) low each =
        let less : nat_cmp (degree S x) (degree S f.0) ≡ Less =
        sym (nat_cmp_is (degree S x) (degree S f.0) Less (omega (arith, each.0))) in
        both _ _ (is_less order (order x f.0) (ap (λ r. ordering_then r (keys x f.0)) less))
        (below_next d x fs low each.1)

    pub printed_low : (d : ℕ) → Each order (HasNoMore d) (printed_terms S p j d)
    printed_low zero = each_weaker order (HasDegree 0) (HasNoMore 0) (λ e h. omega (arith, h))
        (terms_of_degree S p j 0) (of_degree 0)
    printed_low (suc d) = each_append order (HasNoMore (suc d)) (printed_terms S p j d) (terms_of_degree S p j (suc d))
        (each_weaker order (HasNoMore d) (HasNoMore (suc d)) (λ e h. omega (arith, h)) (printed_terms S p j d)
        (printed_low d))
        (each_weaker order (HasDegree (suc d)) (HasNoMore (suc d)) (λ e h. omega (arith, h))
        (terms_of_degree S p j (suc d)) (of_degree (suc d)))

    pub printed_sorted : (d : ℕ) → T (is_sorted order (printed_terms S p j d))
    printed_sorted zero = degree_sorted 0
    printed_sorted (suc d) = sorted_append order (printed_terms S p j d) (terms_of_degree S p j (suc d))
        (printed_sorted d) (degree_sorted (suc d))
        (each_weaker order (HasNoMore d) (λ e. T (below_all order e.0 (terms_of_degree S p j (suc d))))
        (λ e h. below_next d e.0 (terms_of_degree S p j (suc d)) h (of_degree (suc d))) (printed_terms S p j d)
        (printed_low d))

    -- a list in the order of printing with the polynomial's coefficients is what is printed
    pub printed_are : (D : ℕ) (ts : List (Key S.variables × ℕ)) → T (is_sorted order ts)
        → ((q : Key S.variables) → find keys q ts ≡ cond (eqb q.y j && leb (degree S q) D) (get p.map q) None)
        → printed_terms S p j D ≡ ts
    printed_are D ts sorted same = same_entries order order_total order_same (printed_terms S p j D) ts
        (printed_sorted D) sorted
        (λ q. find_same q (printed_terms S p j D) ∙ find_printed S p j D q
        ∙ ap (λ o. cond (eqb q.y j && leb (degree S q) D) o None) (sym (get-entries p.map q)) ∙ sym (same q)
        ∙ sym (find_same q ts))
