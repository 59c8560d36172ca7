-- Lists of entries in order: an entry put at its place.
use Rattle.std.proofs.Common.{◌≡◌, ℕ, zero, suc, ◌+◌, ◌%◌, ◌<◌, ◌≤◌, Bool, true, false, cond, not, T, List, [], ◌∷◌}
use Rattle.std.proofs.Common.{◌++◌, length}
use Rattle.std.proofs.Common.{get_or, map, take, drop, refl, sym, ◌∙◌, ap, subst, arith}
use Rattle.std.proofs.Math.ListN.{set}
use Rattle.std.specs.Prelude.{Result, Ok, Err, OnOk, OnErr}
use Rattle.std.specs.Prelude.{Option, Some, None, ◌==◌, insert as insert_at, remove as remove_at, filter}
use Rattle.std.specs.List.{All}
use Rattle.std.specs.Option.{unwrap_or}
use Rattle.std.specs.Ordering.{eq_by_cmp, is_eq, is_lt, nat_cmp, ordering_reverse, ordering_then}
use Rattle.std.specs.declared.cmp.Ordering.{Ordering}
use Rattle.std.specs.declared.cmp.Ordering.TheVariants.{Less, Equal, Greater}
use Rattle.std.specs.Cmp.{IsTotalOrder, tied_itself, eq_by_cmp_equiv}
use Rattle.std.specs.Cmp.Lexicographic.{slice_cmp}
use Rattle.std.specs.FinMap.{FinMap, IsAntisymmetric, insert, remove, get-remove, get-insert, from_entries}
use Rattle.std.specs.FinMap.{get-from_entries}
use Rattle.std.specs.FinMap.{find, is_sorted, same_map}
use Rattle.std.specs.FinMap.Entries.{put as put_entry, by_order, below_all, is_sorted-where_key, is_sorted-put}
use Rattle.std.specs.FinMap.Entries.{find-where_key, find-put}
use Rattle.std.proofs.lemmas.List.{get_or_default, map-append, map-set, drop-map, length-map, get_or-map}
use Rattle.std.proofs.lemmas.List.Elements.{All-append, All-cons, All-set, All-take, All-drop}
use Rattle.std.proofs.lemmas.Bool.{eqb-false}
use Rattle.ps_model.specs.Keys.{Key, key_compare}
use Rattle.ps_model.specs.KeyLaws.{key_compare_total, key_compare-IsAntisymmetric}
use Rattle.ps_model.specs.FiniteMaps.{put}
use Rattle.ps_model.specs.Plain.{key_of, entry_of, TermsInOrder, value_in}
use Rattle.ps_model.specs.PlainLists.{map_of, key_order, AreBefore}
use Rattle.ps_model.specs.declared.plain.PlainTerm.{PlainTerm}
use Rattle.ps_model.proofs.Maps.{both, first_part, second_part, numbers_of, find_at}
use Rattle.ps_model.proofs.Coefficients.{plus-mod}
use Rattle.std.proofs.Math.Nat.{mod-mod}

-- what the code compares
pub order_is : (a b : PlainTerm) → length a.powers ≡ 8 → length b.powers ≡ 8
    → ordering_then (nat_cmp b.y a.y) (slice_cmp nat_cmp b.powers a.powers) ≡ key_order a b
unfolding key_order
order_is a b p q = λ i. ordering_then (nat_cmp b.y a.y)
    (slice_cmp nat_cmp (sym (numbers_of 8 b.powers q) i) (sym (numbers_of 8 a.powers p) i))

less : (r : Ordering) → T (is_lt r) → r ≡ Less
less Less p = refl
less Equal p = absurd p
less Greater p = absurd p

module _ {K : Type 0} (R : K → K → Ordering) (o : IsTotalOrder R) where
  turned : (x k : K) (r : Ordering) → R x k ≡ r → R k x ≡ ordering_reverse r
  turned x k r e = o.antisymm k x ∙ ap ordering_reverse e

module _ {K X : Type 0} (R : K → K → Ordering) (o : IsTotalOrder R) where
  below_less : (x y : K) (es : List (K × X)) → R x y ≡ Less → T (below_all R y es) → T (below_all R x es)
  below_less x y [] p h = tt
  below_less x y (e ∷ es) p h = both _ _
      (subst (λ r. T (is_lt r)) (sym (o.trans x y e.0 p (less _ (first_part _ _ h)))) tt)
      (below_less x y es p (second_part _ _ h))

  -- the first i entries have keys before k
  abbrev pub Before : List (K × X) → ℕ → K → Type 0
  Before es i k = (j : ℕ) (d : K × X) → j < i → R (get_or es j d).0 k ≡ Less

  pub put_inserted : (k : K) (v : X) (es : List (K × X)) (i : ℕ) → i ≤ length es → Before es i k
      → ((d : K × X) → i < length es → R (get_or es i d).0 k ≡ Greater) → take i es ++ (k, v) ∷ drop i es
      ≡ put_entry R k v es
  put_inserted k v [] zero h b g = refl
  put_inserted k v [] (suc i) h b g = absurd (omega arith)
  put_inserted k v (e ∷ es) zero h b g =
      sym (ap (λ r. by_order r ((k, v) ∷ e ∷ es) ((e.0, v) ∷ es) (e ∷ put_entry R k v es))
      (turned R o e.0 k Greater (g e (omega arith))))
  put_inserted k v (e ∷ es) (suc i) h b g = ap (λ l. e ∷ l) (put_inserted k v es i (omega arith)
      (λ j d lt. b (suc j) d (omega arith)) (λ d lt. g d (omega arith)))
      ∙ sym (ap (λ r. by_order r ((k, v) ∷ e ∷ es) ((e.0, v) ∷ es) (e ∷ put_entry R k v es))
      (turned R o e.0 k Less (b 0 e (omega arith))))

  pub put_replaced : (k : K) (v : X) (es : List (K × X)) (i : ℕ) → i < length es → Before es i k
      → ((d : K × X) → (get_or es i d).0 ≡ k) → set es i (k, v) ≡ put_entry R k v es
  put_replaced k v [] i h b g = absurd (omega arith)
  put_replaced k v (e ∷ es) zero h b g = ap (λ x. (x, v) ∷ es) (sym (g e))
      ∙ sym (ap (λ r. by_order r ((k, v) ∷ e ∷ es) ((e.0, v) ∷ es) (e ∷ put_entry R k v es))
      (ap (R k) (g e) ∙ tied_itself o k))
  put_replaced k v (e ∷ es) (suc i) h b g = ap (λ l. e ∷ l) (put_replaced k v es i (omega arith)
      (λ j d lt. b (suc j) d (omega arith)) g)
      ∙ sym (ap (λ r. by_order r ((k, v) ∷ e ∷ es) ((e.0, v) ∷ es) (e ∷ put_entry R k v es))
      (turned R o e.0 k Less (b 0 e (omega arith))))

  -- the entries with another key
  abbrev pub others : K → List (K × X) → List (K × X)
  others k es = filter (λ e. not (eq_by_cmp R k e.0)) es

  others_below : (k : K) (es : List (K × X)) → T (below_all R k es) → others k es ≡ es
  others_below k [] h = refl
  others_below k (e ∷ es) h = elim (R k e.0) as
      (λ r. T (is_lt r) → cond (not (is_eq r)) (e ∷ others k es) (others k es) ≡ e ∷ es) [
        | Less ↦ λ p. ap (λ l. e ∷ l) (others_below k es (second_part _ _ h))
        | Equal ↦ λ p. absurd p
        | Greater ↦ λ p. absurd p
      ] (first_part _ _ h)

  pub others_removed : (k : K) (es : List (K × X)) (i : ℕ) → T (is_sorted R es) → i < length es → Before es i k
      → ((d : K × X) → (get_or es i d).0 ≡ k) → take i es ++ drop (suc i) es ≡ others k es
  others_removed k [] i s h b g = absurd (omega arith)
  others_removed k (e ∷ es) zero s h b g =
      sym (others_below k es (subst (λ x. T (below_all R x es)) (g e) (first_part _ _ s)))
      ∙ sym (ap (λ r. cond (not (is_eq r)) (e ∷ others k es) (others k es)) (ap (R k) (g e) ∙ tied_itself o k))
  others_removed k (e ∷ es) (suc i) s h b g = ap (λ l. e ∷ l) (others_removed k es i (second_part _ _ s) (omega arith)
      (λ j d lt. b (suc j) d (omega arith)) g)
      ∙ sym (ap (λ r. cond (not (is_eq r)) (e ∷ others k es) (others k es))
      (turned R o e.0 k Less (b 0 e (omega arith))))

  pub others_absent : (k : K) (es : List (K × X)) (i : ℕ) → T (is_sorted R es) → i ≤ length es → Before es i k
      → ((d : K × X) → i < length es → R (get_or es i d).0 k ≡ Greater) → es ≡ others k es
  others_absent k [] i s h b g = refl
  others_absent k (e ∷ es) zero s h b g = sym (others_below k (e ∷ es) below)
    where
      first : R k e.0 ≡ Less
      first = turned R o e.0 k Greater (g e (omega arith))

      below : T (below_all R k (e ∷ es))
      below = both _ _ (subst (λ r. T (is_lt r)) (sym first) tt) (below_less k e.0 es first (first_part _ _ s))
  others_absent k (e ∷ es) (suc i) s h b g = ap (λ l. e ∷ l) (others_absent k es i (second_part _ _ s) (omega arith)
      (λ j d lt. b (suc j) d (omega arith)) (λ d lt. g d (omega arith)))
      ∙ sym (ap (λ r. cond (not (is_eq r)) (e ∷ others k es) (others k es))
      (turned R o e.0 k Less (b 0 e (omega arith))))

  flipped : (b : Bool) (x : Option X) → cond (not b) x None ≡ cond b None x
  flipped true x = refl
  flipped false x = refl

  -- the other entries are the map without the key
  pub map-others : IsAntisymmetric R → (k : K) (es : List (K × X)) → from_entries {R = R} (others k es)
      ≡ remove (from_entries es) k
  map-others same k es = same_map o same _ _ (λ q. get-from_entries o (others k es) q
      ∙ find-where_key R (λ x. not (eq_by_cmp R k x)) q (λ x t. ap (λ y. not (eq_by_cmp R k y)) (sym (same q x t))) es
      ∙ flipped (eq_by_cmp R k q) (find R q es) ∙ ap (λ b. cond b None (find R q es)) ((eq_by_cmp_equiv o).symm k q)
      ∙ sym (get-remove o (from_entries es) k q ∙ ap (cond (eq_by_cmp R q k) None) (get-from_entries o es q)))

  pub map-put_entry : IsAntisymmetric R → (k : K) (v : X) (es : List (K × X)) →
      from_entries {R = R} (put_entry R k v es)
      ≡ insert (from_entries es) k v
  map-put_entry same k v es =
      same_map o same _ _ (λ q. get-from_entries o (put_entry R k v es) q ∙ find-put R o q k v es
      ∙ sym (get-insert o (from_entries es) k v q ∙ ap (cond (eq_by_cmp R q k) (Some v)) (get-from_entries o es q)))

pub record IsPut (ts us : List PlainTerm) (t : PlainTerm) : Type 0 where
  pub in_order : TermsInOrder us
  pub is : map_of us ≡ put (key_compare 8) (map_of ts) (key_of t) t.coefficient

abbrev cmp8 : Key 8 → Key 8 → Ordering
cmp8 = key_compare 8

before_entries : (ts : List PlainTerm) (t : PlainTerm) (i : ℕ) → i ≤ length ts → AreBefore ts i t → Before cmp8
    (key_compare_total 8) (map entry_of ts) i (key_of t)
unfolding key_order
before_entries ts t i h b j d lt = shown (get_or ts j t) (get_or-map entry_of ts j t d (omega arith)) (b j t lt)
  where
    shown : (s : PlainTerm) → get_or (map entry_of ts) j d ≡ entry_of s → key_compare 8 (key_of s) (key_of t) ≡ Less
        → key_compare 8 (get_or (map entry_of ts) j d).0 (key_of t) ≡ Less
    shown s e l = ap (λ (x : Key 8 × ℕ). key_compare 8 x.0 (key_of t)) e ∙ l

at_entry : (ts : List PlainTerm) (t : PlainTerm) (i : ℕ) (r : Ordering) → key_order (get_or ts i t) t ≡ r →
    (d : Key 8 × ℕ)
    → i < length (map entry_of ts) → cmp8 (get_or (map entry_of ts) i d).0 (key_of t) ≡ r
unfolding key_order
at_entry ts t i r is d lt = ap (λ (x : Key 8 × ℕ). key_compare 8 x.0 (key_of t))
    (get_or-map entry_of ts i t d (rw length-map at lt)) ∙ is

key_at : (ts : List PlainTerm) (t : PlainTerm) (i : ℕ) → key_order (get_or ts i t) t ≡ Equal → i < length ts
    → (d : Key 8 × ℕ) → (get_or (map entry_of ts) i d).0 ≡ key_of t
key_at ts t i is lt d = key_compare-IsAntisymmetric 8 _ _ (at_entry ts t i Equal is d (rw length-map lt))

take-map : {X Y : Type 0} (f : X → Y) (n : ℕ) (xs : List X) → take n (map f xs) ≡ map f (take n xs)
take-map f zero xs = refl
take-map f (suc n) [] = refl
take-map f (suc n) (x ∷ xs) = ap (λ l. f x ∷ l) (take-map f n xs)

put_zero : (p : FinMap (key_compare 8) ℕ) (k : Key 8) (v : ℕ) → (v == 0) ≡ true → put (key_compare 8) p k v ≡ remove p k
unfolding put
put_zero p k v e = ap (λ b. cond b (remove p k) (insert p k v)) e

put_value : (p : FinMap (key_compare 8) ℕ) (k : Key 8) (v : ℕ) → (v == 0) ≡ false →
    put (key_compare 8) p k v ≡ insert p k v
unfolding put
put_value p k v e = ap (λ b. cond b (remove p k) (insert p k v)) e

-- a list whose entries are those of a put
placed : (ts us : List PlainTerm) (t : PlainTerm) → (t.coefficient == 0) ≡ false → TermsInOrder ts
    → All (λ s. 0 < s.coefficient) us → map entry_of us ≡ put_entry cmp8 (key_of t) t.coefficient (map entry_of ts)
    → IsPut ts us t
placed ts us t some h all e = record {
  in_order = (
    subst (λ es. T (is_sorted cmp8 es)) (sym e)
        (is_sorted-put cmp8 (key_compare_total 8) (key_of t) t.coefficient (map entry_of ts) h.0),
    all,
  );
  is = ap from_entries e ∙
      map-put_entry cmp8 (key_compare_total 8) (key_compare-IsAntisymmetric 8) (key_of t) t.coefficient
      (map entry_of ts)
      ∙ sym (put_value (map_of ts) (key_of t) t.coefficient some);
}

-- a list whose entries are those with other keys
left : (ts us : List PlainTerm) (t : PlainTerm) → (t.coefficient == 0) ≡ true → TermsInOrder ts
    → All (λ s. 0 < s.coefficient) us → map entry_of us ≡ others cmp8 (key_compare_total 8) (key_of t) (map entry_of ts)
    → IsPut ts us t
left ts us t none h all e = record {
  in_order = (
    subst (λ es. T (is_sorted cmp8 es)) (sym e)
        (is_sorted-where_key cmp8 (λ x. not (eq_by_cmp cmp8 (key_of t) x)) (map entry_of ts) h.0),
    all,
  );
  is = ap from_entries e ∙
      map-others cmp8 (key_compare_total 8) (key_compare-IsAntisymmetric 8) (key_of t) (map entry_of ts)
      ∙ sym (put_zero (map_of ts) (key_of t) t.coefficient none);
}

positive : (n : ℕ) → (n == 0) ≡ false → 0 < n
positive n e = let h = eqb-false n 0 e in omega arith

pub put_at_place : (ts us : List PlainTerm) (t : PlainTerm) (i : ℕ) (b : Bool) → (t.coefficient == 0) ≡ b →
    TermsInOrder ts
    → i < length ts → AreBefore ts i t → key_order (get_or ts i t) t ≡ Equal
    → us ≡ cond b (remove_at ts i) (set ts i t) → IsPut ts us t
put_at_place ts us t i true none h lt before at e = left ts us t none h
    (subst (All (λ s. 0 < s.coefficient)) (sym e) (All-append (λ s. 0 < s.coefficient) (take i ts) (drop (suc i) ts)
    (All-take (λ s. 0 < s.coefficient) i ts h.1) (All-drop (λ s. 0 < s.coefficient) (suc i) ts h.1)))
    (ap (map entry_of) e ∙ map-append entry_of (take i ts) (drop (suc i) ts)
    ∙ (λ j. sym (take-map entry_of i ts) j ++ sym (drop-map entry_of (suc i) ts) j)
    ∙ others_removed cmp8 (key_compare_total 8) (key_of t) (map entry_of ts) i h.0 (rw length-map lt)
    (before_entries ts t i (omega arith) before) (key_at ts t i at lt))
put_at_place ts us t i false some h lt before at e = placed ts us t some h
    (subst (All (λ s. 0 < s.coefficient)) (sym e) (All-set (λ s. 0 < s.coefficient) ts i t (positive _ some) h.1))
    (ap (map entry_of) e ∙ map-set entry_of ts i t
    ∙ put_replaced cmp8 (key_compare_total 8) (key_of t) t.coefficient (map entry_of ts) i (rw length-map lt)
    (before_entries ts t i (omega arith) before) (key_at ts t i at lt))

pub put_between : (ts us : List PlainTerm) (t : PlainTerm) (i : ℕ) (b : Bool) → (t.coefficient == 0) ≡ b →
    TermsInOrder ts
    → i ≤ length ts → AreBefore ts i t → (i < length ts → key_order (get_or ts i t) t ≡ Greater)
    → us ≡ cond b ts (insert_at ts i t) → IsPut ts us t
put_between ts us t i true none h le before at e = left ts us t none h
    (subst (All (λ s. 0 < s.coefficient)) (sym e) h.1)
    (ap (map entry_of) e
    ∙ others_absent cmp8 (key_compare_total 8) (key_of t) (map entry_of ts) i h.0 (rw length-map le)
    (before_entries ts t i le before) (λ d lt. at_entry ts t i Greater (at (rw length-map at lt)) d lt))
put_between ts us t i false some h le before at e = placed ts us t some h
    (subst (All (λ s. 0 < s.coefficient)) (sym e) (All-append (λ s. 0 < s.coefficient) (take i ts) (t ∷ drop i ts)
    (All-take (λ s. 0 < s.coefficient) i ts h.1)
    (All-cons (λ s. 0 < s.coefficient) t (drop i ts) (positive _ some)
    (All-drop (λ s. 0 < s.coefficient) i ts h.1))))
    (ap (map entry_of) e ∙ map-append entry_of (take i ts) (t ∷ drop i ts)
    ∙ (λ j. sym (take-map entry_of i ts) j ++ entry_of t ∷ sym (drop-map entry_of i ts) j)
    ∙ put_inserted cmp8 (key_compare_total 8) (key_of t) t.coefficient (map entry_of ts) i (rw length-map le)
    (before_entries ts t i le before) (λ d lt. at_entry ts t i Greater (at (rw length-map at lt)) d lt))

-- the same of the list in which the place was found
pub put_found : (seen ts us : List PlainTerm) (t : PlainTerm) (i : ℕ) → seen ≡ ts → TermsInOrder ts
    → (i < length seen) × AreBefore seen i t × ((d : PlainTerm) → key_order (get_or seen i d) t ≡ Equal)
    → us ≡ cond (t.coefficient == 0) (remove_at ts i) (set ts i t) → IsPut ts us t
put_found seen ts us t i same h at e = put_at_place ts us t i (t.coefficient == 0) refl h w.0 w.1 (w.2 t) e
  where
    w : (i < length ts) × AreBefore ts i t × ((d : PlainTerm) → key_order (get_or ts i d) t ≡ Equal)
    w = subst (λ l. (i < length l) × AreBefore l i t × ((d : PlainTerm) → key_order (get_or l i d) t ≡ Equal)) same at

pub put_missing : (seen ts us : List PlainTerm) (t : PlainTerm) (i : ℕ) → seen ≡ ts → TermsInOrder ts
    → (i ≤ length seen) × AreBefore seen i t
    × ((d : PlainTerm) → i < length seen → key_order (get_or seen i d) t ≡ Greater)
    → us ≡ cond (t.coefficient == 0) ts (insert_at ts i t) → IsPut ts us t
put_missing seen ts us t i same h at e = put_between ts us t i (t.coefficient == 0) refl h w.0 w.1 (w.2 t) e
  where
    w : (i ≤ length ts) × AreBefore ts i t × ((d : PlainTerm) → i < length ts → key_order (get_or ts i d) t ≡ Greater)
    w = subst (λ l. (i ≤ length l) × AreBefore l i t
        × ((d : PlainTerm) → i < length l → key_order (get_or l i d) t ≡ Greater)) same at

-- after an insert that may be refused
pub order_inserted : {A E : Type 0} (r : Result A E) (seen ts us : List PlainTerm) (t : PlainTerm) (i : ℕ) → seen ≡ ts
    → TermsInOrder ts
    → (i ≤ length seen) × AreBefore seen i t
    × ((d : PlainTerm) → i < length seen → key_order (get_or seen i d) t ≡ Greater)
    → OnOk r (us ≡ cond (t.coefficient == 0) ts (insert_at ts i t)) → OnErr r (us ≡ ts) → TermsInOrder us
order_inserted (Ok x) seen ts us t i same h at e none = (put_missing seen ts us t i same h at e).in_order
order_inserted (Err x) seen ts us t i same h at e none = subst TermsInOrder (sym none) h

pub map_inserted : {A E : Type 0} (r : Result A E) (seen ts us : List PlainTerm) (t : PlainTerm) (i : ℕ) → seen ≡ ts
    → TermsInOrder ts
    → (i ≤ length seen) × AreBefore seen i t
    × ((d : PlainTerm) → i < length seen → key_order (get_or seen i d) t ≡ Greater)
    → OnOk r (us ≡ cond (t.coefficient == 0) ts (insert_at ts i t))
    → OnOk r (map_of us ≡ put (key_compare 8) (map_of ts) (key_of t) t.coefficient)
map_inserted (Ok x) seen ts us t i same h at e = (put_missing seen ts us t i same h at e).is
map_inserted (Err x) seen ts us t i same h at e = tt

value_found : (ts : List PlainTerm) (t : PlainTerm) (i : ℕ) → i < length ts → AreBefore ts i t
    → key_order (get_or ts i t) t ≡ Equal → value_in (map_of ts) (key_of t) ≡ (get_or ts i t).coefficient
value_found ts t i lt before at =
    ap (λ o. unwrap_or o 0) (get-from_entries (key_compare_total 8) (map entry_of ts) (key_of t)
    ∙ find_at cmp8 (key_of t) (map entry_of ts) i (entry_of t) (rw length-map lt)
    (λ j l. ap is_eq (turned cmp8 (key_compare_total 8) _ (key_of t) Less
    (before_entries ts t i (omega arith) before j (entry_of t) l)))
    (ap is_eq (turned cmp8 (key_compare_total 8) _ (key_of t) Equal
    (at_entry ts t i Equal at (entry_of t) (rw length-map lt))))
    ∙ ap (λ (e : Key 8 × ℕ). Some e.1) (get_or-map entry_of ts i t (entry_of t) lt))

value_missing : (ts : List PlainTerm) (t : PlainTerm) (i : ℕ) → TermsInOrder ts → i ≤ length ts → AreBefore ts i t
    → (i < length ts → key_order (get_or ts i t) t ≡ Greater) → value_in (map_of ts) (key_of t) ≡ 0
value_missing ts t i h le before at =
    ap (λ o. unwrap_or o 0) (get-from_entries (key_compare_total 8) (map entry_of ts) (key_of t)
    ∙ ap (find cmp8 (key_of t))
    (others_absent cmp8 (key_compare_total 8) (key_of t) (map entry_of ts) i h.0 (rw length-map le)
    (before_entries ts t i le before) (λ d lt. at_entry ts t i Greater (at (rw length-map at lt)) d lt))
    ∙ find-where_key cmp8 (λ x. not (eq_by_cmp cmp8 (key_of t) x)) (key_of t)
    (λ x e. ap (λ y. not (eq_by_cmp cmp8 (key_of t) y)) (sym (key_compare-IsAntisymmetric 8 (key_of t) x e)))
    (map entry_of ts)
    ∙ ap (λ r. cond (not (is_eq r)) (find cmp8 (key_of t) (map entry_of ts)) None)
    (tied_itself (key_compare_total 8) (key_of t)))

pub coefficient_found : (seen ts : List PlainTerm) (t s : PlainTerm) (i : ℕ) (p : FinMap (key_compare 8) ℕ) → seen ≡ ts
    → map_of ts ≡ p
    → (i < length seen) × AreBefore seen i t × ((d : PlainTerm) → key_order (get_or seen i d) t ≡ Equal)
    → s ≡ get_or ts i s → s.coefficient ≡ value_in p (key_of t)
coefficient_found seen ts t s i p same is at read = ap (λ u. u.coefficient) (read ∙ get_or_default ts i s t w.0)
    ∙ sym (value_found ts t i w.0 w.1 (w.2 t)) ∙ ap (λ q. value_in q (key_of t)) is
  where
    w : (i < length ts) × AreBefore ts i t × ((d : PlainTerm) → key_order (get_or ts i d) t ≡ Equal)
    w = subst (λ l. (i < length l) × AreBefore l i t × ((d : PlainTerm) → key_order (get_or l i d) t ≡ Equal)) same at

pub coefficient_missing : (seen ts : List PlainTerm) (t : PlainTerm) (i : ℕ) (p : FinMap (key_compare 8) ℕ) → seen ≡ ts
    → map_of ts ≡ p → TermsInOrder ts
    → (i ≤ length seen) × AreBefore seen i t
    × ((d : PlainTerm) → i < length seen → key_order (get_or seen i d) t ≡ Greater)
    → 0 ≡ value_in p (key_of t)
coefficient_missing seen ts t i p same is h at = sym (value_missing ts t i h w.0 w.1 (w.2 t))
    ∙ ap (λ q. value_in q (key_of t)) is
  where
    w : (i ≤ length ts) × AreBefore ts i t × ((d : PlainTerm) → i < length ts → key_order (get_or ts i d) t ≡ Greater)
    w = subst (λ l. (i ≤ length l) × AreBefore l i t
        × ((d : PlainTerm) → i < length l → key_order (get_or l i d) t ≡ Greater)) same at

pub same_put : {A E : Type 0} (r : Result A E) (p q : FinMap (key_compare 8) ℕ) (k : Key 8) (m a c v : ℕ) → c ≡ v
    → OnOk r (q ≡ put (key_compare 8) p k ((a % m + c) % m)) → OnOk r (q ≡ put (key_compare 8) p k ((a + v) % m))
same_put r p q k m a c v e h = subst (λ n. OnOk r (q ≡ put (key_compare 8) p k n))
    (plus-mod m (a % m) a c v (mod-mod a m) (ap (λ n. n % m) e)) h
