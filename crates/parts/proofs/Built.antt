-- A list of terms that is built in order, one term after the other, and what it stands for at the end.
use Rattle.std.proofs.Common.{◌≡◌, ℕ, suc, ◌+◌, ◌*◌, ◌%◌, ◌<◌, ◌≤◌, true, false, cond, T, List, [], ◌∷◌, ◌++◌, length}
use Rattle.std.proofs.Common.{get_or, drop, map, add-one, length-drop, refl, sym, ◌∙◌, ap, subst, arith, All}
use Rattle.std.specs.Prelude.{◌==◌}
use Rattle.std.specs.Ordering.{is_lt}
use Rattle.std.specs.declared.cmp.Ordering.{Ordering}
use Rattle.std.specs.declared.cmp.Ordering.TheVariants.{Less, Equal, Greater}
use Rattle.std.specs.FinMap.{entries, from_entries, is_sorted}
use Rattle.std.specs.FinMap.Entries.{below_all}
use Rattle.std.specs.Ordering.{ordering_reverse}
use Rattle.std.proofs.Math.Seq.{drop-cons}
use Rattle.std.proofs.lemmas.Bool.{eqb-true, eqb-false}
use Rattle.std.proofs.lemmas.List.{append-nil}
use Rattle.std.proofs.lemmas.List.Elements.{All-append, All-cons, All-map}
use Rattle.std.proofs.lemmas.Nat.{mul-mod_first}
use Rattle.std.proofs.Math.Nat.{mod-lt}
use Rattle.ps_model.specs.Keys.{Key, key_compare}
use Rattle.ps_model.specs.KeyLaws.{key_compare_total, key_compare-IsAntisymmetric}
use Rattle.ps_model.specs.KeyLaws.{weights_from-positive}
use Rattle.ps_model.specs.Keys.{weights_from}
use Rattle.ps_model.specs.SeriesRing.{ring_of}
use Rattle.ps_model.specs.Sums.{total}
use Rattle.ps_model.specs.FiniteMaps.{collected}
use Rattle.ps_model.proofs.Maps.{first_part, second_part, is_sorted-push, entries-from_entries}
use Rattle.ps_model.proofs.Totals.{total-append}
use Rattle.ps_model.proofs.Coefficients.{plus-mod, at_key}
use Rattle.ps_model.proofs.Collected.{AreResidues, is_collected}
use Rattle.parts.specs.declared.rings.Ring.{Ring}
use Rattle.parts.specs.declared.terms.Term.{Term}
use Rattle.parts.specs.Rings.{modulus_of, weights_of}
use Rattle.parts.specs.Terms.{key_of, entry_of, TermsInOrder}
use Rattle.parts.specs.PartValue.{IsEntryOf, IsPartOf, PartValue}
use Rattle.parts.specs.TermLists.{terms_total, IsBefore, AreTermsOf, IsTotal, unless_zero, IsNext}
use Rattle.parts.proofs.Finished.{entries_push}
use Rattle.parts.proofs.Gained.{all_unmapped}

less : (r : Ordering) → T (is_lt r) → r ≡ Less
less Less h = refl
less Equal h = absurd h
less Greater h = absurd h

pub before_all : (k : Key 8) (us : List Term) → T (below_all (key_compare 8) k (map entry_of us)) → IsBefore k us
before_all k [] h = λ i d lt. absurd (omega arith)
before_all k (u ∷ us) h =
    All-cons (λ t. key_compare 8 k (key_of t.monomial) ≡ Less) u us (less _ (first_part _ _ h))
    (before_all k us (second_part _ _ h))

-- the key stands before all that another does
pub before_more : (k l : Key 8) (us : List Term) → key_compare 8 k l ≡ Less → IsBefore l us → IsBefore k us
before_more k l us lt h = λ i d ok. (key_compare_total 8).trans k l _ lt (h i d ok)

abbrev pub none : {X : Type 0} (P : X → Type 0) → All P []
none P = λ i d lt. absurd (omega arith)

module _ (ring : Ring) (d : ℕ) where
  pub no_terms : AreTermsOf ring d []
  no_terms = record { order = (tt, λ i x lt. absurd (omega arith)); entries = λ i x lt. absurd (omega arith) }

  pub rest_of : (t : Term) (ts : List Term) → AreTermsOf ring d (t ∷ ts) → AreTermsOf ring d ts
  rest_of t ts h = record {
    order = (second_part _ _ h.order.0, λ i x lt. h.order.1 (suc i) x (omega arith));
    entries = λ i x lt. h.entries (suc i) x (omega arith);
  }

  pub after_first : (t : Term) (ts : List Term) → AreTermsOf ring d (t ∷ ts) → IsBefore (key_of t.monomial) ts
  after_first t ts h = before_all (key_of t.monomial) ts (first_part _ _ h.order.0)

  -- the terms ts and what is left, rest, have the totals goal; P k says that k stands before all that is left
  pub record IsBuilt (goal rest : (Key 8 → ℕ) → ℕ) (P : Key 8 → Type 0) (ts : List Term) : Type 0 where
    pub terms : AreTermsOf ring d ts
    pub totals : (f : Key 8 → ℕ) → (terms_total f ts + rest f) % modulus_of ring ≡ goal f % modulus_of ring
    pub before : All (λ t. P (key_of t.monomial)) ts

  pub built_none : (goal : (Key 8 → ℕ) → ℕ) (P : Key 8 → Type 0) → IsBuilt goal goal P []
  built_none goal P = record {
    terms = no_terms;
    totals =
        λ f. ap (λ n. n % modulus_of ring) (omega arith);
    before = λ i x lt. absurd (omega arith);
  }

  pushed_order : (ts : List Term) (t : Term) → TermsInOrder ts →
      All (λ u. key_compare 8 (key_of u.monomial) (key_of t.monomial) ≡ Less) ts → 0 < t.coefficient →
      TermsInOrder (ts ++ t ∷ [])
  pushed_order ts t h before some = (
    subst (λ es. T (is_sorted (key_compare 8) es)) (sym (entries_push ts t))
        (is_sorted-push (key_compare 8) (key_of t.monomial) t.coefficient (map entry_of ts)
        (All-map (λ e. key_compare 8 e.0 (key_of t.monomial) ≡ Less) entry_of ts before) h.0),
    All-append (λ u. 0 < u.coefficient) ts (t ∷ []) h.1
        (All-cons (λ u. 0 < u.coefficient) t [] some (λ i x lt. absurd (omega arith))),
  )

  module _ (goal rest later : (Key 8 → ℕ) → ℕ) (P Q : Key 8 → Type 0) (ts : List Term) (t : Term) where
    pub built_push : IsBuilt goal rest P ts → IsEntryOf (modulus_of ring) (weights_of ring) d (entry_of t)
        → ((f : Key 8 → ℕ) → (t.coefficient * f (key_of t.monomial) + later f) % modulus_of ring ≡
        rest f % modulus_of ring)
        → ((k : Key 8) → P k → key_compare 8 k (key_of t.monomial) ≡ Less) → ((k : Key 8) → P k → Q k) →
        Q (key_of t.monomial)
        → IsBuilt goal later Q (ts ++ unless_zero t)
    built_push h entry step first keeps here =
        elim (t.coefficient == 0) as (λ b. (t.coefficient == 0) ≡ b → IsBuilt goal later Q (ts ++ cond b [] (t ∷ []))) [
          | true ↦ λ e. subst (IsBuilt goal later Q) (sym (append-nil ts)) (record {
            terms = h.terms;
            totals = λ f. plus-mod (modulus_of ring) _ _ (later f) (rest f) refl
                (ap (λ n. n % modulus_of ring) (let z : t.coefficient ≡ 0 = eqb-true _ 0 e in gone f z) ∙ step f) ∙
                h.totals f;
            before = λ i x lt. keeps _ (h.before i x lt);
          })
          | false ↦ λ e. record {
            terms = record {
              order = pushed_order ts t h.terms.order (λ i x lt. first _ (h.before i x lt)) (let z = eqb-false _ 0 e in
                  omega arith);
              entries = All-append (λ u. IsEntryOf (modulus_of ring) (weights_of ring) d (entry_of u)) ts (t ∷ [])
                  h.terms.entries (All-cons (λ u. IsEntryOf (modulus_of ring) (weights_of ring) d (entry_of u)) t []
                  entry (λ i x lt. absurd (omega arith)));
            };
            totals = λ f. ap (λ n. n % modulus_of ring) (longer f) ∙
                plus-mod (modulus_of ring) (terms_total f ts) (terms_total f ts) _ (rest f) refl (step f) ∙ h.totals f;
            before = All-append (λ u. Q (key_of u.monomial)) ts (t ∷ []) (λ i x lt. keeps _ (h.before i x lt))
                (All-cons (λ u. Q (key_of u.monomial)) t [] here (λ i x lt. absurd (omega arith)));
          }
        ] refl
      where
        gone : (f : Key 8 → ℕ) → t.coefficient ≡ 0 → later f ≡ t.coefficient * f (key_of t.monomial) + later f
        gone f z = rw z (omega arith)

        longer : (f : Key 8 → ℕ) →
            terms_total f (ts ++ t ∷ []) + later f ≡ terms_total f ts +
            (t.coefficient * f (key_of t.monomial) + later f)
        longer f = ap (λ es. total f es + later f) (entries_push ts t) ∙
            ap (λ n. n + later f) (total-append f (map entry_of ts) (entry_of t ∷ [])) ∙ omega arith

  -- nothing is left
  pub built_whole : (es : List (Key 8 × ℕ)) (goal rest : (Key 8 → ℕ) → ℕ) (P : Key 8 → Type 0) (ts : List Term) →
      IsBuilt goal rest P ts → ((f : Key 8 → ℕ) → rest f ≡ 0) → ((f : Key 8 → ℕ) → goal f ≡ total f es) →
      IsTotal ring d es ts
  built_whole es goal rest P ts h none_left is =
      record {
        terms = h.terms;
        totals = λ f. ap (λ n. n % modulus_of ring) (let e = none_left f in omega arith) ∙
            h.totals f ∙ ap (λ n. n % modulus_of ring) (is f);
      }

  residues : (ts : List Term) → All (λ t. 0 < t.coefficient) ts →
      All (λ t. IsEntryOf (modulus_of ring) (weights_of ring) d (entry_of t)) ts →
      AreResidues (modulus_of ring) (map entry_of ts)
  residues [] h e = tt
  residues (t ∷ ts) h e = (
    h 0 t (omega arith),
    (e 0 t (omega arith)).1,
    residues ts (λ i x lt. h (suc i) x (omega arith)) (λ i x lt. e (suc i) x (omega arith)),
  )

  -- the map of the terms is the map of the formal sum
  pub total_is : (es : List (Key 8 × ℕ)) (ts : List Term) → IsTotal ring d es ts →
      from_entries {R = key_compare 8} (map entry_of ts) ≡ collected (key_compare 8) (modulus_of ring) es
  total_is es ts h = let two = ring.modulus.low in
      is_collected (ring_of 8 (modulus_of ring) two (weights_from 8 []) (weights_from-positive 8 []))
      (map entry_of ts) es
      h.terms.order.0 (residues ts h.terms.order.1 h.terms.entries)
      (λ q. h.totals (at_key (ring_of 8 (modulus_of ring) two (weights_from 8 []) (weights_from-positive 8 [])) q))

  pub terms_listed : (ts : List Term) → AreTermsOf ring d ts →
      entries (from_entries {R = key_compare 8} (map entry_of ts)) ≡ map entry_of ts
  terms_listed ts h = entries-from_entries (key_compare 8) (key_compare_total 8) (key_compare-IsAntisymmetric 8)
      (map entry_of ts) h.order.0

  pub terms_of_ring : (ts : List Term) (p : PartValue) → AreTermsOf ring d ts → p.degree ≡ d →
      p.map ≡ from_entries (map entry_of ts) → IsPartOf ring p
  terms_of_ring ts p h at_degree is =
      subst (λ n. All (IsEntryOf (modulus_of ring) (weights_of ring) n) (entries p.map)) (sym at_degree)
      (subst (All (IsEntryOf (modulus_of ring) (weights_of ring) d)) (sym (ap entries is ∙ terms_listed ts h))
      (All-map (IsEntryOf (modulus_of ring) (weights_of ring) d) entry_of ts h.entries))

  -- the next term of a sum is the first of one list, or both first ones together
  pub next_left : (x : Term) (a b : List Term) → AreTermsOf ring d (x ∷ a) → AreTermsOf ring d b →
      IsBefore (key_of x.monomial) b → IsNext ring d (x ∷ a) b x a b
  next_left x a b h k before = record {
    totals = λ f. ap (λ n. n % modulus_of ring) (omega arith);
    entry = h.entries 0 x (omega arith);
    first = λ l p q. p 0 x (omega arith);
    before_c = after_first x a h;
    before_e = before;
    rest_c = rest_of x a h;
    rest_e = k;
  }

  pub next_right : (y : Term) (a b : List Term) → AreTermsOf ring d a → AreTermsOf ring d (y ∷ b) →
      IsBefore (key_of y.monomial) a → IsNext ring d a (y ∷ b) y a b
  next_right y a b h k before = record {
    totals = λ f. ap (λ n. n % modulus_of ring) (omega arith);
    entry = k.entries 0 y (omega arith);
    first = λ l p q. q 0 y (omega arith);
    before_c = before;
    before_e = after_first y b k;
    rest_c = h;
    rest_e = rest_of y b k;
  }

  pub next_both : (x y : Term) (c : ℕ) (a b : List Term) → AreTermsOf ring d (x ∷ a) → AreTermsOf ring d (y ∷ b) →
      key_of x.monomial ≡ key_of y.monomial → c ≡ (x.coefficient + y.coefficient) % modulus_of ring
      → IsNext ring d (x ∷ a) (y ∷ b) (record { monomial = x.monomial; coefficient = c }) a b
  next_both x y c a b h k same is = record {
    totals = λ f. plus-mod (modulus_of ring) _ ((x.coefficient + y.coefficient) * f (key_of x.monomial)) _ _
        (ap (λ n. (n * f (key_of x.monomial)) % modulus_of ring) is ∙
        mul-mod_first (x.coefficient + y.coefficient) (f (key_of x.monomial)) (modulus_of ring)) refl
        ∙ ap (λ n. n % modulus_of ring)
        (whole (f (key_of x.monomial)) (f (key_of y.monomial)) (terms_total f a) (terms_total f b) (ap f same));
    entry = (
      (h.entries 0 x (omega arith)).0,
      subst (λ n. n < modulus_of ring) (sym is) (mod-lt _ (let two = ring.modulus.low in omega arith)),
    );
    first = λ l p q. p 0 x (omega arith);
    before_c = after_first x a h;
    before_e = subst (λ l. IsBefore l b) (sym same) (after_first y b k);
    rest_c = rest_of x a h;
    rest_e = rest_of y b k;
  }
    where
      whole : (u v s t : ℕ) → u ≡ v →
          (x.coefficient + y.coefficient) * u + (s + t) ≡ x.coefficient * u + s + (y.coefficient * v + t)
      whole u v s t e = rw (← e) (omega arith)

  -- the key stands before a list in order if it does so before the first
  pub before_first : (k : Key 8) (y : Term) (b : List Term) → AreTermsOf ring d (y ∷ b) →
      key_compare 8 k (key_of y.monomial) ≡ Less → IsBefore k (y ∷ b)
  before_first k y b h lt =
      All-cons (λ t. key_compare 8 k (key_of t.monomial) ≡ Less) y b lt
      (before_more k (key_of y.monomial) b lt (after_first y b h))

  pub merged_step : (goal : (Key 8 → ℕ) → ℕ) (ts a b c e : List Term) (t : Term)
      → IsBuilt goal (λ f. terms_total f a + terms_total f b) (λ k. IsBefore k a × IsBefore k b) ts →
      IsNext ring d a b t c e
      → IsBuilt goal (λ f. terms_total f c + terms_total f e) (λ k. IsBefore k c × IsBefore k e) (ts ++ unless_zero t)
  merged_step goal ts a b c e t h n =
      built_push goal (λ f. terms_total f a + terms_total f b) (λ f. terms_total f c + terms_total f e)
      (λ k. IsBefore k a × IsBefore k b) (λ k. IsBefore k c × IsBefore k e) ts t h n.entry n.totals
      (λ k p. n.first k p.0 p.1)
      (λ k p. (
        before_more k (key_of t.monomial) c (n.first k p.0 p.1) n.before_c,
        before_more k (key_of t.monomial) e (n.first k p.0 p.1) n.before_e,
      )) (n.before_c, n.before_e)

  pub scaled_step : (goal : (Key 8 → ℕ) → ℕ) (ts a : List Term) (t : Term) (c v : ℕ) →
      IsBuilt goal (λ f. c * terms_total f (t ∷ a)) (λ k. IsBefore k (t ∷ a)) ts → AreTermsOf ring d (t ∷ a) →
      v ≡ (c * t.coefficient) % modulus_of ring
      → IsBuilt goal (λ f. c * terms_total f a) (λ k. IsBefore k a)
      (ts ++ unless_zero (record { monomial = t.monomial; coefficient = v }))
  scaled_step goal ts a t c v h k is =
      built_push goal (λ f. c * terms_total f (t ∷ a)) (λ f. c * terms_total f a) (λ l. IsBefore l (t ∷ a))
      (λ l. IsBefore l a) ts (record { monomial = t.monomial; coefficient = v }) h (
        (k.entries 0 t (omega arith)).0,
        subst (λ n. n < modulus_of ring) (sym is) (mod-lt _ (let two = ring.modulus.low in omega arith)),
      )
      (λ f. plus-mod (modulus_of ring) _ ((c * t.coefficient) * f (key_of t.monomial)) _ _
      (ap (λ n. (n * f (key_of t.monomial)) % modulus_of ring) is ∙
      mul-mod_first (c * t.coefficient) (f (key_of t.monomial)) (modulus_of ring)) refl
      ∙ ap (λ n. n % modulus_of ring) (whole (f (key_of t.monomial)) (terms_total f a)))
      (λ l p. p 0 t (omega arith)) (λ l p i x lt. p (suc i) x (omega arith)) (after_first t a k)
    where
      whole : (u s : ℕ) → (c * t.coefficient) * u + c * s ≡ c * (t.coefficient * u + s)
      whole u s = omega arith

-- the same at places in lists
pub first_at : {X : Type 0} (xs : List X) (i : ℕ) (d : X) → i < length xs → drop i xs ≡ get_or xs i d ∷ drop (i + 1) xs
first_at xs i d lt = drop-cons xs i d lt ∙ ap (λ j. get_or xs i d ∷ drop j xs) (sym (add-one i))

module _ (ring : Ring) (d : ℕ) (a b : List Term) (i j : ℕ) (x : Term) (h : AreTermsOf ring d (drop i a))
    (k : AreTermsOf ring d (drop j b)) where
  left_end : i ≡ length a → (l : Key 8) → IsBefore l (drop i a)
  left_end e l = λ n t lt. absurd (omega (arith, length-drop i a))

  right_end : j ≡ length b → (l : Key 8) → IsBefore l (drop j b)
  right_end e l = λ n t lt. absurd (omega (arith, length-drop j b))

  left_terms : i < length a → AreTermsOf ring d (get_or a i x ∷ drop (i + 1) a)
  left_terms lt = subst (AreTermsOf ring d) (first_at a i x lt) h

  right_terms : j < length b → AreTermsOf ring d (get_or b j x ∷ drop (j + 1) b)
  right_terms lt = subst (AreTermsOf ring d) (first_at b j x lt) k

  pub left_residue : i < length a → (get_or a i x).coefficient < modulus_of ring
  left_residue lt = ((left_terms lt).entries 0 x (omega arith)).1

  pub right_residue : j < length b → (get_or b j x).coefficient < modulus_of ring
  right_residue lt = ((right_terms lt).entries 0 x (omega arith)).1

  takes_left : i < length a → IsBefore (key_of (get_or a i x).monomial) (drop j b) →
      IsNext ring d (drop i a) (drop j b) (get_or a i x) (drop (i + 1) a) (drop j b)
  takes_left lt before = subst (λ l. IsNext ring d l (drop j b) (get_or a i x) (drop (i + 1) a) (drop j b))
      (sym (first_at a i x lt)) (next_left ring d (get_or a i x) (drop (i + 1) a) (drop j b) (left_terms lt) k before)

  takes_right : j < length b → IsBefore (key_of (get_or b j x).monomial) (drop i a) →
      IsNext ring d (drop i a) (drop j b) (get_or b j x) (drop i a) (drop (j + 1) b)
  takes_right lt before = subst (λ l. IsNext ring d (drop i a) l (get_or b j x) (drop i a) (drop (j + 1) b))
      (sym (first_at b j x lt)) (next_right ring d (get_or b j x) (drop i a) (drop (j + 1) b) h (right_terms lt) before)

  pub at_left_end : i ≡ length a → j < length b →
      IsNext ring d (drop i a) (drop j b) (get_or b j x) (drop i a) (drop (j + 1) b)
  at_left_end e lt = takes_right lt (left_end e (key_of (get_or b j x).monomial))

  pub at_right_end : j ≡ length b → i < length a →
      IsNext ring d (drop i a) (drop j b) (get_or a i x) (drop (i + 1) a) (drop j b)
  at_right_end e lt = takes_left lt (right_end e (key_of (get_or a i x).monomial))

  pub at_less : i < length a → j < length b →
      key_compare 8 (key_of (get_or a i x).monomial) (key_of (get_or b j x).monomial) ≡ Less →
      IsNext ring d (drop i a) (drop j b) (get_or a i x) (drop (i + 1) a) (drop j b)
  at_less lt at is = takes_left lt
      (subst (IsBefore (key_of (get_or a i x).monomial)) (sym (first_at b j x at))
      (before_first ring d (key_of (get_or a i x).monomial) (get_or b j x) (drop (j + 1) b) (right_terms at) is))

  pub at_greater : i < length a → j < length b →
      key_compare 8 (key_of (get_or a i x).monomial) (key_of (get_or b j x).monomial) ≡ Greater →
      IsNext ring d (drop i a) (drop j b) (get_or b j x) (drop i a) (drop (j + 1) b)
  at_greater lt at is = takes_right at
      (subst (IsBefore (key_of (get_or b j x).monomial)) (sym (first_at a i x lt))
      (before_first ring d (key_of (get_or b j x).monomial) (get_or a i x) (drop (i + 1) a) (left_terms lt)
      ((key_compare_total 8).antisymm (key_of (get_or b j x).monomial) (key_of (get_or a i x).monomial) ∙
      ap ordering_reverse is)))

  pub at_equal : (c : ℕ) → i < length a → j < length b →
      key_compare 8 (key_of (get_or a i x).monomial) (key_of (get_or b j x).monomial) ≡ Equal →
      c ≡ ((get_or a i x).coefficient + (get_or b j x).coefficient) % modulus_of ring
      → IsNext ring d (drop i a) (drop j b) (record { monomial = (get_or a i x).monomial; coefficient = c })
      (drop (i + 1) a) (drop (j + 1) b)
  at_equal c lt at is sum =
      subst (λ l. IsNext ring d l (drop j b) (record { monomial = (get_or a i x).monomial; coefficient = c })
      (drop (i + 1) a) (drop (j + 1) b)) (sym (first_at a i x lt))
      (subst (λ l. IsNext ring d (get_or a i x ∷ drop (i + 1) a) l
      (record { monomial = (get_or a i x).monomial; coefficient = c }) (drop (i + 1) a) (drop (j + 1) b))
      (sym (first_at b j x at))
      (next_both ring d (get_or a i x) (get_or b j x) c (drop (i + 1) a) (drop (j + 1) b) (left_terms lt)
      (right_terms at) (key_compare-IsAntisymmetric 8 (key_of (get_or a i x).monomial)
      (key_of (get_or b j x).monomial) is) sum))

pub scaled_at : (ring : Ring) (d : ℕ) (goal : (Key 8 → ℕ) → ℕ) (ts a : List Term) (i : ℕ) (x : Term) (c v : ℕ) →
    i < length a → IsBuilt ring d goal (λ f. c * terms_total f (drop i a)) (λ k. IsBefore k (drop i a)) ts →
    AreTermsOf ring d (drop i a)
    → v ≡ (c * (get_or a i x).coefficient) % modulus_of ring
    → AreTermsOf ring d (drop (i + 1) a) ×
    IsBuilt ring d goal (λ f. c * terms_total f (drop (i + 1) a)) (λ k. IsBefore k (drop (i + 1) a))
    (ts ++ unless_zero (record { monomial = (get_or a i x).monomial; coefficient = v }))
scaled_at ring d goal ts a i x c v lt h k is = (
  rest_of ring d (get_or a i x) (drop (i + 1) a) terms,
  scaled_step ring d goal ts (drop (i + 1) a) (get_or a i x) c v
      (subst (λ l. IsBuilt ring d goal (λ f. c * terms_total f l) (λ k. IsBefore k l) ts) (first_at a i x lt) h)
      terms is,
)
  where
    terms : AreTermsOf ring d (get_or a i x ∷ drop (i + 1) a)
    terms = subst (AreTermsOf ring d) (first_at a i x lt) k

pub total_past : (f : Key 8 → ℕ) (i : ℕ) (a : List Term) → length a ≤ i → terms_total f (drop i a) ≡ 0
total_past f i a le = empty_total (drop i a) (omega (arith, length-drop i a))
  where
    empty_total : (ts : List Term) → length ts ≡ 0 → terms_total f ts ≡ 0
    empty_total [] e = refl
    empty_total (t ∷ ts) e = absurd (omega arith)

-- the terms of a part of a ring
pub part_terms : (ring : Ring) (d : ℕ) (p : PartValue) (ts : List Term) → p.degree ≡ d →
    map entry_of ts ≡ entries p.map → TermsInOrder ts → IsPartOf ring p → AreTermsOf ring d ts
part_terms ring d p ts at_d listed order is = record {
  order = order;
  entries = subst (λ n. All (λ t. IsEntryOf (modulus_of ring) (weights_of ring) n (entry_of t)) ts) at_d
      (all_unmapped (IsEntryOf (modulus_of ring) (weights_of ring) p.degree) entry_of ts
      (subst (All (IsEntryOf (modulus_of ring) (weights_of ring) p.degree)) (sym listed) is));
}
