-- The terms that are printed are those of the polynomial.
use Rattle.std.proofs.Common.{◌≡◌, ℕ, zero, suc, ◌+◌, ◌-◌, ◌*◌, ◌<◌, ◌≤◌, Bool, true, false, cond, ◌&&◌, ◌||◌, T}
use Rattle.std.proofs.Common.{List, [], ◌∷◌, ◌++◌, Option, Some, None, eqb, leb}
use Rattle.std.proofs.Common.{refl, sym, ◌∙◌, ap, arith, inl, inr, mul-le-mul_right}
use Rattle.std.specs.List.{filter}
use Rattle.std.specs.Option.{unwrap_or}
use Rattle.std.specs.Ordering.{eq_by_cmp, is_eq, is_lt}
use Rattle.std.specs.Cmp.{IsTotalOrder, tied_itself}
use Rattle.std.specs.FinMap.{get, entries, entries_sorted, get-entries, find, is_sorted, IsAntisymmetric}
use Rattle.std.specs.FinMap.Entries.{below_all, find-where_key}
use Rattle.std.specs.declared.cmp.Ordering.{Ordering}
use Rattle.std.specs.declared.cmp.Ordering.TheVariants.{Less, Equal, Greater}
use Rattle.std.proofs.lemmas.Bool.{cases_lt, le-leb, eqb-true, eq-eqb}
use Rattle.std.proofs.lemmas.Bool.Decides.{nat_tests}
use Rattle.std.proofs.lemmas.Option.{none-some}
use Rattle.ps_model.specs.Keys.{Key, Powers, numbers, weighted, ArePositive, key_compare}
use Rattle.ps_model.specs.BlockText.{terms_of_degree, printed_terms}
use Rattle.ps_model.specs.Bounds.{HasNoDegreeAbove, HasNoPowerAbove}
use Rattle.ps_model.specs.SeriesRing.{SeriesRing, ring, degree, Poly}
use Rattle.ps_model.proofs.Coefficients.{same_coefficients}
use Rattle.ps_model.proofs.Maps.{first_part, second_part}
use Rattle.ps_model.proofs.Origin.{coefficient-above}
use Rattle.printer.specs.ReadForms.{IsNamed}
use Rattle.printer.specs.ReadLaw.{IsPrinted}
use Rattle.printer.proofs.ReadPowers.{AreLow}
use Rattle.printer.proofs.ReadTerms.{AreWritten}

-- finding in two lists
abbrev pub or_else : {A : Type 0} → Option A → Option A → Option A
or_else None b = b
or_else (Some x) b = Some x

or_else-cond : {A : Type 0} (b : Bool) (x : A) (o p : Option A)
    → or_else (cond b (Some x) o) p ≡ cond b (Some x) (or_else o p)
or_else-cond true x o p = refl
or_else-cond false x o p = refl

module _ {K : Type 0} (R : K → K → Ordering) where
  pub find_in_both : (q : K) (es fs : List (K × ℕ)) → find R q (es ++ fs) ≡ or_else (find R q es) (find R q fs)
  find_in_both q [] fs = refl
  find_in_both q (e ∷ es) fs =
      ap (λ o. cond (eq_by_cmp R q e.0) (Some e.1) o) (find_in_both q es fs)
      ∙ sym (or_else-cond (eq_by_cmp R q e.0) e.1 (find R q es) (find R q fs))

  less_apart : (r : Ordering) → T (is_lt r) → is_eq r ≡ false
  less_apart Less h = refl
  less_apart Equal h = absurd h
  less_apart Greater h = absurd h

  below_none : (q : K) (es : List (K × ℕ)) → T (below_all R q es) → find R q es ≡ None
  below_none q [] h = refl
  below_none q (e ∷ es) h =
      ap (λ b. cond b (Some e.1) (find R q es)) (less_apart (R q e.0) (first_part _ _ h))
      ∙ below_none q es (second_part _ _ h)

  is_equal : (r : Ordering) → is_eq r ≡ true → r ≡ Equal
  is_equal Less h = absurd (cc)
  is_equal Equal h = refl
  is_equal Greater h = absurd (cc)

  found_later : IsAntisymmetric R → (e : K × ℕ) (es : List (K × ℕ)) (k : K) (v : ℕ) → T (below_all R e.0 es)
      → find R k es ≡ Some v → find R k (e ∷ es) ≡ Some v
  found_later same e es k v below is = elim (eq_by_cmp R k e.0) as
      (λ b. eq_by_cmp R k e.0 ≡ b → cond b (Some e.1) (find R k es) ≡ Some v) [
        | true ↦ λ tie.
            absurd (none-some v (sym (below_none e.0 es below)
            ∙ ap (λ x. find R x es) (sym (same k e.0 (is_equal (R k e.0) tie))) ∙ is))
        | false ↦ λ tie. is
      ] refl

  abbrev pub Each : (K × ℕ → Type 0) → List (K × ℕ) → Type 0
  Each P [] = Unit {0}
  Each P (e ∷ es) = P e × Each P es

  -- what holds of each entry that is found
  pub each_found : IsTotalOrder R → IsAntisymmetric R → (P : K × ℕ → Type 0) (es : List (K × ℕ))
      → T (is_sorted R es) → ((k : K) (v : ℕ) → find R k es ≡ Some v → P (k, v)) → Each P es
  each_found o same P [] sorted h = tt
  each_found o same P (e ∷ es) sorted h = (
    h e.0 e.1 (ap (λ r. cond (is_eq r) (Some e.1) (find R e.0 es)) (tied_itself o e.0)),
    each_found o same P es (second_part _ _ sorted)
        (λ k v is. h k v (found_later same e es k v (first_part _ _ sorted) is)),
  )

-- tests of degrees
degree_zero : (d : ℕ) → eqb d 0 ≡ leb d 0
degree_zero d = grind (arith, nat_tests)

degree_next : (d D : ℕ) → leb d (suc D) ≡ leb d D || eqb d (suc D)
degree_next d D = grind (arith, nat_tests)

two_tests : {A : Type 0} (a b c : Bool) (o : Option A)
    → or_else (cond (a && b) o None) (cond (a && c) o None) ≡ cond (a && (b || c)) o None
two_tests true true true None = refl
two_tests true true true (Some x) = refl
two_tests true true false None = refl
two_tests true true false (Some x) = refl
two_tests true false true o = refl
two_tests true false false o = refl
two_tests false b c o = refl

pub low_powers : (n D : ℕ) (w x : Powers n) → ArePositive n w → weighted n w x ≤ D → AreLow D (numbers n x)
low_powers zero D w x some h = tt
low_powers (suc n) D w x some h =
    (first w.0 x.0 (weighted n w.1 x.1) some.0 h, low_powers n D w.1 x.1 some.1 (omega arith))
  where
    first : (a b c : ℕ) → 0 < a → a * b + c ≤ D → b ≤ D
    first a b c some h = omega (arith, mul-le-mul_right {m = 1} {n = a} b (omega arith))

module _ (S : SeriesRing) where
  abbrev found : Key S.variables → List (Key S.variables × ℕ) → Option ℕ
  found q es = find (key_compare S.variables) q es

  find_of_degree : (p : Poly S) (j r : ℕ) (q : Key S.variables)
      → found q (terms_of_degree S p j r) ≡ cond (eqb q.y j && eqb (degree S q) r) (found q (entries p.map)) None
  find_of_degree p j r q = find-where_key (key_compare S.variables) (λ k. eqb k.y j && eqb (degree S k) r) q
      (λ x e. ap (λ (k : Key S.variables). eqb k.y j && eqb (degree S k) r) (sym ((ring S).antisymmetric q x e)))
      (entries p.map)

  -- what is printed of the coefficient of Y^j
  pub find_printed : (p : Poly S) (j D : ℕ) (q : Key S.variables)
      → found q (printed_terms S p j D) ≡ cond (eqb q.y j && leb (degree S q) D) (found q (entries p.map)) None
  find_printed p j zero q =
      find_of_degree p j 0 q
      ∙ ap (λ b. cond (eqb q.y j && b) (found q (entries p.map)) None) (degree_zero (degree S q))
  find_printed p j (suc D) q =
      find_in_both (key_compare S.variables) q (printed_terms S p j D) (terms_of_degree S p j (suc D))
      ∙ (λ i. or_else (find_printed p j D q i) (find_of_degree p j (suc D) q i))
      ∙ two_tests (eqb q.y j) (leb (degree S q) D) (eqb (degree S q) (suc D)) (found q (entries p.map))
      ∙ ap (λ b. cond (eqb q.y j && b) (found q (entries p.map)) None) (sym (degree_next (degree S q) D))

  printed_here : (p : Poly S) (D : ℕ) (k : Key S.variables) → degree S k ≤ D
      → found k (printed_terms S p k.y D) ≡ get p.map k
  printed_here p D k low =
      find_printed p k.y D k
      ∙ (λ i. cond (eq-eqb k.y k.y refl i && le-leb (degree S k) D low i) (found k (entries p.map)) None)
      ∙ sym (get-entries p.map k)

  -- polynomials that are printed alike are equal
  pub printed_alike : (D K : ℕ) (p q : Poly S) → HasNoDegreeAbove D p → HasNoPowerAbove K p → HasNoDegreeAbove D q
      → HasNoPowerAbove K q → ((j : ℕ) → j ≤ K → printed_terms S p j D ≡ printed_terms S q j D) → p ≡ q
  printed_alike D K p q dp yp dq yq same = same_coefficients (ring S) p q (λ k. elim (cases_lt D (degree S k)) [
    | inl high ↦ coefficient-above (ring S) (ring S).degree D p dp k high
        ∙ sym (coefficient-above (ring S) (ring S).degree D q dq k high)
    | inr low ↦ elim (cases_lt K k.y) [
      | inl high ↦ coefficient-above (ring S) (ring S).y_degree K p yp k high
          ∙ sym (coefficient-above (ring S) (ring S).y_degree K q yq k high)
      | inr small ↦ ap (λ o. unwrap_or o 0)
          (sym (printed_here p D k low) ∙ ap (found k) (same k.y small) ∙ printed_here q D k low)
    ]
  ])

  -- what is printed can be read
  module _ (names : List (List ℕ)) (D K : ℕ) (p : Poly S) (is : IsPrinted S names D K p) where
    abbrev IsEntry : Key S.variables × ℕ → Type 0
    IsEntry t = (0 < t.1) × (t.1 < S.modulus) × IsNamed names (numbers S.variables t.0.powers)

    each_entry : Each (key_compare S.variables) IsEntry (entries p.map)
    each_entry = each_found (key_compare S.variables) (ring S).total_order (ring S).antisymmetric IsEntry
        (entries p.map) (entries_sorted p.map)
        (λ k v e. (
          (p.has_residues k v (get-entries p.map k ∙ e)).0,
          (p.has_residues k v (get-entries p.map k ∙ e)).1,
          is.is_named k v (get-entries p.map k ∙ e),
        ))

    written_kept : (j r : ℕ) (es : List (Key S.variables × ℕ)) → r ≤ D → Each (key_compare S.variables) IsEntry es
        → AreWritten names (S.modulus - 1) D j (filter (λ t. eqb t.0.y j && eqb (degree S t.0) r) es)
    written_kept j r [] low each = tt
    written_kept j r (t ∷ es) low each =
        let later = written_kept j r es low each.1 in
        elim (eqb t.0.y j) as
        (λ a. eqb t.0.y j ≡ a → AreWritten names (S.modulus - 1) D j (cond (a && eqb (degree S t.0) r)
        (t ∷ filter (λ t. eqb t.0.y j && eqb (degree S t.0) r) es)
        (filter (λ t. eqb t.0.y j && eqb (degree S t.0) r) es))) [
          | true ↦ λ y. elim (eqb (degree S t.0) r) as
              (λ b. eqb (degree S t.0) r ≡ b → AreWritten names (S.modulus - 1) D j (cond b
              (t ∷ filter (λ t. eqb t.0.y j && eqb (degree S t.0) r) es)
              (filter (λ t. eqb t.0.y j && eqb (degree S t.0) r) es))) [
                | true ↦ λ d. (
                  record {
                    some = each.0.0;
                    within = less t.1 S.modulus each.0.1;
                    low = low_powers S.variables D S.weights t.0.powers S.positive
                        (small (degree S t.0) (eqb-true (degree S t.0) r d));
                    is_named = each.0.2;
                    y = eqb-true t.0.y j y;
                  },
                  later,
                )
                | false ↦ λ d. later
              ] refl
          | false ↦ λ y. later
        ] refl
      where
        less : (a b : ℕ) → a < b → a ≤ b - 1
        less a b h = omega arith

        small : (d : ℕ) → d ≡ r → d ≤ D
        small d e = omega arith

    written_more : (j : ℕ) (es fs : List (Key S.variables × ℕ)) → AreWritten names (S.modulus - 1) D j es
        → AreWritten names (S.modulus - 1) D j fs → AreWritten names (S.modulus - 1) D j (es ++ fs)
    written_more j [] fs a b = b
    written_more j (e ∷ es) fs a b = (a.0, written_more j es fs a.1 b)

    written_to : (j d : ℕ) → d ≤ D → AreWritten names (S.modulus - 1) D j (printed_terms S p j d)
    written_to j zero low = written_kept j 0 (entries p.map) low each_entry
    written_to j (suc d) low =
        written_more j (printed_terms S p j d) (terms_of_degree S p j (suc d)) (written_to j d (omega arith))
        (written_kept j (suc d) (entries p.map) low each_entry)

    pub printed_written : (j : ℕ) → AreWritten names (S.modulus - 1) D j (printed_terms S p j D)
    printed_written j = written_to j D (omega arith)
