-- The terms of a part in rows: what a term more that is put, or cleared, changes.
use Rattle.std.proofs.Common.{◌≡◌, ℕ, ◌+◌, ◌*◌, ◌<◌, T, ◌⊎◌, inl, inr, List, [], ◌∷◌, length, get_or, take, map, All}
use Rattle.std.proofs.Common.{sym, ◌∙◌, ap, subst, length-take, arith}
use Rattle.std.specs.Cmp.{tied_itself}
use Rattle.std.specs.FinMap.{is_sorted}
use Rattle.std.specs.declared.cmp.Ordering.TheVariants.{Less, Equal}
use Rattle.std.proofs.Math.ListN.{get_or-eq_default}
use Rattle.std.proofs.lemmas.Bool.{cases_eq, cases_lt}
use Rattle.std.proofs.lemmas.List.{get_or_default, get_or-take, take_more}
use Rattle.std.proofs.lemmas.List.Elements.{All-map}
use Rattle.ps_model.specs.Keys.{Key, key_compare}
use Rattle.ps_model.specs.KeyLaws.{key_compare_total}
use Rattle.ps_model.specs.Sums.{total}
use Rattle.ps_model.proofs.Totals.{total-append}
use Rattle.parts.specs.SeriesRows.{entry, pair_key, indicator, HasPlace, Puts, row_of_term, place_of_term, IsPairTerm}
use Rattle.parts.specs.Terms.{key_of, entry_of}
use Rattle.parts.specs.declared.terms.Term.{Term}
use Rattle.parts.proofs.Finished.{entries_push}
use Rattle.parts.proofs.Found.{key_at_place, in_order_at}
use Rattle.parts.proofs.Indicators.{indicator-same, indicator-other, first_power, second_power, total-none}

indicator-before : (k y : Key 8) → key_compare 8 y k ≡ Less → indicator k y ≡ 0
indicator-before k y lt = indicator-other k y (λ e. clash (subst (λ (z : Key 8). key_compare 8 y z ≡ Less) e lt))
  where
    clash : key_compare 8 y y ≡ Less → ⊥
    clash h = let t : key_compare 8 y y ≡ Equal = tied_itself (key_compare_total 8) y in cc

module _ (ts : List Term) (i : ℕ) (d : Term) (inside : i < length ts) where
  -- no earlier term has the key
  pub earlier_none : T (is_sorted (key_compare 8) (map entry_of ts)) →
      total (indicator (key_at_place ts i d)) (map entry_of (take i ts)) ≡ 0
  earlier_none sorted = total-none (indicator (key_at_place ts i d)) (map entry_of (take i ts))
      (All-map (λ (e : Key 8 × ℕ). indicator (key_at_place ts i d) e.0 ≡ 0) entry_of (take i ts) each)
    where
      each : All (λ t. indicator (key_at_place ts i d) (entry_of t).0 ≡ 0) (take i ts)
      each j x lt =
          let before : j < i = omega (arith, length-take i ts) in
          subst (λ (t : Term). indicator (key_at_place ts i d) (key_of t.monomial) ≡ 0)
          (sym (get_or-take i ts j x before ∙ get_or_default ts j x d (omega arith)))
          (indicator-before (key_at_place ts i d) (key_at_place ts j d) (in_order_at ts j i d sorted before inside))

  pub total-more : (g : Key 8 → ℕ) → total g (map entry_of (take (i + 1) ts)) ≡
      total g (map entry_of (take i ts)) + (get_or ts i d).coefficient * g (key_at_place ts i d)
  total-more g = ap (λ l. total g (map entry_of l)) (take_more ts i d inside) ∙
      ap (total g) (entries_push (take i ts) (get_or ts i d)) ∙
      total-append g (map entry_of (take i ts)) (entry_of (get_or ts i d) ∷ []) ∙ omega arith

-- the places of a term's key
module _ (t : Term) (pair : IsPairTerm t) where
  pub at_own : (f p : ℕ) → f ≡ row_of_term t → p ≡ place_of_term t → indicator (pair_key p f) (key_of t.monomial) ≡ 1
  at_own f p e s = indicator-same _ _ ((λ i. pair_key (s i) (e i)) ∙ sym pair)

  pub at_others : (f p : ℕ) → ((f ≡ row_of_term t) × (p ≡ place_of_term t) → ⊥) →
      indicator (pair_key p f) (key_of t.monomial) ≡ 0
  at_others f p ne = indicator-other _ _ (λ e. ne (
    second_power p f (place_of_term t) (row_of_term t) (e ∙ pair),
    first_power p f (place_of_term t) (row_of_term t) (e ∙ pair),
  ))

-- own place or another
pub own_or_other : (f p g q : ℕ) → ((f ≡ g) × (p ≡ q)) ⊎ ((f ≡ g) × (p ≡ q) → ⊥)
own_or_other f p g q = elim (cases_eq f g) [
  | inl e ↦ elim (cases_eq p q) [
    | inl s ↦ inl (e, s)
    | inr ne ↦ inr (λ both. ne both.1)
  ]
  | inr ne ↦ inr (λ both. ne both.0)
]

-- in the loops: what stands at (f, p) before and after a term's number was put
module _ (ts : List Term) (i : ℕ) (d : Term) (inside : i < length ts)
    (sorted : T (is_sorted (key_compare 8) (map entry_of ts))) (pair : IsPairTerm (get_or ts i d)) where
  abbrev pub this : Term
  this = get_or ts i d

  none_before : (f p : ℕ) → f ≡ row_of_term this → p ≡ place_of_term this →
      total (indicator (pair_key p f)) (map entry_of (take i ts)) ≡ 0
  none_before f p e s = subst (λ (k : Key 8). total (indicator k) (map entry_of (take i ts)) ≡ 0)
      (pair ∙ (λ l. pair_key (sym s l) (sym e l))) (earlier_none ts i d inside sorted)

  -- a coefficient is put where 0 stood
  pub put_step : (old now new : List (List ℕ)) → entry old (row_of_term this) (place_of_term this) ≡ 0 →
      Puts (row_of_term this) (place_of_term this) this.coefficient now new →
      ((f p : ℕ) → entry now f p ≡ entry old f p + total (indicator (pair_key p f)) (map entry_of (take i ts))) →
      (f p : ℕ) → entry new f p ≡ entry old f p + total (indicator (pair_key p f)) (map entry_of (take (i + 1) ts))
  put_step old now new empty puts so_far f p =
      elim (own_or_other f p (row_of_term this) (place_of_term this)) [
        | inl own ↦
            let one = at_own this pair f p own.0 own.1 in
            let before = none_before f p own.0 own.1 in
            let more = total-more ts i d inside (indicator (pair_key p f)) in
            let times : this.coefficient * indicator (pair_key p f) (key_of this.monomial) ≡ this.coefficient =
            rw one (omega arith) in
            let had : entry old f p ≡ 0 = (λ l. entry old (own.0 l) (own.1 l)) ∙ empty in
            let has : entry new f p ≡ this.coefficient = (λ l. entry new (own.0 l) (own.1 l)) ∙ puts.here in
            omega (arith, more, before, times, had, has)
        | inr ne ↦
            let none = at_others this pair f p ne in
            let more = total-more ts i d inside (indicator (pair_key p f)) in
            let times : this.coefficient * indicator (pair_key p f) (key_of this.monomial) ≡ 0 =
            rw none (omega arith) in
            omega (arith, more, times, puts.others f p ne, so_far f p)
      ]

  -- 0 is put where the coefficient stood
  pub clear_step : (old now new : List (List ℕ)) →
      entry old (row_of_term this) (place_of_term this) ≡ this.coefficient →
      Puts (row_of_term this) (place_of_term this) 0 now new →
      ((f p : ℕ) → entry old f p ≡ entry now f p + total (indicator (pair_key p f)) (map entry_of (take i ts))) →
      (f p : ℕ) → entry old f p ≡ entry new f p + total (indicator (pair_key p f)) (map entry_of (take (i + 1) ts))
  clear_step old now new held puts so_far f p =
      elim (own_or_other f p (row_of_term this) (place_of_term this)) [
        | inl own ↦
            let one = at_own this pair f p own.0 own.1 in
            let before = none_before f p own.0 own.1 in
            let more = total-more ts i d inside (indicator (pair_key p f)) in
            let times : this.coefficient * indicator (pair_key p f) (key_of this.monomial) ≡ this.coefficient =
            rw one (omega arith) in
            let had : entry old f p ≡ this.coefficient = (λ l. entry old (own.0 l) (own.1 l)) ∙ held in
            let has : entry new f p ≡ 0 = (λ l. entry new (own.0 l) (own.1 l)) ∙ puts.here in
            omega (arith, more, before, times, had, has)
        | inr ne ↦
            let none = at_others this pair f p ne in
            let more = total-more ts i d inside (indicator (pair_key p f)) in
            let times : this.coefficient * indicator (pair_key p f) (key_of this.monomial) ≡ 0 =
            rw none (omega arith) in
            omega (arith, more, times, puts.others f p ne, so_far f p)
      ]

-- what stays below a bound
pub put_low : (m f p c : ℕ) (now new : List (List ℕ)) → Puts f p c now new → c < m →
    ((i j : ℕ) → entry now i j < m) → (i j : ℕ) → entry new i j < m
put_low m f p c now new puts lt low i j = elim (own_or_other i j f p) [
  | inl own ↦ subst (λ n. n < m) (sym ((λ l. entry new (own.0 l) (own.1 l)) ∙ puts.here)) lt
  | inr ne ↦ subst (λ n. n < m) (sym (puts.others i j ne)) (low i j)
]

-- where a number other than 0 stands there is a place
pub held_place : (rows : List (List ℕ)) (f p : ℕ) → 0 < entry rows f p → HasPlace rows f p
held_place rows f p some = elim (cases_lt f (length rows)) [
  | inl row ↦ elim (cases_lt p (length (get_or rows f []))) [
    | inl place ↦ (row, place)
    | inr past ↦ absurd (let none : entry rows f p ≡ 0 = get_or-eq_default (get_or rows f []) 0 past in omega arith)
  ]
  | inr past ↦ absurd (let none : entry rows f p ≡ 0 =
      ap (λ (row : List ℕ). get_or row p 0) (get_or-eq_default rows [] past) in omega arith)
]
