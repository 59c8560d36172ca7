-- Two leads and two lists of factors have one first difference, or none.
use Rattle.std.proofs.Common.{◌≡◌, ℕ, suc, ◌⊎◌, inl, inr, List, [], ◌∷◌, ◌++◌}
use Rattle.std.proofs.Common.{Option, Some, None, length, get_or, drop, refl, sym, ◌∙◌, ap, subst, arith}
use Rattle.std.specs.Prelude.{IfSome, is_some}
use Rattle.std.proofs.lemmas.Bool.{cases_order}
use Rattle.std.proofs.lemmas.Option.{same_Some}
use Rattle.ps_model.specs.Bounds.{ExactlyOne, HasNoPowerAbove}
use Rattle.ps_model.specs.SeriesRing.{SeriesRing, ring, Poly}
use Rattle.ps_model.specs.Slices.{slice_at}
use Rattle.comparison.specs.Differences.{IsFirstIn, LeadsDiffer, FactorsDiffer, IsFirstDifference}
use Rattle.comparison.specs.declared.place.Place.{Place}
use Rattle.comparison.specs.declared.place.Place.TheVariants.{Lead, Factor}
use Rattle.comparison.proofs.PlacesDecided.{slices_decided, degrees_decided}

module _ (S : SeriesRing) where
  -- what differs isn't equal
  pub apart : (p q : Poly S) (j r : ℕ) → IsFirstIn S p q j r → p ≡ q → ⊥
  apart p q j r first same = first.differs (ap (slice_at (ring S) r j) same)

  one_degree : (p q : Poly S) (j r s : ℕ) → IsFirstIn S p q j r → IsFirstIn S p q j s → r ≡ s
  one_degree p q j r s a b = elim (cases_order r s) [
    | inl e ↦ e
    | inr d ↦ elim d [
      | inl lt ↦ absurd (a.differs (b.lower r lt))
      | inr gt ↦ absurd (b.differs (a.lower s gt))
    ]
  ]

  one_slice : (p q : Poly S) (j r h s : ℕ) → IsFirstIn S p q j r → IsFirstIn S p q h s → (j ≡ h) × (r ≡ s)
  one_slice p q j r h s a b = elim (cases_order j h) [
    | inl e ↦ (e, one_degree p q h r s (subst (λ n. IsFirstIn S p q n r) e a) b)
    | inr d ↦ elim d [
      | inl lt ↦ absurd (b.differs (a.higher h s lt))
      | inr gt ↦ absurd (a.differs (b.higher j r gt))
    ]
  ]

  -- the first items that differ
  head_is : (f g : Poly S) (fs gs : List (Poly S)) → f ∷ fs ≡ g ∷ gs → f ≡ g
  head_is f g fs gs is = ap (λ l. get_or l 0 f) is

  tail_is : (f g : Poly S) (fs gs : List (Poly S)) → f ∷ fs ≡ g ∷ gs → fs ≡ gs
  tail_is f g fs gs is = ap (drop 1) is

  one_place : (before other : List (Poly S)) (f g f' g' : Poly S) (fs gs fs' gs' : List (Poly S))
      → before ++ f ∷ fs ≡ other ++ f' ∷ fs' → before ++ g ∷ gs ≡ other ++ g' ∷ gs'
      → (f ≡ g → ⊥) → (f' ≡ g' → ⊥) → (length before ≡ length other) × (f ≡ f') × (g ≡ g')
  one_place [] [] f g f' g' fs gs fs' gs' a b n m = (refl, head_is f f' fs fs' a, head_is g g' gs gs' b)
  one_place [] (x ∷ other) f g f' g' fs gs fs' gs' a b n m =
      absurd (n (head_is f x fs (other ++ f' ∷ fs') a ∙ sym (head_is g x gs (other ++ g' ∷ gs') b)))
  one_place (x ∷ before) [] f g f' g' fs gs fs' gs' a b n m =
      absurd (m (sym (head_is x f' (before ++ f ∷ fs) fs' a) ∙ head_is x g' (before ++ g ∷ gs) gs' b))
  one_place (x ∷ before) (z ∷ other) f g f' g' fs gs fs' gs' a b n m =
      let later = one_place before other f g f' g' fs gs fs' gs'
      (tail_is x z (before ++ f ∷ fs) (other ++ f' ∷ fs') a)
      (tail_is x z (before ++ g ∷ gs) (other ++ g' ∷ gs') b) n m in
      (ap suc later.0, later.1, later.2)

  one_factor : (fs gs : List (Poly S)) (i j r i' j' r' : ℕ) → FactorsDiffer S fs gs i j r
      → FactorsDiffer S fs gs i' j' r' → (i ≡ i') × (j ≡ j') × (r ≡ r')
  one_factor fs gs i j r i' j' r' a b =
      let place = one_place a.before b.before a.f a.g b.f b.g a.fs' a.gs' b.fs' b.gs'
      (sym a.fs_are ∙ b.fs_are) (sym a.gs_are ∙ b.gs_are) (apart a.f a.g j r a.first) (apart b.f b.g j' r' b.first) in
      let slice = one_slice b.f b.g j r j' r'
      (subst (λ g. IsFirstIn S b.f g j r) place.2 (subst (λ f. IsFirstIn S f a.g j r) place.1 a.first)) b.first in
      (a.number_is ∙ ap suc place.0 ∙ sym b.number_is, slice.0, slice.1)

  -- equal lists have no first difference
  none_first : (before : List (Poly S)) (f g : Poly S) (fs gs : List (Poly S)) → before ++ f ∷ fs ≡ before ++ g ∷ gs
      → f ≡ g
  none_first [] f g fs gs is = head_is f g fs gs is
  none_first (x ∷ before) f g fs gs is =
      none_first before f g fs gs (tail_is x x (before ++ f ∷ fs) (before ++ g ∷ gs) is)

  factors_apart : (fs gs : List (Poly S)) (i j r : ℕ) → FactorsDiffer S fs gs i j r → fs ≡ gs → ⊥
  factors_apart fs gs i j r d same = apart d.f d.g j r d.first
      (none_first d.before d.f d.g d.fs' d.gs' (sym d.fs_are ∙ same ∙ d.gs_are))

  leads_apart : (l k : Option (Poly S)) (r : ℕ) → LeadsDiffer S l k r → l ≡ k → ⊥
  leads_apart None k r d same = absurd d
  leads_apart (Some l) None r d same = absurd d
  leads_apart (Some l) (Some k) r d same = apart l k 0 r d (same_Some l k same)

  one_lead : (l k : Option (Poly S)) (r s : ℕ) → LeadsDiffer S l k r → LeadsDiffer S l k s → r ≡ s
  one_lead None k r s a b = absurd a
  one_lead (Some l) None r s a b = absurd a
  one_lead (Some l) (Some k) r s a b = one_degree l k 0 r s a b

  factors_decided : (fs gs : List (Poly S)) → length fs ≡ length gs
      → (fs ≡ gs) ⊎ ((i : ℕ) × (j : ℕ) × (r : ℕ) × FactorsDiffer S fs gs i j r)
  factors_decided [] [] many = inl refl
  factors_decided [] (g ∷ gs) many = absurd (omega arith)
  factors_decided (f ∷ fs) [] many = absurd (omega arith)
  factors_decided (f ∷ fs) (g ∷ gs) many = elim (slices_decided S f g) [
    | inr here ↦ inr (
      1,
      here.0,
      here.1,
      record {
        before = [];
        f = f;
        g = g;
        fs' = fs;
        gs' = gs;
        fs_are = refl;
        gs_are = refl;
        number_is = refl;
        first = here.2;
      },
    )
    | inl same ↦ elim (factors_decided fs gs (omega arith)) [
      | inl later ↦ inl (λ i. same i ∷ later i)
      | inr later ↦
          let d = later.3 in
          inr (
            suc later.0,
            later.1,
            later.2,
            record {
              before = f ∷ d.before;
              f = d.f;
              g = d.g;
              fs' = d.fs';
              gs' = d.gs';
              fs_are = λ i. f ∷ d.fs_are i;
              gs_are = λ i. sym same i ∷ d.gs_are i;
              number_is = ap suc d.number_is;
              first = d.first;
            },
          )
    ]
  ]

  module _ (l k : Option (Poly S)) (fs gs : List (Poly S)) where
    abbrev Is : Option Place → Type 0
    Is = IsFirstDifference S l fs k gs

    pub one_difference : (x y : Option Place) → Is x → Is y → x ≡ y
    one_difference None None a b = refl
    one_difference None (Some (Lead r)) a b = absurd (leads_apart l k r b a.0)
    one_difference None (Some (Factor i j r)) a b = absurd (factors_apart fs gs i j r b.1 a.1)
    one_difference (Some (Lead r)) None a b = absurd (leads_apart l k r a b.0)
    one_difference (Some (Lead r)) (Some (Lead s)) a b = ap (λ n. Some (Lead n)) (one_lead l k r s a b)
    one_difference (Some (Lead r)) (Some (Factor i j s)) a b = absurd (leads_apart l k r a b.0)
    one_difference (Some (Factor i j r)) None a b = absurd (factors_apart fs gs i j r a.1 b.1)
    one_difference (Some (Factor i j r)) (Some (Lead s)) a b = absurd (leads_apart l k s b a.0)
    one_difference (Some (Factor i j r)) (Some (Factor i' j' r')) a b =
        let one = one_factor fs gs i j r i' j' r' a.1 b.1 in
        λ n. Some (Factor (one.0 n) (one.1 n) (one.2 n))

    difference_of_factors : l ≡ k → length fs ≡ length gs → (x : Option Place) × Is x
    difference_of_factors same many = elim (factors_decided fs gs many) [
      | inl factors ↦ (None, (same, factors))
      | inr d ↦ (Some (Factor d.0 d.1 d.2), (same, d.3))
    ]

  leads_decided : (l k : Option (Poly S)) → is_some l ≡ is_some k → IfSome l (HasNoPowerAbove 0)
      → IfSome k (HasNoPowerAbove 0) → (l ≡ k) ⊎ ((r : ℕ) × LeadsDiffer S l k r)
  leads_decided None None shown hl hk = inl refl
  leads_decided None (Some k) shown hl hk = absurd (cc)
  leads_decided (Some l) None shown hl hk = absurd (cc)
  leads_decided (Some l) (Some k) shown hl hk = elim (degrees_decided S l k hl hk) [
    | inl same ↦ inl (ap Some same)
    | inr d ↦ inr d
  ]

  pub exactly_one : (l k : Option (Poly S)) (fs gs : List (Poly S)) → is_some l ≡ is_some k
      → IfSome l (HasNoPowerAbove 0) → IfSome k (HasNoPowerAbove 0) → length fs ≡ length gs
      → ExactlyOne (IsFirstDifference S l fs k gs)
  exactly_one l k fs gs shown hl hk many =
      let found : (x : Option Place) × IsFirstDifference S l fs k gs x =
      elim (leads_decided l k shown hl hk) [
        | inl same ↦ difference_of_factors l k fs gs same many
        | inr d ↦ (Some (Lead d.0), d.1)
      ] in
      record {
        one_value = found.0;
        meets = found.1;
        only = λ x is. one_difference l k fs gs x found.0 is found.1;
      }
