-- Leading numbers, read at a first summand or factor and the later ones.
use Rattle.std.proofs.Common.{◌≡◌, ℕ, ◌+◌, ◌-◌, ◌*◌, ◌%◌, ◌^◌, ◌<◌, ◌≤◌, ◌↔◌, ◌⊎◌, inl, inr, Bool, true, false}
use Rattle.std.proofs.Common.{max, List, [], ◌∷◌, Option, Some, None, length, get_or, drop}
use Rattle.std.proofs.Common.{refl, sym, ◌∙◌, ap, subst, arith}
use Rattle.std.specs.Prelude.{if◌then◌else◌, ◌==◌, MatchBool}
use Rattle.std.proofs.Math.ListN.{drop_of_length-le}
use Rattle.std.proofs.Math.Nat.{mod-add-mod}
use Rattle.std.proofs.lemmas.Bool.{eqb-true, eqb-false}
use Rattle.ps_model.specs.declared.expr.Expr.{Expr, Number, Name, MainVariable, Sum, Product, Power}
use Rattle.ps_model.specs.declared.expr.Summand.{Summand}
use Rattle.ps_model.specs.declared.expr.Factor.{Factor}
use Rattle.ps_model.specs.declared.expr.Expr.TheBlock.{hidden-the_row-Summand-0, shape-the_row-Summand-0}
use Rattle.ps_model.specs.declared.expr.Expr.TheBlock.{hidden-the_row-Factor-1, shape-the_row-Factor-1}
use Rattle.ps_model.specs.declared.expr.Expr.TheBlock.{hidden-the_row-Expr-2}
use Rattle.ps_model.specs.Job.{series_ring}
use Rattle.ps_model.specs.SeriesRing.{SeriesRing}
use Rattle.ps_model.specs.Tree.{formal_degree}
use Rattle.ps_model.specs.Value.{HasLead, HasSumLead, HasInverseShare}
use Rattle.ps_model.proofs.TreeLists.{formal_degree-Power}
use Rattle.intake.specs.Leading.{IsLeading}
use Rattle.intake.proofs.RootProducts.{modulus_is}
use Rattle.intake.proofs.TreePasses.{left_here}
use denote.Hole.Carrier.{hidden}

match_cases : {P Q X : Type 0} (b : Bool) → (b ≡ true → P → X) → (b ≡ false → Q → X) → MatchBool b P Q → X
match_cases true f g h = f refl h
match_cases false f g h = g refl h

match_built : {P Q : Type 0} (b : Bool) → (b ≡ true → P) → (b ≡ false → Q) → MatchBool b P Q
match_built true f g = f refl
match_built false f g = g refl

pub same_some : (a b : ℕ) → Some a ≡ Some b → a ≡ b
same_some a b e = cc

pub none_some : (a : ℕ) → None ≡ Some a → ⊥
none_some a e = cc

-- the item before a place, and the later ones
left_before : {A : Type 0} (xs : List A) (i : ℕ) (x : A) → 0 < i → i ≤ length xs → x ≡ get_or xs (i - 1) x
    → drop (i - 1) xs ≡ x ∷ drop i xs
left_before xs i x some le is = left_here xs (i - 1) x (omega arith) is ∙ ap (λ n. x ∷ drop n xs) (back i some)
  where
    back : (i : ℕ) → 0 < i → i - 1 + 1 ≡ i
    back i some = omega arith

at_zero : (i : ℕ) → i ≤ 0 → i ≡ 0
at_zero i le = omega arith

module _ (S : SeriesRing) where
  -- the sum over the summands of degree d
  abbrev pub SumLead : ℕ → List Summand → ℕ → Type 0
  SumLead d ss l = HasSumLead S d (hidden-the_row-Summand-0 ss) l

  -- no summand is of a degree above theirs
  none_counts : (ss : List Summand) (d l : ℕ) → formal_degree (Sum ss) < d → SumLead d ss l → l ≡ 0
  unfolding hidden-the_row-Summand-0 shape-the_row-Summand-0 hidden
  none_counts [] d l lt h = h
  none_counts (s ∷ ss) d l lt h = match_cases (formal_degree s.of == d)
      (λ e parts. absurd (let same : formal_degree s.of ≡ d = eqb-true _ _ e in omega arith))
      (λ e later. none_counts ss d l (omega arith) later) h

  counts_none : (ss : List Summand) (d l : ℕ) → formal_degree (Sum ss) < d → l ≡ 0 → SumLead d ss l
  unfolding hidden-the_row-Summand-0 shape-the_row-Summand-0 hidden
  counts_none [] d l lt is = is
  counts_none (s ∷ ss) d l lt is = match_built (formal_degree s.of == d)
      (λ e. absurd (let same : formal_degree s.of ≡ d = eqb-true _ _ e in omega arith))
      (λ e. counts_none ss d l (omega arith) is)

  -- a first summand of smaller degree, and one that counts
  pub lead-skips : (s : Summand) (ss : List Summand) (l : ℕ) → formal_degree s.of < formal_degree (Sum ss)
      → HasLead S (Sum (s ∷ ss)) l ↔ HasLead S (Sum ss) l
  unfolding hidden-the_row-Summand-0 shape-the_row-Summand-0 hidden
  lead-skips s ss l lt =
      let same : max (formal_degree s.of) (formal_degree (Sum ss)) ≡ formal_degree (Sum ss) = omega arith in (
        match_cases (formal_degree s.of == max (formal_degree s.of) (formal_degree (Sum ss)))
            (λ e parts. absurd (let is : formal_degree s.of ≡ max (formal_degree s.of) (formal_degree (Sum ss))
            = eqb-true _ _ e in omega arith))
            (λ e later. subst (λ d. SumLead d ss l) same later),
        λ h. match_built (formal_degree s.of == max (formal_degree s.of) (formal_degree (Sum ss)))
            (λ e. absurd (let is : formal_degree s.of ≡ max (formal_degree s.of) (formal_degree (Sum ss))
            = eqb-true _ _ e in omega arith))
            (λ e. subst (λ d. SumLead d ss l) (sym same) h),
      )

  abbrev pub CountsFirst : Summand → List Summand → ℕ → Type 0
  CountsFirst s ss l =
      (a : ℕ) × (others : ℕ) × HasLead S s.of a × SumLead (formal_degree s.of) ss others
      × (l ≡ ((if s.minus then S.modulus - a else a) + others) % S.modulus)

  pub lead-counts : (s : Summand) (ss : List Summand) (l : ℕ) → formal_degree (Sum ss) ≤ formal_degree s.of
      → HasLead S (Sum (s ∷ ss)) l ↔ CountsFirst s ss l
  unfolding hidden-the_row-Summand-0 shape-the_row-Summand-0 hidden
  lead-counts s ss l le =
      let same : max (formal_degree s.of) (formal_degree (Sum ss)) ≡ formal_degree s.of = omega arith in (
        match_cases (formal_degree s.of == max (formal_degree s.of) (formal_degree (Sum ss)))
            (λ e parts. (parts.0, parts.1, parts.2, subst (λ d. SumLead d ss parts.1) same parts.3, parts.4))
            (λ e later. absurd (eqb-false _ _ e (sym same))),
        λ h. match_built (formal_degree s.of == max (formal_degree s.of) (formal_degree (Sum ss)))
            (λ e. (h.0, h.1, h.2, subst (λ d. SumLead d ss h.1) (sym same) h.3, h.4))
            (λ e. absurd (eqb-false _ _ e (sym same))),
      )

  -- what a first factor adds
  abbrev pub HasShare : Factor → ℕ → Type 0
  HasShare f l = MatchBool f.divide (HasInverseShare S f.of l) (HasLead S f.of l)

  pub lead-Product_more : (f : Factor) (fs : List Factor) (l : ℕ) → HasLead S (Product (f ∷ fs)) l
      ↔ ((a : ℕ) × (others : ℕ) × HasShare f a × HasLead S (Product fs) others × (l ≡ (a * others) % S.modulus))
  unfolding hidden-the_row-Factor-1 shape-the_row-Factor-1 hidden
  lead-Product_more f fs l = (λ h. h, λ h. h)

  pub lead-Product_none : (l : ℕ) → HasLead S (Product []) l ↔ (l ≡ 1)
  unfolding hidden-the_row-Factor-1 shape-the_row-Factor-1 hidden
  lead-Product_none l = (λ h. h, λ h. h)

  pub lead-Sum_none : (l : ℕ) → HasLead S (Sum []) l ↔ (l ≡ 0)
  unfolding hidden-the_row-Summand-0 shape-the_row-Summand-0 hidden
  lead-Sum_none l = (λ h. h, λ h. h)

  pub lead-Power : (b : Expr) (e l : ℕ) → HasLead S (Power b e) l
      ↔ (((e ≡ 0) × (l ≡ 1)) ⊎ ((0 < e) × (a : ℕ) × HasLead S b a × (l ≡ (a ^ e) % S.modulus)))
  unfolding hidden-the_row-Expr-2 hidden
  lead-Power b e l = (λ h. h, λ h. h)

pub degree-Sum_none : formal_degree (Sum []) ≡ 0
unfolding hidden-the_row-Summand-0 shape-the_row-Summand-0 hidden
degree-Sum_none = refl

pub degree-Sum_more : (s : Summand) (ss : List Summand)
    → formal_degree (Sum (s ∷ ss)) ≡ max (formal_degree s.of) (formal_degree (Sum ss))
unfolding hidden-the_row-Summand-0 shape-the_row-Summand-0 hidden
degree-Sum_more s ss = refl

pub degree-Product_none : formal_degree (Product []) ≡ 0
unfolding hidden-the_row-Factor-1 shape-the_row-Factor-1 hidden
degree-Product_none = refl

pub degree-Product_more : (f : Factor) (fs : List Factor)
    → formal_degree (Product (f ∷ fs)) ≡ (if f.divide then 0 else formal_degree f.of) + formal_degree (Product fs)
unfolding hidden-the_row-Factor-1 shape-the_row-Factor-1 hidden
degree-Product_more f fs = refl

module _ (m : ℕ) (two : 2 ≤ m) where
  -- leading numbers of the plain trees
  pub leading-Number : (c v : ℕ) → v ≡ c % m → IsLeading m (Number c) 0 (Some v)
  leading-Number c v is = record {
    degree_is = refl;
    number_is = λ ws l. (
      λ e. sym (same_some v l e) ∙ is ∙ ap (λ k. c % k) (sym (modulus_is m ws two)),
      λ h. ap Some (is ∙ ap (λ k. c % k) (sym (modulus_is m ws two)) ∙ sym h),
    );
  }

  pub leading-Name : (i : ℕ) → IsLeading m (Name i) 0 None
  leading-Name i = record { degree_is = refl; number_is = λ ws l. (none_some l, λ h. absurd h) }

  pub leading-MainVariable : IsLeading m MainVariable 1 (Some 1)
  leading-MainVariable = record {
    degree_is = refl;
    number_is = λ ws l. (λ e. sym (same_some 1 l e), λ h. ap Some (sym h));
  }

  pub leading-Sum_none : IsLeading m (Sum []) 0 (Some 0)
  leading-Sum_none = record {
    degree_is = sym degree-Sum_none;
    number_is = λ ws l. (
      λ e. (lead-Sum_none (series_ring m ws) l).1 (sym (same_some 0 l e)),
      λ h. ap Some (sym ((lead-Sum_none (series_ring m ws) l).0 h)),
    );
  }

  pub leading-Product_none : IsLeading m (Product []) 0 (Some 1)
  leading-Product_none = record {
    degree_is = sym degree-Product_none;
    number_is = λ ws l. (
      λ e. (lead-Product_none (series_ring m ws) l).1 (sym (same_some 1 l e)),
      λ h. ap Some (sym ((lead-Product_none (series_ring m ws) l).0 h)),
    );
  }

  pub leading-Power_none : (b : Expr) (e : ℕ) → e ≡ 0 → IsLeading m (Power b e) 0 (Some 1)
  leading-Power_none b e zero_is = record {
    degree_is = sym (formal_degree-Power b e ∙ ap (λ n. n * formal_degree b) zero_is ∙ no_times (formal_degree b));
    number_is = λ ws l. (
      λ is. (lead-Power (series_ring m ws) b e l).1 (inl (zero_is, sym (same_some 1 l is))),
      λ h. elim ((lead-Power (series_ring m ws) b e l).0 h) [
        | inl one ↦ ap Some (sym one.1)
        | inr some ↦ absurd (let lt = some.0 in omega arith)
      ],
    );
  }
    where
      no_times : (n : ℕ) → 0 * n ≡ 0
      no_times n = omega arith

  pub leading-Power : (b : Expr) (e d n v : ℕ) → 0 < e → IsLeading m b d (Some n) → v ≡ (n ^ e) % m
      → IsLeading m (Power b e) (e * d) (Some v)
  leading-Power b e d n v some h is = record {
    degree_is = ap (λ k. e * k) h.degree_is ∙ sym (formal_degree-Power b e);
    number_is = λ ws l. (
      λ same. (lead-Power (series_ring m ws) b e l).1 (inr (
        some,
        n,
        (h.number_is ws n).0 refl,
        sym (same_some v l same) ∙ is ∙ ap (λ k. (n ^ e) % k) (sym (modulus_is m ws two)),
      )),
      λ lead. elim ((lead-Power (series_ring m ws) b e l).0 lead) [
        | inl one ↦ absurd (let none = one.0 in omega arith)
        | inr parts ↦ ap Some (is ∙ ap (λ k. (n ^ e) % k) (sym (modulus_is m ws two))
            ∙ ap (λ a. (a ^ e) % (series_ring m ws).modulus)
            (same_some n parts.1 ((h.number_is ws parts.1).1 parts.2)) ∙ sym parts.3)
      ],
    );
  }

  pub leading-Power_unknown : (b : Expr) (e d : ℕ) → 0 < e → IsLeading m b d None
      → IsLeading m (Power b e) (e * d) None
  leading-Power_unknown b e d some h = record {
    degree_is = ap (λ k. e * k) h.degree_is ∙ sym (formal_degree-Power b e);
    number_is = λ ws l. (
      λ same. absurd (none_some l same),
      λ lead. elim ((lead-Power (series_ring m ws) b e l).0 lead) [
        | inl one ↦ absurd (let none = one.0 in omega arith)
        | inr parts ↦ absurd (none_some parts.1 ((h.number_is ws parts.1).1 parts.2))
      ],
    );
  }

  module _ (s : Summand) (rest : List Summand) (a b : ℕ) where
    -- the first summand is of smaller degree
    pub summand-skipped : (x y : Option ℕ) → IsLeading m s.of a x → IsLeading m (Sum rest) b y → a < b
        → IsLeading m (Sum (s ∷ rest)) b y
    summand-skipped x y h k lt =
        let p = h.degree_is in
        let q = k.degree_is in
        let below : formal_degree s.of < formal_degree (Sum rest) = omega arith in
        record {
          degree_is = (let e = degree-Sum_more s rest in omega arith);
          number_is = λ ws l. (
            λ e. (lead-skips (series_ring m ws) s rest l below).1 ((k.number_is ws l).0 e),
            λ lead. (k.number_is ws l).1 ((lead-skips (series_ring m ws) s rest l below).0 lead),
          );
        }

    module _ (y : Option ℕ) (k : IsLeading m (Sum rest) b y) (le : b ≤ a) where
      above : formal_degree s.of ≡ a → formal_degree (Sum rest) ≤ formal_degree s.of
      above e = let q = k.degree_is in omega arith

      first_degree : a ≡ formal_degree s.of → a ≡ formal_degree (Sum (s ∷ rest))
      first_degree e = let q = k.degree_is in let more = degree-Sum_more s rest in omega arith

      -- it counts, and isn't known
      pub summand-unknown : IsLeading m s.of a None → IsLeading m (Sum (s ∷ rest)) a None
      summand-unknown h = record {
        degree_is = first_degree h.degree_is;
        number_is = λ ws l. (
          λ e. absurd (none_some l e),
          λ lead. (let parts = (lead-counts (series_ring m ws) s rest l (above (sym h.degree_is))).0 lead in
              absurd (none_some parts.0 ((h.number_is ws parts.0).1 parts.2))),
        );
      }

    -- it counts alone
    pub summand-alone : (y : Option ℕ) (n v : ℕ) → IsLeading m s.of a (Some n) → IsLeading m (Sum rest) b y → b < a
        → v ≡ (if s.minus then m - n else n) % m → IsLeading m (Sum (s ∷ rest)) a (Some v)
    summand-alone y n v h k lt is = record {
      degree_is = first_degree y k (omega arith) h.degree_is;
      number_is = λ ws l. (
        λ e. (lead-counts (series_ring m ws) s rest l (above y k (omega arith) (sym h.degree_is))).1 (
          n,
          0,
          (h.number_is ws n).0 refl,
          counts_none (series_ring m ws) rest (formal_degree s.of) 0 below refl,
          sym (same_some v l e) ∙ here ws,
        ),
        λ lead. (let parts = (lead-counts (series_ring m ws) s rest l
            (above y k (omega arith) (sym h.degree_is))).0 lead in
            ap Some (here ws ∙ (λ i. ((if s.minus then (series_ring m ws).modulus - known ws parts.0 parts.2 i
            else known ws parts.0 parts.2 i)
            + sym (none_counts (series_ring m ws) rest (formal_degree s.of) parts.1 below parts.3) i)
            % (series_ring m ws).modulus) ∙ sym parts.4)),
      );
    }
      where
        below : formal_degree (Sum rest) < formal_degree s.of
        below = let p = h.degree_is in let q = k.degree_is in omega arith

        known : (ws : List ℕ) (x : ℕ) → HasLead (series_ring m ws) s.of x → n ≡ x
        known ws x lead = same_some n x ((h.number_is ws x).1 lead)

        nothing : (x : ℕ) → x ≡ x + 0
        nothing x = omega arith

        here : (ws : List ℕ) → v ≡ ((if s.minus then (series_ring m ws).modulus - n else n) + 0)
            % (series_ring m ws).modulus
        here ws = is ∙ ap (λ x. x % m) (nothing (if s.minus then m - n else n))
            ∙ ap (λ k. ((if s.minus then k - n else n) + 0) % k) (sym (modulus_is m ws two))

    -- it counts with the others
    pub summand-added : (n o v w : ℕ) → IsLeading m s.of a (Some n) → IsLeading m (Sum rest) b (Some o) → a ≡ b
        → v ≡ (if s.minus then m - n else n) % m → w ≡ (v + o) % m → IsLeading m (Sum (s ∷ rest)) a (Some w)
    summand-added n o v w h k same is sum_is = record {
      degree_is = first_degree (Some o) k (omega arith) h.degree_is;
      number_is = λ ws l. (
        λ e. (lead-counts (series_ring m ws) s rest l (above (Some o) k (omega arith) (sym h.degree_is))).1 (
          n,
          o,
          (h.number_is ws n).0 refl,
          subst (λ d. SumLead (series_ring m ws) d rest o) degrees ((k.number_is ws o).0 refl),
          sym (same_some w l e) ∙ here ws,
        ),
        λ lead. (let parts = (lead-counts (series_ring m ws) s rest l
            (above (Some o) k (omega arith) (sym h.degree_is))).0 lead in
            ap Some (here ws ∙ (λ i. ((if s.minus then (series_ring m ws).modulus - known ws parts.0 parts.2 i
            else known ws parts.0 parts.2 i) + others ws parts.1 parts.3 i)
            % (series_ring m ws).modulus) ∙ sym parts.4)),
      );
    }
      where
        degrees : formal_degree (Sum rest) ≡ formal_degree s.of
        degrees = let p = h.degree_is in let q = k.degree_is in omega arith

        known : (ws : List ℕ) (x : ℕ) → HasLead (series_ring m ws) s.of x → n ≡ x
        known ws x lead = same_some n x ((h.number_is ws x).1 lead)

        others : (ws : List ℕ) (x : ℕ) → SumLead (series_ring m ws) (formal_degree s.of) rest x → o ≡ x
        others ws x lead = same_some o x ((k.number_is ws x).1
            (subst (λ d. SumLead (series_ring m ws) d rest x) (sym degrees) lead))

        here : (ws : List ℕ) → w ≡ ((if s.minus then (series_ring m ws).modulus - n else n) + o)
            % (series_ring m ws).modulus
        here ws = sum_is ∙ ap (λ x. (x + o) % m) is ∙ mod-add-mod (if s.minus then m - n else n) m o
            ∙ ap (λ k. ((if s.minus then k - n else n) + o) % k) (sym (modulus_is m ws two))

    -- it counts with others that aren't known
    pub summand-not_added : (x : Option ℕ) → IsLeading m s.of a x → IsLeading m (Sum rest) b None → a ≡ b
        → IsLeading m (Sum (s ∷ rest)) a None
    summand-not_added x h k same = record {
      degree_is = first_degree None k (omega arith) h.degree_is;
      number_is = λ ws l. (
        λ e. absurd (none_some l e),
        λ lead. (let parts = (lead-counts (series_ring m ws) s rest l
            (above None k (omega arith) (sym h.degree_is))).0 lead in
            absurd (none_some parts.1 ((k.number_is ws parts.1).1
            (subst (λ d. SumLead (series_ring m ws) d rest parts.1) (sym degrees) parts.3)))),
      );
    }
      where
        degrees : formal_degree (Sum rest) ≡ formal_degree s.of
        degrees = let p = h.degree_is in let q = k.degree_is in omega arith

  -- a loop from the last summand to the first one
  pub sum_leading-start : (ss : List Summand) (n : ℕ) → length ss ≤ n → IsLeading m (Sum (drop n ss)) 0 (Some 0)
  sum_leading-start ss n le =
      subst (λ xs. IsLeading m (Sum xs) 0 (Some 0)) (sym (drop_of_length-le ss le)) leading-Sum_none

  pub sum_leading-more : (ss : List Summand) (i d now : ℕ) (x y : Option ℕ) (s : Summand) → 0 < i → i ≤ length ss
      → s ≡ get_or ss (i - 1) s → IsLeading m (Sum (drop i ss)) d x
      → ((rest : List Summand) → IsLeading m (Sum rest) d x → IsLeading m (Sum (s ∷ rest)) now y)
      → IsLeading m (Sum (drop (i - 1) ss)) now y
  sum_leading-more ss i d now x y s some le is h step =
      subst (λ xs. IsLeading m (Sum xs) now y) (sym (left_before ss i s some le is)) (step (drop i ss) h)

  pub sum_leading-end : (ss : List Summand) (i d : ℕ) (x : Option ℕ) → i ≤ 0 → IsLeading m (Sum (drop i ss)) d x
      → IsLeading m (Sum ss) d x
  sum_leading-end ss i d x le h = subst (λ n. IsLeading m (Sum (drop n ss)) d x) (at_zero i le) h

  -- a loop from the last factor to the first one
  pub product_leading-start : (fs : List Factor) (n : ℕ) → length fs ≤ n
      → IsLeading m (Product (drop n fs)) 0 (Some 1)
  product_leading-start fs n le =
      subst (λ xs. IsLeading m (Product xs) 0 (Some 1)) (sym (drop_of_length-le fs le)) leading-Product_none

  pub product_leading-more : (fs : List Factor) (i d now : ℕ) (x y : Option ℕ) (f : Factor) → 0 < i → i ≤ length fs
      → f ≡ get_or fs (i - 1) f → IsLeading m (Product (drop i fs)) d x
      → ((rest : List Factor) → IsLeading m (Product rest) d x → IsLeading m (Product (f ∷ rest)) now y)
      → IsLeading m (Product (drop (i - 1) fs)) now y
  product_leading-more fs i d now x y f some le is h step =
      subst (λ xs. IsLeading m (Product xs) now y) (sym (left_before fs i f some le is)) (step (drop i fs) h)

  pub product_leading-end : (fs : List Factor) (i d : ℕ) (x : Option ℕ) → i ≤ 0 → IsLeading m (Product (drop i fs)) d x
      → IsLeading m (Product fs) d x
  product_leading-end fs i d x le h = subst (λ n. IsLeading m (Product (drop n fs)) d x) (at_zero i le) h

  -- what a factor adds is told
  abbrev pub IsShareOf : Factor → Option ℕ → Type 0
  IsShareOf f x = (ws : List ℕ) (l : ℕ) → (x ≡ Some l) ↔ HasShare (series_ring m ws) f l

  -- with the degree of the product
  pub record TellsFactor (f : Factor) (x : Option ℕ) (d b : ℕ) : Type 0 where
    pub share : IsShareOf f x
    pub degree : d ≡ (if f.divide then 0 else formal_degree f.of) + b

  pub tells-divides : (f : Factor) (x y : Option ℕ) (d b : ℕ) → f.divide ≡ true → x ≡ y
      → ((ws : List ℕ) (l : ℕ) → (y ≡ Some l) ↔ HasInverseShare (series_ring m ws) f.of l) → d ≡ b
      → TellsFactor f x d b
  tells-divides f x y d b e is h same = record {
    share = λ ws l. subst (λ o. (o ≡ Some l) ↔ HasShare (series_ring m ws) f l) (sym is) (subst (λ t. (y ≡ Some l)
        ↔ MatchBool t (HasInverseShare (series_ring m ws) f.of l) (HasLead (series_ring m ws) f.of l)) (sym e)
        (h ws l));
    degree = same ∙ more b ∙ ap (λ t. (if t then 0 else formal_degree f.of) + b) (sym e);
  }
    where
      more : (n : ℕ) → n ≡ 0 + n
      more n = omega arith

  pub tells-multiplies : (f : Factor) (x y : Option ℕ) (d b n : ℕ) → f.divide ≡ false → x ≡ y
      → IsLeading m f.of n y → d ≡ b + n → TellsFactor f x d b
  tells-multiplies f x y d b n e is h same = record {
    share = λ ws l. subst (λ o. (o ≡ Some l) ↔ HasShare (series_ring m ws) f l) (sym is) (subst (λ t. (y ≡ Some l)
        ↔ MatchBool t (HasInverseShare (series_ring m ws) f.of l) (HasLead (series_ring m ws) f.of l)) (sym e)
        (h.number_is ws l));
    degree = same ∙ turned b n ∙ ap (λ k. k + b) h.degree_is
        ∙ ap (λ t. (if t then 0 else formal_degree f.of) + b) (sym e);
  }
    where
      turned : (p q : ℕ) → p + q ≡ q + p
      turned p q = omega arith

  module _ (f : Factor) (rest : List Factor) (d b : ℕ) where
    pub factor-known : (n o w : ℕ) → IsShareOf f (Some n) → IsLeading m (Product rest) b (Some o)
        → d ≡ (if f.divide then 0 else formal_degree f.of) + b → w ≡ (n * o) % m
        → IsLeading m (Product (f ∷ rest)) d (Some w)
    factor-known n o w h k degree is = record {
      degree_is = degree ∙ ap (λ x. (if f.divide then 0 else formal_degree f.of) + x) k.degree_is
          ∙ sym (degree-Product_more f rest);
      number_is = λ ws l. (
        λ e. (lead-Product_more (series_ring m ws) f rest l).1 (
          n,
          o,
          (h ws n).0 refl,
          (k.number_is ws o).0 refl,
          sym (same_some w l e) ∙ is ∙ ap (λ x. (n * o) % x) (sym (modulus_is m ws two)),
        ),
        λ lead. (let parts = (lead-Product_more (series_ring m ws) f rest l).0 lead in
            ap Some (is ∙ ap (λ x. (n * o) % x) (sym (modulus_is m ws two))
            ∙ (λ i. (same_some n parts.0 ((h ws parts.0).1 parts.2) i
            * same_some o parts.1 ((k.number_is ws parts.1).1 parts.3) i) % (series_ring m ws).modulus) ∙ sym parts.4)),
      );
    }

    pub factor-unknown : (x : Option ℕ) → IsShareOf f None → IsLeading m (Product rest) b x
        → d ≡ (if f.divide then 0 else formal_degree f.of) + b → IsLeading m (Product (f ∷ rest)) d None
    factor-unknown x h k degree = record {
      degree_is = degree ∙ ap (λ x. (if f.divide then 0 else formal_degree f.of) + x) k.degree_is
          ∙ sym (degree-Product_more f rest);
      number_is = λ ws l. (
        λ e. absurd (none_some l e),
        λ lead. (let parts = (lead-Product_more (series_ring m ws) f rest l).0 lead in
            absurd (none_some parts.0 ((h ws parts.0).1 parts.2))),
      );
    }

    pub factors-unknown : (x : Option ℕ) → IsShareOf f x → IsLeading m (Product rest) b None
        → d ≡ (if f.divide then 0 else formal_degree f.of) + b → IsLeading m (Product (f ∷ rest)) d None
    factors-unknown x h k degree = record {
      degree_is = degree ∙ ap (λ x. (if f.divide then 0 else formal_degree f.of) + x) k.degree_is
          ∙ sym (degree-Product_more f rest);
      number_is = λ ws l. (
        λ e. absurd (none_some l e),
        λ lead. (let parts = (lead-Product_more (series_ring m ws) f rest l).0 lead in
            absurd (none_some parts.1 ((k.number_is ws parts.1).1 parts.3))),
      );
    }
