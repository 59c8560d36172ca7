-- Exactly one list of factors, for every modulus: by induction on the roots, with one preparation for each.
use Rattle.std.proofs.Common.{◌≡◌, ℕ, suc, ◌+◌, ◌-◌, ◌%◌, ◌<◌, ◌≤◌, Bool, cond, List, [], ◌∷◌, refl, sym, ◌∙◌, ap}
use Rattle.std.proofs.Common.{subst, arith, zero-add}
use Rattle.std.specs.Prelude.{◌==◌}
use Rattle.std.proofs.Math.Dec.{leb, ltb}
use Rattle.std.proofs.lemmas.Bool.{lt-ltb, le-leb}
use Rattle.std.proofs.Math.Nat.{mod_self}
use Rattle.ps_model.specs.Ring.{Ring, IsDegree}
use Rattle.ps_model.specs.Truncation.{truncated, homogeneous_part}
use Rattle.ps_model.proofs.Below.{below, truncated-below, below-below, below-product_right}
use Rattle.ps_model.specs.Shift.{shifted}
use Rattle.ps_model.specs.Bounds.{IsUnit, IsMonic, ExactlyOne}
use Rattle.ps_model.specs.Prepared.{IsPreparable, IsPrepared}
use Rattle.ps_model.specs.declared.job.Root.{Root}
use Rattle.ps_model.specs.Factors.{total_times, product_of, each_truncated, root_power, root_powers, IsFactorable}
use Rattle.ps_model.specs.Factors.{IsFactor, EachIsFactor, IsFactorList}
use Rattle.ps_model.specs.Polynomial.{Polynomial, coefficient, one, monomial, product, power, kept_terms}
use Rattle.ps_model.proofs.Truncations.{truncated-zero, truncated-product, homogeneous_part-product}
use Rattle.ps_model.proofs.Truncations.{kept_terms-always}
use Rattle.ps_model.proofs.Truncations.{homogeneous_part-truncated}
use Rattle.ps_model.proofs.Homogeneous.{homogeneous-one}
use Rattle.ps_model.proofs.Degrees.{kept_terms-commute, homogeneous-below, below_of-product}
use Rattle.ps_model.proofs.Images.{monomial-plus, scaled_one}
use Rattle.ps_model.proofs.Shifts.{shifted-product, shifted-power, shifted-linear, shifted-monomial, shifted_key-y}
use Rattle.ps_model.proofs.Shifts.{shifted-shifted, linear-zero, power-y}
use Rattle.ps_model.proofs.ShiftDegrees.{truncated-shifted, homogeneous_part-shifted}
use Rattle.ps_model.proofs.Division.{down, y_power, down-up, up-cancel, below-up}
use Rattle.ps_model.proofs.Origin.{coefficient-kept_terms, coefficient-zero, coefficient-down}
use Rattle.ps_model.proofs.Preparation.{flat_y, first, pair, is_pair, origin_u}
use Rattle.ps_model.proofs.Existence.{prepared, monic_y_degree}
use Rattle.ps_model.proofs.Monic.{monic-product, monic_cofactor, monic_from, monic-one, monic-shifted}
use Rattle.ps_model.proofs.Monic.{monic-truncated}
use Rattle.ps_model.proofs.Monic.{shifted-y_degree, truncated-y_degree}
use Rattle.ps_model.proofs.Constants.{HasUnit, unit_apart}

module _ (R : Ring) (d : R.Key → ℕ) where
  pub truncated-again : (D : ℕ) (p : Polynomial R) → truncated R d D (truncated R d D p) ≡ truncated R d D p
  truncated-again D p = truncated-below R d D _ ∙ ap (below R d (suc D)) (truncated-below R d D p)
      ∙ below-below R d (suc D) (suc D) p (omega arith) ∙ sym (truncated-below R d D p)

  pub truncated-lower : (D E : ℕ) (p : Polynomial R) → D ≤ E → truncated R d D (truncated R d E p) ≡ truncated R d D p
  truncated-lower D E p h = truncated-below R d D _ ∙ ap (below R d (suc D)) (truncated-below R d E p)
      ∙ below-below R d (suc D) (suc E) p (omega arith) ∙ sym (truncated-below R d D p)

  pub truncated-product_right : IsDegree R d → (D : ℕ) (p q : Polynomial R) → truncated R d D (product R p q)
      ≡ truncated R d D (product R p (truncated R d D q))
  truncated-product_right h D p q = truncated-below R d D _ ∙ below-product_right R d h (suc D) p q
      ∙ ap (λ t. below R d (suc D) (product R p t)) (sym (truncated-below R d D q)) ∙ sym (truncated-below R d D _)

module _ (R : Ring) where
  pub homogeneous_part_0-product : (p q : Polynomial R) → homogeneous_part R R.degree 0 (product R p q)
      ≡ product R (homogeneous_part R R.degree 0 p) (homogeneous_part R R.degree 0 q)
  homogeneous_part_0-product p q = homogeneous_part-product R R.degree R.degree_adds 0 p q

  coefficient_flat : (p : Polynomial R) (j : ℕ) → coefficient R (homogeneous_part R R.degree 0 p) (R.y j)
      ≡ coefficient R p (R.y j)
  unfolding homogeneous_part
  coefficient_flat p j = coefficient-kept_terms R _ p (R.y j) ∙ ap (λ n. cond (n == 0) (coefficient R p (R.y j)) 0)
      (R.degree-y j)

  pub constant_flat : (p : Polynomial R) → coefficient R (homogeneous_part R R.degree 0 p) R.origin
      ≡ coefficient R p R.origin
  constant_flat p = ap (coefficient R (homogeneous_part R R.degree 0 p)) (sym R.y-zero) ∙ coefficient_flat p 0
      ∙ ap (coefficient R p) R.y-zero

  pub monic_all : (D : ℕ) (rs : List Root) (fs : List (Polynomial R)) → EachIsFactor D rs fs → IsMonic (total_times rs)
      (product_of fs)
  monic_all D [] [] h = monic-one R
  monic_all D [] (f ∷ fs) h = absurd h
  monic_all D (r ∷ rs) [] h = absurd h
  monic_all D (r ∷ rs) (f ∷ fs) h = monic-product R r.times (total_times rs) f (product_of fs) h.0.monic
      (monic_all D rs fs h.1)

  pub origin_all : (D : ℕ) (rs : List Root) (fs : List (Polynomial R)) → EachIsFactor D rs fs
      → homogeneous_part R R.degree 0 (product_of fs) ≡ root_powers {R = R} rs
  origin_all D [] [] h = sym (truncated-zero R R.degree _) ∙ one_truncated
    where
      one_truncated : truncated R R.degree 0 (one R) ≡ one R
      one_truncated = truncated-zero R R.degree _ ∙ homogeneous-one R R.degree R.degree_adds
  origin_all D [] (f ∷ fs) h = absurd h
  origin_all D (r ∷ rs) [] h = absurd h
  origin_all D (r ∷ rs) (f ∷ fs) h = homogeneous_part_0-product f (product_of fs)
      ∙ λ i. product R ((sym (truncated-zero R R.degree f) ∙ h.0.at_origin) i) (origin_all D rs fs h.1 i)

  module _ (r : Root) (small : r.value < R.modulus) where
    abbrev c : ℕ
    c = r.value

    abbrev b : ℕ
    b = R.modulus - r.value

    back_and_forth : (c + b) % R.modulus ≡ 0
    back_and_forth = let e : c + b ≡ R.modulus = omega arith in rw e (mod_self R.modulus)

    forth_and_back : (b + c) % R.modulus ≡ 0
    forth_and_back = let e : b + c ≡ R.modulus = omega arith in rw e (mod_self R.modulus)

    unfoldable pub forth : Polynomial R → Polynomial R
    forth p = shifted R c p

    unfoldable pub back : Polynomial R → Polynomial R
    back p = shifted R b p

    pub back-forth : (p : Polynomial R) → back (forth p) ≡ p
    unfolding back forth
    back-forth p = shifted-shifted R b c back_and_forth p

    own_power : forth (root_power {R = R} r) ≡ y_power R r.times
    unfolding forth
    own_power = shifted-power R c _ r.times ∙ ap (λ p. power R p r.times) (shifted-linear R c b
        ∙ linear-zero R (b + c) forth_and_back) ∙ power-y R r.times

    back_power : back (y_power R r.times) ≡ root_power {R = R} r
    unfolding back
    back_power = shifted-monomial R b 1 (R.y r.times) ∙ scaled_one R _ ∙ shifted_key-y R b r.times

    module _ (rs : List Root) (F : Polynomial R) (ok : IsFactorable F (r ∷ rs)) where
      abbrev k : ℕ
      k = r.times

      abbrev q : ℕ
      q = total_times rs

      abbrev G : Polynomial R
      G = forth F

      abbrev W : Polynomial R
      W = forth (root_powers {R = R} rs)

      G_origin : homogeneous_part R R.degree 0 G ≡ product R (y_power R k) W
      unfolding forth
      G_origin = homogeneous_part-shifted R 0 c F ∙ ap (shifted R c) (sym (truncated-zero R R.degree F) ∙ ok.at_origin)
          ∙ shifted-product R c _ _ ∙ ap (λ p. product R p W) own_power

      G_monic : IsMonic (k + q) G
      unfolding forth
      G_monic = monic-shifted R c (k + q) F ok.monic

      W_unit : HasUnit R W
      unfolding forth
      W_unit = unit_apart R r rs ok.apart.1

      at_y : (j : ℕ) → coefficient R G (R.y j) ≡ coefficient R (product R (y_power R k) W) (R.y j)
      at_y j = sym (coefficient_flat G j) ∙ ap (λ p. coefficient R p (R.y j)) G_origin

      pub preparable : IsPreparable G k q
      preparable = record {
        no_power_above = truncated-below R R.y_degree (k + q) G ∙ monic_y_degree R (k + q) G G_monic;
        lower = λ j h. at_y j ∙ none j h;
        unit = subst (IsUnit R.modulus)
            (sym (at_y k ∙ sym (coefficient-down R k _) ∙ ap (λ p. coefficient R p R.origin) (down-up R k W))) W_unit;
      }
        where
          low : (j : ℕ) → j < k → coefficient R (below R R.y_degree k (product R (y_power R k) W)) (R.y j)
              ≡ coefficient R (product R (y_power R k) W) (R.y j)
          low j h = unfold below in (coefficient-kept_terms R (λ x. ltb (R.y_degree x) k) (product R (y_power R k) W)
              (R.y j) ∙ ap (λ b. cond b (coefficient R (product R (y_power R k) W) (R.y j)) 0)
              (ap (λ n. ltb n k) (R.y_degree-y j) ∙ lt-ltb j k h))

          none : (j : ℕ) → j < k → coefficient R (product R (y_power R k) W) (R.y j) ≡ 0
          none j h = sym (low j h)
              ∙ ap (λ p. coefficient R p (R.y j)) (below-up R k W) ∙ coefficient-zero R (R.y j)

      module _ (D : ℕ) where
        abbrev p : Polynomial R
        p = (pair R G k q preparable D).0

        abbrev u : Polynomial R
        u = (pair R G k q preparable D).1

        abbrev at : IsPrepared G k q D p u
        at = prepared R G k q preparable D

        u_origin : homogeneous_part R R.degree 0 u ≡ W
        unfolding first
        u_origin = origin_u R G k q preparable D p u at ∙ ap (down R k) G_origin ∙ down-up R k W

        u_no_power_above : below R R.y_degree (suc q) u ≡ u
        u_no_power_above = sym (truncated-below R R.y_degree q u) ∙ at.u_no_power_above

        u_monic : IsMonic q u
        u_monic = monic_from R q u u_no_power_above (up-cancel R k _ _ (top_truncated ∙ ap (monomial R 1) (R.y-plus k q)
            ∙ monomial-plus R _ _))
          where
            commute : (t : R.Key → Bool) (x : Polynomial R) → kept_terms R t (truncated R R.degree D x)
                ≡ truncated R R.degree D (kept_terms R t x)
            commute t x = unfold truncated in kept_terms-commute R t _ x

            top_within : below R R.degree (suc D) (homogeneous_part R R.y_degree q u) ≡ homogeneous_part R R.y_degree q
                u
            top_within = sym (truncated-below R R.degree D _) ∙ unfold homogeneous_part in
                (sym (commute _ u) ∙ ap (kept_terms R (λ x. R.y_degree x == q)) at.u_within)

            within : truncated R R.degree D (product R (y_power R k) (homogeneous_part R R.y_degree q u))
                ≡ product R (y_power R k) (homogeneous_part R R.y_degree q u)
            within = truncated-below R R.degree D _
                ∙ rw zero-add at (below_of-product R R.degree R.degree_adds 0 D (y_power R k)
                (homogeneous_part R R.y_degree q u) (homogeneous-below R R.degree 0 1 _ (omega arith) (flat_y R k))
                top_within)

            top_truncated : product R (y_power R k) (homogeneous_part R R.y_degree q u) ≡ y_power R (k + q)
            top_truncated = sym within ∙ ap (truncated R R.degree D)
                (sym (monic_cofactor R k q p u at.monic u_no_power_above)) ∙ sym (commute _ (product R p u))
                ∙ ap (kept_terms R (λ x. leb (k + q) (R.y_degree x))) at.product_is
                ∙ monic-truncated R D (k + q) G G_monic

        pub rest_factorable : IsFactorable (back u) rs
        unfolding back
        rest_factorable = record {
          monic = monic-shifted R b q u u_monic;
          at_origin = truncated-shifted R 0 b u ∙ ap (shifted R b) (truncated-zero R R.degree u ∙ u_origin)
              ∙ back-forth _;
          apart = ok.apart.2;
        }

        first_factor : IsFactor D r (back p)
        unfolding back
        first_factor = record {
          monic = monic-shifted R b k p at.monic;
          at_origin = truncated-shifted R 0 b p ∙ ap (shifted R b) at.at_origin ∙ back_power;
          within = truncated-shifted R D b p ∙ ap (shifted R b) at.p_within;
        }

        pub more_factors : (fs : List (Polynomial R)) → IsFactorList D (back u) rs fs → IsFactorList D F (r ∷ rs)
            (back p ∷ fs)
        unfolding back forth
        more_factors fs h = record {
          each = (first_factor, h.each);
          product_is = truncated-product_right R R.degree R.degree_adds D _ _
              ∙ ap (λ t. truncated R R.degree D (product R (back p) t)) h.product_is
              ∙ sym (truncated-product_right R R.degree R.degree_adds D _ _) ∙ ap (truncated R R.degree D)
              (sym (shifted-product R b p u)) ∙ truncated-shifted R D b _
              ∙ ap (shifted R b) at.product_is ∙ sym (truncated-shifted R D b _) ∙ ap (truncated R R.degree D)
              (back-forth F);
        }

        module _ (f : Polynomial R) (gs : List (Polynomial R)) (is : IsFactorList D F (r ∷ rs) (f ∷ gs)) where
          unfoldable pub g : Polynomial R
          g = truncated R R.degree D (product_of gs)

          pub f_prepared : IsPrepared G k q D (forth f) (forth g)
          unfolding forth g
          f_prepared = record {
            monic = monic-shifted R c k f is.each.0.monic;
            at_origin = truncated-shifted R 0 c f ∙ ap (shifted R c) is.each.0.at_origin ∙ own_power;
            u_no_power_above = truncated-below R R.y_degree q _ ∙ shifted-y_degree R c (suc q) _
                (truncated-y_degree R D (suc q) _ (monic_y_degree R q _ (monic_all D rs gs is.each.1)));
            u_unit = subst (IsUnit R.modulus)
                (sym (sym (constant_flat _) ∙ ap (λ p. coefficient R p R.origin) (homogeneous_part-shifted R 0 c _
                ∙ ap (shifted R c) (homogeneous_part-truncated R R.degree 0 D _ (omega arith)
                ∙ origin_all D rs gs is.each.1)))) W_unit;
            p_within = truncated-shifted R D c f ∙ ap (shifted R c) is.each.0.within;
            u_within = truncated-shifted R D c _ ∙ ap (shifted R c) (truncated-again R R.degree D _);
            product_is = ap (truncated R R.degree D) (sym (shifted-product R c f _)) ∙ truncated-shifted R D c _
                ∙ ap (shifted R c) (sym (truncated-product_right R R.degree R.degree_adds D f (product_of gs))
                ∙ is.product_is) ∙ sym (truncated-shifted R D c F);
          }

          pub first_is : f ≡ back p
          first_is = sym (back-forth f) ∙ ap back (is_pair R G k q preparable D _ _ f_prepared).0

          pub rest_is : g ≡ back u
          rest_is = sym (back-forth g) ∙ ap back (is_pair R G k q preparable D _ _ f_prepared).1

          pub rest_factors : IsFactorList D (back u) rs gs
          unfolding g
          rest_factors = record {
            each = is.each.1;
            product_is = sym (truncated-again R R.degree D _)
                ∙ ap (truncated R R.degree D) rest_is;
          }

  -- exactly one list of factors
  pub factors : (D : ℕ) (rs : List Root) (F : Polynomial R) → IsFactorable F rs → ExactlyOne (IsFactorList D F rs)
  factors D [] F ok =
      record {
        one_value = [];
        meets = record { each = tt; product_is = ap (truncated R R.degree D) is_one };
        only =
            alone;
      }
    where
      is_one : one R ≡ F
      is_one = sym (everything F ∙ ok.monic ∙ ap (monomial R 1) R.y-zero ∙ monomial_one) where
        monomial_one : monomial R 1 R.origin ≡ one R
        monomial_one = unfold one in refl

        everything : (p : Polynomial R) → p ≡ kept_terms R (λ x. leb 0 (R.y_degree x)) p
        everything p = sym (kept_terms-always R R.y_degree p)
            ∙ λ i. kept_terms R (λ x. sym (le-leb 0 (R.y_degree x) (omega arith)) i) p

      alone : (gs : List (Polynomial R)) → IsFactorList D F [] gs → gs ≡ []
      alone [] h = refl
      alone (g ∷ gs) h = absurd h.each
  factors D (r ∷ rs) F ok =
      let rest = factors D rs _ (rest_factorable r ok.apart.0 rs F ok D) in
      record {
        one_value = back r ok.apart.0 (p r ok.apart.0 rs F ok D) ∷ rest.one_value;
        meets = more_factors r ok.apart.0 rs F ok D rest.one_value rest.meets;
        only = alone rest.one_value rest.only;
      }
    where
      alone : (fs : List (Polynomial R))
          → ((gs : List (Polynomial R)) → IsFactorList D (back r ok.apart.0 (u r ok.apart.0 rs F ok D)) rs gs
          → gs ≡ fs)
          → (gs : List (Polynomial R)) → IsFactorList D F (r ∷ rs) gs
          → gs ≡ back r ok.apart.0 (p r ok.apart.0 rs F ok D) ∷ fs
      alone fs only [] h = absurd h.each
      alone fs only (g ∷ gs) h = λ i. first_is r ok.apart.0 rs F ok D g gs h i ∷ only gs
          (rest_factors r ok.apart.0 rs F ok D g gs h) i

  -- the list at D, truncated at a lower degree, is the list there
  pub each_factor_truncated : (d D : ℕ) → d ≤ D → (rs : List Root) (fs : List (Polynomial R)) → EachIsFactor D rs fs
      → EachIsFactor d rs (each_truncated d fs)
  each_factor_truncated d D le [] [] h = tt
  each_factor_truncated d D le [] (f ∷ fs) h = absurd h
  each_factor_truncated d D le (r ∷ rs) [] h = absurd h
  each_factor_truncated d D le (r ∷ rs) (f ∷ fs) h = (
    record {
      monic = monic-truncated R d r.times f h.0.monic;
      at_origin = truncated-lower R R.degree 0 d f (omega arith) ∙ h.0.at_origin;
      within = truncated-again R R.degree d f;
    },
    each_factor_truncated d D le rs fs h.1,
  )

  pub product-each_truncated : (d : ℕ) (fs : List (Polynomial R))
      → truncated R R.degree d (product_of (each_truncated d fs)) ≡ truncated R R.degree d
      (product_of fs)
  product-each_truncated d [] = refl
  product-each_truncated d (f ∷ fs) = truncated-product_right R R.degree R.degree_adds d _ _
      ∙ ap (λ t. truncated R R.degree d (product R (truncated R R.degree d f) t)) (product-each_truncated d fs)
      ∙ sym (truncated-product R R.degree R.degree_adds d f (product_of fs))

  pub factors-truncated : (d D : ℕ) → d ≤ D → (rs : List Root) (F : Polynomial R) (fs : List (Polynomial R))
      → IsFactorList D F rs fs → IsFactorList d F rs (each_truncated d fs)
  factors-truncated d D le rs F fs h = record {
    each = each_factor_truncated d D le rs fs h.each;
    product_is = product-each_truncated d fs ∙ sym (truncated-lower R R.degree d D _ le)
        ∙ ap (truncated R R.degree d) h.product_is ∙ truncated-lower R R.degree d D F le;
  }
