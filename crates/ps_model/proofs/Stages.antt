-- Stages: of a list of factors the first is split off by a prepared pair, and what is left has the later ones as its
-- list.
use Rattle.std.proofs.Common.{◌≡◌, ℕ, zero, suc, ◌-◌, ◌<◌, ◌≤◌, List, [], ◌∷◌, length, drop, get_or, refl, sym, ◌∙◌}
use Rattle.std.proofs.Common.{ap}
use Rattle.std.proofs.Common.{subst, arith}
use Rattle.ps_model.specs.Ring.{Ring}
use Rattle.ps_model.specs.Polynomial.{Polynomial, zero as nought}
use Rattle.ps_model.specs.Truncation.{truncated}
use Rattle.ps_model.specs.Shift.{shifted}
use Rattle.ps_model.specs.Prepared.{IsPreparable, IsPrepared}
use Rattle.ps_model.specs.declared.job.Root.{Root}
use Rattle.ps_model.specs.Factors.{total_times, product_of, product_from, each_truncated, IsFactorable}
use Rattle.ps_model.specs.Factors.{IsFactorList}
use Rattle.ps_model.proofs.ShiftDegrees.{truncated-shifted}
use Rattle.ps_model.proofs.Monic.{monic-truncated}
use Rattle.ps_model.proofs.Preparation.{pair, is_pair}
use Rattle.ps_model.proofs.Factors.{truncated-again, truncated-lower, preparable, f_prepared, rest_is}
use Rattle.ps_model.proofs.Factors.{rest_factorable}
use Rattle.ps_model.proofs.Factors.{forth, back, g, back-forth, product-each_truncated}

module _ (R : Ring) where
  -- a pair for G is one for what agrees with G up to D
  pub prepared-same : (G H : Polynomial R) (k q D : ℕ) (p u : Polynomial R) → truncated R R.degree D G
      ≡ truncated R R.degree D H → IsPrepared G k q D p u → IsPrepared H k q D p u
  prepared-same G H k q D p u same at = record {
    monic = at.monic;
    at_origin = at.at_origin;
    u_no_power_above = at.u_no_power_above;
    u_unit = at.u_unit;
    p_within = at.p_within;
    u_within = at.u_within;
    product_is = at.product_is ∙ same;
  }

  pub factorable-truncated : (D : ℕ) (F : Polynomial R) (roots : List Root) → IsFactorable F roots
      → IsFactorable (truncated R R.degree D F) roots
  factorable-truncated D F roots ok = record {
    monic = monic-truncated R D _ F ok.monic;
    at_origin = truncated-lower R R.degree 0 D F (omega arith) ∙ ok.at_origin;
    apart = ok.apart;
  }

  pub list-truncated : (D : ℕ) (F : Polynomial R) (roots : List Root) (fs : List (Polynomial R))
      → IsFactorList D F roots fs → IsFactorList D (truncated R R.degree D F) roots fs
  list-truncated D F roots fs is = record {
    each = is.each;
    product_is = is.product_is
        ∙ sym (truncated-again R R.degree D F);
  }

  -- with the whole product in place of F
  whole_is : (D : ℕ) (F : Polynomial R) (roots : List Root) (fs : List (Polynomial R)) → IsFactorList D F roots fs
      → product_from D 0 fs ≡ truncated R R.degree D F
  whole_is D F roots fs is = is.product_is

  module _ (D : ℕ) (r : Root) (rs : List Root) (F : Polynomial R) (f : Polynomial R) (gs : List (Polynomial R))
      (ok : IsFactorable F (r ∷ rs)) (is : IsFactorList D F (r ∷ rs) (f ∷ gs)) where
    left_is : truncated R R.degree D (product_of gs) ≡ back R r ok.apart.0
        (pair R (forth R r ok.apart.0 F) r.times (total_times rs) (preparable R r ok.apart.0 rs F ok) D).1
    unfolding g
    left_is = rest_is R r ok.apart.0 rs F ok D f gs is

    -- what is left is factorable by the later roots, and its list is the tail
    pub left_factorable : IsFactorable (truncated R R.degree D (product_of gs)) rs
    left_factorable = subst (λ t. IsFactorable t rs) (sym left_is) (rest_factorable R r ok.apart.0 rs F ok D)

    pub left_list : IsFactorList D (truncated R R.degree D (product_of gs)) rs gs
    left_list = record { each = is.each.1; product_is = sym (truncated-again R R.degree D _) }

    same_start : truncated R R.degree D (shifted R r.value F) ≡ truncated R R.degree D
        (shifted R r.value (product_from D 0 (f ∷ gs)))
    same_start = truncated-shifted R D r.value F
        ∙ ap (shifted R r.value) (sym is.product_is ∙ sym (truncated-again R R.degree D _))
        ∙ sym (truncated-shifted R D r.value _)

    pub first_prepared : IsPrepared (shifted R r.value (product_from D 0 (f ∷ gs))) r.times (total_times rs) D
        (shifted R r.value f) (shifted R r.value (product_from D 1 (f ∷ gs)))
    unfolding forth g
    first_prepared = prepared-same _ _ _ _ D _ _ same_start (f_prepared R r ok.apart.0 rs F ok D f gs is)

  -- each stage
  pub record StageFacts (D s : ℕ) (r : Root) (q : ℕ) (fs : List (Polynomial R)) : Type 0 where
    pub small : r.value < R.modulus
    pub can : IsPreparable (shifted R r.value (product_from D s fs)) r.times q
    pub is : IsPrepared (shifted R r.value (product_from D s fs)) r.times q D
        (shifted R r.value (get_or fs s (nought R))) (shifted R r.value (product_from D (suc s) fs))

  start_facts : (D : ℕ) (r : Root) (rs : List Root) (F : Polynomial R) (f : Polynomial R) (gs : List (Polynomial R))
      → IsFactorable F (r ∷ rs) → IsFactorList D F (r ∷ rs) (f ∷ gs)
      → StageFacts D 0 r (total_times rs) (f ∷ gs)
  unfolding forth
  start_facts D r rs F f gs ok is = record {
    small = ok.apart.0;
    can = preparable R r ok.apart.0 rs (product_from D 0 (f ∷ gs))
        (subst (λ t. IsFactorable t (r ∷ rs)) (sym is.product_is) (factorable-truncated D F (r ∷ rs) ok));
    is = first_prepared D r rs F f gs ok is;
  }

  pub stage : (D s : ℕ) (d : Root) (roots : List Root) (F : Polynomial R) (fs : List (Polynomial R))
      → IsFactorable F roots → IsFactorList D F roots fs → s < length roots
      → StageFacts D s (get_or roots s d) (total_times (drop (suc s) roots)) fs
  stage D s d [] F fs ok is lt = absurd (omega arith)
  stage D s d (r ∷ rs) F [] ok is lt = absurd is.each
  stage D zero d (r ∷ rs) F (f ∷ gs) ok is lt = start_facts D r rs F f gs ok is
  stage D (suc s) d (r ∷ rs) F (f ∷ gs) ok is lt =
      let next = stage D s d rs _ gs (left_factorable D r rs F f gs ok is) (left_list D r rs F f gs ok is)
      (omega arith) in
      record { small = next.small; can = next.can; is = next.is }

  -- a prepared pair there is the shifted factor and what is shifted left; both come back by the shift by -c
  pub stage_back : (D s : ℕ) (d : Root) (roots : List Root) (F : Polynomial R) (fs : List (Polynomial R))
      → IsFactorable F roots → IsFactorList D F roots fs → s < length roots
      → (p u : Polynomial R) → IsPrepared (shifted R (get_or roots s d).value (product_from D s fs))
      (get_or roots s d).times (total_times (drop (suc s) roots)) D p u
      → (p ≡ shifted R (get_or roots s d).value (get_or fs s (nought R))) ×
      (u ≡ shifted R (get_or roots s d).value (product_from D (suc s) fs))
      × (shifted R (R.modulus - (get_or roots s d).value) p ≡ get_or fs s (nought R)) ×
      (shifted R (R.modulus - (get_or roots s d).value) u ≡ product_from D (suc s) fs)
  unfolding forth back
  stage_back D s d roots F fs ok is lt p u at = (
    p_is,
    u_is,
    ap (shifted R (R.modulus - (get_or roots s d).value)) p_is ∙ back-forth R (get_or roots s d) facts.small _,
    ap (shifted R (R.modulus - (get_or roots s d).value)) u_is ∙ back-forth R (get_or roots s d) facts.small _,
  )
    where
      facts : StageFacts D s (get_or roots s d) (total_times (drop (suc s) roots)) fs
      facts = stage D s d roots F fs ok is lt

      only : (x y : Polynomial R) → IsPrepared (shifted R (get_or roots s d).value (product_from D s fs))
          (get_or roots s d).times (total_times (drop (suc s) roots)) D x y
          → (x ≡ (pair R (shifted R (get_or roots s d).value (product_from D s fs)) (get_or roots s d).times
          (total_times (drop (suc s) roots)) facts.can D).0)
          × (y ≡ (pair R (shifted R (get_or roots s d).value (product_from D s fs)) (get_or roots s d).times
          (total_times (drop (suc s) roots)) facts.can D).1)
      only x y h = is_pair R (shifted R (get_or roots s d).value (product_from D s fs)) (get_or roots s d).times
          (total_times (drop (suc s) roots)) facts.can D x y h

      p_is : p ≡ shifted R (get_or roots s d).value (get_or fs s (nought R))
      p_is = (only p u at).0 ∙ sym (only _ _ facts.is).0

      u_is : u ≡ shifted R (get_or roots s d).value (product_from D (suc s) fs)
      u_is = (only p u at).1 ∙ sym (only _ _ facts.is).1

  -- truncated further
  pub product_from-truncated : (e D s : ℕ) (fs : List (Polynomial R)) → e ≤ D
      → product_from e s (each_truncated e fs) ≡ truncated R R.degree e (product_from D s fs)
  product_from-truncated e D s fs le = ap (λ ts. truncated R R.degree e (product_of ts)) (drop_each s fs)
      ∙ product-each_truncated R e (drop s fs) ∙ sym (truncated-lower R R.degree e D _ le)
    where
      drop_each : (s : ℕ) (fs : List (Polynomial R)) → drop s (each_truncated e fs)
          ≡ each_truncated e (drop s fs)
      drop_each zero fs = refl
      drop_each (suc s) [] = refl
      drop_each (suc s) (f ∷ fs) = drop_each s fs
