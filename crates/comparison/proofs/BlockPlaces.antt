-- The first difference of a block from a view, from those of its polynomials.
use Rattle.std.proofs.Common.{◌≡◌, ℕ, suc, ◌+◌, ◌<◌, Bool, true, false, cond, List, [], Option, Some, None, length}
use Rattle.std.proofs.Common.{take, get_or, map, sym, ◌∙◌, ap, subst, arith}
use Rattle.std.specs.Prelude.{is_some}
use Rattle.std.specs.Option.{option_map}
use Rattle.std.proofs.lemmas.List.{get_or-map, length-map}
use Rattle.ps_model.specs.SeriesRing.{SeriesRing, Poly}
use Rattle.parts.specs.Series.{series, polynomial_in, polynomial_of}
use Rattle.printer.specs.ReadText.{Coefficients}
use Rattle.printer.specs.Texts.{factors_to, lead_to, shown_lead}
use Rattle.printer.specs.View.{BlockValue}
use Rattle.comparison.specs.declared.coefficients.Compared.TheVariants.{Lead as OfLead, Factor as OfFactor}
use Rattle.comparison.specs.declared.place.Place.{Place}
use Rattle.comparison.specs.declared.place.Place.TheVariants.{Lead, Factor}
use Rattle.comparison.specs.Blocks.{IsRead, DifferFrom}
use Rattle.comparison.specs.Compared.{compared_to, IsFirstFactor}
use Rattle.comparison.specs.Differences.{IsFirstIn, LeadsDiffer, FactorsDiffer}
use Rattle.comparison.proofs.FirstFactors.{factor_differs, factor_same}

module _ (value : BlockValue) (D : ℕ) (fs : List Coefficients) (i : ℕ) (f : Coefficients) (is : f ≡ get_or fs i f)
    (so_far : take i (factors_to value D) ≡ take i (map (polynomial_in value.ring) fs)) (lr : i < length value.rows)
    (lf : i < length fs) where
  abbrev S : SeriesRing
  S = series value.ring

  abbrev here : Poly (series value.ring)
  here = compared_to value D (OfFactor i)

  left_is : get_or (factors_to value D) i here ≡ here
  left_is = get_or-map (λ rows. polynomial_of value.ring (take (suc D) rows)) value.rows i [] here lr

  right_is : get_or (map (polynomial_in value.ring) fs) i here ≡ polynomial_in value.ring f
  right_is = get_or-map (polynomial_in value.ring) fs i f here lf ∙ ap (polynomial_in value.ring) (sym is)

  left_long : i < length (factors_to value D)
  left_long = omega (arith, length-map value.rows (λ rows. polynomial_of value.ring (take (suc D) rows)))

  right_long : i < length (map (polynomial_in value.ring) fs)
  right_long = omega (arith, length-map fs (polynomial_in value.ring))

  pub differs_here : (j r : ℕ) → IsFirstIn (series value.ring) here (polynomial_in value.ring f) j r
      → FactorsDiffer (series value.ring) (factors_to value D) (map (polynomial_in value.ring) fs) (i + 1) j r
  differs_here j r first = factor_differs S (factors_to value D) (map (polynomial_in value.ring) fs) i so_far here
      left_long right_long j r
      (subst (λ p. IsFirstIn S p (get_or (map (polynomial_in value.ring) fs) i here) j r) (sym left_is)
      (subst (λ q. IsFirstIn S here q j r) (sym right_is) first))

  pub same_here : here ≡ polynomial_in value.ring f
      → take (i + 1) (factors_to value D) ≡ take (i + 1) (map (polynomial_in value.ring) fs)
  same_here same = factor_same S (factors_to value D) (map (polynomial_in value.ring) fs) i so_far here
      left_long right_long (left_is ∙ same ∙ sym right_is)

module _ (value : BlockValue) (D : ℕ) (l : Option Coefficients) (fs : List Coefficients)
    (read : IsRead value D l fs) where
  -- the view's lead, by whether the block has one
  shown_is : (b : Bool) → is_some l ≡ b → shown_lead value D ≡ cond b (Some (lead_to value D)) None
  shown_is b is = ap (λ c. cond c (Some (lead_to value D)) None) (sym read.2.lead_shown ∙ is)

  pub lead_differs : (p : Coefficients) (r : ℕ) → l ≡ Some p
      → IsFirstIn (series value.ring) (compared_to value D OfLead) (polynomial_in value.ring p) 0 r
      → LeadsDiffer (series value.ring) (shown_lead value D) (option_map (polynomial_in value.ring) l) r
  lead_differs p r is first =
      subst (λ o. LeadsDiffer (series value.ring) o (option_map (polynomial_in value.ring) l) r)
      (sym (shown_is true (ap is_some is)))
      (subst (λ o. LeadsDiffer (series value.ring) (Some (lead_to value D)) (option_map (polynomial_in value.ring) o) r)
      (sym is) first)

  pub lead_same : (p : Coefficients) → l ≡ Some p → compared_to value D OfLead ≡ polynomial_in value.ring p
      → shown_lead value D ≡ option_map (polynomial_in value.ring) l
  lead_same p is same = shown_is true (ap is_some is) ∙ ap Some same
      ∙ sym (ap (option_map (polynomial_in value.ring)) is)

  pub no_lead : l ≡ None → shown_lead value D ≡ option_map (polynomial_in value.ring) l
  no_lead is = shown_is false (ap is_some is) ∙ sym (ap (option_map (polynomial_in value.ring)) is)

  -- behind equal leads
  pub of_factors : shown_lead value D ≡ option_map (polynomial_in value.ring) l → (place : Option Place)
      → IsFirstFactor (series value.ring) (factors_to value D) (map (polynomial_in value.ring) fs) place
      → DifferFrom value D l fs place
  of_factors same None first = (same, first)
  of_factors same (Some (Lead degree)) first = absurd first
  of_factors same (Some (Factor number power degree)) first = (same, first)
