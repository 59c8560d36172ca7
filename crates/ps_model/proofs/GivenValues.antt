-- Values of well-formed trees whose names' values have no Y: what holds where no value at all has Y holds of them.
use Rattle.std.proofs.Common.{◌≡◌, ℕ, ◌<◌, true, false, refl, sym, ap, cond, leb}
use Rattle.std.proofs.lemmas.Bool.{leb-false, lt-leb}
use Rattle.ps_model.specs.declared.expr.Expr.{Expr}
use Rattle.ps_model.specs.Polynomial.{zero as nought}
use Rattle.ps_model.specs.Truncation.{truncated}
use Rattle.ps_model.specs.Bounds.{HasNoPowerAbove}
use Rattle.ps_model.specs.SeriesRing.{SeriesRing, ring, degree, Poly}
use Rattle.ps_model.specs.Tree.{formal_degree, IsValidTree}
use Rattle.ps_model.specs.Value.{IsValueWith, AreWithoutY, HasLead}
use Rattle.ps_model.specs.Divisions.{DividesByUnits}
use Rattle.ps_model.proofs.PowerBounds.{truncated-nothing}
use Rattle.ps_model.proofs.TopTerms.{HasTop}
use Rattle.ps_model.proofs.Divisors.{valid_divisor}
use Rattle.ps_model.proofs.TreeNames.{other_value, valid_names}
use Rattle.ps_model.proofs.TreeLeads.{value_powers, value_top}
use Rattle.ps_model.proofs.TreeDivisions.{value_divides}

-- only the names of a well-formed tree count
pub same_names : (S : SeriesRing) (f g : ℕ → Poly S) (names D : ℕ) (e : Expr) (p : Poly S) → IsValidTree names e
    → ((i : ℕ) → i < names → truncated (ring S) (degree S) D (f i) ≡ truncated (ring S) (degree S) D (g i))
    → IsValueWith S D f e p → IsValueWith S D g e p
same_names S f g names D e p h same is = other_value S D (λ i. i < names) f g same e p (valid_names names e h) is

module _ (S : SeriesRing) (values : ℕ → Poly S) (names : ℕ) (flat : AreWithoutY S names values) where
  -- the names' values, and 0 behind them
  abbrev known : ℕ → Poly S
  known i = cond (leb names i) (nought (ring S)) (values i)

  known_flat : (i : ℕ) → HasNoPowerAbove 0 (known i)
  known_flat i = elim (leb names i) as (λ b. leb names i ≡ b
      → HasNoPowerAbove 0 (cond b (nought (ring S)) (values i))) [
        | true ↦ λ e. truncated-nothing (ring S) (ring S).y_degree 0
        | false ↦ λ e. flat i (leb-false names i e)
      ] refl

  known_is : (i : ℕ) → i < names → known i ≡ values i
  known_is i lt = ap (λ b. cond b (nought (ring S)) (values i)) (lt-leb names i lt)

  module _ (D : ℕ) (e : Expr) (p : Poly S) (h : IsValidTree names e) where
    to_known : IsValueWith S D values e p → IsValueWith S D known e p
    to_known = same_names S values known names D e p h
        (λ i lt. ap (truncated (ring S) (degree S) D) (sym (known_is i lt)))

    pub given_powers : IsValueWith S D values e p → HasNoPowerAbove (formal_degree e) p
    given_powers is = value_powers S known known_flat D names e p h (to_known is)

    pub given_top : (l : ℕ) → HasLead S e l → IsValueWith S D values e p → HasTop (ring S) (formal_degree e) l p
    given_top l lead is = value_top S known known_flat D names e l p h lead (to_known is)

  pub given_divides : (D : ℕ) (e : Expr) (p : Poly S) → IsValidTree names e → IsValueWith S D values e p
      → DividesByUnits S values e
  given_divides D e p h is =
      let divides = value_divides S known known_flat names D e p h (to_known D e p h is) in
      record {
        without_y = divides.without_y;
        no_power = λ k E d v divisor at. divides.no_power k E d v divisor
            (to_known E d v (valid_divisor names e d k h divisor) at);
        units = λ k d v divisor at. divides.units k d v divisor
            (to_known 0 d v (valid_divisor names e d k h divisor) at);
      }
