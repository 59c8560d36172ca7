-- Exactly one prepared pair at each degree, and its truncations.
use Rattle.std.proofs.Common.{ℕ, suc, ◌≤◌, sym, ◌∙◌, ap, subst, arith}
use Rattle.ps_model.specs.Ring.{Ring}
use Rattle.ps_model.specs.Polynomial.{Polynomial}
use Rattle.ps_model.specs.Truncation.{truncated}
use Rattle.ps_model.specs.Bounds.{IsUnit, ExactlyOne}
use Rattle.ps_model.specs.Prepared.{IsPreparable, IsPrepared}
use Rattle.ps_model.proofs.Truncations.{truncated-product}
use Rattle.ps_model.proofs.Below.{truncated-below}
use Rattle.ps_model.proofs.Monic.{monic-truncated, truncated-y_degree}
use Rattle.ps_model.proofs.Origin.{coefficient-truncated_constant}
use Rattle.ps_model.proofs.Preparation.{pair, is_pair}
use Rattle.ps_model.proofs.Existence.{prepared}
use Rattle.ps_model.proofs.Factors.{truncated-again, truncated-lower}

module _ (R : Ring) (G : Polynomial R) (k q : ℕ) where
  pub exactly_one : (D : ℕ) → IsPreparable G k q → ExactlyOne {A = Polynomial R × Polynomial R}
      (λ both. IsPrepared G k q D both.0 both.1)
  exactly_one D ok = record {
    one_value = pair R G k q ok D;
    meets = prepared R G k q ok D;
    only = λ both is. let same = is_pair R G k q ok D both.0 both.1 is in λ i. (same.0 i, same.1 i);
  }

  pub prepared-truncated : (d D : ℕ) (p u : Polynomial R) → d ≤ D → IsPrepared G k q D p u
      → IsPrepared G k q d (truncated R R.degree d p) (truncated R R.degree d u)
  prepared-truncated d D p u le at = record {
    monic = monic-truncated R d k p at.monic;
    at_origin = truncated-lower R R.degree 0 d p (omega arith) ∙ at.at_origin;
    u_no_power_above = truncated-below R R.y_degree q _ ∙ truncated-y_degree R d (suc q) u
        (sym (truncated-below R R.y_degree q u) ∙ at.u_no_power_above);
    u_unit = subst (IsUnit R.modulus) (sym (coefficient-truncated_constant R d u)) at.u_unit;
    p_within = truncated-again R R.degree d p;
    u_within = truncated-again R R.degree d u;
    product_is = sym (truncated-product R R.degree R.degree_adds d p u) ∙ sym (truncated-lower R R.degree d D _ le)
        ∙ ap (truncated R R.degree d) at.product_is ∙ truncated-lower R R.degree d D G le;
  }
