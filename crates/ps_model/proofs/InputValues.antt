-- An input without a fault: it divides by units alone, and has exactly one value and one lead.
use Rattle.std.proofs.Common.{◌≡◌, ℕ, zero, suc, ◌<◌, ◌≤◌, Bool, true, false, refl, ◌∙◌, ap, arith}
use Rattle.ps_model.specs.declared.expr.Expr.{Expr}
use Rattle.ps_model.specs.Bounds.{ExactlyOne}
use Rattle.ps_model.specs.SeriesRing.{SeriesRing}
use Rattle.ps_model.specs.Tree.{formal_degree, node_count, has_y, IsValidTree}
use Rattle.ps_model.specs.Value.{variable, IsValue}
use Rattle.ps_model.specs.Lead.{lead_in, IsLead}
use Rattle.ps_model.specs.Input.{DividesByY, TooManyNodes, DegreeTooLarge, NotAUnit, IsLeast, told_count, IsValidInput}
use Rattle.ps_model.specs.Divisions.{IsDivisor, IsByY, Fails, DividesByUnits}
use Rattle.ps_model.proofs.UnitsDecided.{unit_stable, gcd_exists}
use Rattle.ps_model.proofs.TreeValues.{variable_flat, value_flat}
use Rattle.ps_model.proofs.TreeDivisions.{tree_value}

not_true : (b : Bool) → (b ≡ true → ⊥) → b ≡ false
not_true true h = absurd (h refl)
not_true false h = refl

at_most : (k n : ℕ) → (k < n → ⊥) → n ≤ k
at_most k n h = omega arith

-- where nothing is the least, nothing is there
module _ (P : ℕ → Type 0) (none : (k : ℕ) → IsLeast P k → ⊥) where
  none_below : (n k : ℕ) → k < n → P k → ⊥
  none_below zero k lt here = absurd (omega arith)
  none_below (suc n) k lt here =
      none k (here, λ i other. at_most i k (λ less. none_below n i (omega arith) other))

  pub no_least : (k : ℕ) → P k → ⊥
  no_least k here = none_below (suc k) k (omega arith) here

module _ (S : SeriesRing) (e : Expr) (valid : IsValidInput S e) where
  pub few_nodes : node_count e ≤ 4096
  few_nodes = at_most 4096 (node_count e)
      (λ large. valid (TooManyNodes (told_count (node_count e))) (large, refl))

  pub small_degree : formal_degree e ≤ 32
  small_degree = at_most 32 (formal_degree e)
      (λ large. valid (DegreeTooLarge (told_count (formal_degree e))) (large, refl))

  without_y : (k : ℕ) (d : Expr) → IsDivisor e k d → has_y d ≡ false
  without_y k d divisor = not_true (has_y d)
      (λ has. no_least (IsByY e) (λ k least. valid (DividesByY k) least) k (d, divisor, has))

  no_failure : (k c : ℕ) → Fails S e k c → ⊥
  no_failure k c fails = no_least (λ k. (c : ℕ) × Fails S e k c)
      (λ k least. let gcd = gcd_exists least.0.0 S.modulus in
      valid (NotAUnit k least.0.0 gcd.0) (least.0.1, least, gcd.1)) k (c, fails)

  pub valid_divisions : DividesByUnits S (variable S) e
  valid_divisions = record {
    without_y = without_y;
    no_power = λ k D d v divisor is. value_flat S (variable S) (variable_flat S) D d v (without_y k d divisor) is;
    units = λ k d v divisor is. unit_stable S.modulus _
        (λ not_unit. no_failure k _ (d, divisor, v, is, refl, not_unit));
  }

  module _ (names : ℕ) (ok : IsValidTree names e) (D : ℕ) where
    pub valid_value : ExactlyOne (IsValue S D e)
    valid_value = tree_value S (variable S) names D e ok valid_divisions

    pub valid_lead : ExactlyOne (IsLead S D e)
    valid_lead = record {
      one_value = lead_in S e valid_value.one_value;
      meets = (valid_value.one_value, valid_value.meets, refl);
      only = λ l (v, is, at). at ∙ ap (lead_in S e) (valid_value.only v is);
    }
