-- The leading series of a tree, and the monic polynomial that times it is the tree's value.
--     lead_in S e v      the coefficient of Y ^ formal_degree in v
--     IsLead S D e l      l is the lead at D: that coefficient of the tree's value, truncated at D
--     IsLeadShown S e      the lead isn't known to be 1 by the tree's form, so it is told beside the factors
--     IsShownLead S D e o      o is the lead at D where it is shown, and None elsewhere
--     IsMonicInput S D e q      q has no entry of degree above D, and q times the lead is the value at D
use Rattle.std.specs.Prelude.{◌≡◌, ℕ, Option, Some, None}
use Rattle.ps_model.specs.declared.expr.Expr.{Expr}
use Rattle.ps_model.specs.Notation.{y_coefficient}
use Rattle.ps_model.specs.Prepared.{IsQuotient}
use Rattle.ps_model.specs.SeriesRing.{SeriesRing, Poly}
use Rattle.ps_model.specs.Tree.{formal_degree}
use Rattle.ps_model.specs.Value.{IsValue, HasLead}

module _ (S : SeriesRing) where
  abbrev pub lead_in : Expr → Poly S → Poly S
  lead_in e v = y_coefficient (formal_degree e) v

  abbrev pub IsLead : ℕ → Expr → Poly S → Type 0
  IsLead D e l = (v : Poly S) × IsValue S D e v × (l ≡ lead_in e v)

  abbrev pub IsLeadShown : Expr → Type 0
  IsLeadShown e = HasLead S e 1 → ⊥

  abbrev pub IsShownLead : ℕ → Expr → Option (Poly S) → Type 0
  IsShownLead D e None = HasLead S e 1
  IsShownLead D e (Some l) = IsLeadShown e × IsLead D e l

  pub record IsMonicInput (D : ℕ) (e : Expr) (q : Poly S) : Type 0 where
    pub value : Poly S
    pub is_value : IsValue S D e value
    pub quotient : IsQuotient D value (lead_in e value) q
