-- Lists of divisors: what all have, and that those of a well-formed tree are well-formed.
use Rattle.std.proofs.Common.{◌≡◌, ℕ, zero, suc, ◌-◌, true, false, List, [], ◌∷◌, ◌++◌, refl, subst}
use Rattle.std.specs.Prelude.{Some, slice_get}
use Rattle.ps_model.specs.declared.expr.Expr.{Expr, Number, Name, MainVariable, Sum', Product', Power'}
use Rattle.ps_model.specs.declared.expr.Expr.{end_of-Expr, more_of-Expr}
use Rattle.ps_model.specs.declared.expr.Expr.{Row_of-Summand, end_of-Summand, more_of-Summand}
use Rattle.ps_model.specs.declared.expr.Expr.{Row_of-Factor, end_of-Factor, more_of-Factor}
use Rattle.ps_model.specs.Tree.{divisors, summand_divisors, factor_divisors, IsValidTree, AreValidSummands}
use Rattle.ps_model.specs.Tree.{AreValidFactors}
use Rattle.ps_model.specs.Divisions.{IsDivisor}

same_some : (a b : Expr) → Some a ≡ Some b → a ≡ b
same_some a b e = cc

module _ (P : Expr → Type 0) where
  abbrev pub AllOf : List Expr → Type 0
  AllOf [] = Unit {0}
  AllOf (d ∷ ds) = P d × AllOf ds

  pub first_ones : (ds es : List Expr) → AllOf (ds ++ es) → AllOf ds
  first_ones [] es h = tt
  first_ones (d ∷ ds) es h = (h.0, first_ones ds es h.1)

  pub last_ones : (ds es : List Expr) → AllOf (ds ++ es) → AllOf es
  last_ones [] es h = h
  last_ones (d ∷ ds) es h = last_ones ds es h.1

  pub all_ones : (ds es : List Expr) → AllOf ds → AllOf es → AllOf (ds ++ es)
  all_ones [] es h k = k
  all_ones (d ∷ ds) es h k = (h.0, all_ones ds es h.1 k)

  pub at_place : (ds : List Expr) (i : ℕ) (d : Expr) → AllOf ds → slice_get ds i ≡ Some d → P d
  at_place [] i d h at = absurd (cc)
  at_place (e ∷ ds) zero d h at = subst P (same_some e d at) h.0
  at_place (e ∷ ds) (suc i) d h at = at_place ds i d h.1 at

  pub by_places : (ds : List Expr) → ((i : ℕ) (d : Expr) → slice_get ds i ≡ Some d → P d) → AllOf ds
  by_places [] h = tt
  by_places (d ∷ ds) h = (h 0 d refl, by_places ds (λ i e at. h (suc i) e at))

pub map_ones : (P Q : Expr → Type 0) → ((d : Expr) → P d → Q d) → (ds : List Expr) → AllOf P ds → AllOf Q ds
map_ones P Q f [] h = tt
map_ones P Q f (d ∷ ds) h = (f d h.0, map_ones P Q f ds h.1)

module _ (names : ℕ) where
  mutual
    valid_ones : (e : Expr) → IsValidTree names e → AllOf (IsValidTree names) (divisors e)
    valid_ones (Number c) h = tt
    valid_ones (Name i) h = tt
    valid_ones MainVariable h = tt
    valid_ones (Sum' shape summands) h = valid_summed summands h.1
    valid_ones (Product' shape factors) h = valid_multiplied factors h.1
    valid_ones (Power' shape (more_of-Expr base end_of-Expr) exponent) h = valid_ones base h.0

    valid_summed : {m : _} (row : Row_of-Summand m) → AreValidSummands names row
        → AllOf (IsValidTree names) (summand_divisors row)
    valid_summed end_of-Summand h = tt
    valid_summed (more_of-Summand minus of rest) h =
        all_ones (IsValidTree names) (divisors of) _ (valid_ones of h.0) (valid_summed rest h.1)

    valid_multiplied : {m : _} (row : Row_of-Factor m) → AreValidFactors names row
        → AllOf (IsValidTree names) (factor_divisors row)
    valid_multiplied end_of-Factor h = tt
    valid_multiplied (more_of-Factor true of rest) h =
        (h.0, all_ones (IsValidTree names) (divisors of) _ (valid_ones of h.0) (valid_multiplied rest h.1))
    valid_multiplied (more_of-Factor false of rest) h =
        all_ones (IsValidTree names) (divisors of) _ (valid_ones of h.0) (valid_multiplied rest h.1)

  -- a divisor of a well-formed tree is well-formed
  pub valid_divisor : (e d : Expr) (k : ℕ) → IsValidTree names e → IsDivisor e k d → IsValidTree names d
  valid_divisor e d k h divisor = at_place (IsValidTree names) (divisors e) (k - 1) d (valid_ones e h) divisor.1
