-- A list in order, of residues other than 0, with the totals of a formal sum, is its map.
use Rattle.std.proofs.Common.{◌≡◌, ℕ, ◌%◌, ◌<◌, true, false, cond, T, List, [], ◌∷◌}
use Rattle.std.proofs.Common.{sym, ◌∙◌, subst}
use Rattle.std.specs.Prelude.{Some}
use Rattle.std.specs.Option.{unwrap_or}
use Rattle.std.specs.Ordering.{eq_by_cmp}
use Rattle.std.specs.FinMap.{from_entries, get-from_entries, find, is_sorted, same_map}
use Rattle.ps_model.specs.Sums.{total}
use Rattle.ps_model.specs.FiniteMaps.{collected}
use Rattle.ps_model.specs.Ring.{Ring}
use Rattle.ps_model.specs.Residues.{HasResidues}
use Rattle.ps_model.specs.Polynomial.{polynomial}
use Rattle.ps_model.proofs.Coefficients.{map-polynomial, at_key, alike, found_total, linear_form-collected}
use Rattle.ps_model.proofs.Coefficients.{small_value, above_zero}
use Rattle.std.proofs.Math.Nat.{mod-eq_of_lt}

-- each coefficient is a residue other than 0
abbrev pub AreResidues : {K : Type 0} → ℕ → List (K × ℕ) → Type 0
AreResidues m [] = Unit {0}
AreResidues m (e ∷ es) = (0 < e.1) × (e.1 < m) × AreResidues m es

module _ (R : Ring) where
  find_residue : (q : R.Key) (fs : List (R.Key × ℕ)) → AreResidues R.modulus fs → (c : ℕ) → find R.compare q fs ≡ Some c
      → (0 < c) × (c < R.modulus)
  find_residue q [] h c e = absurd (cc)
  find_residue q (f ∷ fs) h c e = elim (eq_by_cmp R.compare q f.0) as (λ b. cond b (Some f.1) (find R.compare q fs)
      ≡ Some c → (0 < c) × (c < R.modulus)) [
        | true ↦ λ is. let v : f.1 ≡ c = cc in subst (λ n. (0 < n) × (n < R.modulus)) v (h.0, h.1)
        | false ↦ λ is. find_residue q fs h.2 c is
      ] e

  -- a list in order, of residues other than 0, with the coefficients of es modulo m is the map of es
  pub is_collected : (fs es : List (R.Key × ℕ)) → T (is_sorted R.compare fs) → AreResidues R.modulus fs
      → ((q : R.Key) → total (at_key R q) fs % R.modulus ≡ total (at_key R q) es % R.modulus)
      → from_entries {R = R.compare} fs ≡ collected R.compare R.modulus es
  is_collected fs es sorted residues is = same_map R.total_order R.antisymmetric _ _
      (λ q. get-from_entries R.total_order fs q
      ∙ alike R.modulus _ _ (find_residue q fs residues)
      (subst (HasResidues R) (map-polynomial R es) (polynomial R es).has_residues q)
      (found q ∙ sym
      (mod-eq_of_lt
      (subst (λ n. n < R.modulus) (found q) (small_value R.modulus (find R.compare q fs) (above_zero R)
      (find_residue q fs residues)))) ∙ is q ∙ sym (linear_form-collected R es q)))
    where
      found : (q : R.Key) → unwrap_or (find R.compare q fs) 0 ≡ total (at_key R q) fs
      found q = found_total R.compare R.total_order R.antisymmetric q fs sorted
