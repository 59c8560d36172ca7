-- Units: any number that inverts gives a residue that does.
use Rattle.std.proofs.Common.{◌≡◌, ℕ, ◌*◌, ◌%◌, ◌∙◌}
use Rattle.std.proofs.Math.Nat.{mod-lt}
use Rattle.ps_model.specs.Ring.{Ring}
use Rattle.ps_model.specs.Bounds.{IsUnit}
use Rattle.ps_model.proofs.Coefficients.{above_zero}
use Rattle.ps_model.proofs.RingLaws.{mul-mod_last}

pub unit_from : (R : Ring) (x e : ℕ) → (x * e) % R.modulus ≡ 1 → IsUnit R.modulus x
unit_from R x e h = record {
  inverse = e % R.modulus;
  is_residue = mod-lt e (above_zero R);
  inverts =
      mul-mod_last x e R.modulus ∙ h;
}
