use Rattle.std.proofs.Common.{◌∙◌, ap, refl}
use Rattle.ps_model.specs.SeriesRing.{ring}
use Rattle.ps_model.specs.Polynomial.{coefficient}
use Rattle.ps_model.proofs.Slices.{slice_at-product, same_slices}
use Rattle.ps_model.proofs.SlicesShifted.{coefficient-slice}
use Rattle.ps_model.proofs.YCoefficients.{slice_at-y_coefficient}
use Rattle.ps_model.proofs.Places.{place}
use Rattle.ps_model.proofs.laws.preparation.slice_laws.Goals as goal

pub returns : goal.returns
returns c = record {
  of_product = λ S. slice_at-product (ring S);
  coefficients = λ S r j p e is. coefficient-slice (ring S) r j p (record { powers = e; y = 0 }) is refl
      ∙ ap (coefficient (ring S) p) (place S e j);
  of_coefficient = λ S. slice_at-y_coefficient (ring S);
  same = λ S. same_slices (ring S);
}
