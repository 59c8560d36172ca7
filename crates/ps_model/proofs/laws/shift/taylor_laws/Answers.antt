use Rattle.std.proofs.Common.{◌*◌, ◌-◌, ◌^◌, ◌%◌, sym, ◌∙◌, ap, refl}
use Rattle.ps_model.specs.SeriesRing.{ring}
use Rattle.ps_model.specs.Polynomial.{coefficient}
use Rattle.ps_model.specs.Shift.{shifted, binomial, numbers_to}
use Rattle.ps_model.proofs.Below.{truncated-below}
use Rattle.ps_model.proofs.Binomials.{coefficient-shifted}
use Rattle.ps_model.proofs.Places.{place}
use Rattle.ps_model.proofs.SlicesShifted.{slice_at-shifted}
use Rattle.ps_model.proofs.RowsOf.{shifted_row, shifted_row_of}
use Rattle.ps_model.proofs.laws.shift.taylor_laws.Goals as goal

pub returns : goal.returns
returns c = record {
  coefficients = λ S b K p within e i. ap (coefficient (ring S) (shifted (ring S) b p)) (sym (place S e i))
      ∙ coefficient-shifted (ring S) b K p (sym (truncated-below (ring S) (ring S).y_degree K p) ∙ within)
      (record { powers = e; y = 0 }) i refl
      ∙ λ l. numbers_to K (λ j. (binomial j i * b ^ (j - i)) * coefficient (ring S) p (place S e j l)) % S.modulus;
  slices = λ S b K r i p powers. slice_at-shifted (ring S) b K r i p powers;
  row = λ S b K r row out own new formula. shifted_row (ring S) b K r row out own new formula;
  row_of = λ S b K r p row out powers is new same. shifted_row_of (ring S) b K r p row out powers is new same;
}
