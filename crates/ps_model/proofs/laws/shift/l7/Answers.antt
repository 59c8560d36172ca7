use Rattle.ps_model.specs.SeriesRing.{ring}
use Rattle.ps_model.proofs.Shifts.{shifted-shifted, shifted-product}
use Rattle.ps_model.proofs.ShiftDegrees.{truncated-shifted}
use Rattle.ps_model.proofs.laws.shift.l7.Goals as goal

pub returns : goal.returns
returns c = record {
  inverse = λ S c b p h. shifted-shifted (ring S) b c h p;
  product = λ S. shifted-product (ring S);
  truncated = λ S c D. truncated-shifted (ring S) D c;
}
