use Rattle.ps_model.proofs.InputValues.{valid_value}
use Rattle.ps_model.proofs.MonicInputs.{lead_flat, lead_within, lead-truncated, input-truncated, one_input}
use Rattle.ps_model.proofs.MonicInputs.{input_monic, known_input}
use Rattle.ps_model.proofs.laws.leads.lead_laws.Goals as goal

pub returns : goal.returns
returns c = record {
  flat = λ S D e l is. (lead_flat S D e l is, lead_within S D e l is);
  truncated = λ S d D e l le is. lead-truncated S d D e l le is;
  truncated_input = λ S d D e q le is. input-truncated S d D e q le is;
  monic_input = λ S names D e ok valid unit. one_input S D e unit (valid_value S e valid names ok D);
  monic = λ S names D e q ok unit is. input_monic S names D e q ok unit is;
  known = λ S names D e q ok known. known_input S names e ok known D q;
}
