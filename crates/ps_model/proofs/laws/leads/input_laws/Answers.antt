use Rattle.ps_model.proofs.InputValues.{few_nodes, small_degree, valid_divisions, valid_value, valid_lead}
use Rattle.ps_model.proofs.laws.leads.input_laws.Goals as goal

pub returns : goal.returns
returns c = record {
  small = λ S e valid. (few_nodes S e valid, small_degree S e valid);
  divides = valid_divisions;
  value = λ S names D e ok valid. valid_value S e valid names ok D;
  lead = λ S names D e ok valid. valid_lead S e valid names ok D;
}
