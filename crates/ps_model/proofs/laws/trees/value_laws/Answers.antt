use Rattle.ps_model.proofs.TreeValues.{same_value, value_within}
use Rattle.ps_model.proofs.GivenValues.{same_names}
use Rattle.ps_model.proofs.laws.trees.value_laws.Goals as goal

pub returns : goal.returns
returns c = record {
  only = λ S values D e p q flat is is'. same_value S values flat D e p q is is';
  within = λ S values D e p is. value_within S values D e p is;
  names = same_names;
}
