use Rattle.ps_model.specs.SeriesRing.{ring}
use Rattle.ps_model.specs.Tree.{formal_degree}
use Rattle.ps_model.proofs.TopTerms.{top-coefficient, top-other}
use Rattle.ps_model.proofs.TreeValues.{value-truncated, variable_flat}
use Rattle.ps_model.proofs.TreeLeads.{lead_small}
use Rattle.ps_model.proofs.TreeDivisions.{tree_value}
use Rattle.ps_model.proofs.GivenValues.{given_divides, given_powers, given_top}
use Rattle.ps_model.proofs.laws.trees.l1.Goals as goal

pub returns : goal.returns
returns c = record {
  truncated = λ S values d D e p le is. value-truncated S values d D le e p is;
  value = λ S values names D e h divides. tree_value S values names D e h divides;
  divides = λ S values names D e p flat h is. given_divides S values names flat D e p h is;
  no_power_above = λ S values names D e p flat h is. given_powers S values names flat D e p h is;
  lead = λ S values names D l e p flat h known is. top-coefficient (ring S) (formal_degree e) l p
      (lead_small S e l known) (given_top S values names flat D e p h l known is);
  lead_alone = λ S values names D l e p flat h known is k at other. top-other (ring S) (formal_degree e) l p
      (given_top S values names flat D e p h l known is) k at other;
  variables = λ S names i lt. variable_flat S i;
}
