use Rattle.ps_model.proofs.Leads.{quadratic_lead, two_lead, not_one, vanishing, vanishes, unknown, halved_lead}
use Rattle.ps_model.proofs.examples.leading_numbers.Goals as goal

pub returns : goal.returns
returns c = record {
  quadratic = quadratic_lead;
  two = two_lead;
  not_one = not_one;
  vanishing = vanishing;
  vanishes = vanishes;
  unknown = unknown;
  halved = halved_lead;
}
