use Rattle.grammar.proofs.Canonical.{canonical_spells, canonical_fits}
use Rattle.grammar.proofs.Complete.{one_tree}
use Rattle.grammar.proofs.NameLists.{listed}
use Rattle.grammar.proofs.laws.l5.Goals as goal

pub returns-clause-spells : goal.returns-clause-spells
returns-clause-spells c = λ names e are valid. canonical_spells names (listed names are) e valid

pub returns-clause-no_other : goal.returns-clause-no_other
returns-clause-no_other c = λ names e f are valid other.
    one_tree (canonical_spells names (listed names are) e valid) other

pub returns-clause-reads : goal.returns-clause-reads
returns-clause-reads c = λ names e are valid shallow. record {
  no_fault = λ f bad. canonical_fits names (listed names are) e valid shallow f bad;
  spelled = canonical_spells names (listed names are) e valid;
}
