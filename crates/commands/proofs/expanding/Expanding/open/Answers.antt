use Rattle.std.proofs.Common.{List, length, ap, subst, arith}
use Rattle.parts.specs.RowsOfParts.{parts_in}
use Rattle.expr_reader.specs.NameLists.{AreVariables}
use Rattle.expr_reader.proofs.AsNames.{names_as_names}
use Rattle.commands.proofs.RowsExtended.{RowVec, no_rows}
use Rattle.commands.proofs.expanding.Expanding.open.Goals as goal

pub invariant_of-result : goal.invariant_of-result
invariant_of-result c = record {
  accepted = c.requires.accepted;
  count = c.requires.names;
  named = names_as_names c.args.job.names (subst AreVariables c.names.ensures c.len-names.ensures.variables).valid;
  are_rows = no_rows c.args.job.job _ c.new.ensures.items;
  few = let count = ap (λ (l : List RowVec). length (parts_in l)) c.new.ensures.items in omega arith;
}
