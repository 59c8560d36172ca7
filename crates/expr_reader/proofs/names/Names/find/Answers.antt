use Rattle.std.proofs.Common.{◌∙◌, sym, subst, ap}
use Rattle.ps_model.specs.Names.{AreNames}
use Rattle.expr_reader.specs.NameLists.{index_of}
use Rattle.expr_reader.proofs.NameLemmas.{index_tells}
use Rattle.expr_reader.proofs.names.Names.find.Goals as goal

pub returns-clause-found : goal.returns-clause-found
returns-clause-found c =
    index_tells c.args.name.now c.args.self.now (subst AreNames c.self.view_is c.self.invariant.valid) _
    (c.position_in.ensures ∙ ap (λ ns. index_of ns c.args.name.now) c.self.view_is)
