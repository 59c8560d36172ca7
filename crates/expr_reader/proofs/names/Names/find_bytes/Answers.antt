use Rattle.std.proofs.Common.{◌≡◌, ◌∙◌, subst, ap, None}
use Rattle.ps_model.specs.Names.{AreNames}
use Rattle.expr_reader.specs.NameLists.{index_of}
use Rattle.expr_reader.proofs.NameLemmas.{index_tells, none_unless_utf8}
use Rattle.expr_reader.proofs.names.Names.find_bytes.Goals as goal

pub returns-in-Ok-clause-found : goal.returns-in-Ok-clause-found
returns-in-Ok-clause-found c =
    let index : c.position_in.result ≡ index_of c.args.self.now c.args.name.now =
    c.position_in.ensures ∙ (λ j. index_of (c.self.view_is j) (c.in-Ok.ensures.cases.0 j)) in
    index_tells c.args.name.now c.args.self.now (subst AreNames c.self.view_is c.self.invariant.valid) _ index

none : (c : goal.In-Err) → None ≡ index_of c.args.self.now c.args.name.now
none c =
    none_unless_utf8 c.args.name.now c.self.inside.texts.keys c.in-Err.ensures.cases.0
    ∙ ap (λ ns. index_of ns c.args.name.now) c.self.view_is

pub returns-in-Err-clause-index : goal.returns-in-Err-clause-index
returns-in-Err-clause-index c = none c

pub returns-in-Err-clause-found : goal.returns-in-Err-clause-found
returns-in-Err-clause-found c =
    index_tells c.args.name.now c.args.self.now (subst AreNames c.self.view_is c.self.invariant.valid) _ (none c)
