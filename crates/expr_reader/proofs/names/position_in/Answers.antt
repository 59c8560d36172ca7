use Rattle.std.proofs.Common.{◌∙◌, sym}
use Rattle.expr_reader.proofs.NameLemmas.{index_of-texts}
use Rattle.expr_reader.proofs.names.position_in.Goals as goal

pub returns-in-Some : goal.returns-in-Some
returns-in-Some c = c.in-Some.ensures.index ∙ index_of-texts c.args.name.now c.args.texts.now.keys

pub returns-in-None : goal.returns-in-None
returns-in-None c = c.in-None.ensures.index ∙ index_of-texts c.args.name.now c.args.texts.now.keys
