use Rattle.stages.proofs.Cores.{given_back}
use Rattle.stages.proofs.line.Line.give_stages.Goals as goal

pub returns-clause-whole : goal.returns-clause-whole
returns-clause-whole g c = given_back _ _ c.args.stages c.replace-none.new.dest c.replace-none.ensures.after
    c.args.self.now.accepted c.requires.titles
