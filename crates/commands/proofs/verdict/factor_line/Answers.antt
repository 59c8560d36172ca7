use Rattle.std.proofs.Common.{string_bytes}
use Rattle.commands.proofs.CheckSteps.{factor_text, same_text}
use Rattle.commands.proofs.verdict.factor_line.Goals as goal

pub returns : goal.returns
returns c = same_text string_bytes c.format.result _ _ c.format.ensures.ok
    (factor_text c.args.number c.args.power c.args.degree)
