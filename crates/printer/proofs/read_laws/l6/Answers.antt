use Rattle.std.proofs.Common.{sym, ◌∙◌}
use Rattle.printer.proofs.ReadLines.{one_block}
use Rattle.printer.proofs.ReadNames.{names_apart}
use Rattle.printer.proofs.read_laws.l6.Goals as goal

pub returns : goal.returns
returns c = λ S names D roots lead lead' fs gs text are small low block block'.
    one_block S names D (names_apart names are) small low roots lead lead' fs gs block.lead_is block'.lead_is
    block.factors_are block'.factors_are (sym block.text_is ∙ block'.text_is)
