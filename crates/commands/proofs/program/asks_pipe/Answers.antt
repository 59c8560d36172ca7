use Rattle.std.proofs.Common.{◌∙◌, ap, string_bytes, sym}
use Rattle.std.specs.Prelude.{codes}
use Rattle.std.specs.Str.{bytes_eq}
use Rattle.std.specs.declared.alloc.Global.{Global}
use Rattle.commands.proofs.WordsAsked.{asks_later}
use Rattle.commands.proofs.program.asks_pipe.Goals as goal

pub returns-then-eq : goal.returns-then-eq
returns-then-eq c =
    c.have_workers.ensures
    ∙ asks_later (string_bytes {Z = Global}) c.args.words.now c.first-item.result c.in-len1-up.len_at_least
    c.first-item.is
    (ap (λ l. bytes_eq l (codes "factor")) (sym c.as_str.ensures.value) ∙ sym c.eq.ensures ∙ c.if-eq.true)
