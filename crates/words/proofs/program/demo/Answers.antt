use Rattle.std.proofs.Common.{◌≡◌, ◌∙◌, ap₂, rules, codes}
use Rattle.clap.specs.Words.{rule_of, with_rule}
use Rattle.words.specs.Subcommands.{positional_rule}
use Rattle.words.proofs.program.demo.Goals as goal

pub returns : goal.returns
returns c =
    let number_is : rule_of c.required-number.result ≡ positional_rule (codes "number") = search rules in
    c.in_ok-demo.ensures.shape (search rules) ∙ ap₂ with_rule c.new-2.ensures.app number_is
