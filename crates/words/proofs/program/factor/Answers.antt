use Rattle.std.proofs.Common.{◌≡◌, ◌∙◌, ap₂, rules, codes}
use Rattle.clap.specs.Words.{rule_of, with_rule}
use Rattle.words.specs.Subcommands.{option_rule}
use Rattle.words.proofs.program.factor.Goals as goal

pub returns : goal.returns
returns c =
    let rounds_is : rule_of c.long-rounds.result ≡ option_rule (codes "rounds") = search rules in
    let workers_is : rule_of c.long-workers.result ≡ option_rule (codes "workers") = search rules in
    c.in_ok-factor.ensures.shape (search rules)
    ∙ ap₂ with_rule (c.in_ok-arg.ensures.shape (search rules) ∙ ap₂ with_rule c.new-3.ensures.app rounds_is) workers_is
