use Rattle.std.proofs.Common.{◌≡◌, ◌∙◌, ap, true}
use Rattle.clap.specs.Words.{app_of}
use Rattle.clap.specs.Simple.{app_of_fields, on_top}
use Rattle.words.proofs.program.without_subcommands.Goals as goal

pub returns : goal.returns
returns c =
    let named : app_of c.no_binary_name.result
    ≡ on_top (λ s. record s { no_binary_name = true }) (app_of c.new.result) =
    ap app_of_fields c.no_binary_name.ensures in
    let flag : app_of c.disable_help_flag.result
    ≡ on_top (λ s. record s { disable_help_flag = true }) (app_of c.no_binary_name.result) =
    ap app_of_fields c.disable_help_flag.ensures in
    let subcommand : app_of c.disable_help_subcommand.result
    ≡ on_top (λ s. record s { disable_help_subcommand = true }) (app_of c.disable_help_flag.result) =
    ap app_of_fields c.disable_help_subcommand.ensures in
    let required : app_of c.subcommand_required.result
    ≡ on_top (λ s. record s { subcommand_required = true }) (app_of c.disable_help_subcommand.result) =
    ap app_of_fields c.subcommand_required.ensures in
    required ∙ ap (on_top (λ s. record s { subcommand_required = true }))
    (subcommand ∙ ap (on_top (λ s. record s { disable_help_subcommand = true }))
    (flag ∙ ap (on_top (λ s. record s { disable_help_flag = true }))
    (named ∙ ap (on_top (λ s. record s { no_binary_name = true })) c.new.ensures.app)))
