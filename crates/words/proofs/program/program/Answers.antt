use Rattle.std.proofs.Common.{◌∙◌, ap, codes, refl}
use Rattle.clap.specs.Words.{App, new_app, with_subcommand}
use Rattle.words.specs.Subcommands.{demo_app, factor_app}
use Rattle.words.proofs.Apps.{with_plain}
use Rattle.words.proofs.program.program.Goals as goal

pub returns : goal.returns
returns c =
    with_plain _ _ _ demo_app c.in_ok-program.ensures c.in_ok-demo.ensures refl
    ∙ ap (λ (a : App). with_subcommand a demo_app.top)
    (with_plain _ _ _ (new_app (codes "check")) c.in_ok-with_check.ensures c.new-2.ensures.app refl
    ∙ ap (λ (a : App). with_subcommand a (new_app (codes "check")).top)
    (with_plain _ _ _ (new_app (codes "expand")) c.in_ok-with_expand.ensures c.new.ensures.app refl
    ∙ ap (λ (a : App). with_subcommand a (new_app (codes "expand")).top)
    (with_plain _ _ _ factor_app c.in_ok-with_factor.ensures c.in_ok-factor.ensures refl
    ∙ ap (λ (a : App). with_subcommand a factor_app.top) c.without_subcommands.ensures)))
