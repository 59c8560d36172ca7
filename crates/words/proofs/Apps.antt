-- A subcommand that is added to a program.
use Rattle.std.proofs.Common.{◌≡◌, ◌∙◌, sym, ap, refl, ◌&&◌, Bool, true, false, not, true≢false}
use Rattle.clap.specs.Words.{AddsSubcommand, App, app_of, with_subcommand}
use Rattle.clap.specs.declared.builder.command.Command.{Command}

third_false : (a b c d : Bool) → (a && (b && (not c && d))) ≡ true → c ≡ false
third_false true true false d e = refl
third_false true true true d e = absurd (true≢false (sym e))
third_false true false c d e = absurd (true≢false (sym e))
third_false false b c d e = absurd (true≢false (sym e))

-- a plain one has no global argument
pub with_plain : (old sub new : Command) (app : App) → AddsSubcommand old sub new → app_of sub ≡ app
    → app.top.is_plain ≡ true → app_of new ≡ with_subcommand (app_of old) app.top
with_plain old sub new app added is plain =
    added.shape (third_false _ _ _ _ (ap (λ (a : App). a.top.is_plain) is ∙ plain))
    ∙ ap (λ (a : App). with_subcommand (app_of old) a.top) is
