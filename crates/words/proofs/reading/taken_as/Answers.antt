use Rattle.std.proofs.Common.{rules, ◌≡◌, ◌∙◌, ap, None, Some, option_map}
use Rattle.clap.specs.Words.{found_of}
use Rattle.words.specs.declared.command.Command.TheVariants.{Factor, Demo}
use Rattle.words.proofs.TakenRows.{demo_taken, factor_taken}
use Rattle.words.proofs.reading.taken_as.Goals as goal

pub returns-in_err-workers-in-factor : goal.returns-in_err-workers-in-factor
returns-in_err-workers-in-factor c =
    let none : c.from_residual.result ≡ None = search rules in
    none ∙ ap (option_map Factor) c.in_err-workers-in-factor.ensures
    ∙ factor_taken c.args.name.now (found_of c.args.found.now) _ _ c.in-factor.is c.get_str.ensures
    c.get_str-in-factor.ensures

pub returns-in_ok-workers-in-factor : goal.returns-in_ok-workers-in-factor
returns-in_ok-workers-in-factor c =
    ap (option_map Factor) c.in_ok-workers-in-factor.ensures
    ∙ factor_taken c.args.name.now (found_of c.args.found.now) _ _ c.in-factor.is c.get_str.ensures
    c.get_str-in-factor.ensures

pub returns-in_err-get_str-in-demo : goal.returns-in_err-get_str-in-demo
returns-in_err-get_str-in-demo c =
    let none : c.from_residual-in_err-get_str-in-demo.result ≡ None = search rules in
    none ∙ demo_taken c.args.name.now (found_of c.args.found.now) None c.in-demo.is c.in_err-get_str-in-demo.ensures

pub returns-in_err-number-in-demo : goal.returns-in_err-number-in-demo
returns-in_err-number-in-demo c =
    let none : c.from_residual-in_err-number-in-demo.result ≡ None = search rules in
    none ∙ ap (option_map Demo) c.in_err-number-in-demo.ensures.number
    ∙ demo_taken c.args.name.now (found_of c.args.found.now) (Some c.in_ok-get_str-in-demo.field-0.now) c.in-demo.is
    c.in_ok-get_str-in-demo.ensures

pub returns-in_ok-number-in-demo : goal.returns-in_ok-number-in-demo
returns-in_ok-number-in-demo c =
    ap (option_map Demo) c.in_ok-number-in-demo.ensures.number
    ∙ demo_taken c.args.name.now (found_of c.args.found.now) (Some c.in_ok-get_str-in-demo.field-0.now) c.in-demo.is
    c.in_ok-get_str-in-demo.ensures
