use Rattle.std.proofs.Common.{◌∙◌, map, string_bytes}
use Rattle.std.proofs.lemmas.Result.{IfOk-weaker}
use Rattle.clap.specs.Words.{app_of}
use Rattle.words.proofs.Found.{found_command, refusal}
use Rattle.words.proofs.reading.parse.Goals as goal

pub returns-in-Ok : goal.returns-in-Ok
returns-in-Ok c =
    c.taken_from.ensures
    ∙ found_command (app_of c.in_ok-command.command) (map string_bytes c.args.words.now) _ _ c.in_ok-command.ensures
    c.requires
    c.in-Ok.ensures.kinds c.in-Ok.ensures.matches

pub returns-in-Err : goal.returns-in-Err
returns-in-Err c =
    IfOk-weaker c.refused.result _ _ (λ command h. h.0
    ∙ refusal (app_of c.in_ok-command.command) (map string_bytes c.args.words.now) c.in-Err.error
    c.in_ok-command.ensures
    c.in-Err.ensures.kinds h.1) c.refused.ensures
