use Rattle.std.proofs.Common.{◌∙◌, ap, sym}
use Rattle.clap.specs.Words.{found_of, rows_of}
use Rattle.words.proofs.Found.{command_by, entered, none_entered}
use Rattle.words.proofs.reading.taken_from.Goals as goal

pub returns-in-Some : goal.returns-in-Some
returns-in-Some c =
    c.taken_as.ensures
    ∙ ap command_by (sym (entered _ _ _ c.in-Some.name.now (rows_of (found_of c.in-Some.found.now))
    (sym c.in-Some.ensures.name) (sym c.in-Some.ensures.rows)))

pub returns-in-None : goal.returns-in-None
returns-in-None c = ap command_by (sym (none_entered _ _ (sym c.in-None.ensures.variant)))
