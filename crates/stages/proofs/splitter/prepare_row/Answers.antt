use Rattle.std.proofs.Common.{Some, refl, sym, subst}
use Rattle.parts.specs.RowsOfParts.{parts_of}
use Rattle.stages.specs.Preparing.{IsNextPreparation}
use Rattle.stages.proofs.splitter.prepare_row.Goals as goal

pub returns-in_ok-step-in-Some-clause-ok : goal.returns-in_ok-step-in-Some-clause-ok
returns-in_ok-step-in-Some-clause-ok c =
    subst (λ o. IsNextPreparation c.args.ring c.args.times (parts_of c.args.row.now) o (Some c.step.new.self))
    (sym c.in-Some.is) (c.step.new.self, refl, c.in_ok-step-in-Some.ensures.ok)

pub returns-in_ok-begin-in-None-clause-ok : goal.returns-in_ok-begin-in-None-clause-ok
returns-in_ok-begin-in-None-clause-ok c =
    subst (λ o. IsNextPreparation c.args.ring c.args.times (parts_of c.args.row.now) o
    (Some c.in_ok-begin-in-None.field-0))
    (sym c.in-None.is) (c.in_ok-begin-in-None.field-0, refl, c.in_ok-begin-in-None.ensures.ok)
