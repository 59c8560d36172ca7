use Rattle.std.proofs.Common.{sym, ◌∙◌, ap, subst, arith}
use Rattle.std.specs.Arc.{arc_value}
use Rattle.parts.specs.RowsOfParts.{part_in}
use Rattle.session.specs.FactorParts.{IsFactorPart}
use Rattle.session.proofs.PartsSeen.{slices_seen, long, at, factor_part, degree_there, row_item}
use Rattle.session.proofs.sessions.Session.factor_part.Goals as goal

pub item-requires-clause-stage : goal.item-requires-clause-stage
item-requires-clause-stage g c κs within =
    let count = c.args.self.now.holds.of_job.count in let low = c.requires.factor in omega arith

pub item-requires-clause-degree : goal.item-requires-clause-degree
item-requires-clause-degree g c κs within = degree_there _ c.args.self.now.holds c.args.self.now.fits c.args.i c.args.r
    c.requires.factor c.requires.known

pub bounds-factor-power : goal.bounds-factor-power
bounds-factor-power g c =
    let are = slices_seen _ c.args.self.now.job.job c.args.i c.args.r _ c.factor.result.now c.args.self.now.same_job
    c.item.ensures.fits (c.factor.ensures ∙ ap (λ t. t.factor) c.deref.ensures) in
    let count = long c.args.self.now.job.job c.args.self.now.ring c.args.self.now.holds.ring_is c.args.i c.args.r
    c.factor.result.now are in
    let low = c.requires.power in
    omega arith

pub returns-clause-part : goal.returns-clause-part
returns-clause-part g c =
    let are = slices_seen _ c.args.self.now.job.job c.args.i c.args.r _ c.factor.result.now c.args.self.now.same_job
    c.item.ensures.fits (c.factor.ensures ∙ ap (λ t. t.factor) c.deref.ensures) in
    subst (IsFactorPart c.args.self.now.job.job c.args.i c.args.power c.args.r) (sym c.deref-2.ensures)
    (factor_part c.args.self.now.job.job c.args.self.now.ring c.args.self.now.holds.ring_is c.args.i c.args.r
    c.factor.result.now are c.args.power c.requires.power c.index-factor-power.result c.index-factor-power.is)

pub returns-clause-seen : goal.returns-clause-seen
returns-clause-seen g c =
    let seen = c.factor.ensures ∙ ap (λ t. t.factor) c.deref.ensures in
    let are = slices_seen _ c.args.self.now.job.job c.args.i c.args.r _ c.factor.result.now c.args.self.now.same_job
    c.item.ensures.fits seen in
    c.deref-2.ensures
    ∙ sym (at c.args.self.now.job.job c.args.self.now.ring c.args.self.now.holds.ring_is c.args.i c.args.r
    c.factor.result.now are c.args.power c.requires.power c.index-factor-power.result c.index-factor-power.is)
    ∙ ap (λ row. part_in row c.args.power) (seen
    ∙ sym (row_item _ c.args.self.now.holds c.args.self.now.fits c.args.i c.args.r c.requires.factor
    (arc_value c.item.result.now) c.item.ensures.item))
