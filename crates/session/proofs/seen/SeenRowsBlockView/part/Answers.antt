use Rattle.std.proofs.Common.{◌<◌, ◌≡◌, length, sym, ◌∙◌, ap, subst, arith, Some}
use Rattle.std.specs.Prelude.{slice_get}
use Rattle.std.specs.Arc.{arc_value}
use Rattle.parts.specs.RowsOfParts.{part_in}
use Rattle.rows.specs.Fits.{values}
use Rattle.stages.specs.Items.{IsItem}
use Rattle.stages.specs.States.{StageState}
use Rattle.stages.specs.Titles.{no_root}
use Rattle.session.specs.SeenBy.{seen_by}
use Rattle.session.specs.Views.{no_stage}
use Rattle.session.proofs.PartsSeen.{slices_seen, long, at, degree_there, row_item}
use Rattle.session.proofs.RowsSeen.{row_at_place, title_there}
use Rattle.session.proofs.seen.SeenRowsBlockView.part.Goals as goal

pub get-requires : goal.get-requires
get-requires c =
    let d = no_stage (seen_by c.args.self.now) c.args.self.now.holds c.args.self.now.fits in
    subst (λ (s : StageState). c.args.r < length s.items)
    (row_at_place c.args.self.now.rows.items (λ row. row.title) (λ row. row.capacity) (λ row. values row.items.items)
    c.args.self.now.ring c.args.i c.index.result.now d c.index.ensures
    (let count = c.args.self.now.holds.of_job.count in let low = c.requires.factor in omega arith))
    (degree_there (seen_by c.args.self.now) c.args.self.now.holds c.args.self.now.fits c.args.i c.args.r
    c.requires.factor c.requires.known d)

pub bounds-factor-power : goal.bounds-factor-power
bounds-factor-power c =
    let title = title_there c.args.self.now.rows.items (λ row. row.title) (λ row. row.capacity)
    (λ row. values row.items.items) c.args.self.now.ring (arc_value c.args.self.now.job) c.args.i
    c.index.result.now c.index.ensures
    (let count = c.args.self.now.holds.of_job.count in let low = c.requires.factor in omega arith)
    c.args.self.now.holds.of_job in
    let are = slices_seen (arc_value c.args.self.now.job) (arc_value c.args.self.now.job) c.args.i c.args.r _
    c.factor.result.now (λ i. arc_value c.args.self.now.job)
    (subst (λ t. IsItem t c.args.r (arc_value c.get.result.now)) title c.get.ensures.fits)
    (c.factor.ensures ∙ ap (λ t. t.factor) c.deref.ensures) in
    let count = long (arc_value c.args.self.now.job) c.args.self.now.ring c.args.self.now.holds.ring_is c.args.i
    c.args.r c.factor.result.now are in
    let low = c.requires.power no_root in
    omega arith

pub returns : goal.returns
returns c =
    let title = title_there c.args.self.now.rows.items (λ row. row.title) (λ row. row.capacity)
    (λ row. values row.items.items) c.args.self.now.ring (arc_value c.args.self.now.job) c.args.i
    c.index.result.now c.index.ensures
    (let count = c.args.self.now.holds.of_job.count in let low = c.requires.factor in omega arith)
    c.args.self.now.holds.of_job in
    let seen = c.factor.ensures ∙ ap (λ t. t.factor) c.deref.ensures in
    let are = slices_seen (arc_value c.args.self.now.job) (arc_value c.args.self.now.job) c.args.i c.args.r _
    c.factor.result.now (λ i. arc_value c.args.self.now.job)
    (subst (λ t. IsItem t c.args.r (arc_value c.get.result.now)) title c.get.ensures.fits) seen in
    c.deref-2.ensures
    ∙ sym (at (arc_value c.args.self.now.job) c.args.self.now.ring c.args.self.now.holds.ring_is c.args.i c.args.r
    c.factor.result.now are c.args.power (c.requires.power no_root) c.index-factor-power.result
    c.index-factor-power.is)
    ∙ ap (λ row. part_in row c.args.power) (seen
    ∙ sym (row_item (seen_by c.args.self.now) c.args.self.now.holds c.args.self.now.fits c.args.i c.args.r
    c.requires.factor (arc_value c.get.result.now)
    (λ d. subst (λ (s : StageState). slice_get s.items c.args.r ≡ Some (arc_value c.get.result.now))
    (sym (row_at_place c.args.self.now.rows.items (λ row. row.title) (λ row. row.capacity)
    (λ row. values row.items.items) c.args.self.now.ring c.args.i c.index.result.now d c.index.ensures
    (let count = c.args.self.now.holds.of_job.count in let low = c.requires.factor in omega arith)))
    c.get.ensures.item)))
