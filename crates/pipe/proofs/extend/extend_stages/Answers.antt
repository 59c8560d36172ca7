use Rattle.std.proofs.Common.{◌+◌, arith, refl, sym, ◌∙◌, ap, subst}
use Rattle.std.specs.Arc.{arc_value}
use Rattle.std.proofs.lemmas.List.{length-map}
use Rattle.std.proofs.lemmas.Result.{on_ok_weaker}
use Rattle.ps_model.specs.AcceptedJob.{IsAccepted}
use Rattle.stages.proofs.Growth.{title_is}
use Rattle.stages.proofs.Rounds.{on_err}
use Rattle.pipe.specs.Works.{work_of}
use Rattle.pipe.proofs.Lines.{can_extend}
use Rattle.pipe.proofs.Reaches.{line_kept, none_exceeds, all_reach, are_seen, all_published, reach_falling}
use Rattle.pipe.proofs.extend.extend_stages.Goals as goal

pub ends_of-requires-clause-accepted : goal.ends_of-requires-clause-accepted
ends_of-requires-clause-accepted g c =
    let some = c.requires.line.accepted.some in
    let count = c.requires.line.count in
    let same = length-map c.args.stages.now (λ s. (work_of s).stage) in
    subst IsAccepted (sym (c.deref.ensures ∙ ap (λ t. t.job) (c.behind-stages.view_is ∙ c.title.ensures
    ∙ title_is (λ s. (work_of s).stage) c.args.stages.now 0 c.index-stages-0.result (omega arith) _ c.requires.line)))
    c.requires.line.accepted

pub extend_with-requires-after_bounds : goal.extend_with-requires-after_bounds
extend_with-requires-after_bounds g c κs within =
    can_extend work_of _ c.args.to c.args.stages.now _ _ c.requires.line c.requires.room c.requires.permitted
    c.requires.readers
    (λ x. let low = x.row.filled in let most = x.row.permitted in let ahead = x.ahead in
    let e = length-map x.row.items.items arc_value in omega arith)
    c.requires.tally

pub returns-clause-kept : goal.returns-clause-kept
returns-clause-kept g c =
    line_kept work_of (c.args.to + 1) c.args.stages.now c.extend_with.new.stages _ _ _ _ c.extend_with.ensures.runs

pub returns-clause-falling : goal.returns-clause-falling
returns-clause-falling g c = on_ok_weaker c.extend_with.result
    (λ whole. reach_falling (c.args.to + 1) _ _
    (line_kept work_of (c.args.to + 1) c.args.stages.now c.extend_with.new.stages _ _ _ _ c.extend_with.ensures.runs).count
    (all_reach work_of (c.args.to + 1) c.args.stages.now c.extend_with.new.stages _ _ _ _ c.extend_with.ensures.runs whole
    (λ y. y.behind)))
    c.extend_with.ensures.ok

pub returns-clause-ok : goal.returns-clause-ok
returns-clause-ok g c = on_ok_weaker c.extend_with.result
    (λ whole. all_reach work_of (c.args.to + 1) c.args.stages.now c.extend_with.new.stages _ _ _ _
    c.extend_with.ensures.runs whole (λ y. y.behind))
    c.extend_with.ensures.ok

pub returns-clause-published : goal.returns-clause-published
returns-clause-published g c = on_ok_weaker c.extend_with.result
    (λ whole. all_published work_of _ (λ x. refl) c.extend_with.new.stages whole.shown) c.extend_with.ensures.ok

pub returns-clause-err : goal.returns-clause-err
returns-clause-err g c = on_err c.extend_with.result _
    (none_exceeds work_of (c.args.to + 1) c.args.stages.now c.extend_with.new.stages _ _ _ _ c.extend_with.ensures.runs)

pub returns-clause-seen : goal.returns-clause-seen
returns-clause-seen g c = on_ok_weaker c.extend_with.result
    (are_seen work_of (c.args.to + 1) c.args.stages.now c.extend_with.new.stages _ _ _ _ c.extend_with.ensures.runs)
    c.extend_with.ensures.ok
