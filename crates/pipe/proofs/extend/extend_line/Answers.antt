use Rattle.std.proofs.Common.{length, arith, ◌∙◌, ap}
use Rattle.std.proofs.lemmas.List.{with_items_is}
use Rattle.pipe.specs.Works.{work_of}
use Rattle.pipe.proofs.Lines.{line_taken, given_titles, falling_on}
use Rattle.pipe.proofs.ReadersOf.{shown_within, published_within}
use Rattle.pipe.proofs.extend.extend_line.Goals as goal

pub give_stages-requires-clause-titles : goal.give_stages-requires-clause-titles
give_stages-requires-clause-titles g c κs =
    given_titles (λ s. (work_of s).stage) _ _ c.as_mut_slice.result.now c.extend_stages-done.new.stages _
    (with_items_is c.take_stages-stages.result c.extend_stages-done.new.stages
    (let a = c.extend_stages-done.auto.stages in let b = ap length c.as_mut_slice.ensures.value in
    let v = c.take_stages-stages.result.ok.0 in omega arith))
    c.take_stages-stages.ensures.job
    (line_taken (λ s. (work_of s).stage) _ _ c.as_mut_slice.result.now
    (c.as_mut_slice.ensures.value ∙ c.take_stages-stages.ensures.taken)
    (c.stages.ensures.whole (omega (arith, c.if-stages-eq0.false))))
    c.extend_stages-done.ensures.kept

pub returns-else-is_err-clause-falling : goal.returns-else-is_err-clause-falling
returns-else-is_err-clause-falling g c =
    falling_on (λ s. (work_of s).stage) c.extend_stages-done.result _ c.as_mut_slice.result.now
    c.extend_stages-done.new.stages _
    (c.as_mut_slice.ensures.value ∙ c.take_stages-stages.ensures.taken)
    (c.give_stages.ensures.given ∙ with_items_is c.take_stages-stages.result c.extend_stages-done.new.stages
    (let a = c.extend_stages-done.auto.stages in let b = ap length c.as_mut_slice.ensures.value in
    let v = c.take_stages-stages.result.ok.0 in omega arith))
    c.extend_stages-done.ensures.falling

pub returns-then-is_err-clause-within : goal.returns-then-is_err-clause-within
returns-then-is_err-clause-within g c = shown_within _ _
    (λ x. published_within x.row.published x.row.handed x.row.items.items x.row.ahead x.row.there)
    c.give_stages.new.self.stages.items
