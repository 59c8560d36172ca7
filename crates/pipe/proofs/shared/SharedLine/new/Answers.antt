use Rattle.std.proofs.Common.{length, ap}
use Rattle.rows.specs.Writers.{writer_title, writer_name}
use Rattle.stages.proofs.LineTitles.{few_roots}
use Rattle.pipe.specs.SharedLines.{IsUnread}
use Rattle.pipe.proofs.Making.{readers_over, none_published, new_readers}
use Rattle.pipe.proofs.ReadersOf.{titles_in, published_within}
use Rattle.pipe.proofs.shared.SharedLine.new.Goals as goal

pub make_rows-requires-clause-few : goal.make_rows-requires-clause-few
make_rows-requires-clause-few g c = few_roots _ c.requires.accepted

pub invariant_of-result-clause-readers : goal.invariant_of-result-clause-readers
invariant_of-result-clause-readers g c = readers_over writer_title writer_name _ _ _ _ _ _ c.in-Ok.ensures.states
    c.in_default.ensures.rows.count c.in_default.ensures.rows.titles c.in_default.ensures.inner

pub invariant_of-result-clause-stages : goal.invariant_of-result-clause-stages
invariant_of-result-clause-stages g c = titles_in _ _ c.in-Ok.line.stages.items c.in-Ok.ensures.whole

pub returns-in-Ok-clause-published : goal.returns-in-Ok-clause-published
returns-in-Ok-clause-published g c = none_published _ _ _ _ _ _ c.in-Ok.line.stages.items
    (λ x. published_within x.row.published x.row.handed x.row.items.items x.row.ahead x.row.there)
    c.in-Ok.ensures.states

pub returns-in-Ok-clause-inner_new : goal.returns-in-Ok-clause-inner_new
returns-in-Ok-clause-inner_new g c = new_readers IsUnread _
    (λ r new. (ap length new.seen, new.told)) c.make_rows.new.inner.items c.in_default.ensures.inner_unread
