use Rattle.std.specs.Arc.{arc_value}
use Rattle.parts.specs.RowsOfParts.{parts_of}
use Rattle.rows.specs.Fits.{values}
use Rattle.stages.proofs.LineTitles.{few_roots}
use Rattle.session.specs.Views.{stages_fit}
use Rattle.session.proofs.RowsSeen.{new_holds, new_level}
use Rattle.session.proofs.seen_rows.SeenRows.new.Goals as goal

pub empty_rows-requires-clause-few : goal.empty_rows-requires-clause-few
empty_rows-requires-clause-few c = few_roots (arc_value c.args.job) c.requires.accepted

pub invariant_of-result : goal.invariant_of-result
invariant_of-result c =
    let holds = new_holds c.in_ok-rows.rows.items (λ row. row.title) (λ row. row.capacity)
    (λ row. values row.items.items) c.args.ring c.args.names (arc_value c.args.job) c.args.shows_lead
    (parts_of c.args.lead.now.items) c.greatest_permitted-capacity.result c.greatest_permitted-capacity.ensures
    c.in_ok-rows.ensures.count c.in_ok-rows.ensures.titles c.in_ok-rows.ensures.capacities c.requires.accepted
    c.requires.names c.requires.ring c.requires.shown c.requires.lead c.requires.few in
    record {
      holds = holds;
      fits = record {
        each = stages_fit _ c.in_ok-rows.rows.items (arc_value c.args.job) holds.of_job (λ row. row.fit);
      };
    }

pub returns-clause-level : goal.returns-clause-level
returns-clause-level c = new_level c.in_ok-rows.rows.items (λ row. row.title) (λ row. row.capacity)
    (λ row. values row.items.items) c.args.ring c.args.names (arc_value c.args.job) c.args.shows_lead
    (parts_of c.args.lead.now.items) c.in_ok-rows.ensures.empty
