use Rattle.std.specs.Arc.{arc_value}
use Rattle.parts.specs.RowsOfParts.{parts_of}
use Rattle.rows.specs.Fits.{values}
use Rattle.session.specs.Views.{stages_fit}
use Rattle.session.proofs.RowsSeen.{item_fits, room_there, put_holds, put_same, put_more, put_others}
use Rattle.session.proofs.seen_rows.SeenRows.put.Goals as goal

pub put-requires-clause-room : goal.put-requires-clause-room
put-requires-clause-room c = room_there c.args.self.now.rows.items (λ row. row.title) (λ row. row.capacity)
    (λ row. values row.items.items) c.args.self.now.ring c.args.i c.index_mut.result.now c.index_mut.ensures.value
    c.requires.row c.requires.room

pub put-requires-clause-fit : goal.put-requires-clause-fit
put-requires-clause-fit c = item_fits c.args.self.now.rows.items (λ row. row.title) (λ row. row.capacity)
    (λ row. values row.items.items) c.args.self.now.ring (arc_value c.args.self.now.job) c.args.i
    c.index_mut.result.now (arc_value c.args.item) c.index_mut.ensures.value c.requires.row
    c.args.self.now.holds.of_job c.requires.fits

pub invariant_of-self : goal.invariant_of-self
invariant_of-self c =
    let holds = put_holds c.args.self.now.rows.items (λ row. row.title) (λ row. row.capacity)
    (λ row. values row.items.items) c.args.self.now.ring c.args.self.now.names (arc_value c.args.self.now.job)
    c.args.self.now.shows_lead (parts_of c.args.self.now.lead.now.items) c.args.i c.index_mut.result.now
    c.put.new.self (arc_value c.args.item) c.index_mut.ensures.value c.requires.row c.put.ensures.same_title
    c.put.ensures.same_capacity c.put.ensures.put c.args.self.now.holds in
    record {
      holds = holds;
      fits = record { each = stages_fit _ _ (arc_value c.args.self.now.job) holds.of_job (λ row. row.fit) };
    }

pub returns-clause-same : goal.returns-clause-same
returns-clause-same c = put_same c.args.self.now.rows.items (λ row. row.title) (λ row. row.capacity)
    (λ row. values row.items.items) c.args.self.now.ring c.args.self.now.names (arc_value c.args.self.now.job)
    c.args.self.now.shows_lead (parts_of c.args.self.now.lead.now.items) c.args.i c.index_mut.result.now
    c.put.new.self (arc_value c.args.item) c.index_mut.ensures.value c.requires.row c.put.ensures.same_title
    c.put.ensures.same_capacity c.put.ensures.put

pub returns-clause-more : goal.returns-clause-more
returns-clause-more c = put_more c.args.self.now.rows.items (λ row. row.title) (λ row. row.capacity)
    (λ row. values row.items.items) c.args.self.now.ring c.args.self.now.names (arc_value c.args.self.now.job)
    c.args.self.now.shows_lead (parts_of c.args.self.now.lead.now.items) c.args.i c.index_mut.result.now
    c.put.new.self (arc_value c.args.item) c.index_mut.ensures.value c.requires.row c.put.ensures.same_title
    c.put.ensures.same_capacity c.put.ensures.put

pub returns-clause-others : goal.returns-clause-others
returns-clause-others c = put_others c.args.self.now.rows.items (λ row. row.title) (λ row. row.capacity)
    (λ row. values row.items.items) c.args.self.now.ring c.args.self.now.names (arc_value c.args.self.now.job)
    c.args.self.now.shows_lead (parts_of c.args.self.now.lead.now.items) c.args.i c.index_mut.result.now
    c.put.new.self (arc_value c.args.item) c.index_mut.ensures.value c.requires.row c.put.ensures.same_title
    c.put.ensures.same_capacity c.put.ensures.put
