use Rattle.std.proofs.Common.{◌≡◌, ◌+◌, [], length, map, refl, sym, ◌∙◌, ap, subst, arith}
use Rattle.std.proofs.lemmas.List.{length-map}
use Rattle.std.specs.Arc.{arc_value}
use Rattle.ps_model.specs.declared.job.JobData.{JobData}
use Rattle.parts.specs.RowsOfParts.{parts_of}
use Rattle.expr_reader.specs.NameLists.{AreVariables}
use Rattle.pipe.specs.Looks.{state_of}
use Rattle.pipe.specs.SharedLines.{AreReadersOf}
use Rattle.session.specs.Extended.{stage_in}
use Rattle.session.proofs.Opened.{fresh_named, fresh_by_own, permitted_low, opened, opened_stages, opened_fits}
use Rattle.session.proofs.Places.{places_count, places_row, places_have, places_unseen}
use Rattle.session.proofs.SharedRows.{inner_count}
use Rattle.session.proofs.shared.Session+RowWriter+StageItem.open_shared.Goals as goal

pub fill_places-requires-clause-room : goal.fill_places-requires-clause-room
fill_places-requires-clause-room g c =
    let count = c.in_ok-line.ensures.states.count in
    let readers = inner_count _ _ c.in_ok-line.ensures.outer in
    let same = length-map c.in_ok-line.readers.items state_of in
    let roots = ap (λ (j : JobData). length j.roots) c.deref.ensures in
    let len = c.len.ensures in
    let room = c.in_ok-outer.ensures.capacity in
    omega arith

pub invariant_of-result : goal.invariant_of-result
invariant_of-result g c =
    let made : arc_value c.in_ok-data.data ≡ c.args.job.job = c.in_ok-data.ensures ∙ c.data.ensures in
    let greatest = c.greatest_permitted-capacity.result in
    let fresh = fresh_named c.args.job.job (arc_value c.in_ok-data.data) c.ring-ring.result (greatest + 1) _ _
    (map stage_in c.into_parts-line.result.0.stages.items) made c.into_parts-line.ensures.states
    c.in_ok-line.ensures.states in
    let empty : parts_of c.in_ok-lead.lead.items ≡ [] = ap parts_of c.in_ok-lead.ensures.items in
    let outer : AreReadersOf (map stage_in c.into_parts-line.result.0.stages.items)
    (map state_of c.in_ok-line.readers.items) =
    subst (λ l. AreReadersOf l (map state_of c.in_ok-line.readers.items)) (sym c.into_parts-line.ensures.states)
    c.in_ok-line.ensures.outer in
    record {
      same_job = c.into_parts-line.ensures.job ∙ c.in_ok-line.ensures.job ∙ made;
      holds = opened c.args.job c.ring-ring.result c.has_lead-shows_lead.result _ (parts_of c.in_ok-lead.lead.items)
          greatest c.ring-ring.ensures c.greatest_permitted-capacity.ensures c.requires.accepted empty fresh
          (subst AreVariables c.names.ensures c.len-names.ensures.variables) c.requires.names
          c.has_lead-shows_lead.ensures;
      fits = record { each = opened_fits c.args.job.job c.ring-ring.result _ _ _ fresh };
      reserved = λ d also.
          let low = permitted_low c.args.job c.ring-ring.result c.has_lead-shows_lead.result _
          (parts_of c.in_ok-lead.lead.items) greatest c.ring-ring.ensures c.greatest_permitted-capacity.ensures
          c.requires.accepted empty fresh d also in
          let room = c.in_ok-lead.ensures.capacity in
          omega arith;
      read = λ shared. record {
        inner = c.into_parts-line.ensures.readers;
        count = places_count c.in_ok-line.readers.items _ c.fill_places.ensures _ outer;
        outer = places_row c.in_ok-line.readers.items _ c.fill_places.ensures _ outer;
      };
    }

pub returns-clause-fresh : goal.returns-clause-fresh
returns-clause-fresh g c = λ d also.
    let made : arc_value c.in_ok-data.data ≡ c.args.job.job = c.in_ok-data.ensures ∙ c.data.ensures in
    let greatest = c.greatest_permitted-capacity.result in
    let fresh = fresh_named c.args.job.job (arc_value c.in_ok-data.data) c.ring-ring.result (greatest + 1) _ _
    (map stage_in c.into_parts-line.result.0.stages.items) made c.into_parts-line.ensures.states
    c.in_ok-line.ensures.states in
    record {
      same_job = refl;
      stages = fresh_by_own c.args.job.job c.ring-ring.result _ _ _ (opened_stages c.args.job c.ring-ring.result
          c.has_lead-shows_lead.result _ (parts_of c.in_ok-lead.lead.items) greatest c.ring-ring.ensures
          c.greatest_permitted-capacity.ensures c.requires.accepted (ap parts_of c.in_ok-lead.ensures.items) fresh d also);
      lead = ap parts_of c.in_ok-lead.ensures.items;
    }

pub returns-clause-readers : goal.returns-clause-readers
returns-clause-readers g c = places_have c.in_ok-line.readers.items _ c.fill_places.ensures _
    (inner_count _ _ c.in_ok-line.ensures.outer ∙ c.in_ok-line.ensures.states.count
    ∙ ap (λ (j : JobData). length j.roots) (c.in_ok-data.ensures ∙ c.data.ensures))

pub returns-clause-unseen : goal.returns-clause-unseen
returns-clause-unseen g c = places_unseen c.in_ok-line.readers.items _ c.fill_places.ensures
    c.in_ok-line.ensures.outer_new
