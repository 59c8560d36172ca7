use Rattle.std.proofs.Common.{◌≡◌, ◌+◌, ◌≤◌, [], length, replicate, refl, sym, ◌∙◌, ap, subst, arith}
use Rattle.std.specs.Arc.{arc_value}
use Rattle.ps_model.specs.declared.job.JobData.{JobData}
use Rattle.parts.specs.RowsOfParts.{parts_of}
use Rattle.stages.proofs.LineTitles.{few_roots}
use Rattle.expr_reader.specs.NameLists.{AreVariables}
use Rattle.session.proofs.Opened.{fresh_of, without_names, permitted_low, opened, opened_stages, opened_fits}
use Rattle.session.proofs.SharedRows.{own_read}
use Rattle.session.proofs.sessions.Session+OwnRow+StageItem.open.Goals as goal

pub empty_rows-requires-clause-few : goal.empty_rows-requires-clause-few
empty_rows-requires-clause-few c = subst (λ (j : JobData). length j.roots ≤ 32) (sym c.data.ensures)
    (few_roots c.args.job.job c.requires.accepted)

pub invariant_of-result : goal.invariant_of-result
invariant_of-result c =
    let made : arc_value c.in_ok-try_clone.field-0 ≡ c.args.job.job = c.in_ok-try_clone.ensures ∙ c.data-2.ensures in
    let greatest = c.greatest_permitted-capacity.result in
    let fresh = fresh_of c.args.job.job _ c.ring-ring.result _ _ _ (greatest + 1) made c.in-Ok.ensures.states
    (c.in_ok-rows.ensures.capacities ∙ ap (λ (j : JobData). replicate (length j.roots) (greatest + 1)) c.data.ensures)
    (without_names c.in_ok-rows.rows.items) in
    let empty : parts_of c.in_ok-lead.lead.items ≡ [] = ap parts_of c.in_ok-lead.ensures.items in
    record {
      same_job = c.in-Ok.ensures.job ∙ made;
      holds = opened c.args.job c.ring-ring.result c.has_lead-shows_lead.result _ (parts_of c.in_ok-lead.lead.items)
          greatest c.ring-ring.ensures c.greatest_permitted-capacity.ensures c.requires.accepted empty fresh
          (subst AreVariables c.names.ensures c.len-names.ensures.variables) c.requires.names
          c.has_lead-shows_lead.ensures;
      fits = record { each = opened_fits c.args.job.job c.ring-ring.result _ [] _ fresh };
      reserved = λ d also.
          let low = permitted_low c.args.job c.ring-ring.result c.has_lead-shows_lead.result _
          (parts_of c.in_ok-lead.lead.items) greatest c.ring-ring.ensures c.greatest_permitted-capacity.ensures
          c.requires.accepted empty fresh d also in
          let room = c.in_ok-lead.ensures.capacity in
          omega arith;
      read = own_read c.args.job.job c.ring-ring.result _ _ _ _ c.requires.accepted fresh;
    }

pub returns : goal.returns
returns c =
    let made : arc_value c.in_ok-try_clone.field-0 ≡ c.args.job.job = c.in_ok-try_clone.ensures ∙ c.data-2.ensures in
    let greatest = c.greatest_permitted-capacity.result in
    let fresh = fresh_of c.args.job.job _ c.ring-ring.result _ _ _ (greatest + 1) made c.in-Ok.ensures.states
    (c.in_ok-rows.ensures.capacities ∙ ap (λ (j : JobData). replicate (length j.roots) (greatest + 1)) c.data.ensures)
    (without_names c.in_ok-rows.rows.items) in
    λ d also. record {
      same_job = refl;
      stages = opened_stages c.args.job c.ring-ring.result c.has_lead-shows_lead.result _
          (parts_of c.in_ok-lead.lead.items) greatest c.ring-ring.ensures c.greatest_permitted-capacity.ensures
          c.requires.accepted (ap parts_of c.in_ok-lead.ensures.items) fresh d also;
      lead = ap parts_of c.in_ok-lead.ensures.items;
    }
