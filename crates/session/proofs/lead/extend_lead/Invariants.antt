use Rattle.std.proofs.Common.{◌≡◌, ◌+◌, length}
use Rattle.std.specs.Vec.{vec_capacity}
use Rattle.parts.specs.RowsOfParts.{parts_of}
use Rattle.session.specs.Leads.{AreLeadParts, ExtendsLead}
use Rattle.session.proofs.lead.extend_lead.Given as goal

abbrev pub invariant-loop-r : goal.invariant-loop-r
invariant-loop-r l = record {
  at : l.r ≡ length l.lead.items;
  input : l.input ≡ l.fn.input;
  parts : AreLeadParts l.fn.input (parts_of l.lead.items);
  extends : ExtendsLead (l.to + 1) (parts_of l.fn.lead.items) (parts_of l.lead.items);
  capacity : vec_capacity l.lead ≡ vec_capacity l.fn.lead;
}
