use Rattle.std.proofs.Common.{◌<◌, length, sym, ◌∙◌, subst, arith}
use Rattle.std.proofs.lemmas.List.{length-map}
use Rattle.std.specs.Arc.{arc_value}
use Rattle.parts.proofs.RowsRead.{part_read}
use Rattle.intake.specs.Jobs.{IsLeadPartOf}
use Rattle.session.proofs.sessions.Session.lead_part.Goals as goal

pub returns-clause-part : goal.returns-clause-part
returns-clause-part g c =
    let low : c.args.r < length c.args.self.now.lead.items =
    (let count = length-map c.args.self.now.lead.items arc_value in let there = c.requires.1 in omega arith) in
    subst (IsLeadPartOf c.args.self.now.job.job c.args.r)
    (part_read c.args.self.now.lead.items c.args.r c.index.result.now low c.index.ensures ∙ sym c.deref.ensures)
    (c.args.self.now.holds.lead c.args.r c.requires.1)
