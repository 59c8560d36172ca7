use Rattle.pipe.proofs.ReadersOf.{shown_there, published_within}
use Rattle.pipe.proofs.shared.SharedLine.published.Goals as goal

pub returns-clause-within : goal.returns-clause-within
returns-clause-within c = shown_there _ _
    (λ x. published_within x.row.published x.row.handed x.row.items.items x.row.ahead x.row.there)
    c.args.self.now.line.stages.items c.args.stage _ c.published.ensures c.requires
