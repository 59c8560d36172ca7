use Rattle.pipe.proofs.ReadersOf.{still_stages, still_readers, shown_within, published_within}
use Rattle.pipe.proofs.shared.SharedLine.raise.Goals as goal

pub invariant_of-self-clause-stages : goal.invariant_of-self-clause-stages
invariant_of-self-clause-stages g c = still_stages _ _ c.raise.ensures.kept _ _ c.raise.ensures.job c.args.self.now.stages

pub invariant_of-self-clause-readers : goal.invariant_of-self-clause-readers
invariant_of-self-clause-readers g c = still_readers _ _ c.raise.ensures.kept _ c.args.self.now.readers

pub returns-clause-published : goal.returns-clause-published
returns-clause-published g c = shown_within _ _
    (λ x. published_within x.row.published x.row.handed x.row.items.items x.row.ahead x.row.there)
    c.raise.new.self.stages.items
