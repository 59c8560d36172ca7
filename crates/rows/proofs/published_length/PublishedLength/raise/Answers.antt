use Rattle.std.proofs.Common.{rules}
use Rattle.rows.proofs.LengthSteps.{raises}
use Rattle.rows.proofs.published_length.PublishedLength.raise.Goals as goal

pub store-requires : goal.store-requires
store-requires c = (
  search rules,
  search rules,
  raises c.deref.result.now.shared.table_id.slots c.args.self.now.seat.id c.args.self.now.seat.me c.from.result
      c.requires.publishes (search rules),
)
