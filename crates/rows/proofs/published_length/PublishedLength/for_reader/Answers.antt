use Rattle.std.proofs.Common.{rules}
use Rattle.rows.proofs.LengthSteps.{begins}
use Rattle.rows.proofs.published_length.PublishedLength.for_reader.Goals as goal

pub split_seat-seat-requires : goal.split_seat-seat-requires
split_seat-seat-requires c = (search rules, search rules, begins _ _)
