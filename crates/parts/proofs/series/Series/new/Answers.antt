use Rattle.std.proofs.Common.{List, ap}
use Rattle.std.specs.declared.alloc.Global.{Global}
use Rattle.std.specs.declared.sync.Arc.{Arc}
use Rattle.parts.specs.PartValue.{PartValue}
use Rattle.parts.specs.RowsOfParts.{parts_of}
use Rattle.parts.specs.SeriesParts.{SeriesValue}
use Rattle.parts.specs.declared.rings.Ring.{Ring}
use Rattle.parts.proofs.series.Series.new.Goals as goal

seen : Ring → List (Arc PartValue Global) → SeriesValue
seen ring parts = record { ring = ring; parts = parts_of parts }

pub returns : goal.returns
unfolding seen
returns c = ap (seen c.args.ring) c.new.ensures.items
