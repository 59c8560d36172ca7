use Rattle.std.proofs.Common.{map, refl}
use Rattle.std.specs.FinMap.{from_entries}
use Rattle.parts.specs.Terms.{entry_of}
use Rattle.parts.proofs.Built.{terms_of_ring}
use Rattle.parts.proofs.homogeneous.Part.of_terms.Goals as goal

pub returns-clause-part : goal.returns-clause-part
returns-clause-part c = terms_of_ring c.args.ring c.args.degree c.args.terms.items
    (record { degree = c.args.degree; map = from_entries (map entry_of c.args.terms.items) }) c.requires refl refl
