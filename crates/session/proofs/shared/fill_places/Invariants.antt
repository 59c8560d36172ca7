use Rattle.std.proofs.Common.{◌≡◌, ◌+◌, ◌≤◌, ◌++◌, map, Some}
use Rattle.std.specs.Vec.{vec_len, vec_capacity}
use Rattle.std.specs.Vec.Iter.{into_iter_items, into_iter_len}
use Rattle.session.proofs.shared.fill_places.Given as goal

abbrev pub invariant-loop-reader : goal.invariant-loop-reader
invariant-loop-reader l = record {
  moved : l.places.items ++ map (λ r. Some r) (into_iter_items l.readers) ≡ map (λ r. Some r) l.fn.readers.items;
  room : vec_len l.places + into_iter_len l.readers ≤ vec_capacity l.places;
}

abbrev pub decreases-loop-reader : goal.decreases-loop-reader
decreases-loop-reader l = into_iter_len l.readers
