use Rattle.std.proofs.Common.{◌≡◌, length, All, vec_capacity}
use Rattle.rows.specs.Readers.{IsFresh}
use Rattle.rows.specs.Writers.{writer_title, writer_name, published_of, IsSameRow}
use Rattle.rows.proofs.making.make_readers.Given as goal

abbrev pub invariant-loop : goal.invariant-loop
invariant-loop g l =
    IsSameRow l.initial.row l.row
    × (published_of l.row ≡ published_of l.initial.row)
    × (length l.all.items ≡ l.counter)
    × (vec_capacity l.all ≡ vec_capacity l.initial.all)
    × All (IsFresh (writer_title l.initial.row) (writer_name l.initial.row)) l.all.items
