use Rattle.std.proofs.Common.{sym, subst}
use Rattle.parts.specs.RowsOfParts.{parts_of}
use Rattle.stages.specs.Preparing.{HasNextRow, IsNextPreparation}
use Rattle.stages.specs.Splitters.{IsSplitter}
use Rattle.stages.proofs.Splitting.{upstream_short, upstream_row, low_there, row_parts, next_here, prepared_here}
use Rattle.stages.proofs.Tables.{either}
use Rattle.stages.proofs.splitter.Splitter.prepare.Goals as goal

pub shifted-requires-clause-few : goal.shifted-requires-clause-few
shifted-requires-clause-few c = (upstream_short _ c.self.invariant _ c.args.upstream.now
    (upstream_row _ _ c.self.view_is (parts_of c.args.upstream.now) c.requires.row)).1

pub shifted-requires-clause-parts : goal.shifted-requires-clause-parts
shifted-requires-clause-parts c = row_parts _ c.self.invariant (parts_of c.args.upstream.now)
    (upstream_row _ _ c.self.view_is (parts_of c.args.upstream.now) c.requires.row)
    (low_there _ _ c.self.view_is c.requires.permitted)

pub prepare_row-requires-clause-row : goal.prepare_row-requires-clause-row
prepare_row-requires-clause-row c =
    subst (λ row. HasNextRow c.self.inside.ring c.root-root.result.times (parts_of row) c.self.inside.preparation)
    (sym c.deref-2.ensures.value) (next_here _ c.self.invariant c.root-root.result c.root-root.ensures
    (parts_of c.args.upstream.now) (parts_of c.in_ok-row.row.items)
    (upstream_row _ _ c.self.view_is (parts_of c.args.upstream.now) c.requires.row) c.in_ok-row.ensures
    (low_there _ _ c.self.view_is c.requires.permitted))

pub invariant_of-self : goal.invariant_of-self
invariant_of-self c = either c.prepare_row.result _ _ _ c.prepare_row.ensures.ok c.prepare_row.ensures.err
    (λ next. (prepared_here _ c.self.invariant c.root-root.result c.root-root.ensures (parts_of c.args.upstream.now)
    (parts_of c.in_ok-row.row.items) c.prepare_row.new.preparation
    (upstream_row _ _ c.self.view_is (parts_of c.args.upstream.now) c.requires.row) c.in_ok-row.ensures
    (subst (λ row. IsNextPreparation c.self.inside.ring c.root-root.result.times (parts_of row)
    c.self.inside.preparation c.prepare_row.new.preparation) c.deref-2.ensures.value next)).0)
    (λ same. subst (λ o. IsSplitter (record {
      ring = c.self.inside.ring;
      title = c.self.inside.title;
      preparation =
          o;
    }))
    (sym same) c.self.invariant)
