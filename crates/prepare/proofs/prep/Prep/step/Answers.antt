use Rattle.std.proofs.Common.{◌≤◌, sym, ap, subst}
use Rattle.parts.specs.RowsOfParts.{parts_of, parts_in}
use Rattle.prepare.specs.Columns.{HasNoneAtStart}
use Rattle.prepare.specs.PrepValue.{PrepValue, degrees_of}
use Rattle.prepare.proofs.Stepped.{next_prep, next_adds, next_none, same_prep}
use Rattle.prepare.proofs.prep.Prep.step.Goals as goal

pub invariant_of-self : goal.invariant_of-self
invariant_of-self c = (
  same_prep c.self.inside.ring c.self.inside.k c.self.inside.q c.self.inside.inverse
      (parts_in c.self.inside.p.rows.items) (parts_in c.add_degree.new.p.rows.items)
      (parts_in c.self.inside.u.rows.items) (parts_in c.add_degree.new.u.rows.items)
      (ap parts_in c.in_err-add_degree.ensures.p_rows) (ap parts_in c.in_err-add_degree.ensures.u_rows)
      c.self.invariant.0,
  record {
    of_p = c.add_degree.ensures.p_columns;
    of_u = c.add_degree.ensures.u_columns;
    none = subst (HasNoneAtStart c.self.inside.k) (sym (ap parts_in c.in_err-add_degree.ensures.p_rows))
        c.self.invariant.1.none;
  },
)

pub invariant_of-self-2 : goal.invariant_of-self-2
invariant_of-self-2 c =
    let old : PrepValue = record {
      ring = c.self.inside.ring;
      k = c.self.inside.k;
      q = c.self.inside.q;
      rows_p = parts_in c.self.inside.p.rows.items;
      rows_u = parts_in c.self.inside.u.rows.items;
    } in
    let new : PrepValue = record {
      ring = c.self.inside.ring;
      k = c.self.inside.k;
      q = c.self.inside.q;
      rows_p = parts_in c.add_degree.new.p.rows.items;
      rows_u = parts_in c.add_degree.new.u.rows.items;
    } in (
      next_prep old new c.self.inside.inverse (parts_of c.args.row.now) c.self.invariant.0
          c.in_ok-add_degree.ensures.ok
          (subst (λ (t : PrepValue). degrees_of t ≤ 4095) (sym c.self.view_is) c.requires.permitted),
      record {
        of_p = c.add_degree.ensures.p_columns;
        of_u = c.add_degree.ensures.u_columns;
        none = next_none old new c.self.inside.inverse (parts_of c.args.row.now) c.self.invariant.0
            c.in_ok-add_degree.ensures.ok c.self.invariant.1.none;
      },
    )

pub returns-clause-ok : goal.returns-clause-ok
returns-clause-ok c = next_adds (record {
  ring = c.self.inside.ring;
  k = c.self.inside.k;
  q = c.self.inside.q;
  rows_p = parts_in c.self.inside.p.rows.items;
  rows_u = parts_in c.self.inside.u.rows.items;
})
    (record {
      ring = c.self.inside.ring;
      k = c.self.inside.k;
      q = c.self.inside.q;
      rows_p = parts_in c.add_degree.new.p.rows.items;
      rows_u = parts_in c.add_degree.new.u.rows.items;
    })
    c.self.inside.inverse (parts_of c.args.row.now) c.self.invariant.0 c.in_ok-add_degree.ensures.ok
    c.args.self.now c.self.view_is
