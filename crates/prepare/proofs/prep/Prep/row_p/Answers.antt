use Rattle.std.proofs.Common.{◌<◌, length, ap, arith}
use Rattle.std.proofs.lemmas.List.{length-map}
use Rattle.std.specs.declared.alloc.Global.{Global}
use Rattle.std.specs.declared.sync.Arc.{Arc}
use Rattle.std.specs.declared.vec.Vec.{Vec}
use Rattle.parts.specs.PartValue.{PartValue}
use Rattle.parts.specs.RowsOfParts.{parts_of}
use Rattle.prepare.specs.PrepValue.{PrepValue}
use Rattle.parts.proofs.RowsRead.{row_read_is}
use Rattle.prepare.proofs.prep.Prep.row_p.Goals as goal

pub returns-clause-parts : goal.returns-clause-parts
returns-clause-parts c =
    let few = ap (λ (prep : PrepValue). length prep.rows_p) c.self.view_is in
    let long = length-map c.self.inside.p.rows.items (λ (t : Vec (Arc PartValue Global) Global). parts_of t.items) in
    let within : c.args.r < length c.self.inside.p.rows.items = omega (arith, few, long, c.requires) in
    row_read_is c.self.inside.ring _ c.self.inside.k _ c.self.inside.p.rows.items c.args.r _ _ within c.index.ensures
    c.deref.ensures.value c.self.invariant.0.p_rows (ap (λ (prep : PrepValue). prep.ring) c.self.view_is)
    (ap (λ (prep : PrepValue). prep.k) c.self.view_is)
