use Rattle.std.proofs.Common.{◌≡◌, ◌++◌, ◌∷◌, [], ◌∙◌, ap, arith}
use Rattle.std.proofs.lemmas.Grind.{common_steps}
use Rattle.std.proofs.lemmas.List.{map_push}
use Rattle.std.specs.declared.alloc.Global.{Global}
use Rattle.std.specs.declared.sync.Arc.{Arc}
use Rattle.std.specs.declared.vec.Vec.{Vec}
use Rattle.parts.specs.PartValue.{PartValue}
use Rattle.parts.specs.RowsOfParts.{parts_of, parts_in}
use Rattle.prepare.proofs.Stepped.{has_next}
use Rattle.prepare.proofs.recurrence.add_rows.Goals as goal

pub returns-clause-ok : goal.returns-clause-ok
returns-clause-ok c =
    let p_items : c.push.new.self.items ≡ c.args.p.now.rows.items ++ c.in_ok-row_p.row_p ∷ [] =
    grind (arith, common_steps) in
    let u_items : c.push-2.new.self.items ≡ c.args.u.now.rows.items ++ c.in_ok-row_u.row_u ∷ [] =
    grind (arith, common_steps) in
    has_next c.args.given.now.ring c.args.given.now.k c.args.given.now.q c.args.given.now.inverse
    (parts_in c.args.p.now.rows.items) (parts_in c.next_of_p.new.p.rows.items) (parts_in c.args.u.now.rows.items)
    (parts_of c.args.row.now) (parts_of c.in_ok-row_p.row_p.items) (parts_of c.deref.result.now)
    (parts_of c.in_ok-row_u.row_u.items) (parts_in c.push.new.self.items) (parts_in c.push-2.new.self.items)
    (ap parts_in c.next_of_p.ensures.rows) (ap parts_of c.deref.ensures.value) c.in_ok-row_p.ensures.next
    c.in_ok-row_u.ensures.next
    (ap parts_in p_items ∙ map_push (λ (t : Vec (Arc PartValue Global) Global). parts_of t.items)
    c.args.p.now.rows.items c.in_ok-row_p.row_p)
    (ap parts_in u_items ∙ map_push (λ (t : Vec (Arc PartValue Global) Global). parts_of t.items)
    c.args.u.now.rows.items c.in_ok-row_u.row_u)
