use Rattle.std.proofs.Common.{◌≡◌, ◌+◌, ◌++◌, ◌∷◌, [], length, sym, ◌∙◌, ap, subst, arith}
use Rattle.std.proofs.lemmas.Grind.{common_steps}
use Rattle.std.proofs.lemmas.List.{length-map, length_push, map_push}
use Rattle.std.specs.declared.alloc.Global.{Global}
use Rattle.std.specs.declared.sync.Arc.{Arc}
use Rattle.std.specs.declared.vec.Vec.{Vec}
use Rattle.parts.specs.PartValue.{PartValue}
use Rattle.parts.specs.RowsOfParts.{parts_of, parts_in, IsRowOfParts, AreRowsOfParts}
use Rattle.prepare.proofs.Stepped.{rows_more}
use Rattle.prepare_speed.proofs.rows.rows_up_to.Goals as goal

pub loop-r-preserved : goal.loop-r-preserved
loop-r-preserved c =
    let items : c.push.new.self.items ≡ c.loop-r.rows.items ++ c.in_ok-row_of.field-0 ∷ [] =
    grind (arith, common_steps) in
    let count = c.loop-r.invariant.count in
    let long = length-map c.loop-r.rows.items (λ (t : Vec (Arc PartValue Global) Global). parts_of t.items) in
    record {
      count = ap length items ∙ length_push c.loop-r.rows.items c.in_ok-row_of.field-0 ∙ ap (λ n. n + 1) count;
      rows = subst (AreRowsOfParts c.args.ring 8) (sym (ap parts_in items
          ∙ map_push (λ (t : Vec (Arc PartValue Global) Global). parts_of t.items) c.loop-r.rows.items
          c.in_ok-row_of.field-0))
          (rows_more c.args.ring 8 (parts_in c.loop-r.rows.items) (parts_of c.in_ok-row_of.field-0.items)
          c.loop-r.invariant.rows
          (subst (λ n. IsRowOfParts c.args.ring 8 n (parts_of c.in_ok-row_of.field-0.items)) (sym (long ∙ count))
          c.in_ok-row_of.ensures));
    }
