use Rattle.std.proofs.Common.{◌≡◌, ◌++◌, ◌∷◌, [], ℕ, List, sym, subst, arith}
use Rattle.std.specs.declared.alloc.Global.{Global}
use Rattle.std.specs.declared.vec.Vec.{Vec}
use Rattle.std.proofs.lemmas.Grind.{common_steps}
use Rattle.parts.specs.SeriesRows.{rows_in, KeepsPlaces}
use Rattle.parts.proofs.RowEntries.{pushed_rows, same_through, kept_through}
use Rattle.parts.proofs.contiguous.add_rows.Goals as goal

pub loop-alloc-preserved : goal.loop-alloc-preserved
loop-alloc-preserved c =
    let items : c.push.new.self.items ≡ c.loop-alloc.rows.items ++ c.new.result ∷ [] = grind (arith, common_steps) in
    let more = pushed_rows c.loop-alloc.rows.items c.push.new.self.items c.new.result items c.new.ensures.items in
    record {
      same = same_through (rows_in c.args.rows.now.items) (rows_in c.loop-alloc.rows.items)
          (rows_in c.push.new.self.items) c.loop-alloc.invariant.same more.0;
      kept = kept_through (rows_in c.args.rows.now.items) (rows_in c.loop-alloc.rows.items)
          (rows_in c.push.new.self.items) c.loop-alloc.invariant.kept more.1;
    }

pub returns-in_err-push-clause-kept : goal.returns-in_err-push-clause-kept
returns-in_err-push-clause-kept c =
    let items : c.push.new.self.items ≡ c.loop-alloc.rows.items = grind (arith, common_steps) in
    subst (λ (rows : List (Vec ℕ Global)). KeepsPlaces (rows_in c.args.rows.now.items) (rows_in rows)) (sym items)
    c.loop-alloc.invariant.kept
