use Rattle.std.proofs.Common.{◌≡◌, ◌++◌, ◌∷◌, [], ℕ, List, length, get_or, ◌∙◌, ap, arith}
use Rattle.std.proofs.lemmas.Grind.{common_steps}
use Rattle.std.proofs.lemmas.List.{length_push}
use Rattle.parts.proofs.RowEntries.{padded}
use Rattle.parts.proofs.contiguous.lengthen.Goals as goal

pub loop-row-preserved : goal.loop-row-preserved
loop-row-preserved c =
    let items : c.push.new.self.items ≡ c.loop-row.row.items ++ 0 ∷ [] = grind (arith, common_steps) in
    record {
      same = λ j. ap (λ (xs : List ℕ). get_or xs j 0) items ∙ padded 0 c.loop-row.row.items j
          ∙ c.loop-row.invariant.same j;
      longer = omega (arith, ap (length {A = ℕ}) items, length_push c.loop-row.row.items 0);
    }
