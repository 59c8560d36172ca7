use Rattle.std.proofs.Common.{rules, ◌≡◌, [], ◌∷◌, sym, subst}
use Rattle.residue.specs.Residues.{number_of}
use Rattle.taylor.specs.Binomials.{IsBinomialRow}
use Rattle.taylor.proofs.Triangles.{row_zero, no_rows}
use Rattle.taylor.proofs.binomials.Binomials.new.Goals as goal

pub loop-j-init : goal.loop-j-init
loop-j-init c =
    let m = number_of c.args.modulus in
    let first : c.in_ok-row.row.items ≡ 1 ∷ [] = search rules in
    record {
      rows = no_rows m (λ r. r.items) c.new-rows.result.items c.new-rows.ensures.items;
      row = subst (IsBinomialRow m 0) (sym first) (row_zero m c.args.modulus.low);
    }
