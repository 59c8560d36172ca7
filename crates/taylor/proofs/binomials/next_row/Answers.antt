use Rattle.std.proofs.Common.{◌+◌, length, refl, sym, subst, arith}
use Rattle.residue.specs.Residues.{number_of}
use Rattle.taylor.specs.Binomials.{IsBinomialRow}
use Rattle.taylor.proofs.Triangles.{IsStart, start_more, row_from}
use Rattle.taylor.proofs.binomials.next_row.Goals as goal

pub loop-i-preserved : goal.loop-i-preserved
loop-i-preserved c =
    let m = number_of c.args.modulus in
    let row = c.args.row.now in
    subst (IsStart m (length row) (c.loop-i.i + 1)) (sym c.in_ok-push.ensures.items)
    (start_more m (length row) c.loop-i.i _ _ c.add.result row c.loop-i.next.items c.requires.row (omega arith)
    (omega arith) refl refl c.add.ensures c.loop-i.invariant)

pub returns : goal.returns
returns c =
    let m = number_of c.args.modulus in
    let row = c.args.row.now in
    subst (IsBinomialRow m (length row)) (sym c.in_ok-push-2.ensures.items)
    (row_from m (length row) c.loop-i.i c.loop-i.next.items c.args.modulus.low (omega arith) c.loop-i.invariant)
