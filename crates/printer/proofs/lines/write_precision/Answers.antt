use Rattle.std.proofs.Common.{◌≡◌, ℕ, ◌++◌, ap, sym}
use Rattle.std.specs.Prelude.{codes, decimal}
use Rattle.ps_model.specs.BlockText.{newline}
use Rattle.printer.proofs.Pieces.{start, regroup, step, fault, last}
use Rattle.printer.proofs.lines.write_precision.Goals as goal

-- the number that is written is the precision
text : (n d : ℕ) → n ≡ d → codes "precision " ++ decimal d ++ newline ≡ codes "precision " ++ decimal n ++ newline
text n d same = ap (λ k. codes "precision " ++ decimal k ++ newline) (sym same)

pub returns-in_err-write_numbered : goal.returns-in_err-write_numbered
returns-in_err-write_numbered g c = fault newline _ c.in_err-write_numbered.ensures
    (regroup (start _ _ (codes "precision " ++ decimal c.args.d ++ newline)) (text _ _ c.from.ensures))
    c.from_residual.ensures.0

pub returns : goal.returns
returns g c = last _ c.put.ensures (step newline c.in_ok-write_numbered.ensures
    (regroup (start _ _ (codes "precision " ++ decimal c.args.d ++ newline)) (text _ _ c.from.ensures)))
