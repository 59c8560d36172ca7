use Rattle.std.proofs.Common.{◌-◌, ℕ, List, Some, length, drop, sym, ◌∙◌, ap, arith}
use Rattle.std.proofs.lemmas.List.{length-drop, take_all}
use Rattle.printer.proofs.ReadCuts.{strip_short, differs, same_more, all_same}
use Rattle.printer.proofs.read_pieces.strip.Goals as goal

pub returns-then-bytes-text : goal.returns-then-bytes-text
returns-then-bytes-text c = strip_short c.args.text.now c.args.bytes.now (omega arith)

pub returns-then-bytes-i : goal.returns-then-bytes-i
returns-then-bytes-i c = differs c.args.text.now c.args.bytes.now c.loop-i.i (omega arith) (omega arith)
    (λ e. omega arith) c.loop-i.invariant

pub loop-i-preserved : goal.loop-i-preserved
loop-i-preserved c = same_more c.args.text.now c.args.bytes.now c.loop-i.i (omega arith) (omega arith) (omega arith)
    c.loop-i.invariant

pub returns : goal.returns
returns c =
    let t = c.args.text.now in
    let bs = c.args.bytes.now in
    all_same t bs c.loop-i.i (omega arith) c.loop-i.invariant
    ∙ ap (λ (l : List ℕ). Some l) (sym (take_all (length bs - length t) (drop (length t) bs)
    (omega (arith, length-drop (length t) bs))))
