use Rattle.std.proofs.Common.{◌≡◌, ℕ, List, ◌++◌, ◌∙◌, ap, refl, sym, append_assoc}
use Rattle.std.specs.Prelude.{codes, decimal}
use Rattle.ps_model.specs.BlockText.{newline}
use Rattle.printer.proofs.Pieces.{start, regroup, step, fault, last}
use Rattle.printer.proofs.block.write_head.Goals as goal

abbrev line : ℕ → ℕ → ℕ → List ℕ
line n v t = codes "factor " ++ decimal n ++ codes " root " ++ decimal v ++ codes " times " ++ decimal t ++ newline

-- the pieces in which it is written
abbrev times_piece : ℕ → List ℕ
times_piece t = (codes " times " ++ decimal t) ++ newline

abbrev root_piece : ℕ → ℕ → List ℕ
root_piece v t = (codes " root " ++ decimal v) ++ times_piece t

grouped : (a b c d e f g : List ℕ) → a ++ b ++ c ++ d ++ e ++ f ++ g ≡ (a ++ b) ++ ((c ++ d) ++ ((e ++ f) ++ g))
grouped a b c d e f g =
    ap (λ (l : List ℕ). l ++ g) (append_assoc (a ++ b ++ c ++ d) e f)
    ∙ append_assoc (a ++ b ++ c ++ d) (e ++ f) g
    ∙ ap (λ (l : List ℕ). l ++ ((e ++ f) ++ g)) (append_assoc (a ++ b) c d)
    ∙ append_assoc (a ++ b) (c ++ d) ((e ++ f) ++ g)

pieces : (n v t times : ℕ) → times ≡ t → line n v t ≡ (codes "factor " ++ decimal n) ++ root_piece v times
pieces n v t times same = ap (λ k. line n v k) (sym same) ∙ grouped (codes "factor ") (decimal n) (codes " root ")
    (decimal v) (codes " times ") (decimal times) newline

pub returns-in_err-write_numbered : goal.returns-in_err-write_numbered
returns-in_err-write_numbered g c =
    let root = c.args.root in
    fault (root_piece root.value root.times) _ c.in_err-write_numbered.ensures
    (regroup (start _ _ (line c.args.number root.value root.times)) (pieces c.args.number root.value root.times _ refl))
    c.from_residual.ensures.0

pub returns-in_err-write_numbered-2 : goal.returns-in_err-write_numbered-2
returns-in_err-write_numbered-2 g c =
    let root = c.args.root in
    fault (times_piece root.times) _ c.in_err-write_numbered-2.ensures
    (step (root_piece root.value root.times) c.in_ok-write_numbered.ensures
    (regroup (start _ _ (line c.args.number root.value root.times))
    (pieces c.args.number root.value root.times _ refl))) c.from_residual-in_err-write_numbered-2.ensures.0

pub returns-in_err-write_numbered-3 : goal.returns-in_err-write_numbered-3
returns-in_err-write_numbered-3 g c =
    let root = c.args.root in
    let times = c.from.result in
    fault newline _ c.in_err-write_numbered-3.ensures
    (step (times_piece times) c.in_ok-write_numbered-2.ensures
    (step (root_piece root.value times) c.in_ok-write_numbered.ensures
    (regroup (start _ _ (line c.args.number root.value root.times))
    (pieces c.args.number root.value root.times times c.from.ensures))))
    c.from_residual-in_err-write_numbered-3.ensures.0

pub returns : goal.returns
returns g c =
    let root = c.args.root in
    let times = c.from.result in
    last _ c.put.ensures (step newline c.in_ok-write_numbered-3.ensures
    (step (times_piece times) c.in_ok-write_numbered-2.ensures
    (step (root_piece root.value times) c.in_ok-write_numbered.ensures
    (regroup (start _ _ (line c.args.number root.value root.times))
    (pieces c.args.number root.value root.times times c.from.ensures)))))
