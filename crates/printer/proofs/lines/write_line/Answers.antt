use Rattle.std.proofs.Common.{◌≡◌, ℕ, List, ◌++◌, ◌∙◌, ap, sym, take, append_assoc}
use Rattle.std.specs.Prelude.{codes, decimal}
use Rattle.ps_model.specs.BlockText.{newline, terms_text}
use Rattle.printer.specs.Rows.{terms_up_to}
use Rattle.printer.proofs.Pieces.{start, regroup, step, fault, last}
use Rattle.printer.proofs.lines.write_line.Goals as goal

abbrev line : ℕ → List ℕ → List ℕ
line j terms = codes "Y^" ++ decimal j ++ codes ": " ++ terms ++ newline

pieces : (j power : ℕ) (terms : List ℕ) → power ≡ j
    → line j terms ≡ (codes "Y^" ++ decimal power) ++ (codes ": " ++ (terms ++ newline))
pieces j power terms same = ap (λ k. line k terms) (sym same)
    ∙ append_assoc (codes "Y^" ++ decimal power ++ codes ": ") terms newline
    ∙ append_assoc (codes "Y^" ++ decimal power) (codes ": ") (terms ++ newline)

pub returns-in_err-write_numbered : goal.returns-in_err-write_numbered
returns-in_err-write_numbered g c =
    let names : List (List ℕ) = take c.args.variables.now.count (g.N.NameView.names c.args.variables.now.names.now) in
    let terms = terms_text names (terms_up_to (g.C.Coefficients.part_of c.args.coefficients.now c.args.power)
    c.args.d) in
    fault (codes ": " ++ (terms ++ newline)) _ c.in_err-write_numbered.ensures
    (regroup (start _ _ (line c.args.power terms)) (pieces c.args.power _ terms c.from.ensures))
    c.from_residual.ensures.0

pub returns-in_err-put : goal.returns-in_err-put
returns-in_err-put g c =
    let names : List (List ℕ) = take c.args.variables.now.count (g.N.NameView.names c.args.variables.now.names.now) in
    let terms = terms_text names (terms_up_to (g.C.Coefficients.part_of c.args.coefficients.now c.args.power)
    c.args.d) in
    fault (terms ++ newline) _ c.in_err-put.ensures
    (step (codes ": " ++ (terms ++ newline)) c.in_ok-write_numbered.ensures
    (regroup (start _ _ (line c.args.power terms)) (pieces c.args.power _ terms c.from.ensures)))
    c.from_residual-in_err-put.ensures.0

pub returns-in_err-write_coefficient : goal.returns-in_err-write_coefficient
returns-in_err-write_coefficient g c =
    let names : List (List ℕ) = take c.args.variables.now.count (g.N.NameView.names c.args.variables.now.names.now) in
    let terms = terms_text names (terms_up_to (g.C.Coefficients.part_of c.args.coefficients.now c.args.power)
    c.args.d) in
    fault newline _ c.in_err-write_coefficient.ensures
    (step (terms ++ newline) c.in_ok-put.ensures
    (step (codes ": " ++ (terms ++ newline)) c.in_ok-write_numbered.ensures
    (regroup (start _ _ (line c.args.power terms)) (pieces c.args.power _ terms c.from.ensures))))
    c.from_residual-in_err-write_coefficient.ensures.0

pub returns : goal.returns
returns g c =
    let names : List (List ℕ) = take c.args.variables.now.count (g.N.NameView.names c.args.variables.now.names.now) in
    let terms = terms_text names (terms_up_to (g.C.Coefficients.part_of c.args.coefficients.now c.args.power)
    c.args.d) in
    last _ c.put-2.ensures
    (step newline c.in_ok-write_coefficient.ensures
    (step (terms ++ newline) c.in_ok-put.ensures
    (step (codes ": " ++ (terms ++ newline)) c.in_ok-write_numbered.ensures
    (regroup (start _ _ (line c.args.power terms)) (pieces c.args.power _ terms c.from.ensures)))))
