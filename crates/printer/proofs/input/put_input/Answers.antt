use Rattle.std.proofs.Common.{◌≡◌, ℕ, suc, ◌-◌, ◌<◌, List, ◌++◌, length, get_or, take, append_assoc}
use Rattle.std.proofs.Common.{refl, sym, ◌∙◌, ap, arith}
use Rattle.std.specs.Prelude.{codes, decimal}
use Rattle.std.specs.Arc.{arc_value}
use Rattle.std.specs.declared.alloc.Global.{Global}
use Rattle.std.specs.declared.sync.Arc.{Arc}
use Rattle.std.specs.declared.vec.Vec.{Vec}
use Rattle.std.proofs.lemmas.List.{length-map}
use Rattle.ps_model.specs.BlockText.{newline, power_lines}
use Rattle.ps_model.specs.InputText.{input_text}
use Rattle.parts.specs.PartValue.{PartValue}
use Rattle.parts.specs.RowsOfParts.{parts_of, parts_in}
use Rattle.parts.specs.Series.{series, polynomial_of}
use Rattle.parts.proofs.RowsRead.{row_read}
use Rattle.printer.specs.Lines.{coefficient_lines}
use Rattle.printer.specs.Rows.{listed_part}
use Rattle.printer.specs.Texts.{degree_of}
use Rattle.printer.proofs.PartTexts.{lines_are}
use Rattle.printer.proofs.Pieces.{start, regroup, step, fault, last}
use Rattle.printer.proofs.input.put_input.Goals as goal

-- the degree is read from the first row
degree_read : (rows : List (Vec (Arc PartValue Global) Global)) (v : Vec (Arc PartValue Global) Global) (n : ℕ)
    → 0 < length rows → v ≡ get_or rows 0 v → n ≡ v.len → n - 1 ≡ degree_of (parts_in rows)
degree_read rows v n some is long = ap (λ k. k - 1) (long ∙ v.ok.0 ∙ sym (length-map v.items arc_value)
    ∙ ap (λ (row : List PartValue). length row) (row_read rows 0 v v.items some is refl))

rows_long : (rows : List (Vec (Arc PartValue Global) Global)) (d : ℕ) → d < length rows → d < length (parts_in rows)
rows_long rows d lt =
    let long = length-map rows (λ (row : Vec (Arc PartValue Global) Global). parts_of row.items) in omega arith

grouped : (p a b c l : List ℕ) → p ++ a ++ b ++ c ++ l ≡ p ++ ((a ++ b) ++ (c ++ l))
grouped p a b c l = append_assoc (p ++ a ++ b) c l ∙ ap (λ (x : List ℕ). x ++ (c ++ l)) (append_assoc p a b)
    ∙ append_assoc p (a ++ b) (c ++ l)

abbrev precision : ℕ → List ℕ
precision d = codes "precision " ++ decimal d ++ newline

-- the text, where another number is the degree
pieces : (d degree number : ℕ) (lines others : List ℕ) → number ≡ degree → lines ≡ others
    → precision d ++ codes "input degree " ++ decimal degree ++ newline ++ lines
    ≡ precision d ++ ((codes "input degree " ++ decimal number) ++ (newline ++ others))
pieces d degree number lines others same same_lines =
    (λ i. precision d ++ codes "input degree " ++ decimal (sym same i) ++ newline ++ same_lines i)
    ∙ grouped (precision d) (codes "input degree ") (decimal number) newline others

pub returns-in_err-write_precision : goal.returns-in_err-write_precision
returns-in_err-write_precision g c =
    let ring = c.args.ring in
    let names : List (List ℕ) = g.N.NameView.names c.args.names.now in
    let rows = parts_in c.args.rows.now in
    let d = c.args.d in
    let degree = degree_of rows in
    let whole = input_text (series ring) names degree (polynomial_of ring (take (suc d) rows)) d in
    let lines = power_lines (series ring) names d (polynomial_of ring (take (suc d) rows)) degree in
    fault ((codes "input degree " ++ decimal degree) ++ (newline ++ lines)) _ c.in_err-write_precision.ensures
    (regroup (start _ _ whole) (pieces d degree degree lines lines refl refl)) c.from_residual.ensures.0

pub returns-in_err-write_numbered : goal.returns-in_err-write_numbered
returns-in_err-write_numbered g c =
    let ring = c.args.ring in
    let names : List (List ℕ) = g.N.NameView.names c.args.names.now in
    let rows = parts_in c.args.rows.now in
    let d = c.args.d in
    let degree = degree_of rows in
    let whole = input_text (series ring) names degree (polynomial_of ring (take (suc d) rows)) d in
    let lines = power_lines (series ring) names d (polynomial_of ring (take (suc d) rows)) degree in
    let number = c.from.result in
    let v = c.index-rows-0.result in
    let some : 0 < length c.args.rows.now = omega (arith, c.requires.known) in
    let same : number ≡ degree = c.from.ensures ∙ degree_read c.args.rows.now v c.len.result some c.index-rows-0.is
    c.len.ensures in
    fault (newline ++ lines) _ c.in_err-write_numbered.ensures
    (step ((codes "input degree " ++ decimal number) ++ (newline ++ lines)) c.in_ok-write_precision.ensures
    (regroup (start _ _ whole) (pieces d degree number lines lines same refl)))
    c.from_residual-in_err-write_numbered.ensures.0

pub returns-in_err-put : goal.returns-in_err-put
returns-in_err-put g c =
    let ring = c.args.ring in
    let names : List (List ℕ) = g.N.NameView.names c.args.names.now in
    let rows = parts_in c.args.rows.now in
    let d = c.args.d in
    let degree = degree_of rows in
    let whole = input_text (series ring) names degree (polynomial_of ring (take (suc d) rows)) d in
    let lines = power_lines (series ring) names d (polynomial_of ring (take (suc d) rows)) degree in
    let number = c.from.result in
    let v = c.index-rows-0.result in
    let some : 0 < length c.args.rows.now = omega (arith, c.requires.known) in
    let same : number ≡ degree = c.from.ensures ∙ degree_read c.args.rows.now v c.len.result some c.index-rows-0.is
    c.len.ensures in
    fault lines _ c.in_err-put.ensures (step (newline ++ lines) c.in_ok-write_numbered.ensures
    (step ((codes "input degree " ++ decimal number) ++ (newline ++ lines)) c.in_ok-write_precision.ensures
    (regroup (start _ _ whole) (pieces d degree number lines lines same refl))))
    c.from_residual-in_err-put.ensures.0

pub returns : goal.returns
returns g c =
    let ring = c.args.ring in
    let names : List (List ℕ) = g.N.NameView.names c.args.names.now in
    let rows = parts_in c.args.rows.now in
    let d = c.args.d in
    let degree = degree_of rows in
    let whole = input_text (series ring) names degree (polynomial_of ring (take (suc d) rows)) d in
    let number = c.from.result in
    let v = c.index-rows-0.result in
    let some : 0 < length c.args.rows.now = omega (arith, c.requires.known) in
    let read : c.len.result - 1 ≡ degree = degree_read c.args.rows.now v c.len.result some c.index-rows-0.is
    c.len.ensures in
    let lines = coefficient_lines (take c.n.result names) d (listed_part rows) (c.len.result - 1) in
    let same = lines_are ring names degree d rows c.requires.rows (rows_long c.args.rows.now d c.requires.known) degree
    (omega arith) ∙ (λ i. coefficient_lines (take (sym c.n.ensures.variables i) names) d (listed_part rows)
    (sym read i)) in
    last _ c.write_lines.ensures (step lines c.in_ok-put.ensures (step (newline ++ lines) c.in_ok-write_numbered.ensures
    (step ((codes "input degree " ++ decimal number) ++ (newline ++ lines)) c.in_ok-write_precision.ensures
    (regroup (start _ _ whole) (pieces d degree number _ lines (c.from.ensures ∙ read) same)))))
