use Rattle.std.proofs.Common.{◌≡◌, ℕ, zero, suc, ◌+◌, List, [], ◌++◌, take, refl, sym, ◌∙◌, ap, add-one, arith}
use Rattle.std.proofs.lemmas.List.{append-nil}
use Rattle.parts.specs.PartValue.{PartValue}
use Rattle.printer.specs.Lines.{coefficient_line, coefficient_lines}
use Rattle.printer.proofs.Pieces.{regroup, step, fault, done}
use Rattle.printer.proofs.lines.write_lines.Goals as goal

module _ (names : List (List ℕ)) (D : ℕ) (part : ℕ → ℕ → PartValue) where
  -- the lines below the one of Y^j
  abbrev below : ℕ → List ℕ
  below zero = []
  below (suc j) = coefficient_lines names D part j

  lines_left : (j : ℕ) → coefficient_lines names D part j ≡ coefficient_line names D part j ++ below j
  lines_left zero = sym (append-nil (coefficient_line names D part 0))
  lines_left (suc j) = refl

  below_none : (j : ℕ) → j ≡ 0 → below j ≡ []
  below_none j is = ap below is

  below_is : (j k : ℕ) → j ≡ k + 1 → below j ≡ coefficient_lines names D part k
  below_is j k is = ap below (is ∙ add-one k)

pub returns-in_err-write_line : goal.returns-in_err-write_line
returns-in_err-write_line g c =
    let names : List (List ℕ) = take c.args.variables.now.count (g.N.NameView.names c.args.variables.now.names.now) in
    let part = g.C.Coefficients.part_of c.args.coefficients.now in
    let j = c.loop-power.power in
    fault (below names c.args.d part j) _ c.in_err-write_line.ensures
    (regroup c.loop-power.invariant (lines_left names c.args.d part j)) c.from_residual.ensures.0

pub loop-power-preserved : goal.loop-power-preserved
loop-power-preserved g c =
    let names : List (List ℕ) = take c.args.variables.now.count (g.N.NameView.names c.args.variables.now.names.now) in
    let part = g.C.Coefficients.part_of c.args.coefficients.now in
    let j = c.loop-power.power in
    regroup (step (below names c.args.d part j) c.in_ok-write_line.ensures
    (regroup c.loop-power.invariant (lines_left names c.args.d part j)))
    (below_is names c.args.d part j _ (omega arith))

pub returns-in_ok-write_line : goal.returns-in_ok-write_line
returns-in_ok-write_line g c =
    let names : List (List ℕ) = take c.args.variables.now.count (g.N.NameView.names c.args.variables.now.names.now) in
    let part = g.C.Coefficients.part_of c.args.coefficients.now in
    let j = c.loop-power.power in
    done _ (regroup (step (below names c.args.d part j) c.in_ok-write_line.ensures
    (regroup c.loop-power.invariant (lines_left names c.args.d part j)))
    (below_none names c.args.d part j (omega arith)))
