use Rattle.std.proofs.Common.{ℕ, ◌+◌, ◌<◌, ◌≤◌, List, ◌++◌, length, string_bytes, sym, ◌∙◌, ap, subst, arith}
use Rattle.std.specs.Prelude.{codes, decimal}
use Rattle.parts.specs.Series.{series}
use Rattle.printer.specs.Texts.{factors_to}
use Rattle.demo.specs.DemoText.{factor_lines}
use Rattle.demo.proofs.TextSteps.{AreLeft, grouped, lines_all, lines_more}
use Rattle.demo.proofs.texts.text.Goals as goal

abbrev head : ℕ → ℕ → List ℕ
head seed degree = codes "demo " ++ decimal seed ++ codes " degree " ++ decimal degree ++ codes "\nprecision 40\n"

pub loop-i-init : goal.loop-i-init
loop-i-init g c =
    let value = g.V.BlockView.value c.args.view.now in
    ap (λ (l : List ℕ). l ++ factor_lines (series value.ring) 1 (factors_to value 40))
    (c.in_ok-text.ensures.ok
    ∙ grouped (codes "demo ") (decimal c.args.seed) (codes " degree ") (decimal c.args.degree)
    (codes "\nprecision 40\n"))

pub loop-i-preserved : goal.loop-i-preserved
loop-i-preserved g c =
    let value = g.V.BlockView.value c.args.view.now in
    let names : List (List ℕ) = g.V.NameView.names c.args.view.now in
    let within : c.loop-i.i < length value.roots = omega (arith, c.loop-i-test.true, c.factors-i-end.ensures) in
    subst (AreLeft (series value.ring) (head c.args.seed c.args.degree) (factors_to value 40) (c.loop-i.i + 1))
    (sym c.in_ok-push_str.ensures.bytes)
    (lines_more value names (g.met.V.BlockView.lawful c.args.view.now) (head c.args.seed c.args.degree) c.loop-i.i
    (string_bytes c.loop-i.text) c.as_str.result.now within c.loop-i.invariant
    (c.as_str.ensures.value ∙ c.in_ok-line.ensures))

pub returns : goal.returns
returns g c =
    let value = g.V.BlockView.value c.args.view.now in
    let names : List (List ℕ) = g.V.NameView.names c.args.view.now in
    let past : length value.roots ≤ c.loop-i.i = omega (arith, c.loop-i-test.false, c.factors-i-end.ensures) in
    c.in_ok-push_str-2.ensures.bytes
    ∙ ap (λ (l : List ℕ). l ++ codes "steps 164\n")
    (lines_all value names (g.met.V.BlockView.lawful c.args.view.now) (head c.args.seed c.args.degree) c.loop-i.i
    (string_bytes c.loop-i.text) past c.loop-i.invariant)
