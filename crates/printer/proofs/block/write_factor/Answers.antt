use Rattle.std.proofs.Common.{◌≡◌, ℕ, ◌+◌, ◌≤◌, List, ◌++◌, take, sym, ◌∙◌, subst}
use Rattle.std.specs.Prelude.{codes, decimal}
use Rattle.std.proofs.lemmas.Option.{same_Some, get_or_from_slice_get}
use Rattle.ps_model.specs.declared.job.Root.{Root}
use Rattle.ps_model.specs.BlockText.{newline, factor_text}
use Rattle.parts.specs.Series.{series}
use Rattle.printer.specs.Lines.{coefficient_lines}
use Rattle.printer.specs.Texts.{factor_to}
use Rattle.printer.specs.View.{part_at}
use Rattle.printer.proofs.Pieces.{start, regroup, step, fault, last}
use Rattle.printer.proofs.ViewTexts.{factor_pieces, has_lower}
use Rattle.printer.proofs.block.write_factor.Goals as goal

abbrev head : ℕ → Root → List ℕ
head number root = codes "factor " ++ decimal number ++ codes " root " ++ decimal root.value ++ codes " times "
    ++ decimal root.times ++ newline

pub returns-in_err-write_head : goal.returns-in_err-write_head
returns-in_err-write_head g c = λ root at.
    let value = g.V.BlockView.value c.args.view.now in
    let names : List (List ℕ) = g.V.NameView.names c.args.view.now in
    let is = g.met.V.BlockView.lawful c.args.view.now in
    let same : root ≡ c.root-root.result = same_Some root c.root-root.result (sym at ∙ c.root-root.ensures) in
    let i = c.args.i in
    let d = c.args.d in
    fault (coefficient_lines (take value.ring.n names) d (part_at value i) root.times) _ c.in_err-write_head.ensures
    (regroup (start _ _ (factor_text (series value.ring) names d (i + 1) root (factor_to value d i)))
    (factor_pieces value names is d c.requires.known i root at (i + 1)
    ∙ (λ l. head (sym c.from.ensures l + 1) (same l) ++ coefficient_lines (take value.ring.n names) d
    (part_at value i) root.times)))
    c.from_residual.ensures.0

pub write_lines-requires : goal.write_lines-requires
write_lines-requires g c = λ power r le le'.
    let value = g.V.BlockView.value c.args.view.now in (
      c.requires.factor,
      λ root. subst (λ (x : Root). power ≤ x.times)
          (sym (get_or_from_slice_get value.roots c.args.i c.root-root.result root c.root-root.ensures)) le,
      has_lower value c.args.d r le' c.requires.known,
    )

pub returns : goal.returns
returns g c = λ root at.
    let value = g.V.BlockView.value c.args.view.now in
    let names : List (List ℕ) = g.V.NameView.names c.args.view.now in
    let is = g.met.V.BlockView.lawful c.args.view.now in
    let variables = c.variables_of.result in
    let first : List (List ℕ) = take variables.count (g.V.NameView.names variables.names.now) in
    let first_is : take value.ring.n names ≡ first =
    λ i. take (sym c.variables_of.ensures.count i) (g.V.NameView.names (sym c.variables_of.ensures.names i)) in
    let same : root ≡ c.root-root.result = same_Some root c.root-root.result (sym at ∙ c.root-root.ensures) in
    let i = c.args.i in
    let d = c.args.d in
    last _ c.write_lines.ensures (step (coefficient_lines first d (part_at value i) c.root-root.result.times)
    c.in_ok-write_head.ensures
    (regroup (start _ _ (factor_text (series value.ring) names d (i + 1) root (factor_to value d i)))
    (factor_pieces value names is d c.requires.known i root at (i + 1)
    ∙ (λ l. head (sym c.from.ensures l + 1) (same l) ++ coefficient_lines (first_is l) d (part_at value i)
    (same l).times))))
