use Rattle.std.proofs.Common.{◌≡◌, ◌<◌, ℕ, List, length, sym, ◌∙◌, subst, arith, Some}
use Rattle.std.specs.Prelude.{slice_get}
use Rattle.session.proofs.NamesBehind.{name_behind}
use Rattle.expr_reader.proofs.AsNames.{names_as_names}
use Rattle.session.proofs.names.copy_names.Goals as goal

pub name-requires : goal.name-requires
name-requires c = subst (λ (l : List (List ℕ)). c.loop-i.i < length l)
    (sym (names_as_names c.args.names.now c.len-i-end.ensures.variables.valid))
    (let low = c.loop-i-test.true in let count = c.len-i-end.ensures.count in omega arith)

pub loop-i-preserved : goal.loop-i-preserved
loop-i-preserved c = c.in-Ok.ensures.ok ∙ name_behind c.args.names.now c.loop-i.copy c.loop-i.i _ c.loop-i.invariant
    (subst (λ (l : List (List ℕ)). slice_get l c.loop-i.i ≡ Some c.name.result.now)
    (names_as_names c.args.names.now c.len-i-end.ensures.variables.valid) c.name.ensures)
