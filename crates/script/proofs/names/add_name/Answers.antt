use Rattle.std.proofs.Common.{◌≡◌, ◌==◌, ℕ, List, None, Some, length, subst, ap, Err, false, rules, arith}
use Rattle.std.proofs.lemmas.Grind.{common_steps}
use Rattle.script.specs.Header.{name_fault}
use Rattle.script.specs.declared.refusal.Refusal.TheVariants as refusal
use Rattle.expr_reader.specs.declared.name_error.NameError.TheVariants.{Repeats}
use Rattle.script.proofs.NameLemmas.{not_text, repeated, added, ok_not_err}
use Rattle.script.proofs.names.add_name.Goals as goal

pub returns-in-Ok-add-clause-good : goal.returns-in-Ok-add-clause-good
returns-in-Ok-add-clause-good c =
    subst (λ (n : List ℕ). name_fault c.args.names.now n c.args.word ≡ None) c.in-Ok.ensures.cases.0
    (added c.args.names.now c.in-Ok.text.now c.args.word c.len-full.ensures.variables.few
    (λ h. ok_not_err _ _ (c.in-Ok-add.ensures.too_many.1 h)) (λ h. ok_not_err _ _ (c.in-Ok-add.ensures.bad_name.1 h))
    (λ i h. ok_not_err _ _ ((c.in-Ok-add.ensures.repeats i).1 h)))

pub returns-in-Err-Repeats-clause-fault : goal.returns-in-Err-Repeats-clause-fault
returns-in-Err-Repeats-clause-fault c =
    let is : c.in-Err-Repeats.field-0 ≡ Repeats c.in-Err-Repeats.field-0-0 = search rules in
    subst (λ (n : List ℕ). name_fault c.args.names.now n c.args.word ≡ Some (refusal.NameRepeats c.args.word))
    c.in-Ok.ensures.cases.0 (repeated c.args.names.now c.in-Ok.text.now c.args.word c.in-Err-Repeats.field-0-0
    ((c.in-Err-Repeats.ensures.repeats c.in-Err-Repeats.field-0-0).0 (ap (λ e. Err e) is)))

pub returns-else-full-clause-fault : goal.returns-else-full-clause-fault
returns-else-full-clause-fault c =
    let test : (length c.args.names.now == 8) ≡ false = grind (arith, common_steps) in
    not_text c.args.names.now c.args.name.now c.args.word c.len-full.ensures.variables.few test
    c.in-Err.ensures.cases.0
