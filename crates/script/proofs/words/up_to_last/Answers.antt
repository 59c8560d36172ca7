use Rattle.std.proofs.Common.{◌≡◌, ◌∙◌, ◌<◌, ◌-◌, suc, ℕ, List, sym, ap, length, take, get_or, arith, subst, refl}
use Rattle.std.proofs.Common.{false}
use Rattle.ps_model.specs.Tokens.{is_blank, without_blanks}
use Rattle.grammar.proofs.Whole.{trimmed_step, trimmed_stop}
use Rattle.script.proofs.words.up_to_last.Goals as goal
use Rattle.script.proofs.words.up_to_last.Goals.{then-loop-end-test+else-is_blank, else-loop-end-test}

stops : (text : List ℕ) (n m : ℕ) → suc n ≡ m → n < length text → is_blank (get_or text n 0) ≡ false →
    take m text ≡ without_blanks (take m text)
stops text n m e within seen = subst (λ (k : ℕ). take k text ≡ without_blanks (take k text)) e
    (sym (trimmed_stop text n within seen))

empty : (text : List ℕ) (m : ℕ) → 0 ≡ m → take m text ≡ without_blanks (take m text)
empty text m e = subst (λ (k : ℕ). take k text ≡ without_blanks (take k text)) e refl

pub loop-end-preserved : goal.loop-end-preserved
loop-end-preserved c =
    let n = c.loop-end.end - 1 in
    let last : suc n ≡ c.loop-end.end = omega arith in
    record {
      within = omega arith;
      same = trimmed_step c.args.text.now n (omega arith) (sym c.is_blank.ensures ∙ c.if-is_blank.true) ∙ ap
          (λ m. without_blanks (take m c.args.text.now)) last ∙ c.loop-end.invariant.same;
    }

pub returns-clause-same : goal.returns-clause-same
returns-clause-same c = elim c.loop-end-test.branch [
  | then-loop-end-test+else-is_blank w ↦ stops c.args.text.now (c.loop-end.end - 1) c.loop-end.end (omega arith)
      (omega arith) (sym w.is_blank.ensures ∙ w.if-is_blank.false) ∙ c.loop-end.invariant.same
  | else-loop-end-test w ↦ empty c.args.text.now c.loop-end.end (omega arith) ∙ c.loop-end.invariant.same
]
