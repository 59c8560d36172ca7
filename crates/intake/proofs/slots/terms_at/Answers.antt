use Rattle.std.proofs.Common.{◌≡◌, ◌++◌, sym, ◌∙◌, ap, append-nil}
use Rattle.std.specs.Prelude.{slice_get, option_map}
use Rattle.intake.specs.Slots.{term_at}
use Rattle.intake.proofs.SlotSteps.{got, no_term, terms_next}
use Rattle.intake.proofs.slots.terms_at.Goals as goal
use Rattle.intake.proofs.slots.terms_at.Goals.{in-Some+in_ok-push, in_default}

pub loop-addend-preserved : goal.loop-addend-preserved
loop-addend-preserved c = terms_next _ _ _ c.addend-item.result c.loop-addend.of.items c.match-get.of.items
    c.loop-addend-test.true c.addend-item.is (more c) c.loop-addend.invariant
  where
    more : (c : goal.Joined-get) → c.match-get.of.items
        ≡ c.loop-addend.of.items ++ term_at c.addend-item.result.sign
        (slice_get c.addend-item.result.slots.items c.args.j)
    more c =
        elim c.match-get.branch [
          | in-Some+in_ok-push w ↦ ap (λ of. of.items) w.of-is ∙ w.in_ok-push.ensures.items
              ∙ ap (λ slot. c.loop-addend.of.items ++ term_at c.addend-item.result.sign slot)
              (sym (ap (λ ids. slice_get ids c.args.j) (sym c.deref.ensures.value)
              ∙ got _ _ c.get.result c.get.ensures.lookup ∙ ap (option_map (λ b. b.now)) w.in-Some.is))
          | in_default w ↦ ap (λ of. of.items) w.of-is ∙ sym (append-nil c.loop-addend.of.items)
              ∙ ap (λ ts. c.loop-addend.of.items ++ ts)
              (sym (ap (λ ids. term_at c.addend-item.result.sign (slice_get ids c.args.j)) (sym c.deref.ensures.value)
              ∙ no_term c.addend-item.result.sign _ _ c.get.result c.get.ensures.lookup w.in_default.not-Some))
        ]
