use Rattle.std.proofs.Common.{◌≡◌, suc, Some, None, inl, inr, ◌∙◌, ap, arith}
use Rattle.std.specs.Prelude.{option_map}
use Rattle.intake.specs.Slots.{pairs_to}
use Rattle.intake.proofs.SlotSteps.{got, pairs_next, pairs_past}
use Rattle.intake.proofs.slots.pairs_at.Goals as goal
use Rattle.intake.proofs.slots.pairs_at.Goals.{in-Some-Some+in_ok-push, in-Some+in-None-1, in-None-1}

pub loop-i-preserved : goal.loop-i-preserved
loop-i-preserved c =
    let at_a = got _ _ c.get.result c.get.ensures.lookup in
    let at_b = got _ _ c.get-in-loop-i.result c.get-in-loop-i.ensures.lookup in
    elim c.match-get.branch [
      | in-Some-Some+in_ok-push w ↦ pairs_next c.args.a.now c.args.b.now c.args.j c.loop-i.i
          (Some w.in-Some-Some.x.now) (Some w.in-Some-Some.y.now)
          c.loop-i.of.items c.match-get.of.items
          (at_a ∙ ap (option_map (λ b. b.now)) w.in-Some-Some.is-0)
          (at_b ∙ ap (option_map (λ b. b.now)) w.in-Some-Some.is-1)
          (ap (λ of. of.items) w.of-is ∙ w.in_ok-push.ensures.items) c.loop-i.invariant
      | in-Some+in-None-1 w ↦
          (let none : c.get-in-loop-i.result ≡ None = cc in
          pairs_past c.args.a.now c.args.b.now c.args.j c.loop-i.i c.loop-i.of.items c.match-get.of.items
          (inr (at_b ∙ ap (option_map (λ b. b.now)) none)) (ap (λ of. of.items) w.of-is) c.loop-i.invariant)
      | in-None-1 w ↦
          (let none : c.get.result ≡ None = cc in
          pairs_past c.args.a.now c.args.b.now c.args.j c.loop-i.i c.loop-i.of.items c.match-get.of.items
          (inl (at_a ∙ ap (option_map (λ b. b.now)) none)) (ap (λ of. of.items) w.of-is) c.loop-i.invariant)
    ]

pub returns : goal.returns
returns c =
    let over : c.loop-i.i ≡ suc c.args.j = omega arith in
    c.loop-i.invariant ∙ ap (pairs_to c.args.a.now c.args.b.now c.args.j) over
