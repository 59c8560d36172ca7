use Rattle.std.proofs.Common.{◌≡◌, ℕ, ◌+◌, ◌-◌, ◌*◌, ◌/◌, ◌∙◌, ap, sym, arith, length, drop, get_or}
use Rattle.std.proofs.Math.ListN.{set}
use Rattle.std.proofs.Math.Nat.{mul_comm}
use Rattle.parts.specs.Places.{size, multipliers}
use Rattle.parts.proofs.Filled.{size-first, size-more, multipliers-more}
use Rattle.parts.proofs.Counts.{size-past}
use Rattle.parts.proofs.places.make_sizes.Goals as goal
use Rattle.parts.proofs.places.make_sizes.Goals.{then-k-eq0, else-k-eq0+else-count-gt-MOST_CELLS}

pub loop-k-preserved : goal.loop-k-preserved
loop-k-preserved c = record {
  few = elim c.if-k-eq0.branch [
    | then-k-eq0 w ↦ omega (arith, w.count-is)
    | else-k-eq0+else-count-gt-MOST_CELLS w ↦ omega (arith, w.count-is, w.if-count-gt-MOST_CELLS.false)
  ];
  count = elim c.if-k-eq0.branch [
    | then-k-eq0 w ↦ w.count-is ∙
        sym (size-first c.args.degree c.args.weights.now (length c.args.weights.now - (c.loop-k.k + 1))
        (omega (arith, w.if-k-eq0.true)))
    | else-k-eq0+else-count-gt-MOST_CELLS w ↦ w.count-is ∙
        (λ i. (c.loop-k.invariant.count ∙ ap (λ j. size c.args.degree (drop j c.args.weights.now)) next) i *
        (c.args.degree / (w.from.ensures ∙ ap (λ j. get_or c.args.weights.now j 0) here) i + 1))
        ∙ mul_comm (size c.args.degree
        (drop (length c.args.weights.now - (c.loop-k.k + 1) + 1) c.args.weights.now)) _ ∙
        sym (size-more c.args.degree c.args.weights.now (length c.args.weights.now - (c.loop-k.k + 1)) (let h =
        w.if-k-eq0.false in omega arith))
  ];
  sizes = ap (λ j. drop (length c.args.weights.now - (c.loop-k.k + 1)) (set c.loop-k.sizes j c.loop-k.count)) here
      ∙ multipliers-more c.args.degree c.args.weights.now c.loop-k.sizes
      (length c.args.weights.now - (c.loop-k.k + 1)) c.loop-k.count (omega arith) (omega arith)
      (c.loop-k.invariant.count ∙ ap (λ j. size c.args.degree (drop j c.args.weights.now)) next)
      (ap (λ j. drop j c.loop-k.sizes) (sym next) ∙ c.loop-k.invariant.sizes ∙
      ap (λ j. multipliers c.args.degree (drop j c.args.weights.now)) next);
}
  where
    here : length c.args.weights.now - 1 - c.loop-k.k ≡ length c.args.weights.now - (c.loop-k.k + 1)
    here = omega arith

    next : length c.args.weights.now - c.loop-k.k ≡ length c.args.weights.now - (c.loop-k.k + 1) + 1
    next = omega arith

pub returns-then-count-gt-MOST_CELLS-clause-many : goal.returns-then-count-gt-MOST_CELLS-clause-many
returns-then-count-gt-MOST_CELLS-clause-many c _ =
    size-past c.args.degree c.args.weights.now at c.loop-k.count _ (let h = c.if-k-eq0.false in omega arith)
    (c.loop-k.invariant.count ∙ ap (λ j. size c.args.degree (drop j c.args.weights.now)) next)
    (λ i. c.loop-k.count * (c.args.degree / (c.from.ensures ∙ ap (λ j. get_or c.args.weights.now j 0) here) i + 1))
    c.if-count-gt-MOST_CELLS.true
  where
    at : ℕ
    at = length c.args.weights.now - (c.loop-k.k + 1)

    here : length c.args.weights.now - 1 - c.loop-k.k ≡ at
    here = omega arith

    next : length c.args.weights.now - c.loop-k.k ≡ at + 1
    next = omega arith
