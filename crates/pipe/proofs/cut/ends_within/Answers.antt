use Rattle.std.proofs.Common.{◌≡◌, ◌∙◌, ◌+◌, ◌++◌, [], ◌∷◌, get_or, drop, sym, ap, subst, arith}
use Rattle.pipe.specs.Cuts.{IsCutWithin}
use Rattle.pipe.proofs.Greedy.{greedy, closes_more, joins_more, last_block, end_put}
use Rattle.pipe.proofs.CutsWithin.{blocks, few_blocks, blocks_few, cut_fits}
use Rattle.pipe.proofs.cut.ends_within.Goals as goal
use Rattle.pipe.proofs.cut.ends_within.Goals.{then-weight-limit+in_ok-push, else-weight-limit}

pub loop-place-preserved : goal.loop-place-preserved
loop-place-preserved c =
    let ws = c.args.weights.now in
    let limit = c.args.limit in
    let load = c.loop-place.load in
    let place = c.loop-place.place in
    elim c.if-weight-limit.branch [
      | then-weight-limit+in_ok-push w ↦
          let fits = cut_fits c.args.workers limit ws c.requires.enough place 0 (omega arith) in
          record {
            fits = omega arith;
            ends = end_put _ _ _ _ _ place c.loop-place.invariant.ends
                (closes_more limit load _ place ws (omega arith) (omega arith) (omega arith))
                (ap (λ v. v.items) w.ends-is ∙ w.in_ok-push.ensures.items);
          }
      | else-weight-limit w ↦
          record {
            fits = omega arith;
            ends = ap (λ v. v.items ++ greedy limit (c.if-weight-limit.load + get_or ws place 0) (place + 1)
                (drop (place + 1) ws)) w.ends-is
                ∙ ap (λ xs. c.loop-place.ends.items ++ xs)
                (sym (joins_more limit load _ place ws (omega arith) (omega arith) (omega arith)))
                ∙ c.loop-place.invariant.ends;
          }
    ]

pub returns : goal.returns
returns c =
    let ws = c.args.weights.now in
    let limit = c.args.limit in
    let workers = c.args.workers in
    let enough = c.requires.enough in
    let last = last_block limit c.loop-place.load c.loop-place.place ws (omega arith) in
    let are : c.push-2.new.self.items ≡ blocks limit ws =
    c.in_ok-push-2.ensures.items
    ∙ ap (λ n. c.loop-place.ends.items ++ n ∷ []) (omega arith)
    ∙ ap (λ xs. c.loop-place.ends.items ++ xs) (sym last)
    ∙ c.loop-place.invariant.ends in
    subst (IsCutWithin workers limit ws) (sym are)
    (few_blocks workers limit ws c.requires.some (cut_fits workers limit ws enough)
    (blocks_few workers limit ws enough c.requires.some))
