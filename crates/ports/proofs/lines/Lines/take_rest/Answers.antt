use Rattle.std.proofs.Common.{◌≡◌, ◌<◌, ◌≤◌, ◌∙◌, ℕ, true, arith, length, length-take, ap}
use Rattle.ports.specs.Reading.{Reading}
use Rattle.ports.proofs.NextLemmas.{TakesLine-rest}
use Rattle.ports.proofs.lines.Lines.take_rest.Goals as goal

pub returns-clause-line : goal.returns-clause-line
returns-clause-line c _ =
    let filled : ℕ = c.self.inside.filled in
    let pulled = ap (λ (r : Reading). length r.pulled) c.self.view_is in
    let taken = length-take filled c.self.inside.buffer.items in
    let size : filled ≡ length c.args.self.now.pulled =
    omega (arith, pulled, taken, c.self.invariant.size, c.self.invariant.fits) in
    let ended : c.self.inside.ended ≡ true = ap (λ (r : Reading). r.ended) c.self.view_is ∙ c.requires.ended in
    let fits : filled ≤ 1048576 = c.self.invariant.over ended in
    let place = ap (λ (r : Reading). r.place) c.self.view_is in
    let some : c.args.self.now.place < filled =
    omega (arith, place, c.self.invariant.before, c.self.invariant.behind, c.if-self-end.false) in
    let sets = c.set_line.ensures in
    TakesLine-rest c.args.self.now c.set_line.new.self filled size fits c.requires.no_newline some
    sets.pulled (sets.ended ∙ c.requires.ended) sets.place sets.text sets.number
