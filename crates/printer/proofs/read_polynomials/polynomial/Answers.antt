use Rattle.printer.proofs.ReadBuilt.{built_behind, built_more, built_all, some_there}
use Rattle.std.proofs.Common.{◌≡◌, ◌∙◌, ℕ, ◌<◌, ◌≤◌, arith}
use Rattle.printer.proofs.read_polynomials.polynomial.Goals as goal

inside : (i n m : ℕ) → i < n → n ≡ m → i < m
inside i n m h e = omega arith

outside : (i n m : ℕ) → n ≤ i → n ≡ m → m ≤ i
outside i n m h e = omega arith

pub push-requires-clause-nonzero : goal.push-requires-clause-nonzero
push-requires-clause-nonzero c = some_there _ c.in_ok-sorted.sorted.items c.requires c.in_ok-sorted.ensures c.loop-i.i
    c.index.result.now c.index.ensures
    (inside _ _ _ c.loop-i-test.true (c.len-i-end.ensures ∙ c.in_ok-sorted.sorted.ok.0))

pub push-requires-clause-behind : goal.push-requires-clause-behind
push-requires-clause-behind c = built_behind c.in_ok-sorted.sorted.items c.loop-i.i c.loop-i.polynomial
    c.in_ok-sorted.ensures.in_order c.loop-i.invariant c.index.result.now c.index.ensures
    (inside _ _ _ c.loop-i-test.true (c.len-i-end.ensures ∙ c.in_ok-sorted.sorted.ok.0))

pub loop-i-preserved : goal.loop-i-preserved
loop-i-preserved c = built_more c.in_ok-sorted.sorted.items c.loop-i.i c.loop-i.polynomial
    c.in_ok-sorted.ensures.in_order c.loop-i.invariant c.index.result.now c.index.ensures
    (inside _ _ _ c.loop-i-test.true (c.len-i-end.ensures ∙ c.in_ok-sorted.sorted.ok.0)) c.push.new.self
    c.in_ok-push.ensures.ok

pub returns : goal.returns
returns c = built_all _ c.in_ok-sorted.sorted.items c.loop-i.polynomial c.requires c.in_ok-sorted.ensures c.loop-i.i
    (outside _ _ _ c.loop-i-test.false (c.len-i-end.ensures ∙ c.in_ok-sorted.sorted.ok.0)) c.loop-i.invariant
