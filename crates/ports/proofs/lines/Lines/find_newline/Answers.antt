use Rattle.std.proofs.Common.{ap, sym}
use Rattle.ports.specs.Reading.{Reading}
use Rattle.ports.proofs.BufferLemmas.{IsBuffer-scanned, search-none, search-some}
use Rattle.ports.proofs.lines.Lines.find_newline.Goals as goal

pub invariant_of-self : goal.invariant_of-self
invariant_of-self c =
    let none = rw c.as_slice.ensures.value at c.in-None.ensures.none in
    IsBuffer-scanned _ _ _ _ _ _ _ _ c.self.invariant _ c.min-end.ensures none

pub returns-in-Some-clause-place : goal.returns-in-Some-clause-place
returns-in-Some-clause-place c =
    let pulled = ap (λ (r : Reading). r.pulled) (sym c.self.view_is) in
    let place = ap (λ (r : Reading). r.place) (sym c.self.view_is) in
    let newline = rw c.as_slice.ensures.value at c.in-Some.ensures.newline in
    let first = rw c.as_slice.ensures.value at c.in-Some.ensures.first in
    search-some _ _ _ _ _ _ _ _ c.self.invariant c.args.self.now pulled place _ c.in-Some.newline
    c.min-end.ensures c.in-Some.ensures.within.0 c.in-Some.ensures.within.1 newline first

pub returns-in-None-clause-place : goal.returns-in-None-clause-place
returns-in-None-clause-place c =
    let pulled = ap (λ (r : Reading). r.pulled) (sym c.self.view_is) in
    let place = ap (λ (r : Reading). r.place) (sym c.self.view_is) in
    let none = rw c.as_slice.ensures.value at c.in-None.ensures.none in
    search-none _ _ _ _ _ _ _ _ c.self.invariant c.args.self.now pulled place _ c.min-end.ensures none
