-- The buffer is written behind what was pulled before, so what was known of it stays.
use Rattle.std.proofs.Common.{◌≡◌, ◌++◌, List, ℕ, true, false, length, length-take, take, drop, ap, sym, ◌∙◌}
use Rattle.std.proofs.Common.{◌+◌, ◌≤◌, arith}
use Rattle.ports.specs.Reading.{Reading}
use Rattle.ports.proofs.BufferLemmas.{IsBuffer-pulled, PullsMore-some, PullsMore-none, TakesBytes-end}
use Rattle.ports.proofs.BufferLemmas.{TakesBytes-failed, take-shorter, written_back}
use Rattle.ports.proofs.lines.Lines.fill.Given.{Over}
use Rattle.ports.proofs.lines.Lines.fill.Goals as goal
use Rattle.ports.proofs.lines.Lines.fill.Goals.{After-pull_behind}

-- the buffer after the pull
abbrev written : (g : Over) → After-pull_behind g → List ℕ
written g c =
    take c.self.inside.buffer.len
    (c.pull_behind.new.bytes ++ drop (length c.pull_behind.new.bytes) c.self.inside.buffer.items)

-- it holds what the pull left in the slice
back : (g : Over) (c : After-pull_behind g) → written g c ≡ c.pull_behind.new.bytes
back g c =
    let all : c.self.inside.buffer.len ≡ length c.pull_behind.new.bytes =
    omega (arith, c.self.inside.buffer.ok.0, ap length c.as_mut_slice.ensures.value, c.pull_behind.auto.bytes) in
    written_back c.pull_behind.new.bytes _ c.self.inside.buffer.len all

-- what was pulled before is in the slice still, and in the buffer
kept : (g : Over) (c : After-pull_behind g) →
    take c.self.inside.filled c.pull_behind.new.bytes ≡ take c.self.inside.filled c.self.inside.buffer.items
kept g c =
    c.pull_behind.ensures.kept ∙ ap (λ (xs : List ℕ). take c.self.inside.filled xs) c.as_mut_slice.ensures.value

kept_back : (g : Over) (c : After-pull_behind g) →
    take c.self.inside.filled (written g c) ≡ take c.self.inside.filled c.self.inside.buffer.items
kept_back g c = ap (λ (xs : List ℕ). take c.self.inside.filled xs) (back g c) ∙ kept g c

-- the buffer's size stays
size : (g : Over) (c : After-pull_behind g) → length (written g c) ≡ length c.self.inside.buffer.items
size g c = ap length (back g c) ∙ (c.pull_behind.auto.bytes ∙ ap length c.as_mut_slice.ensures.value)

-- the last line's text stays
text_kept : (g : Over) (c : After-pull_behind g) →
    drop c.self.inside.start (take c.self.inside.stop (written g c)) ≡ c.args.self.now.text
text_kept g c =
    let shorter = take-shorter _ _ c.self.inside.filled c.self.inside.stop (omega arith) (kept_back g c) in
    ap (λ (xs : List ℕ). drop c.self.inside.start xs) shorter ∙ ap (λ (r : Reading). r.text) c.self.view_is

-- the bytes pulled before stand in the buffer below `filled`
pulled_is : (g : Over) (c : After-pull_behind g) →
    c.args.self.now.pulled ≡ take c.self.inside.filled c.self.inside.buffer.items
pulled_is g c = ap (λ (r : Reading). r.pulled) (sym c.self.view_is)

-- the source had not ended
not_ended : (g : Over) (c : After-pull_behind g) → c.self.inside.ended ≡ true → ⊥
not_ended g c ended =
    let is : c.self.inside.ended ≡ c.args.self.now.ended = ap (λ (r : Reading). r.ended) c.self.view_is in
    let going : c.args.self.now.ended ≡ false = c.requires.going in
    cc

-- a byte was free, so not more than the limit was pulled
free : (g : Over) (c : After-pull_behind g) → c.self.inside.filled ≤ 1048576
free g c =
    let pulled = ap (λ (xs : List ℕ). length xs) (pulled_is g c) in
    let taken = length-take c.self.inside.filled c.self.inside.buffer.items in
    omega (arith, pulled, taken, c.self.invariant.size, c.self.invariant.fits, c.requires.free)

pub invariant_of-self : goal.invariant_of-self
invariant_of-self g c =
    let d = (goal.at.invariant_of-self g c).After-pull_behind in
    let room = ap length c.as_mut_slice.ensures.value in
    let fits : c.self.inside.filled + c.in-Bytes.count ≤ 1048577 =
    omega (arith, c.in-Bytes.ensures.count.1, room, c.self.invariant.size, c.self.invariant.fits) in
    IsBuffer-pulled _ _ _ _ _ _ _ _ c.self.invariant _ _ _ (kept_back g d) (size g d) (omega arith) fits
    (λ ended. absurd (not_ended g d ended))

pub invariant_of-self-in-End : goal.invariant_of-self-in-End
invariant_of-self-in-End g c =
    let d = (goal.at.invariant_of-self-in-End g c).After-pull_behind in
    IsBuffer-pulled _ _ _ _ _ _ _ _ c.self.invariant _ _ _ (kept_back g d) (size g d) (omega arith)
    c.self.invariant.fits (λ _. free g d)

pub invariant_of-self-in-Failed : goal.invariant_of-self-in-Failed
invariant_of-self-in-Failed g c =
    let d = (goal.at.invariant_of-self-in-Failed g c).After-pull_behind in
    IsBuffer-pulled _ _ _ _ _ _ _ _ c.self.invariant _ _ _ (kept_back g d) (size g d) (omega arith)
    c.self.invariant.fits c.self.invariant.over

pub returns-in-Failed-clause-bytes : goal.returns-in-Failed-clause-bytes
returns-in-Failed-clause-bytes g c =
    let d = (goal.at.returns-in-Failed-clause-bytes g c).After-pull_behind in
    PullsMore-none _ _ _ _ c.self.inside.buffer.items c.self.inside.filled (pulled_is g d) (kept_back g d)
    (TakesBytes-failed _ _ _ c.in-Failed.ensures.moves)

pub returns-in-Failed-clause-keeps : goal.returns-in-Failed-clause-keeps
returns-in-Failed-clause-keeps g c = record {
  text = text_kept g (goal.at.returns-in-Failed-clause-keeps g c).After-pull_behind;
  number = ap (λ (r : Reading). r.number) c.self.view_is;
  place = ap (λ (r : Reading). r.place) c.self.view_is;
}

pub returns-in-Bytes-clause-bytes : goal.returns-in-Bytes-clause-bytes
returns-in-Bytes-clause-bytes g c =
    let d = (goal.at.returns-in-Bytes-clause-bytes g c).After-pull_behind in
    let is = ap (λ (xs : List ℕ). take (c.self.inside.filled + c.in-Bytes.count) xs) (back g d) in
    PullsMore-some _ _ _ _ c.self.inside.buffer.items c.pull_behind.new.bytes c.self.inside.filled c.in-Bytes.count
    (pulled_is g d) (kept g d) is c.in-Bytes.ensures.moves

pub returns-in-Bytes-clause-keeps : goal.returns-in-Bytes-clause-keeps
returns-in-Bytes-clause-keeps g c = record {
  text = text_kept g (goal.at.returns-in-Bytes-clause-keeps g c).After-pull_behind;
  number = ap (λ (r : Reading). r.number) c.self.view_is;
  place = ap (λ (r : Reading). r.place) c.self.view_is;
}

pub returns-in-End-clause-bytes : goal.returns-in-End-clause-bytes
returns-in-End-clause-bytes g c =
    let d = (goal.at.returns-in-End-clause-bytes g c).After-pull_behind in
    PullsMore-none _ _ _ _ c.self.inside.buffer.items c.self.inside.filled (pulled_is g d) (kept_back g d)
    (TakesBytes-end _ _ _ c.in-End.ensures.moves)

pub returns-in-End-clause-keeps : goal.returns-in-End-clause-keeps
returns-in-End-clause-keeps g c = record {
  text = text_kept g (goal.at.returns-in-End-clause-keeps g c).After-pull_behind;
  number = ap (λ (r : Reading). r.number) c.self.view_is;
  place = ap (λ (r : Reading). r.place) c.self.view_is;
}

pub returns-in-Failed-clause-stays : goal.returns-in-Failed-clause-stays
returns-in-Failed-clause-stays g c =
    let d = (goal.at.returns-in-Failed-clause-stays g c).After-pull_behind in
    kept_back g d ∙ sym (pulled_is g d)
