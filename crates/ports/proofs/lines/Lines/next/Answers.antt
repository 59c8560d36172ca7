-- A pull comes only where no whole line is there and the source goes on,
-- so nothing is pulled otherwise.
use Rattle.std.proofs.Common.{◌≡◌, ◌⊎◌, ◌∙◌, true, false, take, drop, ap, sym, subst, inl, inr}
use Rattle.ports.specs.Reading.{Reading, HasNoNewline, HoldsLine, TakesLine}
use Rattle.ports.proofs.NextLemmas.{KeepsLine-joined, PullsMore-joined, HoldsLine-same, TakesLine-newline}
use Rattle.ports.proofs.NextLemmas.{TakesLine-kept, no_line, no_newline_left, no_newline-same}
use Rattle.ports.proofs.lines.Lines.next.Given.{Over}
use Rattle.ports.proofs.lines.Lines.next.Goals as goal
use Rattle.ports.proofs.lines.Lines.next.Goals.{After-fill}

-- no newline stands behind the last line and below the limit
abbrev NoLineBelow : Reading → Type 0
NoLineBelow r = HasNoNewline (drop r.place (take 1048576 r.pulled))

pub returns-in-Some-clause-line : goal.returns-in-Some-clause-line
returns-in-Some-clause-line g c _ =
    let same = c.in-Some.ensures.same in
    let sets = c.set_line.ensures in
    let takes : TakesLine c.loop-newline.self c.set_line.new.self =
    TakesLine-newline c.loop-newline.self c.set_line.new.self c.in-Some.newline c.in-Some.ensures.place
    (rw same at sets.pulled) sets.place (rw same at sets.text) (rw same at sets.number) in
    TakesLine-kept c.args.self.now c.loop-newline.self c.set_line.new.self c.loop-newline.invariant.keeps takes

pub take_rest-requires-clause-no_newline : goal.take_rest-requires-clause-no_newline
take_rest-requires-clause-no_newline g c =
    subst NoLineBelow (sym c.in_default.ensures.same) c.in_default.ensures.place

pub returns-then-is_full-clause-too_long : goal.returns-then-is_full-clause-too_long
returns-then-is_full-clause-too_long g c _ = record {
  full = c.is_full.ensures.full c.if-is_full.true;
  no_line = subst NoLineBelow (sym c.in_default.ensures.same) c.in_default.ensures.place;
}

-- where a pull came, no whole line was there as the call began, and the source went on
nothing_there : (g : Over) (c : After-fill g) → HoldsLine c.args.self.now ⊎ (c.args.self.now.ended ≡ true) → ⊥
nothing_there g c (inl holds) =
    let same = c.in_default.ensures.same in
    let kept = c.loop-newline.invariant in
    let none = subst NoLineBelow (sym same) c.in_default.ensures.place in
    let pulled = ap (λ (r : Reading). r.pulled) same ∙ (kept.unmoved (inl holds)).1 in
    let place = ap (λ (r : Reading). r.place) same ∙ kept.keeps.place in
    let there = HoldsLine-same c.args.self.now c.find_newline.new.self pulled place holds in
    no_line c.find_newline.new.self (c.is_full.ensures.room c.if-is_full.false) none there
nothing_there g c (inr ended) =
    let one : c.loop-newline.self.ended ≡ true = c.loop-newline.invariant.stays ended in
    let two : c.find_newline.new.self.ended ≡ c.loop-newline.self.ended =
    ap (λ (r : Reading). r.ended) c.in_default.ensures.same in
    let three : c.has_ended.result ≡ c.find_newline.new.self.ended = c.has_ended.ensures in
    let four : c.has_ended.result ≡ false = c.if-has_ended.false in
    cc

pub returns-then-not-fill-clause-unmoved : goal.returns-then-not-fill-clause-unmoved
returns-then-not-fill-clause-unmoved g c there =
    absurd (nothing_there g (goal.at.returns-then-not-fill-clause-unmoved g c).After-fill there)

pub returns-then-not-fill-clause-short : goal.returns-then-not-fill-clause-short
returns-then-not-fill-clause-short g c _ =
    let free = c.is_full.ensures.room c.if-is_full.false in
    let none = subst NoLineBelow (sym c.in_default.ensures.same) c.in_default.ensures.place in
    no_newline-same c.find_newline.new.self c.fill.new.self
    (rw c.if-not-fill.true at c.fill.ensures.stays) (c.fill.ensures.keeps.place)
    (no_newline_left c.find_newline.new.self free none)

pub loop-newline-preserved : goal.loop-newline-preserved
loop-newline-preserved g c =
    let nothing = nothing_there g (goal.at.loop-newline-preserved g c).After-fill in
    let same = c.in_default.ensures.same in
    let kept = c.loop-newline.invariant in
    let before : Reading = c.args.self.now in
    let between : Reading = c.loop-newline.self in
    let after : Reading = c.fill.new.self in
    record {
      bytes = PullsMore-joined before between after _ _ _ kept.bytes (rw same at c.fill.ensures.bytes);
      keeps = KeepsLine-joined before between after kept.keeps (rw same at c.fill.ensures.keeps);
      ended = λ ends. inr (c.fill.ensures.ended ends);
      stays = λ ended. absurd (nothing (inr ended));
      unmoved = λ there. absurd (nothing there);
      no_fault = (rw c.if-not-fill.false at c.fill.ensures.no_fault) ∙ kept.no_fault;
    }
