use Rattle.std.proofs.Common.{◌≡◌, ◌⊎◌, ◌+◌, ◌-◌, length, true, cond}
use Rattle.ports.specs.Bytes.{AllTaken}
use Rattle.ports.specs.Reading.{HoldsLine, KeepsLine, PullsMore}
use Rattle.ports.proofs.lines.Lines.next.Given as goal

abbrev pub invariant-loop-newline : goal.invariant-loop-newline
invariant-loop-newline g l = record {
  bytes : PullsMore l.initial.self l.self (g.S.Source.left l.initial.source) (g.S.Source.left l.source);
  keeps : KeepsLine l.initial.self l.self;
  ended : l.self.ended ≡ true → (l.initial.self.ended ≡ true) ⊎ AllTaken (g.S.Source.left l.source);
  stays : l.initial.self.ended ≡ true → l.self.ended ≡ true;
  unmoved : HoldsLine l.initial.self ⊎ (l.initial.self.ended ≡ true) →
      (l.source ≡ l.initial.source) × (l.self.pulled ≡ l.initial.self.pulled);
  no_fault : g.S.Source.faults l.source ≡ g.S.Source.faults l.initial.source;
}

abbrev pub decreases-loop-newline : goal.decreases-loop-newline
decreases-loop-newline g l = (1048577 - length l.self.pulled) + cond l.self.ended 0 1
