use Rattle.std.proofs.Common.{◌≡◌, map, refl, ◌∙◌, ap, arith, inl, inr}
use Rattle.std.proofs.lemmas.Bool.{cases_lt}
use Rattle.std.proofs.lemmas.List.{length-map}
use Rattle.session.specs.Shared.{place_of, reader_at}
use Rattle.session.proofs.Places.{none_there, some_there, no_truth}
use Rattle.session.proofs.SharedRows.{shared_rows, cons_not_nil}
use Rattle.session.proofs.shared.Session+RowWriter+StageItem.has_readers.Goals as goal

pub returns-then-is_none : goal.returns-then-is_none
returns-then-is_none c = (
  λ yes. absurd (no_truth yes),
  λ have. absurd (have c.loop-i.i
      (let read = c.args.self.now.read (shared_rows _ c.args.self.now.line.stages.items (λ t. cons_not_nil _ _)) in
      let places = read.count in
      let count = c.args.self.now.holds.of_job.count in
      let same = length-map c.args.self.now.outer.items place_of in
      omega arith)
      (none_there c.args.self.now.outer.items c.loop-i.i c.index.result.now c.index.ensures (omega arith)
      c.is_none.result c.is_none.ensures c.if-is_none.true)),
)

pub loop-i-preserved : goal.loop-i-preserved
loop-i-preserved c = λ j low. elim (cases_lt j c.loop-i.i) [
  | inl lt ↦ c.loop-i.invariant j lt
  | inr past ↦
      let at : c.loop-i.i ≡ j = omega arith in
      λ none. some_there c.args.self.now.outer.items c.loop-i.i c.index.result.now c.index.ensures (omega arith)
      c.is_none.result c.is_none.ensures c.if-is_none.false
      (ap (reader_at (map place_of c.args.self.now.outer.items)) at ∙ none)
]

pub returns : goal.returns
returns c = (
  λ yes i lt. c.loop-i.invariant i
      (let read = c.args.self.now.read (shared_rows _ c.args.self.now.line.stages.items (λ t. cons_not_nil _ _)) in
      let places = read.count in
      let count = c.args.self.now.holds.of_job.count in
      let same = length-map c.args.self.now.outer.items place_of in
      let past = c.loop-i-test.false in
      omega arith),
  λ have. refl,
)
