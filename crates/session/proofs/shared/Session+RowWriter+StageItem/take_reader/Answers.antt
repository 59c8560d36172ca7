use Rattle.std.proofs.Common.{sym, ◌∙◌, ap, arith}
use Rattle.std.proofs.lemmas.List.{length-map}
use Rattle.session.specs.Shared.{place_of}
use Rattle.session.proofs.Places.{place_taken, read_taken, place_at, place_none, place_some, place_row}
use Rattle.session.proofs.SharedRows.{shared_rows, cons_not_nil}
use Rattle.session.proofs.shared.Session+RowWriter+StageItem.take_reader.Goals as goal

pub index_mut-requires : goal.index_mut-requires
index_mut-requires c =
    let read = c.args.self.now.read (shared_rows _ c.args.self.now.line.stages.items (λ t. cons_not_nil _ _)) in
    let places = read.count in
    let count = c.args.self.now.holds.of_job.count in
    let same = length-map c.args.self.now.outer.items place_of in
    let low = c.requires in
    omega arith

pub invariant_of-self-clause-read : goal.invariant_of-self-clause-read
invariant_of-self-clause-read c =
    read_taken c.args.self.now.outer.items c.args.i _ c.take.ensures.after _ _ c.args.self.now.read

pub returns-clause-none : goal.returns-clause-none
returns-clause-none c =
    let there = place_at c.args.self.now.outer.items c.args.i c.index_mut.result.now c.index_mut.ensures.value
    (let read = c.args.self.now.read (shared_rows _ c.args.self.now.line.stages.items (λ t. cons_not_nil _ _)) in
    let places = read.count in
    let count = c.args.self.now.holds.of_job.count in
    let same = length-map c.args.self.now.outer.items place_of in
    let low = c.requires in
    omega arith) ∙ ap place_of (sym c.take.ensures.value) in
    (λ is. there ∙ ap place_of is, λ is. place_none c.take.result (sym there ∙ is))

pub returns-clause-some : goal.returns-clause-some
returns-clause-some c =
    let there = place_at c.args.self.now.outer.items c.args.i c.index_mut.result.now c.index_mut.ensures.value
    (let read = c.args.self.now.read (shared_rows _ c.args.self.now.line.stages.items (λ t. cons_not_nil _ _)) in
    let places = read.count in
    let count = c.args.self.now.holds.of_job.count in
    let same = length-map c.args.self.now.outer.items place_of in
    let low = c.requires in
    omega arith) ∙ ap place_of (sym c.take.ensures.value) in
    place_some c.take.result _ there

pub returns-clause-row : goal.returns-clause-row
returns-clause-row c =
    let read = c.args.self.now.read (shared_rows _ c.args.self.now.line.stages.items (λ t. cons_not_nil _ _)) in
    let there = place_at c.args.self.now.outer.items c.args.i c.index_mut.result.now c.index_mut.ensures.value
    (let read = c.args.self.now.read (shared_rows _ c.args.self.now.line.stages.items (λ t. cons_not_nil _ _)) in
    let places = read.count in
    let count = c.args.self.now.holds.of_job.count in
    let same = length-map c.args.self.now.outer.items place_of in
    let low = c.requires in
    omega arith) ∙ ap place_of (sym c.take.ensures.value) in
    place_row _ _ _ c.args.i read
    (let count = c.args.self.now.holds.of_job.count in let low = c.requires in omega arith) c.take.result there

pub returns-clause-outer : goal.returns-clause-outer
returns-clause-outer c = place_taken c.args.self.now.outer.items c.args.i _ c.take.ensures.after
