use Rattle.std.proofs.Common.{◌≡◌, arith}
use Rattle.std.proofs.lemmas.List.{length-map}
use Rattle.stages.proofs.LineTitles.{holds_there}
use Rattle.pipe.specs.Looks.{ReaderState, state_of}
use Rattle.session.proofs.SharedRows.{shared_rows, cons_not_nil, inner_count}
use Rattle.session.proofs.shared.Session+RowWriter+StageItem.inner_seen.Goals as goal

pub index-requires : goal.index-requires
index-requires c =
    let read = c.args.self.now.read (shared_rows _ c.args.self.now.line.stages.items (λ t. cons_not_nil _ _)) in
    let readers = inner_count _ _ read.inner in
    let count = c.args.self.now.holds.of_job.count in
    let same = length-map c.args.self.now.inner.items state_of in
    let low = c.requires in
    omega arith

pub returns : goal.returns
returns c = holds_there (λ (r : ReaderState). c.seen.result ≡ r.seen) state_of c.args.self.now.inner.items c.args.i
    c.index.result.now c.index.ensures
    (let read = c.args.self.now.read (shared_rows _ c.args.self.now.line.stages.items (λ t. cons_not_nil _ _)) in
    let readers = inner_count _ _ read.inner in
    let count = c.args.self.now.holds.of_job.count in
    let low = c.requires in
    omega arith)
    c.seen.ensures
