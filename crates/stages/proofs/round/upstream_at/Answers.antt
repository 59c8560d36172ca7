use Rattle.std.proofs.Common.{◌≡◌, ◌≤◌, ◌<◌, ◌-◌, length, sym, ap, subst, arith}
use Rattle.std.specs.Arc.{arc_value}
use Rattle.stages.specs.Items.{IsItem}
use Rattle.stages.specs.Slices.{IsUpstream}
use Rattle.stages.specs.declared.upstream.Upstream.TheVariants.{Row, Item}
use Rattle.stages.proofs.LineTitles.{holds_at, holds_there, seen}
use Rattle.stages.proofs.Permits.{permitted_lower}
use Rattle.stages.proofs.Upstreams.{first_upstream, left_upstream}
use Rattle.stages.proofs.RoundPlans.{rests_behind, takes_first, takes_left}
use Rattle.stages.proofs.round.upstream_at.Goals as goal

pub row-requires : goal.row-requires
row-requires g c = permitted_lower _ _ c.args.to (omega arith) c.requires.permitted

pub returns-then-s-eq0-clause-planned : goal.returns-then-s-eq0-clause-planned
returns-then-s-eq0-clause-planned g c = takes_first c.args.to (g.I.RowSource.job c.args.input.now) _ c.args.s
    c.len-r.result (Row c.in_ok-row.row) c.if-s-eq0.true (omega arith)
    (λ d. holds_there (λ s. length s.items ≡ c.len-r.result) _ c.args.stages.now c.args.s c.index-stages-s.result
    c.index-stages-s.is (seen _ c.args.stages.now c.args.s c.requires.stage) (sym c.len-r.ensures) d)
    (first_upstream _ _ _ _ c.if-s-eq0.true c.requires.line.accepted c.in_ok-row.ensures.row)

pub returns-then-len-r-clause-planned : goal.returns-then-len-r-clause-planned
returns-then-len-r-clause-planned g c = rests_behind c.args.to (g.I.RowSource.job c.args.input.now) _ c.args.s
    c.len-r.result (omega arith)
    (λ d. holds_there (λ s. length s.items ≡ c.len-r.result) _ c.args.stages.now c.args.s c.index-stages-s.result
    c.index-stages-s.is (seen _ c.args.stages.now c.args.s c.requires.stage) (sym c.len-r.ensures) d)
    (λ d. holds_there (λ s. length s.items ≤ c.len-r.result) _ c.args.stages.now (c.args.s - 1)
    c.index-stages-s-2.result c.index-stages-s-2.is (seen _ c.args.stages.now (c.args.s - 1) (omega arith))
    (let is = c.len.ensures in let low = c.if-len-r.true in omega arith) d)

pub returns-clause-planned : goal.returns-clause-planned
returns-clause-planned g c =
    takes_left c.args.to (g.I.RowSource.job c.args.input.now) _ c.args.s c.len-r.result
    (Item c.in_ok-item.item) (omega arith) (omega arith)
    (λ d. holds_there (λ s. length s.items ≡ c.len-r.result) _ c.args.stages.now c.args.s c.index-stages-s.result
    c.index-stages-s.is (seen _ c.args.stages.now c.args.s c.requires.stage) (sym c.len-r.ensures) d)
    (λ d. holds_there (λ s. c.len-r.result < length s.items) _ c.args.stages.now (c.args.s - 1)
    c.index-stages-s-2.result c.index-stages-s-2.is (seen _ c.args.stages.now (c.args.s - 1) (omega arith))
    (let is = c.len.ensures in let high = c.if-len-r.false in omega arith) d)
    (subst (IsUpstream (g.I.RowSource.job c.args.input.now) c.args.s c.len-r.result)
    (sym (ap (λ i. i.left) c.in_ok-item.ensures))
    (left_upstream _ _ _ (arc_value c.item.result.now) (omega arith)
    (subst (λ t. IsItem t c.len-r.result (arc_value c.item.result.now))
    (holds_at (λ s. s.title ≡ record { job = g.I.RowSource.job c.args.input.now; stage = c.args.s - 1 }) _
    c.args.stages.now (c.args.s - 1) c.index-stages-s-3.result c.index-stages-s-3.is
    (seen _ c.args.stages.now (c.args.s - 1) (omega arith))
    (λ d. c.requires.line.title (c.args.s - 1) d (seen _ c.args.stages.now (c.args.s - 1) (omega arith))))
    c.item.ensures.fits)))
