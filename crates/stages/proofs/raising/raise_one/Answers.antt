use Rattle.std.proofs.Common.{◌<◌, ◌-◌, ◌≡◌, length, arith, subst, sym, ap, ◌∙◌}
use Rattle.std.proofs.lemmas.Result.{on_ok_weaker}
use Rattle.std.specs.Arc.{arc_value}
use Rattle.parts.specs.RowsOfParts.{parts_of}
use Rattle.stages.specs.Items.{IsItem}
use Rattle.stages.specs.Slices.{IsUpstream}
use Rattle.stages.proofs.Growth.{of_stage, room_at, title_is, grow_at, falling_at, tick_at, now_at, grows_after, same_but_at}
use Rattle.stages.proofs.Growth.{put_more}
use Rattle.stages.proofs.Upstreams.{first_upstream, next_upstream, left_upstream}
use Rattle.stages.proofs.raising.raise_one.Goals as goal

pub advance-requires-clause-room : goal.advance-requires-clause-room
advance-requires-clause-room g c κs within =
    room_at _ c.args.stages.now c.args.s c.index-stages-s.result c.requires.stage c.args.r c.requires.next
    c.requires.room

pub advance-requires-clause-row : goal.advance-requires-clause-row
advance-requires-clause-row g c κs within = next_upstream (g.I.RowSource.job c.args.input.now) c.args.s c.args.r _ _ _
    (title_is _ c.args.stages.now c.args.s c.index-stages-s.result c.requires.stage _ c.requires.line)
    (of_stage _ c.args.stages.now c.args.s c.index-stages-s.result c.requires.stage (λ s. length s.items ≡ c.args.r)
    c.requires.next)
    (subst (λ row. IsUpstream (g.I.RowSource.job c.args.input.now) c.args.s c.args.r (parts_of row))
    (sym c.deref.ensures.value)
    (first_upstream _ _ _ _ c.if-s-eq0.true c.requires.line.accepted c.in_ok-row.ensures.row))

pub item-requires-after_bounds : goal.item-requires-after_bounds
item-requires-after_bounds g c κs within =
    of_stage _ c.args.stages.now (c.args.s - 1) c.index-stages-s-else-s-eq0.result (omega arith)
    (λ s. c.args.r < length s.items) (c.requires.before (omega arith))

pub advance-requires-else-s-eq0-clause-room : goal.advance-requires-else-s-eq0-clause-room
advance-requires-else-s-eq0-clause-room g c κs within =
    room_at _ c.args.stages.now c.args.s c.index-stages-s-else-s-eq0-2.result c.requires.stage c.args.r c.requires.next
    c.requires.room

pub advance-requires-else-s-eq0-clause-row : goal.advance-requires-else-s-eq0-clause-row
advance-requires-else-s-eq0-clause-row g c κs within =
    next_upstream (g.I.RowSource.job c.args.input.now) c.args.s c.args.r _ _ _
    (title_is _ c.args.stages.now c.args.s c.index-stages-s-else-s-eq0-2.result c.requires.stage _ c.requires.line)
    (of_stage _ c.args.stages.now c.args.s c.index-stages-s-else-s-eq0-2.result c.requires.stage
    (λ s. length s.items ≡ c.args.r) c.requires.next)
    (subst (IsUpstream (g.I.RowSource.job c.args.input.now) c.args.s c.args.r)
    (sym (c.left.ensures ∙ ap (λ i. i.left) (c.deref-else-s-eq0.ensures ∙ c.in_ok-item.ensures)))
    (left_upstream _ _ _ (arc_value c.item.result.now) (omega arith)
    (subst (λ t. IsItem t c.args.r (arc_value c.item.result.now))
    (title_is _ c.args.stages.now (c.args.s - 1) c.index-stages-s-else-s-eq0.result (omega arith) _
    c.requires.line) c.item.ensures.fits)))

pub returns-in_ok-row-clause-grow : goal.returns-in_ok-row-clause-grow
returns-in_ok-row-clause-grow g c =
    grow_at _ c.args.stages.now c.args.s c.index-stages-s.result c.requires.stage _ _
    (grows_after c.advance.result c.args.r _ _
    (of_stage _ c.args.stages.now c.args.s c.index-stages-s.result c.requires.stage (λ s. length s.items ≡ c.args.r)
    c.requires.next)
    c.advance.ensures.kept c.advance.ensures.ok c.advance.ensures.err c.advance.new.self.ahead)

pub returns-in_ok-row-clause-falling : goal.returns-in_ok-row-clause-falling
returns-in_ok-row-clause-falling g c =
    falling_at _ c.args.stages.now c.args.s c.index-stages-s.result c.requires.stage c.args.r _ c.requires.next
    c.requires.before
    (grows_after c.advance.result c.args.r _ _
    (of_stage _ c.args.stages.now c.args.s c.index-stages-s.result c.requires.stage (λ s. length s.items ≡ c.args.r)
    c.requires.next)
    c.advance.ensures.kept c.advance.ensures.ok c.advance.ensures.err c.advance.new.self.ahead)

pub returns-in_ok-row-clause-others : goal.returns-in_ok-row-clause-others
returns-in_ok-row-clause-others g c =
    same_but_at _ c.args.stages.now c.args.s c.index-stages-s.result c.requires.stage _

pub returns-in_ok-row-clause-ok : goal.returns-in_ok-row-clause-ok
returns-in_ok-row-clause-ok g c = on_ok_weaker c.advance.result
    (λ puts. now_at _ c.args.stages.now c.args.s c.index-stages-s.result c.requires.stage
    (λ s. c.args.r < length s.items) _
    (put_more _ _ c.args.r
    (of_stage _ c.args.stages.now c.args.s c.index-stages-s.result c.requires.stage (λ s. length s.items ≡ c.args.r)
    c.requires.next) puts)) c.advance.ensures.ok

pub returns-in_ok-row-clause-ticks : goal.returns-in_ok-row-clause-ticks
returns-in_ok-row-clause-ticks g c =
    tick_at _ c.args.stages.now c.args.s c.index-stages-s.result c.requires.stage _ _ _ c.advance.ensures.ticks

pub returns-in_ok-item-clause-grow : goal.returns-in_ok-item-clause-grow
returns-in_ok-item-clause-grow g c =
    grow_at _ c.args.stages.now c.args.s c.index-stages-s-else-s-eq0-2.result c.requires.stage _ _
    (grows_after c.advance-else-s-eq0.result c.args.r _ _
    (of_stage _ c.args.stages.now c.args.s c.index-stages-s-else-s-eq0-2.result c.requires.stage
    (λ s. length s.items ≡ c.args.r) c.requires.next)
    c.advance-else-s-eq0.ensures.kept c.advance-else-s-eq0.ensures.ok c.advance-else-s-eq0.ensures.err
    c.advance-else-s-eq0.new.self.ahead)

pub returns-in_ok-item-clause-falling : goal.returns-in_ok-item-clause-falling
returns-in_ok-item-clause-falling g c =
    falling_at _ c.args.stages.now c.args.s c.index-stages-s-else-s-eq0-2.result c.requires.stage c.args.r _
    c.requires.next c.requires.before
    (grows_after c.advance-else-s-eq0.result c.args.r _ _
    (of_stage _ c.args.stages.now c.args.s c.index-stages-s-else-s-eq0-2.result c.requires.stage
    (λ s. length s.items ≡ c.args.r)
    c.requires.next)
    c.advance-else-s-eq0.ensures.kept c.advance-else-s-eq0.ensures.ok c.advance-else-s-eq0.ensures.err
    c.advance-else-s-eq0.new.self.ahead)

pub returns-in_ok-item-clause-others : goal.returns-in_ok-item-clause-others
returns-in_ok-item-clause-others g c =
    same_but_at _ c.args.stages.now c.args.s c.index-stages-s-else-s-eq0-2.result c.requires.stage _

pub returns-in_ok-item-clause-ok : goal.returns-in_ok-item-clause-ok
returns-in_ok-item-clause-ok g c = on_ok_weaker c.advance-else-s-eq0.result
    (λ puts. now_at _ c.args.stages.now c.args.s c.index-stages-s-else-s-eq0-2.result c.requires.stage
    (λ s. c.args.r < length s.items) _
    (put_more _ _ c.args.r
    (of_stage _ c.args.stages.now c.args.s c.index-stages-s-else-s-eq0-2.result c.requires.stage
    (λ s. length s.items ≡ c.args.r) c.requires.next) puts)) c.advance-else-s-eq0.ensures.ok

pub returns-in_ok-item-clause-ticks : goal.returns-in_ok-item-clause-ticks
returns-in_ok-item-clause-ticks g c = tick_at _ c.args.stages.now c.args.s c.index-stages-s-else-s-eq0-2.result
    c.requires.stage _ _ _ c.advance-else-s-eq0.ensures.ticks
