use Rattle.std.proofs.Common.{◌≡◌, ◌+◌, length, sym, ◌∙◌, ap, subst, arith}
use Rattle.std.specs.Arc.{arc_value}
use Rattle.std.specs.declared.alloc.Global.{Global}
use Rattle.std.specs.declared.sync.Arc.{Arc}
use Rattle.std.specs.declared.vec.Vec.{Vec}
use Rattle.std.proofs.lemmas.List.{length_push}
use Rattle.std.proofs.lemmas.Result.{IfOk-weaker}
use Rattle.parts.specs.PartValue.{PartValue}
use Rattle.parts.specs.RowsOfParts.{parts_of}
use Rattle.taylor.specs.Shifts.{IsPartOfShift}
use Rattle.taylor.proofs.PartRows.{parts_more}
use Rattle.taylor.proofs.ShiftedRows.{made_row, made_shifted}
use Rattle.taylor.proofs.Unshifted.{same_row}
use Rattle.taylor.proofs.shifts.shift.Goals as goal

pub returns-then-c-eq0-clause-shifted : goal.returns-then-c-eq0-clause-shifted
returns-then-c-eq0-clause-shifted c =
    let row = parts_of c.args.row.now in
    IfOk-weaker {X = Vec (Arc PartValue Global) Global} c.share.result (λ out. parts_of out.items ≡ row) _
    (λ out same K r is. same_row c.args.ring c.args.c K r row (parts_of out.items) c.if-c-eq0.true same is)
    c.share.ensures

pub loop-i-preserved : goal.loop-i-preserved
loop-i-preserved c =
    let i = c.loop-i.i in
    let row = parts_of c.args.row.now in
    let part : IsPartOfShift c.args.ring c.args.c row i (arc_value c.in_ok-new.field-0) =
    subst (IsPartOfShift c.args.ring c.args.c row i) (sym c.in_ok-new.ensures.ok) c.in_ok-part.ensures in
    record {
      count = ap length c.in_ok-push.ensures.items ∙ length_push c.loop-i.shifted.items c.in_ok-new.field-0
          ∙ ap (λ n. n + 1) c.loop-i.invariant.count;
      part = parts_more (IsPartOfShift c.args.ring c.args.c row) c.loop-i.shifted.items c.push.new.self.items
          c.in_ok-new.field-0 i c.loop-i.invariant.count c.in_ok-push.ensures.items c.loop-i.invariant.part part;
    }

pub returns-clause-parts : goal.returns-clause-parts
returns-clause-parts c = made_row c.args.ring c.args.c c.loop-i.i c.args.row.now c.loop-i.shifted.items
    c.loop-i.invariant.count (omega arith) c.loop-i.invariant.part

pub returns-clause-shifted : goal.returns-clause-shifted
returns-clause-shifted c = made_shifted c.args.ring c.args.c c.loop-i.i c.args.row.now c.loop-i.shifted.items
    c.loop-i.invariant.count (omega arith) c.loop-i.invariant.part
