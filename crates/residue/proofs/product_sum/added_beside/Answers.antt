use Rattle.std.proofs.Common.{◌+◌, ◌-◌, ◌*◌, ◌%◌, ◌<◌, length, refl, sym, ◌∙◌, ap, subst}
use Rattle.residue.specs.Products.{reversed_dot}
use Rattle.residue.specs.ProductSums.{exact_of, limit_of}
use Rattle.residue.proofs.Arithmetic.{plus}
use Rattle.residue.proofs.Products.{dot_bound}
use Rattle.residue.proofs.Sums.{room_first, room_left}
use Rattle.residue.proofs.product_sum.added_beside.Goals as goal

pub with_all-sum-requires-clause-room : goal.with_all-sum-requires-clause-room
with_all-sum-requires-clause-room c =
    room_first (exact_of c.with_room-room.result.sum) (reversed_dot c.args.a.now c.args.w.now) (length c.args.a.now)
    c.with_room-room.result.left ((c.args.modulus.value - 1) * (c.args.modulus.value - 1)) (limit_of c.args.kernel)
    c.with_room-room.ensures.enough (dot_bound c.args.a.now c.args.w.now c.requires.same c.args.modulus.value
    c.requires.a_residues c.requires.w_residues) c.with_room-room.ensures.room

pub returns-clause-room : goal.returns-clause-room
returns-clause-room c =
    subst (λ e. e + (c.with_room-room.result.left - length c.args.a.now) *
    ((c.args.modulus.value - 1) * (c.args.modulus.value - 1)) < limit_of c.args.kernel) (sym c.with_all-sum.ensures)
    (room_left (exact_of c.with_room-room.result.sum) (reversed_dot c.args.a.now c.args.w.now) (length c.args.a.now)
    c.with_room-room.result.left ((c.args.modulus.value - 1) * (c.args.modulus.value - 1)) (limit_of c.args.kernel)
    c.with_room-room.ensures.enough (dot_bound c.args.a.now c.args.w.now c.requires.same c.args.modulus.value
    c.requires.a_residues c.requires.w_residues) c.with_room-room.ensures.room)

pub returns-clause-residue : goal.returns-clause-residue
returns-clause-residue c =
    ap (λ k. k % c.args.modulus.value) c.with_all-sum.ensures ∙
    plus c.args.modulus.value (exact_of c.with_room-room.result.sum) (exact_of c.args.now.sum)
    (reversed_dot c.args.a.now c.args.w.now) (reversed_dot c.args.a.now c.args.w.now) c.with_room-room.ensures.same refl
