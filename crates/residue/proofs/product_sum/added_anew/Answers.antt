use Rattle.std.proofs.Common.{◌+◌, ◌%◌, ◌^◌, ◌<◌, length, arith, subst, refl, sym, ◌∙◌, ap}
use Rattle.std.proofs.Math.Nat.{mod-lt, mod-mod}
use Rattle.residue.specs.Products.{reversed_dot}
use Rattle.residue.specs.ProductSums.{exact_of}
use Rattle.residue.proofs.Arithmetic.{plus}
use Rattle.residue.proofs.Products.{dot_bound}
use Rattle.residue.proofs.Sums.{room_anew}
use Rattle.residue.proofs.product_sum.added_anew.Goals as goal

pub by_fours-whole-requires-clause-room : goal.by_fours-whole-requires-clause-room
by_fours-whole-requires-clause-room c =
    let low : c.residue-start.result < c.args.modulus.value = subst (λ n. n < c.args.modulus.value)
    (sym c.residue-start.ensures) (mod-lt _ (let two = c.args.modulus.low in omega arith)) in
    subst (λ n. n + reversed_dot c.args.a.now c.args.w.now < 2 ^ 192) (sym c.of.ensures)
    (room_anew c.args.modulus.value (length c.args.a.now) (reversed_dot c.args.a.now c.args.w.now)
    c.residue-start.result c.args.modulus.high (omega arith) low
    (dot_bound c.args.a.now c.args.w.now c.requires.same c.args.modulus.value c.requires.a_residues
    c.requires.w_residues))

pub returns-clause-residue : goal.returns-clause-residue
returns-clause-residue c =
    ap (λ n. n % c.args.modulus.value) (c.of-2.ensures ∙ c.residue.ensures ∙
    ap (λ n. n % c.args.modulus.value) (c.by_fours-whole.ensures ∙
    ap (λ n. n + reversed_dot c.args.a.now c.args.w.now) (c.of.ensures ∙ c.residue-start.ensures)))
    ∙ mod-mod _ c.args.modulus.value
    ∙ plus c.args.modulus.value (exact_of c.args.sum % c.args.modulus.value) (exact_of c.args.sum)
    (reversed_dot c.args.a.now c.args.w.now) (reversed_dot c.args.a.now c.args.w.now)
    (mod-mod (exact_of c.args.sum) c.args.modulus.value) refl
