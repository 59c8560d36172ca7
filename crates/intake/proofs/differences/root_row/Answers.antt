-- The row of 1, and that of one more root.
use Rattle.std.proofs.Common.{[], ◌∷◌, ◌++◌, get_or, refl, sym, ◌∙◌, ap, arith}
use Rattle.intake.proofs.RootProducts.{coefficients-small, product_none, product_more, product_size, product_all}
use Rattle.intake.proofs.differences.root_row.Goals as goal

pub loop-root-init : goal.loop-root-init
loop-root-init c = λ ws. product_none c.args.modulus.value ws c.args.roots.now _
    (c.in_ok-push.ensures.items ∙ ap (λ l. l ++ 1 ∷ []) c.new-row.ensures.items)

pub loop-root-preserved : goal.loop-root-preserved
loop-root-preserved c = λ ws. product_more c.args.modulus.value ws c.args.roots.now c.loop-root.root-index
    (get_or c.args.roots.now c.loop-root.root-index (record { value = 0; times = 0 })) _ c.loop-root.row.items
    c.in_ok-row.row.items c.loop-root-test.true refl (c.loop-root.invariant ws) (c.in_ok-row.ensures.numbers ws)
    (sym c.in_ok-row.row.ok.0 ∙ c.in_ok-row.ensures.length ∙ omega arith)

pub returns-clause-length : goal.returns-clause-length
returns-clause-length c = c.loop-root.row.ok.0 ∙ product_size c.args.modulus.value [] c.args.roots.now
    c.loop-root.root-index c.loop-root.row.items c.loop-root-test.false (c.loop-root.invariant [])

pub returns-clause-numbers : goal.returns-clause-numbers
returns-clause-numbers c = λ ws. product_all c.args.modulus.value ws c.args.roots.now c.loop-root.root-index
    c.loop-root.row.items c.loop-root-test.false (c.loop-root.invariant ws)

pub times_root-requires-clause-residues : goal.times_root-requires-clause-residues
times_root-requires-clause-residues c = let so_far = c.loop-root.invariant [] in
    coefficients-small c.args.modulus.value [] c.loop-root.row.items so_far.of c.args.modulus.low so_far.are
