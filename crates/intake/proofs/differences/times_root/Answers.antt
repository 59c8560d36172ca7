-- The row itself, that of one factor more, and that of the root's power.
use Rattle.std.proofs.Common.{◌≡◌, ◌-◌, ◌%◌, ◌<◌, sym, ◌∙◌, ap, subst, get_or, arith}
use Rattle.std.proofs.Math.Nat.{mod-lt}
use Rattle.ps_model.specs.Job.{series_ring}
use Rattle.intake.proofs.LinearProducts.{y_coefficient}
use Rattle.intake.proofs.NumberRows.{next_number}
use Rattle.intake.proofs.RootProducts.{times_power, times_none, times_more}
use Rattle.intake.proofs.differences.times_root.Goals as goal

pub loop-init : goal.loop-init
loop-init c = record {
  length = omega arith;
  residues = c.requires.residues;
  numbers = λ ws. times_none c.args.modulus.value ws c.args.root.value c.args.row.items;
}

pub next_row-requires-clause-residues : goal.next_row-requires-clause-residues
next_row-requires-clause-residues c = λ p. subst (λ l. get_or l p 0 < c.args.modulus.value)
    (sym c.deref.ensures.value) (c.loop.invariant.residues p)

pub loop-preserved : goal.loop-preserved
loop-preserved c =
    let m = c.args.modulus.value in
    record {
      length = omega (arith, c.in_ok-row.ensures.length, c.deref.ensures.len);
      residues = λ p. subst (λ n. n < m) (sym (c.in_ok-row.ensures.numbers p))
          (mod-lt _ (let two = c.args.modulus.low in omega arith));
      numbers = λ ws. times_more m ws c.args.root.value c.loop.counter c.args.row.items c.loop.row.items
          c.in_ok-row.row.items c.args.modulus.low (λ p. c.in_ok-row.ensures.numbers p
          ∙ ap (λ n. next_number m n c.deref.result.now p) c.neg-constant.ensures
          ∙ ap (λ l. next_number m ((m - c.args.root.value) % m) l p) c.deref.ensures.value)
          (c.loop.invariant.numbers ws);
    }

pub returns-clause-numbers : goal.returns-clause-numbers
returns-clause-numbers c = λ ws f are p. c.loop.invariant.numbers ws f are p
    ∙ ap (λ n. y_coefficient (series_ring c.args.modulus.value ws)
    (times_power c.args.modulus.value ws c.args.root.value n f) p) all
  where
    all : c.loop.counter ≡ c.args.root.times
    all = omega arith
