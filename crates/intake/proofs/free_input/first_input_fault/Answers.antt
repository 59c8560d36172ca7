-- What each test tells, where the earlier ones passed.
use Rattle.std.proofs.Common.{refl, ap, lit≤}
use Rattle.ps_model.specs.Input.{DividesByY, TooManyNodes, DegreeTooLarge, NotAUnit}
use Rattle.ps_model.specs.Job.{series_ring}
use Rattle.ps_model.specs.Tree.{formal_degree, node_count}
use Rattle.intake.specs.declared.free_error.FreeError.TheVariants as told
use Rattle.intake.proofs.InputFaults.{below_told, first_by_y_fault, nodes_fault, degree_fault, unit_fault}
use Rattle.intake.proofs.InputFaults.{no_input_fault}
use Rattle.intake.proofs.InputFaults.{ring_gcd}
use Rattle.intake.proofs.free_input.first_input_fault.Goals as goal

pub returns-in-Some-clause-some : goal.returns-in-Some-clause-some
returns-in-Some-clause-some c = λ ws.
    let found = c.in-Some.ensures.some in (
      DividesByY found.0,
      first_by_y_fault (series_ring c.args.modulus.value ws) c.args.expr.now found.0 found.1,
      ap (λ k. told.DividesByY k) found.2,
    )

pub returns-then-count-gt-MOST_NODES-clause-some : goal.returns-then-count-gt-MOST_NODES-clause-some
returns-then-count-gt-MOST_NODES-clause-some c = λ ws. (
  TooManyNodes c.node_count-count.result,
  nodes_fault (series_ring c.args.modulus.value ws) c.args.expr.now (c.first_by_y.ensures.none c.in_default.is)
      c.node_count-count.result c.if-count-gt-MOST_NODES.true c.node_count-count.ensures,
  refl,
)

pub returns-then-degree-gt-GREATEST_DEGREE-clause-some : goal.returns-then-degree-gt-GREATEST_DEGREE-clause-some
returns-then-degree-gt-GREATEST_DEGREE-clause-some c = λ ws. (
  DegreeTooLarge c.formal_degree-degree.result,
  degree_fault (series_ring c.args.modulus.value ws) c.args.expr.now (c.first_by_y.ensures.none c.in_default.is)
      (below_told 4096 (node_count c.args.expr.now) c.node_count-count.result (lit≤ tt) c.if-count-gt-MOST_NODES.false
      c.node_count-count.ensures)
      c.formal_degree-degree.result c.if-degree-gt-GREATEST_DEGREE.true c.formal_degree-degree.ensures,
  refl,
)

pub first_failure-requires-clause-divisors : goal.first_failure-requires-clause-divisors
first_failure-requires-clause-divisors c = c.first_by_y.ensures.none c.in_default.is

pub returns-in-Some-first_failure-clause-some : goal.returns-in-Some-first_failure-clause-some
returns-in-Some-first_failure-clause-some c = λ ws.
    let failure = c.in-Some-first_failure.failure in
    let found = c.in-Some-first_failure.ensures.some ws in (
      NotAUnit found.0 failure.value failure.gcd,
      unit_fault (series_ring c.args.modulus.value ws) c.args.expr.now (c.first_by_y.ensures.none c.in_default.is)
          (below_told 4096 (node_count c.args.expr.now) c.node_count-count.result (lit≤ tt)
          c.if-count-gt-MOST_NODES.false c.node_count-count.ensures)
          (below_told 32 (formal_degree c.args.expr.now) c.formal_degree-degree.result (lit≤ tt)
          c.if-degree-gt-GREATEST_DEGREE.false c.formal_degree-degree.ensures) found.0 failure.value failure.gcd (
            found.1,
            found.2,
            ring_gcd c.args.modulus.value ws failure.value failure.gcd c.args.modulus.low
                c.in-Some-first_failure.ensures.gcd,
          ),
      ap (λ k. told.NotAUnit k failure.value failure.gcd) found.3,
    )

pub returns-in-None-clause-none : goal.returns-in-None-clause-none
returns-in-None-clause-none c = λ _ ws. no_input_fault (series_ring c.args.modulus.value ws) c.args.expr.now
    (c.first_by_y.ensures.none c.in_default.is)
    (below_told 4096 (node_count c.args.expr.now) c.node_count-count.result (lit≤ tt) c.if-count-gt-MOST_NODES.false
    c.node_count-count.ensures)
    (below_told 32 (formal_degree c.args.expr.now) c.formal_degree-degree.result (lit≤ tt)
    c.if-degree-gt-GREATEST_DEGREE.false c.formal_degree-degree.ensures)
    (c.first_failure.ensures.none c.in-None.is ws)
