use Rattle.std.proofs.Common.{◌≡◌, ◌<◌, length}
use Rattle.series_graph.specs.GraphValue.{size_of, IsIdOf}
use Rattle.job_tests.proofs.graphs.chain.Given as goal

abbrev pub invariant-loop : goal.invariant-loop
invariant-loop l = record {
  ring : l.graph.ring ≡ l.fn.graph.ring;
  size : size_of l.graph ≡ l.counter;
  id : IsIdOf l.graph l.last;
}
