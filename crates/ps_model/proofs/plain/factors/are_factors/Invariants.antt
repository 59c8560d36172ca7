-- proofs/plain/factors/are_factors/Invariants.antt
use Rattle.std.proofs.Common.{ℕ, ◌<◌, get_or, map}
use Rattle.ps_model.specs.declared.job.Root.{Root}
use Rattle.ps_model.specs.SeriesRing.{Poly}
use Rattle.ps_model.specs.Factors.{IsFactor}
use Rattle.ps_model.specs.Job.{series_ring}
use Rattle.ps_model.specs.PlainPolynomial.{plain_polynomial}
use Rattle.ps_model.proofs.plain.factors.are_factors.Given as goal

abbrev pub invariant-loop-i : goal.invariant-loop-i
invariant-loop-i l = (k : ℕ) (r : Root) (f : Poly (series_ring l.m l.weights)) → k < l.i
    → IsFactor l.d (get_or l.roots k r) (get_or (map (plain_polynomial l.m l.weights) l.fs) k f)
