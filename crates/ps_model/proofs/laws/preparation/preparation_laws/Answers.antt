use Rattle.ps_model.specs.SeriesRing.{ring}
use Rattle.ps_model.proofs.Prepared.{prepared-truncated}
use Rattle.ps_model.proofs.Recurrences.{prepared_step, prepared_first}
use Rattle.ps_model.proofs.Monic.{monic-y}
use Rattle.ps_model.specs.Bounds.{IsMonic}
use Rattle.std.proofs.Common.{subst, sym}
use Rattle.ps_model.proofs.laws.preparation.preparation_laws.Goals as goal

pub returns : goal.returns
returns c = record {
  truncated = λ S G k q d D p u le is. prepared-truncated (ring S) G k q d D p u le is;
  first = λ S G k q p u powers is u_powers within unit none same.
      prepared_first (ring S) k q G p u powers (subst (IsMonic k) (sym is) (monic-y (ring S) k)) u_powers is
      within unit none same;
  next = λ S G k q d e p u powers monic u_powers p_within u_within before inverts follows.
      prepared_step (ring S) k q G p u powers monic u_powers d e p_within u_within before inverts follows;
}
