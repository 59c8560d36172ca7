use Rattle.ps_model.specs.SeriesRing.{ring}
use Rattle.ps_model.proofs.Stages.{stage, stage_back, left_factorable, left_list, product_from-truncated}
use Rattle.ps_model.proofs.Stages.{prepared-same}
use Rattle.ps_model.proofs.laws.factors.stage_laws.Goals as goal

pub returns : goal.returns
returns c = record {
  preparable = λ S D s d roots F fs ok is lt. (stage (ring S) D s d roots F fs ok is lt).can;
  prepared = λ S D s d roots F fs ok is lt. (stage (ring S) D s d roots F fs ok is lt).is;
  back = λ S D s d roots F fs ok is lt p u at. stage_back (ring S) D s d roots F fs ok is lt p u at;
  later = λ S D r roots F f fs ok is. (
    left_factorable (ring S) D r roots F f fs ok is,
    left_list (ring S) D r roots F f
        fs ok is,
  );
  truncated = λ S e D s fs le. product_from-truncated (ring S) e D s fs le;
  same = λ S G H k q D p u same at. prepared-same (ring S) G H k q D p u same at;
}
