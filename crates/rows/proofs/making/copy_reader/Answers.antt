use Rattle.rows.proofs.RowSteps.{admits}
use Rattle.rows.proofs.making.copy_reader.Goals as goal

pub reader-requires : goal.reader-requires
reader-requires g c = admits g.T.RowItem.fits
