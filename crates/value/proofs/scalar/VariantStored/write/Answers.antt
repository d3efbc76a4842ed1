-- The parts are written where they fit, and they are the scalar.
use lib.ListN.{length}
use Rattle.encoding.proofs.SliceLaws.{fits_size, leaves_done, leaves_none}
use Rattle.value.proofs.scalar.VariantStored.write.Goals as goal

pub returns-then-fits : goal.returns-then-fits
returns-then-fits c =
    let a = c.args in
    rw (← c.of-p.ensures)
    (leaves_done (fits_size a.at _ _ (length a.buf.now) c.fits.ensures c.size.ensures) c.if-fits.true c.put.ensures)

pub returns-else-fits : goal.returns-else-fits
returns-else-fits c =
    let a = c.args in
    rw (← c.of-p.ensures)
    (leaves_none (fits_size a.at _ _ (length a.buf.now) c.fits.ensures c.size.ensures) c.if-fits.false)
