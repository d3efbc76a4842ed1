-- The first byte, the length and the bytes, one behind the other, where they fit.
use native.Mathlib.Omega.{arith}
use lib.ListN.{length, length-set}
use Rattle.encoding.proofs.SliceLaws.{fits_within, fits_size, leaves_done, leaves_none}
use Rattle.value.proofs.ScalarLaws.{prefixed_size, prefixed_written}
use Rattle.value.proofs.prefix.Prefix.write.Goals as goal

pub returns-then-fits : goal.returns-then-fits
returns-then-fits c =
    let a = c.args in
    let t = c.if-fits.true in
    let r = fits_within _ _ _ c.fits.ensures t in
    let n = length-set a.buf.now a.at a.self.first in
    let m = c.put_packed.auto.buf in
    leaves_done (fits_size a.at _ _ (length a.buf.now) c.fits.ensures (prefixed_size a.self a.bytes.now)) t
    (prefixed_written a.at a.self a.buf.now a.bytes.now r (c.put_packed.ensures.room (omega arith))
    (c.put_slice.ensures.room (omega arith)))

pub returns-else-fits : goal.returns-else-fits
returns-else-fits c =
    let a = c.args in
    leaves_none (fits_size a.at _ _ (length a.buf.now) c.fits.ensures (prefixed_size a.self a.bytes.now)) c.if-fits.false
