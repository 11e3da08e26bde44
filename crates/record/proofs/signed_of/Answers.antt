-- `record::signed_of` meets its contract: above 2^63 the number is −1 less what it lacks of 2^64 − 1, and that difference fits.
use mathlib.Core.Path.{◌∙◌}
use mir.Facts.{to_z-of_z}
use Rattle.record.proofs.Laws as laws
use Rattle.record.proofs.signed_of.Goals as goal

pub overflow_sub-result-else-n-lt9223372036854775808 : goal.overflow_sub-result-else-n-lt9223372036854775808
overflow_sub-result-else-n-lt9223372036854775808 c = laws.signed_neg_fits _ c.if-n-lt9223372036854775808.false c.ranges.n.fits

pub returns-then-n-lt9223372036854775808 : goal.returns-then-n-lt9223372036854775808
returns-then-n-lt9223372036854775808 c = laws.signed_pos _ c.if-n-lt9223372036854775808.true

pub returns-else-n-lt9223372036854775808 : goal.returns-else-n-lt9223372036854775808
returns-else-n-lt9223372036854775808 c = to_z-of_z (laws.signed_neg_fits _ c.if-n-lt9223372036854775808.false c.ranges.n.fits) ∙ laws.signed_neg _ c.if-n-lt9223372036854775808.false c.ranges.n.fits
