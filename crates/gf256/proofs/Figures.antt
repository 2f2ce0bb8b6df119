-- 01, "Figures to check", of the field: the substitution of 0x00 is 0x63, and 0x80 doubled is 0x1B.
use mathlib.Core.Path.{◌≡◌, refl}
use Rattle.octets.specs.Octets.{◌⊕◌}
use Rattle.gf256.specs.Field.{xtime, times, mul, factor, power, inverse, bit, of_bits, affine, sub}

pub sub_0x00 : sub 0 ≡ 99
unfolding ◌⊕◌ xtime times mul factor power inverse bit of_bits affine sub
sub_0x00 = refl

pub xtime_0x80 : xtime 128 ≡ 27
unfolding ◌⊕◌ xtime
xtime_0x80 = refl
