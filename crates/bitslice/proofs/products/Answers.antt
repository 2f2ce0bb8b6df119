-- `bitslice::products` meets its contract.
use mathlib.Core.Path.{refl}
use Rattle.bitslice.specs.Circuit.{products, products_of}
use Rattle.bitslice.proofs.products.Goals as goal

pub returns : goal.returns
unfolding products products_of
returns c = refl
