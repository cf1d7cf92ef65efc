use Rattle.std.proofs.Common.{◌≡◌, min}
use Rattle.su2_products.specs.Product.{listed_product_at}
use Rattle.su2_products.proofs.Blocks.{begun}
use Rattle.su2_products.proofs.write_blocks.Given as goal

abbrev pub invariant-loop-from : goal.invariant-loop-from
invariant-loop-from l = l.res ≡ begun (listed_product_at l.electric l.states l.flips.places l.flips.terms l.vector l.flips.count) l.initial.res (min l.from l.n)
