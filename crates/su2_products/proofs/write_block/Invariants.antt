use Rattle.std.proofs.Common.{◌≡◌, ◌+◌, length}
use mathlib.Core.List.{map}
use Rattle.mathematics.specs.Counting.{below}
use Rattle.su2_products.specs.Product.{listed_product_at}
use Rattle.su2_products.proofs.write_block.Given as goal

abbrev pub invariant-loop-place : goal.invariant-loop-place
invariant-loop-place l =
    (goal.iterator-loop-place).can_next l.place-iterator
    × (goal.iterator-loop-place).is_finite l.place-iterator
    × (l.block ≡ map (λ i. listed_product_at l.electric l.states l.flips.places l.flips.terms l.vector (length l.yielded) (l.from + i)) (below (length l.initial.block)))
