use Rattle.std.proofs.Common.{◌≡◌, ◌-◌, ◌≤◌, length, drop}
use Rattle.std.specs.Slice.Iter.{windows_size, windows_rest}
use Rattle.matvec.specs.Product.{never_falls}
use Rattle.matvec.proofs.product.never_falls.Given as goal

abbrev pub invariant-loop-pair : goal.invariant-loop-pair
invariant-loop-pair l =
    let rest = windows_rest l.pair-iterator in
    let i = length l.starts - length rest in
    (windows_size l.pair-iterator ≡ 2) × (length rest ≤ length l.starts) × (rest ≡ drop i l.starts) × (i ≤ length l.starts - 1) × (l.so_far ≡ never_falls l.starts i)
