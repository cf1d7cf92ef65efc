use Rattle.std.proofs.Common.{◌≡◌, ◌+◌, ◌-◌, length, get_or, refl, ◌∙◌, arith}
use Rattle.std.specs.Slice.Iter.{windows_rest}
use Rattle.std.proofs.lemmas.Iterator.{window_more}
use Rattle.mathematics.specs.Tests.{every}
use Rattle.matvec.specs.Product.{never_falls}
use Rattle.matvec.proofs.Judging.{falls_next}
use Rattle.matvec.proofs.product.never_falls.Goals as goal

pub loop-pair-init : goal.loop-pair-init
unfolding never_falls every
loop-pair-init c =
    let starts = c.args.starts.now in
    let whole : windows_rest c.into_iter-pair-iterator.result ≡ starts = rw c.into_iter-pair-iterator.ensures.into_iter_gives c.windows-pair-items.ensures.rest in
    let none : length starts - length starts ≡ 0 = omega arith in
    (rw c.into_iter-pair-iterator.ensures.into_iter_gives c.windows-pair-items.ensures.size, rw whole (omega arith), rw (whole, none) refl, rw (whole, none) (omega arith), rw (whole, none) refl)

pub loop-pair-preserved : goal.loop-pair-preserved
loop-pair-preserved c =
    let starts = c.args.starts.now in
    let rest = windows_rest c.loop-pair.pair-iterator in
    let i = length starts - length rest in
    let now = c.loop-pair.invariant in
    let h = window_more starts c.loop-pair.pair-iterator c.next.new.self _ _ c.in-Some.is c.next.ensures.steps (omega arith) now.1 now.2 in
    let at : i + 0 ≡ i = omega arith in
    let first : get_or c.in-Some.pair.now 0 0 ≡ get_or starts i 0 = rw at at (h.3 0 0 (omega arith)) in
    let second : get_or c.in-Some.pair.now 1 0 ≡ get_or starts (i + 1) 0 = h.3 1 0 (omega arith) in
    let next : length starts - length (windows_rest c.next.new.self) ≡ i + 1 = omega arith in
    (c.next.ensures.steps.0 ∙ now.0, omega arith, h.1, omega arith, rw (next, falls_next starts i, first, second, now.4))
