use Rattle.std.proofs.Common.{◌≡◌, Some, refl, sym, ap, ◌∙◌, arith, rules, ℤ, ◌-ℤ◌, length, get_or, pos, false}
use mir.Syntax.{w64}
use mir.Val.{SFits}
use borrow.Author.Tests.{eq-eqb, ne_eqb}
use Rattle.mathematics.specs.Integers.{equal}
use Rattle.mathematics.specs.Tests.{lowest_failing}
use Rattle.mathematics.proofs.Lowest.{failing_next, failing_at}
use Rattle.mathematics.proofs.Integers.{integral}
use Rattle.mathematics.proofs.Signed.{back64, zero_bits}
use Rattle.law_check.specs.Law.{lowest_broken}
use Rattle.law_check.proofs.first_unlawful.Goals as goal

minus_nothing : (x : ℤ) → x -ℤ pos 0 ≡ x
minus_nothing x = search integral

pub loop-vertex-init : goal.loop-vertex-init
unfolding lowest_failing
loop-vertex-init c = refl

pub returns-then-sum-ne0 : goal.returns-then-sum-ne0
unfolding lowest_broken
returns-then-sum-ne0 c =
    let x = get_or c.args.sums.now c.loop-vertex.vertex (pos 0) in
    let f : SFits w64 x = search rules in
    let wrong : equal x (pos 0) ≡ false = sym (zero_bits w64 x f) ∙ ne_eqb _ _ c.if-sum-ne0.true in
    rw (failing_at _ _ c.loop-vertex.invariant wrong _ c.loop-vertex-test.true) (ap (λ e. Some (record { vertex = c.loop-vertex.vertex; excess = e })) (back64 x f.sfits ∙ sym (minus_nothing x)))

pub loop-vertex-preserved : goal.loop-vertex-preserved
loop-vertex-preserved c =
    let x = get_or c.args.sums.now c.loop-vertex.vertex (pos 0) in
    let f : SFits w64 x = search rules in
    failing_next _ _ c.loop-vertex.invariant (sym (zero_bits w64 x f) ∙ eq-eqb _ _ c.if-sum-ne0.false)

pub returns : goal.returns
unfolding lowest_broken
returns c =
    let past : c.loop-vertex.vertex ≡ length c.args.sums.now = omega arith in
    rw (← past, c.loop-vertex.invariant) refl
