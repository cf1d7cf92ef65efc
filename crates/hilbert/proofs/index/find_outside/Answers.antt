use Rattle.std.proofs.Common.{◌≡◌, refl, sym, ◌∙◌, arith, rules, length, get_or, pos, true, false, w32, FitsSigned}
use Rattle.mathematics.specs.Tests.{lowest_failing}
use Rattle.mathematics.proofs.Lowest.{failing_next, failing_at}
use Rattle.mathematics.proofs.Signed.{back32}
use Rattle.gauss_law.specs.Gauss.{within}
use Rattle.hilbert.specs.Basis.{lowest_outside}
use Rattle.hilbert.proofs.index.find_outside.Goals as goal

pub loop-edge-init : goal.loop-edge-init
unfolding lowest_failing
loop-edge-init c = refl

pub returns-then-not-within : goal.returns-then-not-within
unfolding lowest_outside within
returns-then-not-within c =
    let x = get_or c.args.configuration.now c.loop-edge.edge (pos 0) in
    let fits : FitsSigned w32 x = search rules in
    let out : within c.args.lambda x ≡ false = rw (back32 x fits.sfits) at (sym c.within.ensures ∙ c.if-not-within.true) in
    sym (failing_at _ _ c.loop-edge.invariant out _ c.loop-edge-test.true)

pub loop-edge-preserved : goal.loop-edge-preserved
unfolding within
loop-edge-preserved c =
    let x = get_or c.args.configuration.now c.loop-edge.edge (pos 0) in
    let fits : FitsSigned w32 x = search rules in
    let inside : within c.args.lambda x ≡ true = rw (back32 x fits.sfits) at (sym c.within.ensures ∙ c.if-not-within.false) in
    failing_next _ _ c.loop-edge.invariant inside

pub returns : goal.returns
unfolding lowest_outside
returns c =
    let past : c.loop-edge.edge ≡ length c.args.configuration.now = omega arith in
    rw (← past, c.loop-edge.invariant) refl
