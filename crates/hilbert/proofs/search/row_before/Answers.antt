use Rattle.std.proofs.Common.{◌≡◌, ◌+◌, ◌-◌, sym, ap, ◌∙◌, arith, w32, to_z, of_z, rules, FitsSigned, pos, get_or, length}
use lib.ListN.{length-append}
use Rattle.mathematics.proofs.Signed.{back32}
use Rattle.hilbert.specs.Basis.{smaller}
use Rattle.hilbert.proofs.Searching.{read_next, read_end, smaller_differs, smaller_equals}
use Rattle.hilbert.proofs.search.row_before.Goals as goal

pub returns-then-x-y : goal.returns-then-x-y
returns-then-x-y c =
    let there = read_next c.args.free.now c.args.n_free (omega (arith, c.requires.2, c.requires.3.long)) c.loop-edge.yielded _ _ _ (search rules) c.loop-edge.yielded_by c.next.ensures.steps c.in-Some.is in
    let x : FitsSigned w32 (get_or c.args.row.now c.from-e.result (pos 0)) = search rules in
    let y : FitsSigned w32 (get_or c.args.config.now c.from-e.result (pos 0)) = search rules in
    rw (back32 _ x.sfits, back32 _ y.sfits)
    (smaller_differs _ _ _ (c.args.n_free - length c.loop-edge.yielded) (omega (arith, there.0)) c.from-e.result (c.from-e.ensures ∙ there.1) (λ z. c.if-x-y.true (ap (of_z w32) z)) ∙ sym c.loop-edge.invariant)

pub loop-edge-preserved : goal.loop-edge-preserved
loop-edge-preserved c =
    let there = read_next c.args.free.now c.args.n_free (omega (arith, c.requires.2, c.requires.3.long)) c.loop-edge.yielded _ _ _ (search rules) c.loop-edge.yielded_by c.next.ensures.steps c.in-Some.is in
    let x : FitsSigned w32 (get_or c.args.row.now c.from-e.result (pos 0)) = search rules in
    let y : FitsSigned w32 (get_or c.args.config.now c.from-e.result (pos 0)) = search rules in
    let same = sym (back32 _ x.sfits) ∙ ap (to_z w32) c.if-x-y.false ∙ back32 _ y.sfits in
    let less : c.args.n_free - (length c.loop-edge.yielded + 1) ≡ c.args.n_free - length c.loop-edge.yielded - 1 = omega arith in
    rw (length-append c.loop-edge.yielded _, less)
    (c.loop-edge.invariant ∙ smaller_equals _ _ _ (c.args.n_free - length c.loop-edge.yielded) (omega (arith, there.0)) c.from-e.result (c.from-e.ensures ∙ there.1) same)

pub returns : goal.returns
unfolding smaller
returns c =
    let none = read_end c.args.free.now c.args.n_free (omega (arith, c.requires.2, c.requires.3.long)) c.loop-edge.yielded _ _ _ (search rules) c.loop-edge.yielded_by c.next.ensures.steps c.in-None.is in
    sym (c.loop-edge.invariant ∙ ap (smaller c.args.free.now c.args.row.now c.args.config.now) none)
