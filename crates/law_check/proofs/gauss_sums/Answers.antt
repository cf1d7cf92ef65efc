use Rattle.std.proofs.Common.{◌≡◌, ◌<◌, arith, rules, get_or, pos}
use mir.Syntax.{w32}
use mir.Val.{SFits}
use lib.Seq.{take_all}
use Rattle.mathematics.proofs.Signed.{back32, size_within}
use Rattle.complex.specs.Complex.{entries}
use Rattle.law_check.proofs.Summed.{none_summed, none_small, edge_ends, edge_addable, edge_summed, added_small}
use Rattle.law_check.proofs.gauss_sums.Goals as goal

pub loop-e-init : goal.loop-e-init
loop-e-init c = record { summed = none_summed _; small = none_small }

pub carry-requires : goal.carry-requires
unfolding entries
carry-requires c =
    let r = c.requires in
    let inside : c.loop-e.e < c.args.c.now.n_edges = omega (arith, r.2) in
    let ends = edge_ends _ _ r.1 _ inside in
    rw (c.edge-a.ensures.first, c.edge-a.ensures.second) (edge_addable _ _ r.1 _ inside r.0 _ c.loop-e.invariant.small, λ q. omega (arith, ends.0))

pub loop-e-preserved : goal.loop-e-preserved
unfolding entries
loop-e-preserved c =
    let r = c.requires in
    let inside : c.loop-e.e < c.args.c.now.n_edges = omega (arith, r.2) in
    let ends = edge_ends _ _ r.1 _ inside in
    let x = get_or c.args.configuration.now c.loop-e.e (pos 0) in
    let given : SFits w32 x = search rules in
    let sums = c.loop-e.invariant.summed in
    let carried = rw (c.edge-a.ensures.first, c.edge-a.ensures.second, back32 x given.sfits) at c.carry.ensures in
    record {
      summed = rw carried (edge_summed _ _ r.1 _ inside _ r.2 _ sums);
      small = rw carried (added_small _ _ _ sums.long ends.0 ends.1 _ (size_within x given.sfits) c.loop-e.invariant.small);
    }

pub returns : goal.returns
returns c =
    let past : c.loop-e.e ≡ c.args.c.now.n_edges = omega (arith, c.requires.2) in
    rw (take_all c.loop-e.e c.args.configuration.now (omega arith), past) at c.loop-e.invariant.summed
