use Rattle.std.proofs.Common.{◌≡◌, arith, rules}
use Rattle.lanczos.proofs.Folds.{way_begun}
use Rattle.lanczos.proofs.Running.{way_next, run_bounds}
use Rattle.lanczos.proofs.walk.add_plaquette.Goals as goal

pub loop-i-init : goal.loop-i-init
loop-i-init c = record { from_inside = omega arith; to_inside = omega arith; way = λ complex t free basis of first. way_begun complex _ _ free basis t _ of _ _ _ }

pub add_run-requires : goal.add_run-requires
add_run-requires c =
    let h = run_bounds _ _ _ _ _ _ _ _ _ c.find_run-r.ensures c.loop-i-test.true in
    let few = c.requires.0.movable.rows.few in
    rw c.loop-i.auto.res
    (omega (arith, h.0, c.requires.2), omega (arith, h.0, c.requires.1), omega (arith, h.1, c.requires.2), omega (arith, h.1, c.requires.1), omega (arith, h.0, few), omega (arith, h.1, few))

pub overflow_add-i : goal.overflow_add-i
overflow_add-i c = let h = run_bounds _ _ _ _ _ _ _ _ _ c.find_run-r.ensures c.loop-i-test.true in search rules

pub overflow_add-j : goal.overflow_add-j
overflow_add-j c = let h = run_bounds _ _ _ _ _ _ _ _ _ c.find_run-r.ensures c.loop-i-test.true in search rules

pub loop-i-smaller : goal.loop-i-smaller
loop-i-smaller c = let h = run_bounds _ _ _ _ _ _ _ _ _ c.find_run-r.ensures c.loop-i-test.true in omega (arith, h.0, h.2)

pub loop-i-preserved : goal.loop-i-preserved
loop-i-preserved c =
    let h = run_bounds _ _ _ _ _ _ _ _ _ c.find_run-r.ensures c.loop-i-test.true in
    record {
      from_inside = h.0;
      to_inside = h.1;
      way = λ complex t free basis of first.
          rw c.add_run.ensures
          (way_next complex _ _ free basis t _ of _ _ _ first c.requires.0.covers _ _ _ c.loop-i.i c.loop-i.j _ _ c.find_run-r.ensures (c.loop-i.invariant.way complex t free basis of first));
    }

pub returns : goal.returns
returns c complex t free basis of first =
    let past : c.loop-i.i ≡ c.args.tables.now.sizes.states = omega arith in
    rw past at (c.loop-i.invariant.way complex t free basis of first).sums
