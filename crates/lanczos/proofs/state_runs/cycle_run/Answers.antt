use Rattle.std.proofs.Common.{◌≡◌, ◌<◌, ◌∙◌, arith, pos, get_or, length, get_or-take, length-take, to_z, of_z, w8, w32}
use Rattle.walker.proofs.Adding.{sign_back}
use Rattle.mathematics.proofs.Signed.{small_back}
use Rattle.lanczos.proofs.Rooms.{run_more}
use Rattle.lanczos.proofs.state_runs.cycle_run.Goals as goal

pub loop-edge-preserved : goal.loop-edge-preserved
loop-edge-preserved c =
    let q = c.loop-edge.edge-index in
    let list = c.args.edges.now.list in
    let inside : q < c.args.edges.now.count = omega (arith, rw (c.as_slice-edge-items.ensures, length-take) at c.loop-edge-test.true) in
    let edge : c.from-e.result ≡ get_or list q 0 = c.from-e.ensures ∙ rw c.as_slice-edge-items.ensures (get_or-take c.args.edges.now.count list q 0 inside) in
    let x = get_or c.args.row.now c.from-e.result (pos 0) in
    let z = get_or c.args.cycle.now c.from-e.result (pos 0) in
    let value : to_z w32 (of_z w32 x) ≡ x = small_back x (omega (arith, c.requires.0.values c.from-e.result, c.requires.0.truncation)) in
    let sign : to_z w8 (of_z w8 z) ≡ z = sign_back z (c.requires.0.signs c.from-e.result) in
    run_more _ _ _ _ _ _ _ c.loop-edge.invariant _ (rw (value, sign, edge) at c.room-r.ensures)

pub returns : goal.returns
returns c =
    let long : length c.as_slice-edge-items.result.now ≡ c.args.edges.now.count = rw (c.as_slice-edge-items.ensures, length-take) (omega (arith, c.requires.1.long)) in
    let past : c.loop-edge.edge-index ≡ c.args.edges.now.count = omega arith in
    rw past at c.loop-edge.invariant
