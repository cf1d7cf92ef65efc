use Rattle.std.proofs.Common.{◌≡◌, length, sym, ap, ◌∙◌, arith}
use Rattle.complex.specs.Complex.{complex_of}
use Rattle.gauss_law.specs.Listing.{free_edges}
use Rattle.loops.specs.Walks.{edge_of, direction_of}
use Rattle.loops.proofs.LoopLists.{steps_count, none_laid, one_laid, all_laid, none_started, one_started, all_started}
use Rattle.loops.proofs.LoopReads.{listed, next_free}
use Rattle.loops.proofs.climbing.RootedTree.write_loops.Goals as goal

pub loop-j-init : goal.loop-j-init
loop-j-init c =
    let K = complex_of c.args.self.now.complex in
    let all = listed c.args.self.now.parented (c.as_slice-f-items.ensures ∙ c.requires.0.stands) in
    record { listed = all; at = sym all.none; start_list = none_started K _; edge_list = none_laid K edge_of _; direction_list = none_laid K direction_of _ }

pub loop-j-preserved : goal.loop-j-preserved
loop-j-preserved c =
    let inv = c.loop-j.invariant in
    let n = next_free inv.listed.same c.loop-j-test.true c.from.ensures in
    let written = c.put_loop-at.ensures in
    record {
      listed = inv.listed;
      at = omega (arith, steps_count n, written.next_place, inv.at);
      start_list = one_started inv.start_list inv.at (omega (arith, c.requires.1));
      edge_list = one_laid n inv.at inv.edge_list c.requires.2.edge_room written.steps.edge_list;
      direction_list = one_laid n inv.at inv.direction_list c.requires.2.direction_room written.steps.direction_list;
    }

pub returns : goal.returns
returns c =
    let inv = c.loop-j.invariant in
    let end : c.loop-j.j ≡ length (free_edges (complex_of c.args.self.now.complex)) = (omega arith) ∙ ap length inv.listed.same in
    let past : c.loop-j.j ≡ c.args.free.count = omega (arith, c.requires.0.count) in
    record {
      start_list = rw (c.len.ensures, ← past) (all_started (one_started inv.start_list inv.at (omega (arith, c.requires.1))) end);
      edge_list = all_laid inv.edge_list end;
      direction_list = all_laid inv.direction_list end;
    }
