use Rattle.std.proofs.Common.{◌≡◌, ◌*◌, ◌/◌, ◌<◌, sym, arith}
use Rattle.complex.proofs.HalfEdges.{first_linked, next_linked, scan_first, scan_after}
use Rattle.complex.proofs.search.scan.Goals as goal

pub loop-d-init : goal.loop-d-init
loop-d-init c =
    let first = first_linked _ _ _ _ c.requires.1 _ _ _ c.requires.2 c.from.ensures c.from-d.ensures in
    record { within = first.within; there = first.there; searched = record { fits = c.requires.3; stands = sym (scan_first _ _ _ _ _ first) } }

pub look-requires : goal.look-requires
look-requires c = (c.requires.0, c.loop-d.invariant.searched.fits, omega arith)

pub loop-d-smaller : goal.loop-d-smaller
loop-d-smaller c =
    let inside : c.loop-d.d < 2 * c.args.c.now.n_edges = omega arith in
    let next = next_linked _ _ _ _ c.requires.1 _ _ _ inside (c.loop-d.invariant.there inside) c.from-d-in-loop-d.ensures in
    omega (arith, next.from)

pub loop-d-preserved : goal.loop-d-preserved
loop-d-preserved c =
    let inside : c.loop-d.d < 2 * c.args.c.now.n_edges = omega arith in
    let at = c.loop-d.invariant.there inside in
    let next = next_linked _ _ _ _ c.requires.1 _ _ _ inside at c.from-d-in-loop-d.ensures in
    record {
      within = next.within;
      there = next.there;
      searched = rw (scan_after _ _ _ c.requires.0 _ inside _ _ _ at next, ← c.loop-d.invariant.searched.stands, ← at) c.look.ensures;
    }

pub returns : goal.returns
returns c =
    let past : c.loop-d.d / 2 ≡ c.args.c.now.n_edges = omega arith in
    rw past at c.loop-d.invariant.searched
