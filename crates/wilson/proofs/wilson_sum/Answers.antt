use Rattle.std.proofs.Common.{◌≡◌, refl, sym, ap, ◌∙◌, arith, rules, w8, FitsSigned, pos, length, take, [], get_or, true}
use lib.ListN.{length-append}
use lib.Seq.{length-take-le}
use Rattle.std.proofs.lemmas.Slice.Zip.{zip_turn, zip_end}
use Rattle.mathematics.proofs.Signed.{back8}
use Rattle.matrices.proofs.Literals.{zero}
use Rattle.complex.specs.Complex.{Complex}
use Rattle.gauss_law.specs.Listing.{states}
use Rattle.hilbert.specs.Basis.{place}
use Rattle.hilbert.specs.Search.{row}
use Rattle.plaquettes.specs.Targets.{BasisList}
use Rattle.plaquettes.proofs.Targets.{edges_few, row_within, row_is, row_long, list_long, list_rows}
use Rattle.wilson.specs.Wilson.{wilson_sum, stays, walked, path_of}
use Rattle.wilson.specs.Walking.{Stepped}
use Rattle.wilson.proofs.Walks.{step_ready, step_leaves, step_stays, walk_begins, walk_stays, walk_leads}
use Rattle.wilson.proofs.Places.{place_within}
use Rattle.wilson.proofs.Reached.{row_small, place_ranked, sought, summed_none, summed_left, summed_more, summed_all}
use Rattle.wilson.proofs.wilson_sum.Goals as goal

pub states-init : goal.states-init
unfolding wilson_sum
states-init c = (omega arith, refl, λ complex basis. rw zero (summed_none complex _ _ _ basis _ _ _ c.requires.1))

pub row_at-requires : goal.row_at-requires
row_at-requires c = row_within _ _ _ _ c.requires.0.basis c.states.i c.states-test.true

pub copy_state-requires : goal.copy_state-requires
copy_state-requires c =
    let basis = c.requires.0.basis in
    (c.states.invariant.1, rw (c.row_at.ensures, row_long _ _ _ _ basis c.states.i c.states-test.true) (edges_few _ _ _ _ basis))

pub loop-edge-init : goal.loop-edge-init
loop-edge-init c =
    let basis = c.requires.0.basis in
    let inside = c.states-test.true in
    let front : take c.args.s.edges c.copy_state.new.row ≡ row c.args.s.edges c.args.list.now c.states.i =
    ap (λ n. take n c.copy_state.new.row) (sym (row_long _ _ _ _ basis c.states.i inside)) ∙ (rw c.row_at.ensures at c.copy_state.ensures.1) in
    walk_begins _ _ _ _ c.copy_state.new.row c.copy_state.array_long front (row_small _ _ _ _ basis c.states.i inside)

-- A step is read alike at the next three goals. A lemma of that would name the types of the loop's iterator, which std keeps to itself.
pub take_step-requires : goal.take_step-requires
take_step-requires c =
    let basis = c.requires.0.basis in
    let turn = zip_turn c.args.path.edges.now c.args.path.directions.now c.loop-edge.yielded c.into_iter-edge-iterator.result c.loop-edge.edge-iterator c.next.new.self c.next.result (search rules) (search rules) c.loop-edge.yielded_by (c.in-Some.edge, c.in-Some.direction) c.in-Some.is c.next.ensures.steps in
    let d : FitsSigned w8 c.in-Some.direction.now = search rules in
    rw (back8 c.in-Some.direction.now d.sfits, turn.2 0, turn.3 (pos 0))
    (step_ready _ _ _ _ _ c.requires.1 (edges_few _ _ _ _ basis) (length c.loop-edge.yielded) _ c.loop-edge.invariant turn.0 basis.truncation)

pub states-preserved-then-not-take_step : goal.states-preserved-then-not-take_step
states-preserved-then-not-take_step c =
    let turn = zip_turn c.args.path.edges.now c.args.path.directions.now c.loop-edge.yielded c.into_iter-edge-iterator.result c.loop-edge.edge-iterator c.next.new.self c.next.result (search rules) (search rules) c.loop-edge.yielded_by (c.in-Some.edge, c.in-Some.direction) c.in-Some.is c.next.ensures.steps in
    let d : FitsSigned w8 c.in-Some.direction.now = search rules in
    let step : Stepped c.args.s.lambda c.loop-edge.reached (get_or c.args.path.edges.now (length c.loop-edge.yielded) 0) (get_or c.args.path.directions.now (length c.loop-edge.yielded) (pos 0)) c.take_step.result c.take_step.new.row = rw (back8 c.in-Some.direction.now d.sfits, turn.2 0, turn.3 (pos 0)) at c.take_step.ensures in
    let out = step_leaves _ _ _ _ _ c.requires.1 (edges_few _ _ _ _ c.requires.0.basis) (length c.loop-edge.yielded) _ c.loop-edge.invariant turn.0 (sym step.stays ∙ c.if-not-take_step.true) in (
      c.states.invariant.0,
      c.take_step.array_long,
      λ complex own. summed_left complex _ _ _ own _ _ _ c.requires.1 c.states.i _ _ (c.states.invariant.2 complex own) (rw (row_is complex _ _ _ own c.states.i c.states-test.true) at out),
    )

pub loop-edge-preserved : goal.loop-edge-preserved
loop-edge-preserved c =
    let turn = zip_turn c.args.path.edges.now c.args.path.directions.now c.loop-edge.yielded c.into_iter-edge-iterator.result c.loop-edge.edge-iterator c.next.new.self c.next.result (search rules) (search rules) c.loop-edge.yielded_by (c.in-Some.edge, c.in-Some.direction) c.in-Some.is c.next.ensures.steps in
    let d : FitsSigned w8 c.in-Some.direction.now = search rules in
    let step : Stepped c.args.s.lambda c.loop-edge.reached (get_or c.args.path.edges.now (length c.loop-edge.yielded) 0) (get_or c.args.path.directions.now (length c.loop-edge.yielded) (pos 0)) c.take_step.result c.take_step.new.row = rw (back8 c.in-Some.direction.now d.sfits, turn.2 0, turn.3 (pos 0)) at c.take_step.ensures in
    rw (length-append c.loop-edge.yielded _, step.row_is)
    (step_stays _ _ _ _ _ c.requires.1 (edges_few _ _ _ _ c.requires.0.basis) (length c.loop-edge.yielded) _ c.loop-edge.invariant turn.0 (sym step.stays ∙ c.if-not-take_step.false))

pub advance-from-requires : goal.advance-from-requires
advance-from-requires c =
    let basis = c.requires.0.basis in
    let few = edges_few _ _ _ _ basis in
    let long : length (take c.args.s.edges c.loop-edge.reached) ≡ c.args.s.edges = length-take-le c.args.s.edges c.loop-edge.reached (omega (arith, c.loop-edge.invariant.long, few)) in
    (list_rows _ _ _ _ basis (take c.args.s.edges c.loop-edge.reached) long, c.states.invariant.0)

pub add_reached-total-requires : goal.add_reached-total-requires
add_reached-total-requires c =
    let basis = c.requires.0.basis in
    let few = edges_few _ _ _ _ basis in
    let long : length (take c.args.s.edges c.loop-edge.reached) ≡ c.args.s.edges = length-take-le c.args.s.edges c.loop-edge.reached (omega (arith, c.loop-edge.invariant.long, few)) in
    rw (c.requires.0.one_each, long) (basis.few, few, list_long _ _ _ _ basis, c.states-test.true)

pub states-preserved : goal.states-preserved
states-preserved c =
    let basis = c.requires.0.basis in
    let inside = c.states-test.true in
    let few = edges_few _ _ _ _ basis in
    let config = take c.args.s.edges c.loop-edge.reached in
    let long : length config ≡ c.args.s.edges = length-take-le c.args.s.edges c.loop-edge.reached (omega (arith, c.loop-edge.invariant.long, few)) in
    let w = path_of c.args.path.edges.now c.args.path.directions.now in
    let end = zip_end c.args.path.edges.now c.args.path.directions.now c.loop-edge.yielded c.into_iter-edge-iterator.result c.loop-edge.edge-iterator c.next.new.self c.next.result (search rules) (search rules) c.loop-edge.yielded_by c.in-None.is c.next.ensures.steps in
    let past : length c.loop-edge.yielded ≡ length c.args.path.edges.now = omega (arith, end, c.requires.1.as_many) in
    let stay : (complex : Complex) → BasisList complex c.args.list.now c.args.s c.args.free.now → stays c.args.s.lambda (get_or (states complex c.args.s.lambda) c.states.i []) w ≡ true =
    λ complex own. rw (row_is complex _ _ _ own c.states.i inside) at (walk_stays _ _ _ _ _ c.requires.1 (length c.loop-edge.yielded) _ c.loop-edge.invariant past) in
    let reached : (complex : Complex) → BasisList complex c.args.list.now c.args.s c.args.free.now → walked (get_or (states complex c.args.s.lambda) c.states.i []) w ≡ config =
    λ complex own. rw (row_is complex _ _ _ own c.states.i inside) at (walk_leads _ _ _ _ _ c.requires.1 (length c.loop-edge.yielded) _ c.loop-edge.invariant past) in
    let found : (complex : Complex) → BasisList complex c.args.list.now c.args.s c.args.free.now → c.advance-from.result ≡ place complex c.args.s.lambda config =
    λ complex own.
    c.advance-from.ensures _ (place_ranked complex _ _ _ own config long)
    (sought complex _ _ _ own _ _ _ c.requires.1 c.states.i _ _ (c.states.invariant.2 complex own) inside (stay complex own) config (reached complex own) long) in (
      omega (arith, found _ basis, place_within _ basis.accepted c.args.s.lambda config, basis.count),
      c.loop-edge.invariant.long,
      λ complex own.
          summed_more complex _ _ _ own _ _ _ c.requires.1 c.states.i _ _ (c.states.invariant.2 complex own) inside (stay complex own) config (reached complex own) long
          c.advance-from.result (found complex own) c.add_reached-total.result (rw c.requires.0.one_each at c.add_reached-total.ensures),
    )

pub returns : goal.returns
returns c complex basis = summed_all complex _ _ _ basis _ _ _ c.requires.1 c.states.i _ _ (c.states.invariant.2 complex basis) (omega arith)
