use Rattle.std.proofs.Common.{◌≡◌, sym, arith, rules, take, length}
use lib.Seq.{length-take-le}
use Rattle.gauss_law.proofs.Spanned.{spanned_numbered, spanned_edges, spanned_free}
use Rattle.gauss_law.proofs.spanning.free_edges.Goals as goal

pub tree_flags-flags-requires : goal.tree_flags-flags-requires
tree_flags-flags-requires c = spanned_numbered _ _ c.requires

pub slice_bounds-flags-end : goal.slice_bounds-flags-end
slice_bounds-flags-end c = omega (arith, spanned_edges _ _ c.requires)

pub slice_bounds-unflagged-end : goal.slice_bounds-unflagged-end
slice_bounds-unflagged-end c =
    let few = spanned_edges _ _ c.requires in
    let long = c.tree_flags-flags.ensures.long in
    sym (length-take-le c.args.c.n_edges c.tree_flags-flags.result (omega arith))

pub returns : goal.returns
returns c =
    let few = spanned_edges _ _ c.requires in
    let long = c.tree_flags-flags.ensures.long in
    let some : length (take c.args.c.n_edges c.tree_flags-flags.result) ≡ c.args.c.n_edges = length-take-le c.args.c.n_edges c.tree_flags-flags.result (omega arith) in
    spanned_free _ _ c.requires _ _ c.tree_flags-flags.ensures (rw some at c.unflagged.ensures) (search rules)
