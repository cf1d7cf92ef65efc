use Rattle.std.proofs.Common.{◌≡◌, length}
use Rattle.std.proofs.lemmas.Bool.Decides.{Decides-int_eq}
use Rattle.std.proofs.lemmas.Slice.Eq.{slice_eq-Decides}
use borrow.Author.Tests.{lt-ltb}
use Rattle.hilbert.specs.Search.{row}
use Rattle.hilbert.proofs.Searching.{row_room}
use Rattle.wilson.specs.Walking.{same_values}
use Rattle.wilson.proofs.Reached.{row_compared}
use Rattle.wilson.proofs.add_reached.Goals as goal

pub row_at-requires : goal.row_at-requires
row_at-requires c = (row_room _ (length c.args.configuration.now) c.args.j _ c.requires.0 c.requires.1 c.if-amplitudes-j.false c.requires.2).0

pub returns-then-eq : goal.returns-then-eq
returns-then-eq c =
    let told : same_values (row (length c.args.configuration.now) c.args.list.now c.args.j) c.args.configuration.now ≡ c.eq.result =
    row_compared _ _ _ (row_room _ (length c.args.configuration.now) c.args.j _ c.requires.0 c.requires.1 c.if-amplitudes-j.false c.requires.2).0 _ (slice_eq-Decides Decides-int_eq _ _ _ (rw c.row_at.ensures at c.eq.ensures)) in
    rw (lt-ltb _ _ c.if-amplitudes-j.false, told, c.if-eq.true)

pub returns : goal.returns
returns c =
    let told : same_values (row (length c.args.configuration.now) c.args.list.now c.args.j) c.args.configuration.now ≡ c.eq.result =
    row_compared _ _ _ (row_room _ (length c.args.configuration.now) c.args.j _ c.requires.0 c.requires.1 c.if-amplitudes-j.false c.requires.2).0 _ (slice_eq-Decides Decides-int_eq _ _ _ (rw c.row_at.ensures at c.eq.ensures)) in
    rw (lt-ltb _ _ c.if-amplitudes-j.false, told, c.if-eq.false)
