use Rattle.hilbert.proofs.Found.{rows, found_in, room}
use Rattle.hilbert.proofs.Prepared.{walks_by}
use Rattle.hilbert.proofs.index.list_and_seek.Goals as goal

pub write-n-requires : goal.write-n-requires
write-n-requires c = room _ _ _ _ c.args.states.now c.requires

pub find_place-requires : goal.find_place-requires
find_place-requires c = rows _ _ _ _ _ c.requires _ _ c.write-n.auto.states c.write-n.ensures

pub returns : goal.returns
returns c k L basis = rw basis.truncated at (found_in _ _ _ _ _ _ _ _ c.write-n.ensures c.find_place.ensures k (walks_by basis))
