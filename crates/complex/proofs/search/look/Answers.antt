use Rattle.std.proofs.Common.{arith}
use Rattle.complex.proofs.Trees.{look_inside, look_kept, look_room, look_grown}
use Rattle.complex.proofs.search.look.Goals as goal

pub bounds-tree-place : goal.bounds-tree-place
bounds-tree-place c = look_inside c.requires.0 c.requires.1 c.requires.2 c.opposite.ensures c.from-place.ensures

pub returns-then-tree-place-ne0 : goal.returns-then-tree-place-ne0
returns-then-tree-place-ne0 c = look_kept c.requires.0 c.requires.1 c.requires.2 c.opposite.ensures c.from-place.ensures c.if-tree-place-ne0.true

pub bounds-tree-tree : goal.bounds-tree-tree
bounds-tree-tree c =
    omega (arith, look_room c.requires.0 c.requires.1 c.requires.2 c.opposite.ensures c.from-place.ensures c.if-tree-place-ne0.false)

pub bounds-tree-tree-2 : goal.bounds-tree-tree-2
bounds-tree-tree-2 c = look_room c.requires.0 c.requires.1 c.requires.2 c.opposite.ensures c.from-place.ensures c.if-tree-place-ne0.false

pub bounds-tree-place-2 : goal.bounds-tree-place-2
bounds-tree-place-2 c = look_inside c.requires.0 c.requires.1 c.requires.2 c.opposite.ensures c.from-place.ensures

pub returns : goal.returns
returns c =
    rw (← c.from-place.ensures) (look_grown c.requires.0 c.requires.1 c.requires.2 c.opposite.ensures c.from-place.ensures c.if-tree-place-ne0.false)
