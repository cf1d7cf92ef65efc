use native.Mathlib.Nat.{lt_of_lt_of_le}
use Rattle.complex.proofs.Trees.{serve_none, serve_all, queue_below, serve_scanned}
use Rattle.complex.proofs.search.serve.Goals as goal

pub returns-then-tree-h : goal.returns-then-tree-h
returns-then-tree-h c = serve_none _ _ _ _ c.requires.2 _ c.if-tree-h.true

pub returns-then-tree-c : goal.returns-then-tree-c
returns-then-tree-c c = serve_all _ _ _ _ c.requires.2 _ c.requires.0 c.if-tree-c.true

pub scan-requires : goal.scan-requires
scan-requires c =
    let r = c.requires in
    (r.0, r.1, lt_of_lt_of_le (queue_below _ _ r.2 _ c.if-tree-h.false) r.0.vertices_fit, r.2)

pub returns : goal.returns
returns c = serve_scanned _ _ _ _ c.requires.2 _ _ c.if-tree-h.false c.scan.ensures
