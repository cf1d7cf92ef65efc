-- The tree of a record and the lists that it goes to.
use Prim.Native.Nat.{ℕ}
use mathlib.Core.List.{List, ◌++◌}
use mathlib.Core.Bool.{Bool, ◌||◌}
use mathlib.Core.Path.{◌≡◌}
use lib.Dec.{ltb}
use lib.ListN.{length, take, drop}
use Rattle.mathematics.specs.Writing.{front}
use Rattle.complex.specs.declared.SimplicialComplex.{SimplicialComplex}
use Rattle.complex.specs.declared.search.SpanningTree.{SpanningTree}
use Rattle.complex.specs.Complex.{complex_of}
use Rattle.numbers.specs.declared.edge_list.EdgeList.{EdgeList}
use Rattle.gauss_law.specs.Listing.{tree_edges, free_edges}
use Rattle.gauss_law.specs.Spanning.{Spanned, FreeOf}
use Rattle.gauss_law.proofs.Spanned.{spanned_tree, spanned_found}

-- one of two lists has too few entries
abbrev pub short : ℕ → ℕ → ℕ → ℕ → Bool
short tree free found count = ltb tree found || ltb free count

module _ (c : SimplicialComplex) (t : SpanningTree) (s : Spanned c t) (f : EdgeList) (h : FreeOf (complex_of c) f) where
  -- the lists are measured by what the search has found
  pub room_told : (tree free : ℕ) → short tree free (length (tree_edges (complex_of c))) (length (free_edges (complex_of c))) ≡ short tree free t.found f.count
  room_told tree free = rw (spanned_found c t s, h.count)

  -- and begin with it
  pub tree_written : (tree : List ℕ) → take t.found t.tree_edges ++ drop (length (take t.found t.tree_edges)) tree ≡ front (tree_edges (complex_of c)) tree
  tree_written tree = rw (spanned_tree c t s)

  pub free_written : (l free : List ℕ) → l ≡ take f.count f.list → l ++ drop (length l) free ≡ front (free_edges (complex_of c)) free
  free_written l free is = rw (is, h.stands)
