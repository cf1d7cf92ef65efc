-- The tree edges and the free edges of a record: what is told of them, and how the code keeps them.
use Rattle.std.specs.Prelude.{ℕ, ◌<◌, ◌≤◌, List, [], ◌∷◌, ◌++◌, Bool, ◌||◌, cond, ◌≡◌, get_or, length, take, eqb, ltb}
use Rattle.mathematics.specs.Writing.{front}
use Rattle.mathematics.specs.Lists.{listed}
use Rattle.mathematics.specs.Counting.{below, keep}
use Rattle.mathematics.specs.Calls.{Call}
use Rattle.complex.specs.declared.SimplicialComplex.{SimplicialComplex}
use Rattle.complex.specs.declared.search.SpanningTree.{SpanningTree}
use Rattle.complex.specs.Complex.{Complex, complex_of}
use Rattle.complex.specs.Search.{whole_search}
use Rattle.complex.specs.Judge.{complex_tests, refusal}
use Rattle.complex.specs.Tree.{Searched}
use Rattle.numbers.specs.declared.edge_list.EdgeList.{EdgeList}
use Rattle.gauss_law.specs.Listing.{tree_edges, free_edges}

-- 4, 7 to 9, then 15 where the list of tree edges or that of free edges has too few entries
abbrev pub tree_tests : Complex → ℕ → ℕ → List (ℕ × Bool)
tree_tests c tree_room free_room =
    complex_tests c ++ ((15, ltb tree_room (length (tree_edges c)) || ltb free_room (length (free_edges c))) ∷ [])

-- spanning_tree: the number of free edges is told, and the two lists begin with the tree edges and with the free edges.
unfoldable pub tree_call : Complex → List ℕ → List ℕ → Call ℕ (List ℕ × List ℕ)
tree_call c tree free =
    record {
      tests = tree_tests c (length tree) (length free);
      value = length (free_edges c);
      before = (tree, free);
      after = (front (tree_edges c) tree, front (free_edges c) free);
      known = length (free_edges c) ≤ 63;
    }

-- ---- as the code keeps it
-- the record is accepted, and t is its search
pub record Spanned (c : SimplicialComplex) (t : SpanningTree) : Type 0 where
  pub accepted : refusal (complex_of c) ≡ 0
  pub searched : Searched c.n_vertices t (whole_search (complex_of c).edges c.n_vertices)

-- of the first 63 numbers the listed ones are flagged
pub record Flagged (flags l : List ℕ) : Type 0 where
  pub long : length flags ≡ 63
  pub flag : (e : ℕ) → e < 63 → get_or flags e 0 ≡ cond (listed eqb e l) 1 0

-- the numbers below m that are not flagged
pub record Unflagged (flags : List ℕ) (m : ℕ) (f : EdgeList) : Type 0 where
  pub few : f.count ≤ m
  pub stands : take f.count f.list ≡ keep (λ e. eqb (get_or flags e 0) 0) (below m)

-- the free edges of a complex
pub record FreeOf (c : Complex) (f : EdgeList) : Type 0 where
  pub long : length f.list ≡ 63
  pub count : f.count ≡ length (free_edges c)
  pub few : f.count ≤ 63
  pub stands : take f.count f.list ≡ free_edges c
