-- Parents as the code keeps them, and steps that are written to lists.
use Rattle.std.specs.Prelude.{ℕ, ◌+◌, ◌<◌, ◌≤◌, List, map, false, ◌≡◌, ◌≢◌, ℤ, get_or, length}
use Rattle.mathematics.specs.Writing.{put, front}
use Rattle.complex.specs.declared.SimplicialComplex.{SimplicialComplex}
use Rattle.complex.specs.declared.search.SpanningTree.{SpanningTree}
use Rattle.complex.specs.Complex.{Complex, complex_of}
use Rattle.complex.specs.Judge.{refusal}
use Rattle.loops.specs.declared.climbing.TreeParents.{TreeParents}
use Rattle.loops.specs.Walks.{Step, edge_of, direction_of}
use Rattle.loops.specs.Loops.{parents, loop_starts, all_steps}

-- the vertices found are different and below 64
pub record Orderly (t : SpanningTree) : Type 0 where
  pub queue_long : length t.queue ≡ 64
  pub tree_long : length t.tree_edges ≡ 63
  pub room : t.found ≤ 63
  pub below : (i : ℕ) → i ≤ t.found → get_or t.queue i 0 < 64
  pub once : (i j : ℕ) → i < j → j ≤ t.found → get_or t.queue i 0 ≢ get_or t.queue j 0

-- the first vertex found, and the first n that a tree edge led to, are noted with their places and edges
pub record Noted (t : SpanningTree) (n : ℕ) (place led : List ℕ) : Type 0 where
  pub place_long : length place ≡ 64
  pub led_long : length led ≡ 64
  pub places : (i : ℕ) → i ≤ n → get_or place (get_or t.queue i 0) 0 ≡ i
  pub edges : (i : ℕ) → i < n → get_or led (get_or t.queue (i + 1) 0) 0 ≡ get_or t.tree_edges i 0

-- the record is accepted, and its parents are noted by vertex
pub record Parented (c : SimplicialComplex) (r : TreeParents) : Type 0 where
  pub accepted : refusal (complex_of c) ≡ 0
  pub place_long : length r.place ≡ 64
  pub led_long : length r.led ≡ 64
  pub places : (v : ℕ) → v < c.n_vertices → get_or r.place v 0 ≡ (parents (complex_of c)).place v
  pub edges : (v : ℕ) → v < c.n_vertices → (parents (complex_of c)).root v ≡ false → get_or r.led v 0 ≡ (parents (complex_of c)).edge v

-- two lists have room for steps from a place on
pub record StepsFit (l : List Step) (at : ℕ) (edges : List ℕ) (directions : List ℤ) : Type 0 where
  pub edge_room : at + length l ≤ length edges
  pub direction_room : at + length l ≤ length directions

-- the edges and the directions of steps are written to two lists from a place on
pub record StepsPut (l : List Step) (at : ℕ) (edges : List ℕ) (directions : List ℤ) (edges' : List ℕ) (directions' : List ℤ) : Type 0 where
  pub edge_list : edges' ≡ put edges at (map edge_of l)
  pub direction_list : directions' ≡ put directions at (map direction_of l)

-- a loop is written from a place on, and the place behind it is told
pub record LoopPut (l : List Step) (at : ℕ) (edges : List ℕ) (directions : List ℤ) (next : ℕ) (edges' : List ℕ) (directions' : List ℤ) : Type 0 where
  pub next_place : next ≡ at + length l
  pub steps : StepsPut l at edges directions edges' directions'

-- all loops are written to the front of three lists
pub record LoopsPut (c : Complex) (starts edges : List ℕ) (directions : List ℤ) (starts' edges' : List ℕ) (directions' : List ℤ) : Type 0 where
  pub start_list : starts' ≡ front (loop_starts c) starts
  pub edge_list : edges' ≡ front (map edge_of (all_steps c)) edges
  pub direction_list : directions' ≡ front (map direction_of (all_steps c)) directions
