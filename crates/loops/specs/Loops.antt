-- The fundamental loops of a complex, what they are, and what the two calls tell of them.
use Rattle.std.specs.Prelude.{ℕ, ◌+◌, ◌<◌, ◌≤◌, Bool, ◌||◌, ◌≡◌, ◌≢◌, ltb, ℤ, pos, negsuc, neg_ℤ, get_or, length, take}
use mathlib.Core.List.{List, [], ◌∷◌, ◌++◌, map, flatten}
use Rattle.mathematics.specs.Calls.{Call}
use Rattle.mathematics.specs.Counting.{below}
use Rattle.mathematics.specs.Entries.{Each}
use Rattle.mathematics.specs.Writing.{front}
use Rattle.complex.specs.Complex.{Complex, start, end}
use Rattle.complex.specs.Judge.{complex_tests}
use Rattle.complex.specs.Search.{whole_search}
use Rattle.gauss_law.specs.Listing.{tree_edges, free_edges}
use Rattle.loops.specs.Parents.{Parents, parents_of, tree_path}
use Rattle.loops.specs.Walks.{Step, edge_of, direction_of, Walk, EdgesOnce, IsPath}

-- how the search of a complex found its vertices
unfoldable pub parents : Complex → Parents
parents c = parents_of (whole_search c.edges c.vertices)

-- the path in the tree from a to b
unfoldable pub path : Complex → ℕ → ℕ → List Step
path c a b = tree_path c.edges (parents c) a b

-- the ends of an edge by its number
abbrev pub first_end : Complex → ℕ → ℕ
first_end c e = start (get_or c.edges e [])

abbrev pub second_end : Complex → ℕ → ℕ
second_end c e = end (get_or c.edges e [])

-- the loop of a free edge: the path in the tree from its first end to its second, then the edge back
unfoldable pub loop_of : Complex → ℕ → List Step
loop_of c f = path c (first_end c f) (second_end c f) ++ ((f, negsuc 0) ∷ [])

-- the loops of all free edges, by rising number
unfoldable pub fundamental_loops : Complex → List (List Step)
fundamental_loops c = map (loop_of c) (free_edges c)

-- What the loop of the free edge f is: the path over tree edges from its first end to its second, then f back. So it is a closed walk over
-- listed edges, and uses no edge twice.
pub record FundamentalLoop (c : Complex) (f : ℕ) (l : List Step) : Type 0 where
  pub path : List Step
  pub is_path : IsPath c.edges (tree_edges c) (first_end c f) (second_end c f) path
  pub is : l ≡ path ++ ((f, negsuc 0) ∷ [])
  pub closed : Walk c.edges (below (length c.edges)) (first_end c f) l (first_end c f)
  pub once : EdgesOnce l

-- what is known of the loops that are told: each is the fundamental loop of its free edge
pub record LoopsKnown (c : Complex) : Type 0 where
  pub few : length (free_edges c) ≤ 63
  pub each : (j : ℕ) → j < length (free_edges c) → FundamentalLoop c (get_or (free_edges c) j 0) (get_or (fundamental_loops c) j [])

-- How a loop and a list of values stand to each other where the loop goes over the values backwards: on each edge of the loop there is the value
-- against its direction, on all others 0. (The values are those of the fundamental cycle of the free edge.)
pub record Backwards (l : List Step) (z : List ℤ) : Type 0 where
  pub steps : Each (λ t. get_or z (edge_of t) (pos 0) ≡ neg_ℤ (direction_of t)) l
  pub others : (e : ℕ) → Each (λ t. e ≢ edge_of t) l → get_or z e (pos 0) ≡ pos 0

-- ---- in lists
-- the steps of the first n loops, one loop after the other
unfoldable pub loop_steps : Complex → ℕ → List Step
loop_steps c n = flatten (take n (fundamental_loops c))

abbrev pub all_steps : Complex → List Step
all_steps c = loop_steps c (length (free_edges c))

-- where among all steps each loop begins, and last the number of all steps
unfoldable pub loop_starts : Complex → List ℕ
loop_starts c = map (λ n. length (loop_steps c n)) (below (length (free_edges c) + 1))

-- the list of starts or that of edges has too few entries
abbrev pub short_loops : Complex → ℕ → ℕ → Bool
short_loops c starts_room edges_room = ltb starts_room (length (free_edges c) + 1) || ltb edges_room (length (all_steps c))

-- 4, 7 to 9, then 15 where one of the three lists has too few entries
abbrev pub loops_tests : Complex → ℕ → ℕ → ℕ → List (ℕ × Bool)
loops_tests c starts_room edges_room directions_room =
    complex_tests c ++ ((15, short_loops c starts_room edges_room || ltb directions_room (length (all_steps c))) ∷ [])

-- fundamental_loops: the number of loops is told, and the three lists begin with the starts of the loops, their edges and their directions.
unfoldable pub loops_call : Complex → List ℕ → List ℕ → List ℤ → Call ℕ (List ℕ × List ℕ × List ℤ)
loops_call c starts edges directions =
    record {
      tests = loops_tests c (length starts) (length edges) (length directions);
      value = length (free_edges c);
      before = (starts, edges, directions);
      after = (front (loop_starts c) starts, front (map edge_of (all_steps c)) edges, front (map direction_of (all_steps c)) directions);
      known = LoopsKnown c;
    }

-- the same without directions
abbrev pub su2_loops_tests : Complex → ℕ → ℕ → List (ℕ × Bool)
su2_loops_tests c starts_room edges_room = complex_tests c ++ ((15, short_loops c starts_room edges_room) ∷ [])

-- su2_fundamental_loops: the number of loops is told, and the two lists begin with the starts of the loops and their edges.
unfoldable pub su2_loops_call : Complex → List ℕ → List ℕ → Call ℕ (List ℕ × List ℕ)
su2_loops_call c starts edges =
    record {
      tests = su2_loops_tests c (length starts) (length edges);
      value = length (free_edges c);
      before = (starts, edges);
      after = (front (loop_starts c) starts, front (map edge_of (all_steps c)) edges);
      known = LoopsKnown c;
    }
