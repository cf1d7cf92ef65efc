-- The list of all states, and what it means that a list of states is complete.
use Rattle.std.specs.Prelude.{ℕ, ◌+◌, ◌*◌, ◌<◌, List, [], ◌++◌, map, true, not, ◌≡◌, eqb, ℤ, pos, ◌-ℤ◌, ◌<ℤ◌, get_or, length}
use Rattle.mathematics.specs.Lists.{listed, position, In, Once}
use Rattle.mathematics.specs.Counting.{below, keep, counted}
use Rattle.complex.specs.Complex.{Complex}
use Rattle.complex.specs.Search.{whole_search}
use Rattle.gauss_law.specs.Gauss.{State, lawful}

-- the tree edges as the search finds them, and all other edges by rising number
unfoldable pub tree_edges : Complex → List ℕ
tree_edges c = (whole_search c.edges c.vertices).tree

unfoldable pub free_edges : Complex → List ℕ
free_edges c = keep (λ e. not (listed eqb e (tree_edges c))) (below (length c.edges))

-- the values -L to L
unfoldable pub values : ℕ → List ℤ
values L = map (λ d. pos d -ℤ pos L) (below (2 * L + 1))

-- xs are the values of the edges in the given order; the same values by edge number
unfoldable pub placed : List ℕ → List ℤ → List ℤ
placed order xs = map (λ e. get_or xs (position eqb e order) (pos 0)) (below (length xs))

-- All assignments of -L to L to the edges, counted in base 2L + 1 with the free edges as the more significant digits, the last the most
-- significant; of these the lawful ones.
unfoldable pub listing : Complex → (ℕ → ℤ) → ℕ → List (List ℤ)
listing c q L = keep (lawful c q) (map (placed (tree_edges c ++ free_edges c)) (counted (values L) (length c.edges)))

-- the states, with the charges of the complex
unfoldable pub states : Complex → ℕ → List (List ℤ)
states c L = listing c c.charges L

-- the most candidates that a basis may have
abbrev pub limit : ℕ
limit = 1048576

abbrev pub Free : Complex → ℕ → Type 0
Free c e = listed eqb e (free_edges c) ≡ true

-- s comes before t: it has the smaller value on the highest-numbered free edge where they differ
pub record Before (c : Complex) (s t : List ℤ) : Type 0 where
  pub edge : ℕ
  pub free : Free c edge
  pub less : get_or s edge (pos 0) <ℤ get_or t edge (pos 0)
  pub above : (e : ℕ) → edge < e → Free c e → get_or s e (pos 0) ≡ get_or t e (pos 0)

-- every state is in the list, nothing else is, each once, in order
pub record Complete (c : Complex) (q : ℕ → ℤ) (L : ℕ) (ss : List (List ℤ)) : Type 0 where
  pub every : (s : List ℤ) → State c q L s → In [] s ss
  pub only : (s : List ℤ) → In [] s ss → State c q L s
  pub once : Once [] ss
  pub ordered : (i j : ℕ) → i < j → j < length ss → Before c (get_or ss i []) (get_or ss j [])
