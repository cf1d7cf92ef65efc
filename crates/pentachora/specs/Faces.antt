-- The faces of pentachora as the code keeps and writes them.
use Rattle.std.specs.Prelude.{ℕ, ◌*◌, ◌/◌, ◌%◌, ◌≤◌, ◌≡◌, get_or, length, take, ⊤, Result, IfOk}
use mathlib.Core.List.{List, [], ◌∷◌, ◌++◌, map, flat_map}
use Rattle.answers.specs.Refusal.{judged}
use Rattle.answers.specs.declared.refusal.Refusal.{Refusal}
use Rattle.mathematics.specs.Lists.{choose}
use Rattle.complex.specs.Complex.{Simplex}
use Rattle.complex.specs.Numbering.{Keyed}
use Rattle.pentachora.specs.Pentachora.{sorted, faces, pentachora_refusal}
use Rattle.pentachora.specs.declared.Faces.{Faces}

-- the faces of k vertices of some pentachora, each pentachoron's in dictionary order
unfoldable pub all_faces : ℕ → List Simplex → List Simplex
all_faces k ps = flat_map (λ p. choose k (sorted p)) ps

-- some triangles are keyed by a table of the edges
abbrev pub AllKeyed : List ℕ → List Simplex → Type 0
AllKeyed table [] = ⊤
AllKeyed table (s ∷ l) = Keyed table s × AllKeyed table l

-- the edge of a key; the first remainder changes no key below 4096
unfoldable pub edge_of : ℕ → Simplex
edge_of k = (k / 64 % 64) ∷ (k % 64) ∷ []

-- the triangle of a key, where the keys of the edges stand in a list
unfoldable pub triangle_of : List ℕ → ℕ → Simplex
triangle_of edges k = edge_of (get_or edges (k / 64 % 64) 0) ++ ((k % 64) ∷ [])

-- the faces of pentachora stand under their keys, and the lent lists have room for them
pub record Found (l : List ℕ) (edge_room triangle_room : ℕ) (f : Faces) : Type 0 where
  pub edge_count : f.n_edges ≡ length (faces 2 l)
  pub triangle_count : f.n_triangles ≡ length (faces 3 l)
  pub few_edges : f.n_edges ≤ 63
  pub few_triangles : f.n_triangles ≤ 256
  pub edge_keys_long : length f.edge_keys ≡ 256
  pub triangle_keys_long : length f.triangle_keys ≡ 256
  pub edges : map edge_of (take f.n_edges f.edge_keys) ≡ faces 2 l
  pub triangles : map (triangle_of f.edge_keys) (take f.n_triangles f.triangle_keys) ≡ faces 3 l
  pub edges_fit : 2 * f.n_edges ≤ edge_room
  pub triangles_fit : 3 * f.n_triangles ≤ triangle_room

-- the number of the refusal, and where there is none the faces
pub record JudgedFaces (n : ℕ) (l : List ℕ) (edge_room triangle_room : ℕ) (r : Result Faces Refusal) : Type 0 where
  pub refusal : judged r ≡ pentachora_refusal n l edge_room triangle_room
  pub found : IfOk r (Found l edge_room triangle_room)
