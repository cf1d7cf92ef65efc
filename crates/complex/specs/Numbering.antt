-- Keys below 4096, numbered in order of first appearance up to a limit: what the two lists of a numbering hold.
use Rattle.std.specs.Prelude.{ℕ, suc, ◌+◌, ◌-◌, ◌*◌, ◌<◌, ◌≤◌, min, List, [], ◌∷◌, Bool, cond, ◌≡◌, get_or, length, take, eqb}
use Rattle.mathematics.specs.Lists.{same, listed, position}
use Rattle.complex.specs.declared.SimplicialComplex.{SimplicialComplex}
use Rattle.complex.specs.Complex.{Simplex, start, end, complex_of}
use Rattle.complex.specs.Judge.{refusal}

-- the number of x in a list, counted from 1; 0 where it is not listed
unfoldable pub number : {A : Type 0} → (A → A → Bool) → A → List A → ℕ
number eq x l = cond (listed eq x l) (suc (position eq x l)) 0

-- The keys in l were noted: count is their number, or limit + 1 where there are more; up to the limit the table has the number of
-- each key, and the keys stand in the second list as they were noted.
pub record Numbered (limit : ℕ) (table keys : List ℕ) (count : ℕ) (l : List ℕ) : Type 0 where
  pub table_long : length table ≡ 4096
  pub keys_long : length keys ≡ 256
  pub counted : count ≡ min (limit + 1) (length l)
  pub numbers : length l ≤ limit → (k : ℕ) → k < 4096 → get_or table k 0 ≡ number eqb k l
  pub kept : length l ≤ limit → take (length l) keys ≡ l

-- an edge as a key
unfoldable pub key : Simplex → ℕ
key s = 64 * start s + end s

-- The table has at 64 a + b the number of edge (a, b): the Rust's edge_index.
pub record EdgeTable (table : List ℕ) (es : List Simplex) : Type 0 where
  pub long : length table ≡ 4096
  pub numbers : (a b : ℕ) → a < 64 → b < 64 → get_or table (64 * a + b) 0 ≡ number same (a ∷ b ∷ []) es

-- a triangle as a key: the number of its first edge, and its third vertex
unfoldable pub triangle_key : List ℕ → Simplex → ℕ
triangle_key table s = 64 * (get_or table (key s) 0 - 1) + get_or s 2 0

-- the vertices are below 64 and the first edge has a number
pub record Keyed (table : List ℕ) (s : Simplex) : Type 0 where
  pub first : start s < 64
  pub second : end s < 64
  pub third : get_or s 2 0 < 64
  pub known : 1 ≤ get_or table (key s) 0
  pub few : get_or table (key s) 0 ≤ 64

-- what the judge says of a record, and what its table then holds
pub record Judged (c : SimplicialComplex) (table : List ℕ) (r : ℕ) : Type 0 where
  pub number : r ≡ refusal (complex_of c)
  pub index : r ≡ 0 → EdgeTable table (complex_of c).edges
