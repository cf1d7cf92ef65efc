-- By which edge a search found each of its vertices, and the path in the tree that follows from it.
use Rattle.std.specs.Prelude.{ℕ, zero, suc, ◌+◌, ◌-◌, ◌<◌, List, [], ◌∷◌, ◌++◌, Bool, true, false, cond, ◌≡◌, eqb, ltb, ℤ, pos, negsuc, get_or}
use Rattle.mathematics.specs.Lists.{listed, position, In}
use Rattle.complex.specs.Complex.{Simplex, start, Joins}
use Rattle.complex.specs.Search.{Search, across}
use Rattle.loops.specs.Walks.{Step}

-- of each vertex its place in the order found, whether it is a root, and if not, the edge that led to it
pub record Parents : Type 0 where
  pub place : ℕ → ℕ
  pub root : ℕ → Bool
  pub edge : ℕ → ℕ

-- the vertex from which v was found
abbrev pub parent : List Simplex → Parents → ℕ → ℕ
parent es p v = across (get_or es (p.edge v) []) v

-- the direction in which an edge is gone over from v
abbrev pub leaving : Simplex → ℕ → ℤ
leaving s v = cond (eqb (start s) v) (pos 1) (negsuc 0)

-- edge e is gone over from v
abbrev pub step_from : List Simplex → ℕ → ℕ → Step
step_from es e v = (e, leaving (get_or es e []) v)

-- the path in the tree from a to b: of two different vertices the one found later climbs to its parent until they meet, within k steps
unfoldable pub climb : List Simplex → Parents → ℕ → ℕ → ℕ → List Step
climb es p zero a b = []
climb es p (suc k) a b =
    cond (eqb a b) []
    (cond (ltb (p.place b) (p.place a))
    (step_from es (p.edge a) a ∷ climb es p k (parent es p a) b)
    (climb es p k a (parent es p b) ++ (step_from es (p.edge b) (parent es p b) ∷ [])))

unfoldable pub tree_path : List Simplex → Parents → ℕ → ℕ → List Step
tree_path es p a b = climb es p (p.place a + p.place b) a b

-- the parents of the search from one root
unfoldable pub parents_of : Search → Parents
parents_of s =
    record {
      place = λ v. position eqb v s.seen;
      root = λ v. eqb (position eqb v s.seen) 0;
      edge = λ v. get_or s.tree (position eqb v s.seen - 1) 0;
    }

-- ---- for theorems
-- What parents are worth, for the vertices found and the tree edges: each vertex found is a root or has a tree edge to its parent, which
-- was found earlier; no two vertices have one place; each tree edge led to a vertex.
pub record ParentsOf (es : List Simplex) (seen tree : List ℕ) (p : Parents) : Type 0 where
  pub apart : (v w : ℕ) → listed eqb v seen ≡ true → listed eqb w seen ≡ true → p.place v ≡ p.place w → v ≡ w
  pub edge : (v : ℕ) → listed eqb v seen ≡ true → p.root v ≡ false → In 0 (p.edge v) tree
  pub parent_seen : (v : ℕ) → listed eqb v seen ≡ true → p.root v ≡ false → listed eqb (parent es p v) seen ≡ true
  pub earlier : (v : ℕ) → listed eqb v seen ≡ true → p.root v ≡ false → p.place (parent es p v) < p.place v
  pub joins : (v : ℕ) → listed eqb v seen ≡ true → p.root v ≡ false → Joins (get_or es (p.edge v) []) (parent es p v) v
  pub led : (e : ℕ) → In 0 e tree → (v : ℕ) × (listed eqb v seen ≡ true) × (p.root v ≡ false) × (p.edge v ≡ e)

-- r is the root that climbing from v to parents leads to
pub data Under (es : List Simplex) (p : Parents) : ℕ → ℕ → Type 0 where
  itself : {v : ℕ} → p.root v ≡ true → Under es p v v
  above : {v r : ℕ} → p.root v ≡ false → Under es p (parent es p v) r → Under es p v r

-- a and b are of one part: they climb to one root
abbrev pub Together : List Simplex → Parents → ℕ → ℕ → Type 0
Together es p a b = (r : ℕ) × Under es p a r × Under es p b r
