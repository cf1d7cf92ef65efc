-- The edges of a tree taken from the last to the first are a solving order.
use Prim.Native.Nat.{ℕ, zero, suc, ◌≤◌, ◌<◌}
use mathlib.Core.List.{List, [], ◌∷◌}
use mathlib.Core.Path.{◌≡◌, sym, ◌∙◌, ap}
use mathlib.Core.Logic.{◌≢◌, inl, inr, ◌↔◌}
use native.Mathlib.Omega.{arith}
use native.Mathlib.Decide.{ℕ_discrete}
use lib.ListN.{length, get_or}
use Rattle.mathematics.specs.Entries.{Each, none, also}
use Rattle.mathematics.proofs.Ordered.{Member, front, behind, Ordered, at_each, member_place, place_member, at_ordered}
use Rattle.complex.specs.Complex.{Simplex, Joins}
use Rattle.complex.specs.Search.{Search, SpansReached}
use Rattle.gauss_law.proofs.Gauss.{Meets, ends, starts, Misses}
use Rattle.gauss_law.proofs.Solving.{Step, Untouched, Off, Solved, SolvingOrder, done, next}

-- Edges that one solving order solves, each once; the order's vertices are below n.
pub record Solvable (es : List Simplex) (n : ℕ) (tree : List ℕ) : Type 0 where
  pub order : List Step
  pub solving : SolvingOrder es order
  pub below : Each (λ p. p.0 < n) order
  pub off : (e : ℕ) → Off e order ↔ (Member e tree → ⊥)
  pub once : Ordered (λ d e. d ≢ e) tree
  pub numbered : Each (λ e. e < length es) tree

-- the vertices found, without the root, each with the edge that led to it; the last of k first
unfoldable pub backwards : Search → ℕ → List Step
backwards s zero = []
backwards s (suc k) = (get_or s.seen (suc k) 0, get_or s.tree k 0) ∷ backwards s k

module _ (es : List Simplex) (n : ℕ) (s : Search) (spans : SpansReached es n s) where
  -- the vertices found at different places are different
  different : (i j : ℕ) → i < j → j ≤ length s.tree → get_or s.seen i 0 ≢ get_or s.seen j 0
  different i j h k = spans.apart i j h (omega (arith, spans.sizes))

  -- the edge found at place i does not touch a vertex found later
  misses : (i k : ℕ) → i < k → k < length s.tree → Misses (get_or es (get_or s.tree i 0) []) (get_or s.seen (suc k) 0)
  misses i k h l = go (spans.joined i (omega arith))
    where
      go : (h : ℕ) × (h ≤ i) × Joins (get_or es (get_or s.tree i 0) []) (get_or s.seen h 0) (get_or s.seen (suc i) 0)
          → Misses (get_or es (get_or s.tree i 0) []) (get_or s.seen (suc k) 0)
      go (g, m, inl j) = (rw j.0 (different g (suc k) (omega arith) l), rw j.1 (different (suc i) (suc k) (omega arith) l))
      go (g, m, inr j) = (rw j.0 (different (suc i) (suc k) (omega arith) l), rw j.1 (different g (suc k) (omega arith) l))

  meets : (k : ℕ) → k < length s.tree → Meets (get_or es (get_or s.tree k 0) []) (get_or s.seen (suc k) 0)
  meets k l = go (spans.joined k l)
    where
      go : (h : ℕ) × (h ≤ k) × Joins (get_or es (get_or s.tree k 0) []) (get_or s.seen h 0) (get_or s.seen (suc k) 0)
          → Meets (get_or es (get_or s.tree k 0) []) (get_or s.seen (suc k) 0)
      go (g, m, inl j) = ends j.1 (rw j.0 (different g (suc k) (omega arith) l))
      go (g, m, inr j) = starts j.0 (rw j.1 (different g (suc k) (omega arith) l))

  untouched : (j k : ℕ) → j ≤ k → k < length s.tree → Untouched es (get_or s.seen (suc k) 0) (backwards s j)
  unfolding backwards
  untouched zero k h l = none
  untouched (suc j) k h l = also (misses j k h l) (untouched j k (omega arith) l)

  solving_order : (k : ℕ) → k ≤ length s.tree → SolvingOrder es (backwards s k)
  unfolding backwards
  solving_order zero h = done
  solving_order (suc k) h = next (spans.numbered k h) (meets k h) (untouched k k (omega arith) h) (solving_order k (omega arith))

  vertices_below : (k : ℕ) → k ≤ length s.tree → Each (λ p. p.0 < n) (backwards s k)
  unfolding backwards
  vertices_below zero h = none
  vertices_below (suc k) h = also (spans.below (suc k) (omega (arith, spans.sizes))) (vertices_below k (omega arith))

  off_tree : (e k : ℕ) → k ≤ length s.tree → (Member e s.tree → ⊥) → Off e (backwards s k)
  unfolding backwards
  off_tree e zero h f = none
  off_tree e (suc k) h f = also (λ q. f (rw q (place_member 0 s.tree k h))) (off_tree e k (omega arith) f)

  tree_off : (i k : ℕ) → i < k → Off (get_or s.tree i 0) (backwards s k) → ⊥
  unfolding backwards
  tree_off i zero h o = absurd (omega arith)
  tree_off i (suc k) h (also n o) = go (ℕ_discrete i k) (λ l. tree_off i k l o)
    where
      go : Dec (i ≡ k) → (i < k → ⊥) → ⊥
      go (yes e) ih = n (ap (λ j. get_or s.tree j 0) e)
      go (no e) ih = ih (omega arith)

  off_not_tree : (e : ℕ) → Off e (backwards s (length s.tree)) → Member e s.tree → ⊥
  off_not_tree e o m =
      let r = member_place 0 m in
      tree_off r.0 (length s.tree) r.1 (rw r.2 o)

  tree_once : (i j : ℕ) → i < j → j < length s.tree → get_or s.tree i 0 ≢ get_or s.tree j 0
  tree_once i j h l e = go (meets j l) (rw e at (misses i j h l))
    where
      go : {d : Simplex} {v : ℕ} → Meets d v → Misses d v → ⊥
      go (ends a b) m = m.1 a
      go (starts a b) m = m.0 a

  pub spans_solvable : Solvable es n s.tree
  spans_solvable =
      record {
        order = backwards s (length s.tree);
        solving = solving_order (length s.tree) (omega arith);
        below = vertices_below (length s.tree) (omega arith);
        off = λ e. (off_not_tree e, off_tree e (length s.tree) (omega arith));
        once = at_ordered 0 s.tree tree_once;
        numbered = at_each 0 s.tree spans.numbered;
      }

  backwards_member : (i k : ℕ) → i < k → Member (get_or s.seen (suc i) 0, get_or s.tree i 0) (backwards s k)
  unfolding backwards
  backwards_member i zero h = absurd (omega arith)
  backwards_member i (suc k) h = go (ℕ_discrete i k) (λ l. backwards_member i k l)
    where
      go : Dec (i ≡ k) → (i < k → Member (get_or s.seen (suc i) 0, get_or s.tree i 0) (backwards s k))
          → Member (get_or s.seen (suc i) 0, get_or s.tree i 0) ((get_or s.seen (suc k) 0, get_or s.tree k 0) ∷ backwards s k)
      go (yes e) ih = front (ap {B = Step} (λ j. (get_or s.seen (suc j) 0, get_or s.tree j 0)) e)
      go (no e) ih = behind (ih (omega arith))

  -- every vertex that was found, but the root, is solved
  pub spans_solved : (v : ℕ) → Member v s.seen → v ≢ 0 → Solved v spans_solvable.order
  unfolding spans_solvable
  spans_solved v m n = go (member_place 0 m)
    where
      go : (i : ℕ) × (i < length s.seen) × (get_or s.seen i 0 ≡ v) → Solved v (backwards s (length s.tree))
      go (zero, h, e) = absurd (n (sym e ∙ spans.root))
      go (suc i, h, e) = (get_or s.tree i 0, rw e at (backwards_member i (length s.tree) (omega (arith, spans.sizes))))
