-- Each choice of values on the free edges extends to just one lawful assignment, where the charges of each part add to zero.
use Prim.Native.Nat.{ℕ, ◌<◌}
use mathlib.Core.List.{List, map}
use mathlib.Core.Path.{◌≡◌, sym, ◌∙◌}
use mathlib.Core.Logic.{◌≢◌, ◌⊎◌, inl, inr}
use lib.IntN.{ℤ, pos, ◌*ℤ◌}
use lib.ListN.{get_or, length, length-map}
use Rattle.mathematics.specs.Integers.{sum_below}
use Rattle.mathematics.specs.Counting.{below}
use Rattle.mathematics.specs.Entries.{Each}
use Rattle.mathematics.proofs.Ordered.{Member, each_member}
use Rattle.mathematics.proofs.Below.{length_below, map_below_at, listed_member}
use Rattle.complex.specs.Complex.{Simplex, Complex}
use Rattle.gauss_law.specs.Gauss.{gauss, Lawful}
use Rattle.gauss_law.specs.Listing.{tree_edges, free_edges, Free}
use Rattle.gauss_law.proofs.Solving.{Step, Solved, SolvingOrder, solve, solve_length, solve_off, solve_law}
use Rattle.gauss_law.proofs.Tree.{Solvable}
use Rattle.gauss_law.proofs.Free.{free_below, free_not_tree, determined}
use Rattle.gauss_law.proofs.Roots.{Level, law_at_root}

-- r is the root of a part whose charges add to zero. The part's weight is 1 at the root and equal at both ends of each edge; where it is
-- not zero all other vertices are solved.
pub record Root (q : ℕ → ℤ) (n : ℕ) (es : List Simplex) (order : List Step) (r : ℕ) : Type 0 where
  pub weight : ℕ → ℤ
  pub level : Each (Level weight n) es
  pub root : weight r ≡ pos 1
  pub charges : sum_below (λ v. weight v *ℤ q v) n ≡ pos 0
  pub others : (v : ℕ) → v < n → v ≢ r → (weight v ≡ pos 0) ⊎ Solved v order

-- every vertex is solved or the root of a part
abbrev pub Rooted : Complex → (ℕ → ℤ) → List Step → Type 0
Rooted c q order = (v : ℕ) → v < c.vertices → Solved v order ⊎ Root q c.vertices c.edges order v

pub solve_lawful : (c : Complex) (q : ℕ → ℤ) {order : List Step} → SolvingOrder c.edges order → Rooted c q order
    → (s : List ℤ) → length s ≡ length c.edges → Lawful c q (solve q c.edges order s)
solve_lawful c q {order} solving rooted s l v h = at (rooted v h)
  where
    at_solved : (u : ℕ) → Solved u order → gauss c.edges (solve q c.edges order s) u ≡ q u
    at_solved u m = each_member (solve_law q c.edges solving s l) m.1

    at : Solved v order ⊎ Root q c.vertices c.edges order v → gauss c.edges (solve q c.edges order s) v ≡ q v
    at (inl m) = at_solved v m
    at (inr r) =
        law_at_root q r.weight c.vertices (solve q c.edges order s) v r.level h r.root r.charges
        (λ u k m. other u (r.others u k m))
      where
        other : (u : ℕ) → (r.weight u ≡ pos 0) ⊎ Solved u order → (r.weight u ≡ pos 0) ⊎ (gauss c.edges (solve q c.edges order s) u ≡ q u)
        other u (inl k) = inl k
        other u (inr m) = inr (at_solved u m)

-- s is lawful, and has the value x e on each free edge e
pub record Extends (c : Complex) (q x : ℕ → ℤ) (s : List ℤ) : Type 0 where
  pub sized : length s ≡ length c.edges
  pub free : (e : ℕ) → Free c e → get_or s e (pos 0) ≡ x e
  pub law : Lawful c q s

module _ (c : Complex) (q x : ℕ → ℤ) (tree : Solvable c.edges c.vertices (tree_edges c)) where
  pub extends_once : (s t : List ℤ) → Extends c q x s → Extends c q x t → s ≡ t
  extends_once s t a b =
      determined c tree s t a.sized b.sized (λ e f. a.free e f ∙ sym (b.free e f)) (λ v h. a.law v h ∙ sym (b.law v h))

  -- all edges take their values from x, then the tree edges are solved
  pub extension : Rooted c q tree.order → Extends c q x (solve q c.edges tree.order (map x (below (length c.edges))))
  extension rooted =
      record {
        sized = solve_length q c.edges tree.order start ∙ long;
        free = λ e f. chosen e (listed_member e (free_edges c) f);
        law = solve_lawful c q tree.solving rooted start long;
      }
    where
      start : List ℤ
      start = map x (below (length c.edges))

      long : length start ≡ length c.edges
      long = length-map (below (length c.edges)) x ∙ length_below (length c.edges)

      chosen : (e : ℕ) → Member e (free_edges c) → get_or (solve q c.edges tree.order start) e (pos 0) ≡ x e
      chosen e m =
          solve_off q c.edges e start ((tree.off e).1 (each_member (free_not_tree c) m))
          ∙ map_below_at x (length c.edges) e (pos 0) (each_member (free_below c) m)
