-- There are E - V + 1 closing edges: every other edge makes one part of two, and at the end one part is left.
use Prim.Native.Nat.{ℕ, zero, suc, ◌+◌, ◌≤◌, ◌<◌}
use mathlib.Core.List.{List, [], ◌∷◌}
use mathlib.Core.Bool.{Bool, true, false, cond}
use mathlib.Core.Path.{◌≡◌, refl, sym, ap, ◌∙◌}
use mathlib.Core.Logic.{◌≢◌, ⊎_elim}
use native.Mathlib.Nat.{lt_trans}
use native.Mathlib.Omega.{arith}
use borrow.Author.Tests.{eqb-false, ne_eqb}
use lib.Dec.{eqb}
use lib.ListN.{get_or, length, length-append}
use Rattle.mathematics.proofs.Totals.{total, total_more, total_one}
use Rattle.complex.specs.Complex.{Simplex, Complex, start, end, EdgePath, here, over}
use Rattle.complex.specs.Search.{Ends}
use Rattle.complex.specs.Judge.{Accepted}
use Rattle.gauss_law.specs.Listing.{free_edges}
use Rattle.gauss_law.proofs.Accepted.{accepted_ends, free_count}
use Rattle.su2_even_sets.specs.Loops.{Growth, separate, loop_closed, join_parts, grow, grown}
use Rattle.su2_even_sets.proofs.Degrees.{hit, hit_self, hit_other}
use Rattle.su2_even_sets.proofs.Forests.{joined_cases, all_grown, all_forest}

-- 1 where v is the vertex that its part is called after
abbrev head : Growth → ℕ → ℕ
head g v = hit v (g.part v)

-- after e edges, for the vertices below m
record Parts (m e : ℕ) (g : Growth) : Type 0 where
  settled : (v : ℕ) → g.part (g.part v) ≡ g.part v
  inside : (v : ℕ) → v < m → g.part v < m
  count : total (head g) m + e ≡ m + length g.closing

-- ---- one edge more
module _ (m e : ℕ) (g : Growth) (s : Simplex) (start_below : start s < m) (end_below : end s < m) (f : Parts m e g) where
  parts_closed : Parts m (suc e) (loop_closed g s e)
  unfolding loop_closed
  parts_closed = record { settled = f.settled; inside = f.inside; count = omega (arith, f.count, length-append g.closing (e ∷ [])) }

  module _ (q : g.part (start s) ≢ g.part (end s)) where
    abbrev p : ℕ
    p = g.part (start s)

    abbrev r : ℕ
    r = g.part (end s)

    abbrev new : Growth
    new = join_parts g s e

    stays : (v : ℕ) → g.part v ≡ v → v ≢ r → new.part v ≡ v
    unfolding join_parts
    stays v h n = rw (h, ne_eqb v r n)

    joined_settled : (v : ℕ) → new.part (new.part v) ≡ new.part v
    joined_settled v = joined_cases g s e (λ k x. new.part k ≡ k) v (λ h. stays p (f.settled (start s)) q) (λ h. stays (g.part v) (f.settled v) h)

    joined_inside : (v : ℕ) → v < m → new.part v < m
    joined_inside v l = joined_cases g s e (λ k x. k < m) v (λ h. f.inside (start s) start_below) (λ h. f.inside v l)

    -- no vertex heads a part any more but those that did, and r does not
    joined_head : head g r ≡ head new r + 1
    joined_head =
        joined_cases g s e (λ k x. head g r ≡ hit r k + 1) r
        (λ h. omega (arith, ap (hit r) (f.settled (end s)), hit_self r, hit_other r p q))
        (λ h. absurd (h (f.settled (end s))))

    joined_same : (v : ℕ) → v ≢ r → head g v ≡ head new v
    joined_same v n =
        joined_cases g s e (λ k x. head g v ≡ hit v k) v
        (λ h. ap (hit v) h ∙ hit_other v r (λ d. n (sym d)) ∙ sym (hit_other v p (λ d. q (sym (f.settled (start s)) ∙ ap g.part d ∙ h))))
        (λ h. refl)

    parts_joined : Parts m (suc e) new
    unfolding join_parts
    parts_joined = record {
      settled = joined_settled;
      inside = joined_inside;
      count = omega (arith, f.count, total_more (head g) (head new) r m (f.inside (end s) end_below) joined_head (λ v l. joined_same v));
    }

-- ---- the first e edges
module _ (m : ℕ) (es : List Simplex) (ends : Ends m es) where
  heads_apart : (n : ℕ) → total (head separate) n ≡ n
  unfolding separate total
  heads_apart zero = refl
  heads_apart (suc n) = omega (arith, heads_apart n, hit_self n)

  grown_parts : (e : ℕ) → e ≤ length es → Parts m e (grown es e)
  unfolding separate grow grown
  grown_parts zero h = record { settled = λ v. refl; inside = λ v l. l; count = omega (arith, heads_apart m) }
  grown_parts (suc e) h = go (grown_parts e (omega arith)) (eqb (g.part (start s)) (g.part (end s))) refl
    where
      g : Growth
      g = grown es e

      s : Simplex
      s = get_or es e []

      go : Parts m e g → (t : Bool) → eqb (g.part (start s)) (g.part (end s)) ≡ t → Parts m (suc e) (cond t (loop_closed g s e) (join_parts g s e))
      go f true q = parts_closed m e g s (lt_trans (ends e h).0 (ends e h).1) (ends e h).1 f
      go f false q = parts_joined m e g s (lt_trans (ends e h).0 (ends e h).1) (ends e h).1 f (eqb-false _ _ q)

-- ---- all edges: what a path leads to is of one part
path_part : (es : List Simplex) (part : ℕ → ℕ) → ((i : ℕ) → i < length es → part (start (get_or es i [])) ≡ part (end (get_or es i []))) → {v w : ℕ} → EdgePath es v w → part v ≡ part w
path_part es part agree here = refl
path_part es part agree (over e h l j) =
    path_part es part agree h
    ∙ ⊎_elim (λ r. sym (ap part r.0) ∙ agree e l ∙ ap part r.1) (λ r. sym (ap part r.1) ∙ sym (agree e l) ∙ ap part r.0) j

module _ (c : Complex) (accepted : Accepted c) where
  abbrev g : Growth
  g = all_grown c.edges

  f : Parts c.vertices (length c.edges) g
  f = grown_parts c.vertices c.edges (accepted_ends c accepted) (length c.edges) (omega arith)

  one_head : total (head g) c.vertices ≡ 1
  one_head =
      total_one (head g) (g.part 0) c.vertices (f.inside 0 accepted.some_vertex)
      (λ v l n. hit_other v (g.part v) (λ d. n (sym d ∙ sym (path_part c.edges g.part (all_forest c.edges).agree (accepted.reached v l)))))
      ∙ ap (hit (g.part 0)) (f.settled 0) ∙ hit_self (g.part 0)

  pub closing_count : length g.closing + c.vertices ≡ length c.edges + 1
  closing_count = omega (arith, f.count, one_head)

  -- as many as the free edges of the spanning tree
  pub closing_free : length g.closing ≡ length (free_edges c)
  closing_free = omega (arith, closing_count, free_count c accepted)
