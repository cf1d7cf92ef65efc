-- Tables that are filled one entry a turn, and the tables of a growth.
use Prim.Native.Nat.{ℕ, zero, suc, ◌+◌, ◌^◌, ◌<◌, ◌≤◌}
use mathlib.Core.List.{List, [], ◌∷◌, ◌++◌}
use mathlib.Core.Bool.{Bool, true, false, cond}
use mathlib.Core.Path.{◌≡◌, refl, sym, ap, ap₂, ◌∙◌}
use mathlib.Core.Logic.{◌≢◌}
use native.Mathlib.Omega.{arith}
use native.Mathlib.Decide.{ℕ_discrete, dec_lt}
use lib.ListN.{get_or, length, set, replicate, length-set, length-append, get_or-replicate}
use lib.Seq.{get_or-set_same, get_or-set_other, take-set-le}
use lib.Dec.{eqb}
use lib.Bits.{bit_xor}
use borrow.Author.Tests.{eq-eqb, ne_eqb}
use Rattle.mathematics.proofs.Front.{take_next}
use Rattle.complex.specs.Complex.{Simplex, start, end}
use Rattle.complex.specs.Search.{Ends}
use Rattle.su2_even_sets.specs.declared.Forest.{Forest}
use Rattle.su2_even_sets.specs.Loops.{Growth, separate, loop, loop_closed, join_parts, grow, grown}
use Rattle.su2_even_sets.specs.Forest.{Mapped, Front, Keeps, forest_of, Sized, Joined, Within}
use Rattle.su2_even_sets.proofs.Forests.{joined_cases}

pub mapped_none : (f : ℕ → ℕ) (table : List ℕ) → length table ≡ 64 → Mapped f 0 table
mapped_none f table h = record { long = h; entries = λ v k. absurd (omega arith) }

pub mapped_more : (f : ℕ → ℕ) (v : ℕ) (table : List ℕ) (a : ℕ) → Mapped f v table → v < 64 → a ≡ f v → Mapped f (v + 1) (set table v a)
mapped_more f v table a m h e =
    record {
      long = length-set table v a ∙ m.long;
      entries = λ u k. go u k (ℕ_discrete u v);
    }
  where
    go : (u : ℕ) → u < v + 1 → Dec (u ≡ v) → get_or (set table v a) u 0 ≡ f u
    go u k (yes p) = rw p (get_or-set_same table v a 0 (omega (arith, m.long)) ∙ e)
    go u k (no p) = get_or-set_other table v u a 0 p ∙ m.entries u (omega arith)

-- ---- the tables of a growth
-- each vertex a part of its own
pub separate_kept : (part : List ℕ) → Mapped (λ v. v) 64 part
    → Keeps separate (forest_of part (replicate 64 0) (replicate 63 0) (replicate 63 0) 0)
unfolding separate
separate_kept part h =
    record {
      part = h;
      path = record { long = refl; entries = λ v k. get_or-replicate 64 v 0 0 k };
      closing = record { long = refl; count = refl; few = omega arith; stands = refl };
      loops = record { long = refl; count = refl; few = omega arith; stands = refl };
    }

pub keeps_sized : (g : Growth) (f : Forest) → Keeps g f → Sized f
keeps_sized g f k = record { part = k.part.long; path = k.path.long; closing = k.closing.long; loops = k.loops.long }

-- whose closing edges and loops are those of another
pub kept_by : (g : Growth) (f r : Forest) → Keeps g (forest_of r.part r.path f.closing f.loops f.count) → r.closing ≡ f.closing → r.loops ≡ f.loops → r.count ≡ f.count → Keeps g r
kept_by g f r k closing loops count = record { part = k.part; path = k.path; closing = rw (closing, count) k.closing; loops = rw (loops, count) k.loops }

-- one entry more at the front of a list
pub front_more : (l list : List ℕ) (n a : ℕ) → Front l list n → n < 63 → Front (l ++ (a ∷ [])) (set list n a) (n + 1)
front_more l list n a h k =
    record {
      long = length-set list n a ∙ h.long;
      count = ap (λ (m : ℕ). m + 1) h.count ∙ sym (length-append l (a ∷ []));
      few = omega arith;
      stands =
          take_next (set list n a) n 0 (omega (arith, length-set list n a, h.long))
          ∙ ap₂ (λ (p : List ℕ) (b : ℕ). p ++ (b ∷ [])) (take-set-le n list n a (omega arith) ∙ h.stands) (get_or-set_same list n a 0 (omega (arith, h.long)));
    }

-- ---- one edge more
module _ (g : Growth) (f : Forest) (keeps : Keeps g f) (a b e : ℕ) (ha : a < 64) (hb : b < 64) where
  -- the loop as the code makes it
  cycle_is : bit_xor (bit_xor (get_or f.path a 0) (get_or f.path b 0)) (2 ^ e) ≡ loop g (a ∷ b ∷ []) e
  unfolding loop
  cycle_is = rw (keeps.path.entries a ha, keeps.path.entries b hb)

  pub closed_kept : (cycle : ℕ) → cycle ≡ bit_xor (bit_xor (get_or f.path a 0) (get_or f.path b 0)) (2 ^ e) → get_or f.part b 0 ≡ get_or f.part a 0 → f.count < 63
      → Keeps (grow g (a ∷ b ∷ []) e) (forest_of f.part f.path (set f.closing f.count e) (set f.loops f.count cycle) (f.count + 1))
  unfolding grow loop_closed
  closed_kept cycle is same few =
      let one : eqb (g.part a) (g.part b) ≡ true = eq-eqb _ _ (sym (keeps.part.entries a ha) ∙ sym same ∙ keeps.part.entries b hb) in
      rw (one, is, cycle_is)
      (record {
        part = keeps.part;
        path = keeps.path;
        closing = front_more g.closing f.closing f.count e keeps.closing few;
        loops = front_more g.loops f.loops f.count (loop g (a ∷ b ∷ []) e) keeps.loops few;
      })

  pub joined_kept : (cycle : ℕ) → cycle ≡ bit_xor (bit_xor (get_or f.path a 0) (get_or f.path b 0)) (2 ^ e) → get_or f.part b 0 ≢ get_or f.part a 0
      → (n : ℕ) → b < n → Within n g → (part path : List ℕ) → Joined f.part f.path (get_or f.part b 0) (get_or f.part a 0) cycle n part path
      → Keeps (grow g (a ∷ b ∷ []) e) (forest_of part path f.closing f.loops f.count)
  unfolding grow join_parts
  joined_kept cycle is other n inside within part path h =
      let two : eqb (g.part a) (g.part b) ≡ false = ne_eqb _ _ (λ q. other (keeps.part.entries b hb ∙ sym q ∙ sym (keeps.part.entries a ha))) in
      rw two
      (record {
        part = record { long = h.parts.front.long; entries = λ v k. part_at v k (dec_lt v n) };
        path = record { long = h.paths.front.long; entries = λ v k. path_at v k (dec_lt v n) };
        closing = keeps.closing;
        loops = keeps.loops;
      })
    where
      -- a vertex from n on stays
      stays : (v : ℕ) → n ≤ v → eqb (g.part v) (g.part b) ≡ false
      stays v k = ne_eqb _ _ (λ q. within.apart b v inside k (sym q))

      part_at : (v : ℕ) → v < 64 → Dec (v < n) → get_or part v 0 ≡ cond (eqb (g.part v) (g.part b)) (g.part a) (g.part v)
      part_at v k (yes l) = h.parts.front.entries v l ∙ rw (keeps.part.entries v k, keeps.part.entries a ha, keeps.part.entries b hb)
      part_at v k (no l) = h.parts.rest v (omega arith) ∙ rw (stays v (omega arith)) (keeps.part.entries v k)

      path_at : (v : ℕ) → v < 64 → Dec (v < n) → get_or path v 0 ≡ cond (eqb (g.part v) (g.part b)) (bit_xor (g.path v) (loop g (a ∷ b ∷ []) e)) (g.path v)
      path_at v k (yes l) = h.paths.front.entries v l ∙ rw (keeps.part.entries v k, keeps.path.entries v k, keeps.part.entries b hb, is, cycle_is)
      path_at v k (no l) = h.paths.rest v (omega arith) ∙ rw (stays v (omega arith)) (keeps.path.entries v k)

-- ---- edges among the first n vertices leave the others alone
pub grown_within : (n : ℕ) (es : List Simplex) → Ends n es → (e : ℕ) → e ≤ length es → Within n (grown es e)
unfolding separate loop_closed grow grown
grown_within n es ends zero h = record { apart = λ u v k l q. omega arith }
grown_within n es ends (suc e) h = go (grown_within n es ends e (omega arith)) (eqb (g.part (start s)) (g.part (end s)))
  where
    g : Growth
    g = grown es e

    s : Simplex
    s = get_or es e []

    joined_apart : Within n g → (u v : ℕ) → u < n → n ≤ v → (join_parts g s e).part u ≢ (join_parts g s e).part v
    joined_apart w u v k l =
        joined_cases g s e (λ p x. p ≢ (join_parts g s e).part v) u
        (λ r. joined_cases g s e (λ p x. g.part (start s) ≢ p) v (λ q. absurd (w.apart (end s) v (ends e h).1 l (sym q))) (λ q. w.apart (start s) v (omega (arith, (ends e h).0, (ends e h).1)) l))
        (λ r. joined_cases g s e (λ p x. g.part u ≢ p) v (λ q. absurd (w.apart (end s) v (ends e h).1 l (sym q))) (λ q. w.apart u v k l))

    go : Within n g → (t : Bool) → Within n (cond t (loop_closed g s e) (join_parts g s e))
    go w true = record { apart = w.apart }
    go w false = record { apart = joined_apart w }
