-- The list of the edges of all triangles, written three entries at a time.
use Prim.Native.Nat.{ℕ, ◌+◌, ◌*◌, ◌<◌}
use mathlib.Core.List.{List, [], ◌∷◌}
use mathlib.Core.Path.{◌≡◌, refl, sym, ◌∙◌}
use mathlib.Core.Logic.{◌≢◌}
use native.Mathlib.Omega.{arith}
use native.Mathlib.Decide.{ℕ_discrete}
use lib.ListN.{get_or, length, set, length-set}
use lib.Seq.{get_or-set_same, get_or-set_other}
use Rattle.complex.specs.declared.SimplicialComplex.{SimplicialComplex}
use Rattle.complex.specs.Complex.{Complex, entries, complex_of}
use Rattle.complex.specs.Judge.{refusal, Accepted}
use Rattle.complex.specs.Numbering.{EdgeTable}
use Rattle.complex.specs.Sides.{sides}
use Rattle.complex.proofs.Accepting.{accepted}
use Rattle.complex.proofs.Triangles.{three}
use Rattle.triangles.specs.declared.Sides.{Sides}
use Rattle.triangles.specs.Indices.{SidesOf, AllSides, with_sides, sides_in}
use Rattle.triangles.proofs.SidesFound.{triangles_long, sides_read, sides_below}

module _ (all : List ℕ) (t : ℕ) (s : Sides) where
  abbrev one : List ℕ
  one = set all (3 * t) s.first

  abbrev two : List ℕ
  two = set one (3 * t + 1) s.second

  -- entries of other triangles stay
  entry_kept : (i : ℕ) → i ≢ 3 * t → i ≢ 3 * t + 1 → i ≢ 3 * t + 2 → get_or (with_sides all t s) i 0 ≡ get_or all i 0
  entry_kept i a b d = get_or-set_other two (3 * t + 2) i s.third 0 d ∙ get_or-set_other one (3 * t + 1) i s.second 0 b ∙ get_or-set_other all (3 * t) i s.first 0 a

  others_kept : (k : ℕ) → k ≢ t → entries (with_sides all t s) (3 * k) 3 ≡ entries all (3 * k) 3
  others_kept k apart =
      three (with_sides all t s) k _ _ _ (sym (entry_kept (3 * k) (λ e. apart (omega (arith, e))) (λ e. omega (arith, e)) (λ e. omega (arith, e))))
      (sym (entry_kept (3 * k + 1) (λ e. omega (arith, e)) (λ e. apart (omega (arith, e))) (λ e. omega (arith, e))))
      (sym (entry_kept (3 * k + 2) (λ e. omega (arith, e)) (λ e. omega (arith, e)) (λ e. apart (omega (arith, e)))))
      ∙ sym (three all k _ _ _ refl refl refl)

  module _ (long : 3 * t + 2 < length all) where
    own_written : entries (with_sides all t s) (3 * t) 3 ≡ s.first ∷ s.second ∷ s.third ∷ []
    own_written =
        let first : 3 * t < length all = omega arith in
        let second : 3 * t + 1 < length one = omega (arith, length-set all (3 * t) s.first) in
        let third : 3 * t + 2 < length two = omega (arith, length-set one (3 * t + 1) s.second, length-set all (3 * t) s.first) in
        three (with_sides all t s) t _ _ _
        (sym (get_or-set_other two (3 * t + 2) (3 * t) s.third 0 (λ e. omega (arith, e)) ∙ get_or-set_other one (3 * t + 1) (3 * t) s.second 0 (λ e. omega (arith, e)) ∙ get_or-set_same all (3 * t) s.first 0 first))
        (sym (get_or-set_other two (3 * t + 2) (3 * t + 1) s.third 0 (λ e. omega (arith, e)) ∙ get_or-set_same one (3 * t + 1) s.second 0 second))
        (sym (get_or-set_same two (3 * t + 2) s.third 0 third))

    -- the edges of one triangle more stand in the list
    sides_more : (c : Complex) → ((k : ℕ) → k < t → sides c k ≡ entries all (3 * k) 3) → sides c t ≡ s.first ∷ s.second ∷ s.third ∷ []
        → (k : ℕ) → k < t + 1 → sides c k ≡ entries (with_sides all t s) (3 * k) 3
    sides_more c so_far is k h = go (ℕ_discrete k t)
      where
        go : Dec (k ≡ t) → sides c k ≡ entries (with_sides all t s) (3 * k) 3
        go (yes e) = rw e (is ∙ sym own_written)
        go (no e) = so_far k (omega arith) ∙ sym (others_kept k e)

-- the edges that stand at the places of a triangle are its own
pub own_sides : (c : Complex) (all : List ℕ) → AllSides c all → (t : ℕ) (s : Sides) → t < length c.triangles → entries all (3 * t) 3 ≡ s.first ∷ s.second ∷ s.third ∷ [] → SidesOf c t s
own_sides c all of t s number e = record { number = number; are = of.are t number ∙ e }

-- the edges of triangle t were read off the table of an accepted record
module _ (c : SimplicialComplex) (h : refusal (complex_of c) ≡ 0) {table : List ℕ} (index : EdgeTable table (complex_of c).edges) {t : ℕ} (inside : t < c.n_triangles) {s : Sides} (told : s ≡ sides_in table (entries c.triangles (3 * t) 3)) where
  right : Accepted (complex_of c)
  right = (accepted c).0 h

  listed : t < length (complex_of c).triangles
  listed = rw (triangles_long c) inside

  own : sides (complex_of c) t ≡ s.first ∷ s.second ∷ s.third ∷ []
  own = rw told (sides_read c t h table index inside)

  pub sides_small : (t < 256) × (s.first < 256) × (s.second < 256) × (s.third < 256)
  sides_small =
      let below = sides_below (complex_of c) t s own right listed in
      (omega (arith, listed, right.few_triangles), omega (arith, below.0, right.few_edges), omega (arith, below.1, right.few_edges), omega (arith, below.2, right.few_edges))

  -- they go to their places
  pub sides_next : (all : List ℕ) → length all ≡ 768 → ((k : ℕ) → k < t → sides (complex_of c) k ≡ entries all (3 * k) 3)
      → (k : ℕ) → k < t + 1 → sides (complex_of c) k ≡ entries (with_sides all t s) (3 * k) 3
  sides_next all long so_far =
      sides_more all t s (omega (arith, listed, right.few_triangles, long)) (complex_of c) so_far own
