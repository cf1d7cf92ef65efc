-- What the code counts, by a list of the edges of all triangles, is what the rows have.
use Prim.Native.Nat.{ℕ, zero, suc, ◌+◌, ◌*◌, ◌<◌, ◌≤◌}
use mathlib.Core.List.{List, [], ◌∷◌}
use mathlib.Core.Bool.{cond}
use mathlib.Core.Path.{◌≡◌, refl, sym, ap, ap₂, ◌∙◌}
use native.Mathlib.Numerals.{add-one}
use native.Mathlib.Omega.{arith}
use lib.IntN.{ℤ, pos, negsuc, nat_abs}
use lib.Dec.{eqb}
use lib.ListN.{get_or, length}
use Rattle.complex.specs.Complex.{Complex, entries}
use Rattle.complex.specs.Judge.{Accepted}
use Rattle.complex.proofs.TriangleEdges.{triangle_sides}
use Rattle.gauss_law.specs.Gauss.{State}
use Rattle.gauss_law.specs.Listing.{states}
use Rattle.matrices.specs.Squares.{squares}
use Rattle.triangles.specs.Indices.{AllSides}
use Rattle.plaquettes.specs.Joined.{staying}
use Rattle.plaquettes.proofs.Pairing.{stays_told}
use Rattle.plaquettes.proofs.TriangleTelling.{state_there}
use Rattle.entries.specs.Count.{over_states, both_stay, moves_stay, row_entries, Countable, AllCountable}
use Rattle.entries.specs.Entries.{row_number, entries_number}
use Rattle.entries.proofs.Counted.{over_same}

pub same_countable : (L : ℕ) (s s' : List ℤ) (all : List ℕ) (n : ℕ) → s ≡ s' → Countable L s' all n → Countable L s all n
same_countable L s s' all n e h = rw e h

pub moves_none : (L : ℕ) (s : List ℤ) (all : List ℕ) → 0 ≡ moves_stay L s all 0
unfolding moves_stay
moves_none L s all = refl

pub moves_next : (L : ℕ) (s : List ℤ) (all : List ℕ) (t k r : ℕ) (edges : List ℕ) → k ≡ moves_stay L s all t → entries all (3 * t) 3 ≡ edges → r ≡ both_stay L s edges → k + r ≡ moves_stay L s all (t + 1)
unfolding moves_stay
moves_next L s all t k r edges e is f = rw (add-one t, is) (ap₂ (λ a b. a + b) e f)

module _ (c : Complex) (accepted : Accepted c) (L : ℕ) (s : List ℤ) (sized : length s ≡ length c.edges) (all : List ℕ) (of : AllSides c all) where
  moves_told : (n : ℕ) → n ≤ length c.triangles → moves_stay L s all n ≡ staying c L s n
  unfolding moves_stay both_stay staying
  moves_told zero h = refl
  moves_told (suc t) h =
      ap₂ (λ a b. a + b) (moves_told t (omega arith))
      (ap₂ (λ a b. cond a 1 0 + cond b 1 0) (stays_told c accepted L t h s sized (entries all (3 * t) 3) (of.are t h) (pos 1)) (stays_told c accepted L t h s sized (entries all (3 * t) 3) (of.are t h) (negsuc 0)))

  pub row_told : row_entries L all (length c.triangles) s ≡ row_number c L s
  unfolding row_entries row_number
  row_told = ap (λ k. cond (eqb (squares s) 0) 0 1 + k) (moves_told (length c.triangles) (omega arith))

module _ (c : Complex) (accepted : Accepted c) (L : ℕ) (truncation : L ≤ 1000) (all : List ℕ) (of : AllSides c all) where
  countable : (s : List ℤ) → State c c.charges L s → Countable L s all (length c.triangles)
  countable s state =
      record {
        truncation = truncation;
        triangles_few = accepted.few_triangles;
        edges_few = rw state.sized accepted.few_edges;
        small = small;
        movable = λ t h.
            let ends = triangle_sides c accepted t h in
            let is : entries all (3 * t) 3 ≡ ends.i ∷ ends.j ∷ ends.k ∷ [] = sym (of.are t h) ∙ ends.numbers in
            rw is (record { small = small; first_below = rw state.sized ends.i_below; second_below = rw state.sized ends.j_below; third_below = rw state.sized ends.k_below });
      }
    where
      small : (e : ℕ) → e < length s → nat_abs (get_or s e (pos 0)) ≤ 1000
      small e h = let w = state.within e (rw (← state.sized) h) in omega arith

  -- by a list of all states, and the number of triangles
  module _ (ss : List (List ℤ)) (all_states : ss ≡ states c L) (n : ℕ) (triangles : n ≡ length c.triangles) where
    pub all_countable : length (states c L) ≤ 1048576 → AllCountable L ss all n
    all_countable few = rw (all_states, triangles) (record { few = few; each = λ i h. countable _ (state_there c accepted L i h) })

    -- what is counted is the number of entries
    pub counted_entries : over_states (row_entries L all n) ss ≡ entries_number c L
    unfolding entries_number
    counted_entries =
        rw (all_states, triangles)
        (over_same (row_entries L all (length c.triangles)) (row_number c L) (states c L)
        (λ i h. row_told c accepted L (get_or (states c L) i []) (state_there c accepted L i h).sized all of))
