-- What the shift of a triangle on a state tells, by the test that decides it.
use Rattle.std.proofs.Common.{◌≡◌, ℕ, ◌*◌, ◌<◌, ◌≤◌, Bool, true, false, ◌&&◌, ◌||◌, List, [], ◌∷◌, sym, ap, ◌∙◌, Ok, pos, negsuc, get_or, length, take, lt-ltb, le-ltb}
use native.Mathlib.Nat.{mul-le-mul}
use lib.Dec.{leb}
use lib.IntN.{ℤ}
use borrow.Author.Tests.{leb-false}
use Rattle.mathematics.specs.Refusals.{value}
use Rattle.mathematics.specs.Calls.{Answered}
use Rattle.mathematics.proofs.Calls.{Tells, none, here, past, ends}
use Rattle.mathematics.proofs.Tests.{or_fell}
use Rattle.complex.specs.declared.SimplicialComplex.{SimplicialComplex}
use Rattle.complex.specs.Complex.{complex_of}
use Rattle.complex.specs.Judge.{refusal}
use Rattle.complex.specs.Sides.{sides}
use Rattle.complex.proofs.Accepting.{accepted}
use Rattle.triangles.specs.declared.Sides.{Sides}
use Rattle.triangles.proofs.SidesFound.{triangles_long, sides_below}
use Rattle.gauss_law.proofs.Spanned.{edges_long}
use Rattle.gauss_law.specs.Gauss.{within}
use Rattle.gauss_law.specs.Listing.{states}
use Rattle.gauss_law.specs.Shifts.{shifted}
use Rattle.walker.specs.Tables.{states_of}
use Rattle.enumeration.specs.declared.basis.Basis.{Basis}
use Rattle.enumeration.specs.Basis.{BasisPrepared}
use Rattle.enumeration.specs.Enumeration.{short, BasisWalks}
use Rattle.enumeration.proofs.Bases.{basis_passed}
use Rattle.hilbert.specs.Basis.{in_basis}
use Rattle.hilbert.specs.Search.{Sought, FoundIn}
use Rattle.hilbert.proofs.Order.{in_basis_at}
use Rattle.plaquettes.specs.Triangle.{moved_state, triangle_call, shifted_state, sides_within, triangle_tests, Shiftable}
use Rattle.plaquettes.proofs.Listed.{basis_counted}
use Rattle.plaquettes.proofs.TriangleRows.{front_moved, three_told, row_shiftable, moved_row_long}
use Rattle.plaquettes.proofs.TriangleTelling.{state_there, shifted_listed}

module _ (c : SimplicialComplex) (L t k : ℕ) (b : Basis) (right : BasisPrepared (complex_of c) L (Ok b)) (n : ℕ) (count : n ≡ length (states_of b.walker b.lambda b.blocks)) where
  pub basis_of : BasisWalks (complex_of c) L b.walker b.blocks
  basis_of = right.basis.walks

  counted : n ≡ length (states (complex_of c) L)
  counted = basis_counted right.basis count

  pub edges_few : c.n_edges ≤ 63
  edges_few = rw (← (edges_long c)) basis_of.walks.accepted.few_edges

  pub product_small : n * c.n_edges ≤ 1048576 * 63
  product_small = let few : n ≤ 1048576 = rw counted basis_of.few in mul-le-mul few edges_few

  -- a number that is no triangle's or no state's
  pub no_number : (leb c.n_triangles t || leb n k) ≡ true → (room : ℕ) → Tells (triangle_tests (complex_of c) L t k room) 13
  no_number h room = basis_passed right (here (rw (triangles_long c, ← counted) h))

  module _ (fell : (leb c.n_triangles t || leb n k) ≡ false) where
    numbers : (leb (length (complex_of c).triangles) t || leb (length (states (complex_of c) L)) k) ≡ false
    numbers = rw (triangles_long c, ← counted) fell

    -- the triangle and the state are there
    pub there : (t < length (complex_of c).triangles) × (k < length (states (complex_of c) L))
    there = let h = or_fell (leb (length (complex_of c).triangles) t) (leb (length (states (complex_of c) L)) k) numbers in (leb-false _ _ h.0, leb-false _ _ h.1)

    pub sides_asked : (refusal (complex_of c) ≡ 0) × (t < c.n_triangles)
    sides_asked = ((accepted _).1 basis_of.walks.accepted, rw (← (triangles_long c)) there.0)

    pub state_asked : k < length (states_of b.walker L b.blocks)
    state_asked = rw basis_of.listed there.1

    -- a list that has too few entries
    pub no_room : (room : ℕ) → room < n * c.n_edges → Tells (triangle_tests (complex_of c) L t k room) 15
    unfolding short
    no_room room h = basis_passed right (past numbers (here (rw (edges_long c, ← counted) (lt-ltb _ _ h))))

    module _ (room : ℕ) (enough : n * c.n_edges ≤ room) where
      long : short (complex_of c) L room ≡ false
      unfolding short
      long = rw (edges_long c, ← counted) (le-ltb _ _ enough)

      module _ (three : Sides) (is : sides (complex_of c) t ≡ three.first ∷ three.second ∷ three.third ∷ []) (row : List ℤ) (sized : length row ≡ 63) (holds : take b.walker.n_edges row ≡ get_or (states_of b.walker L b.blocks) k []) where
        -- the front of the row is the state
        front : take (length (complex_of c).edges) row ≡ get_or (states (complex_of c) L) k []
        front = rw (← basis_of.walks.edges, ← basis_of.listed) holds

        pub ready : Shiftable row three
        ready = row_shiftable (complex_of c) basis_of.walks.accepted L t basis_of.truncation there.0 three is row _ sized front (state_there (complex_of c) basis_of.walks.accepted L k there.1)

        module _ (new : List ℤ) (made : new ≡ shifted (shifted (shifted row three.first (pos 1)) three.second (negsuc 0)) three.third (pos 1)) where
          pub new_long : length new ≡ 63
          new_long = rw made (moved_row_long _ _ ready (pos 1))

          pub three_asked : (length new ≡ 63) × (L ≤ 1000) × (three.first < 63) × (three.second < 63) × (three.third < 63)
          three_asked = (new_long, basis_of.truncation, ready.first_below, ready.second_below, ready.third_below)

          -- the front of the shifted row is the shifted state
          new_front : take (length (complex_of c).edges) new ≡ shifted_state (complex_of c) L t k
          unfolding moved_state
          new_front =
              let below = sides_below (complex_of c) t three is basis_of.walks.accepted there.0 in
              rw made (front_moved (complex_of c) t three is (pos 1) row _ (length (complex_of c).edges) below.0 below.1 below.2 front)

          part : take c.n_edges new ≡ shifted_state (complex_of c) L t k
          part = ap (λ m. take m new) (sym (edges_long c)) ∙ new_front

          module _ (band : Bool) (told : band ≡ (within L (get_or new three.first (pos 0)) && (within L (get_or new three.second (pos 0)) && within L (get_or new three.third (pos 0))))) where
            -- the test of the row is that of the state
            band_told : sides_within (complex_of c) L t (shifted_state (complex_of c) L t k) ≡ band
            band_told =
                let below = sides_below (complex_of c) t three is basis_of.walks.accepted there.0 in
                three_told (complex_of c) t three is L new _ (length (complex_of c).edges) below.0 below.1 below.2 new_front ∙ sym told

            pub out_of_band : band ≡ false → Tells (triangle_tests (complex_of c) L t k room) 16
            out_of_band h = basis_passed right (past numbers (past long (here (rw (band_told ∙ h)))))

            module _ (inside : band ≡ true) where
              in_band : Tells (triangle_tests (complex_of c) L t k room) 0
              in_band = basis_passed right (past numbers (past long (past (rw (band_told ∙ inside)) none)))

              listed : (length (shifted_state (complex_of c) L t k) ≡ length (complex_of c).edges) × (in_basis (complex_of c) L (shifted_state (complex_of c) L t k) ≡ true)
              listed = let h = shifted_listed (complex_of c) basis_of.walks.accepted L t k there.0 there.1 in (h.0, h.1 (band_told ∙ inside))

              -- the state that is sought, and that it is found
              pub asked : Sought b.walker L b.blocks (take c.n_edges new) room
              asked = rw part (record { complex = complex_of c; basis = basis_of; sized = listed.0; listed = listed.1; long = long })

              module _ (old : List ℤ) (roomy : room ≡ length old) (states' : List ℤ) (r : ℕ) (found : FoundIn (complex_of c) L (take c.n_edges new) old states' r) where
                pub answered : Answered (triangle_call (complex_of c) L t k old) (value r) states'
                unfolding triangle_call
                answered =
                    let placed = rw part at found in
                    ends (triangle_call (complex_of c) L t k old) (rw (← roomy) in_band) (placed.found (listed.0, listed.1)) placed.list (record { found = in_basis_at (complex_of c) basis_of.walks.accepted L _ listed.0 listed.1; few = basis_of.few })
