-- The targets of a triangle's move rise with the states, and a move that moves takes no state to itself or back.
use Prim.Native.Nat.{ℕ, ◌<◌}
use mathlib.Core.List.{List, []}
use mathlib.Core.Bool.{true, false, false≢true}
use mathlib.Core.Path.{◌≡◌, sym, ap, ◌∙◌}
use mathlib.Core.Logic.{◌≢◌}
use native.Mathlib.Omega.{arith}
use native.Mathlib.Decide.{dec_lt}
use lib.IntN.{ℤ, pos, ◌+ℤ◌}
use lib.Signed.{◌<ℤ◌}
use lib.ListN.{get_or, length}
use Rattle.mathematics.proofs.Integers.{positive, negative, integral, parts_sum, less_by_parts, less_to_parts}
use Rattle.complex.specs.Complex.{Complex}
use Rattle.complex.specs.Judge.{Accepted}
use Rattle.gauss_law.specs.Listing.{Before, states}
use Rattle.gauss_law.specs.Shifts.{triangle_move}
use Rattle.complex.specs.Sides.{side}
use Rattle.gauss_law.proofs.Accepted.{states_ordered}
use Rattle.gauss_law.proofs.Shifts.{added, triangle_moved, triangle_value}
use Rattle.hilbert.specs.Basis.{comes_before, At}
use Rattle.hilbert.proofs.Order.{before_smaller, self_smaller}
use Rattle.plaquettes.specs.Triangle.{moved_state}
use Rattle.plaquettes.proofs.TriangleTelling.{state_there}

-- the same added on both sides
pub less_shifted : (x y d : ℤ) → x <ℤ y → (x +ℤ d) <ℤ (y +ℤ d)
less_shifted x y d h = less_by_parts (x +ℤ d) (y +ℤ d) (omega (arith, less_to_parts x y h, parts_sum x d, parts_sum y d))

module _ (c : Complex) (accepted : Accepted c) (t : ℕ) (number : t < length c.triangles) (u : ℤ) where
  before_moved : (s r : List ℤ) → length s ≡ length c.edges → length r ≡ length c.edges → Before c s r → Before c (triangle_move c t u s) (triangle_move c t u r)
  before_moved s r long long' h =
      record {
        edge = h.edge;
        free = h.free;
        less = rw (triangle_value c accepted t number u s long h.edge, triangle_value c accepted t number u r long' h.edge) (less_shifted _ _ (added c t u h.edge) h.less);
        above = λ e k f. triangle_value c accepted t number u s long e ∙ ap (λ x. x +ℤ added c t u e) (h.above e k f) ∙ sym (triangle_value c accepted t number u r long' e);
      }

  module _ (L : ℕ) where
    sized : (i : ℕ) → i < length (states c L) → length (get_or (states c L) i []) ≡ length c.edges
    sized i h = (state_there c accepted L i h).sized

    pub targets_rise : (i j p q : ℕ) → i < j → j < length (states c L) → At c L (moved_state c L t u i) p → At c L (moved_state c L t u j) q → p < q
    unfolding moved_state
    targets_rise i j p q less below at_i at_j = go (dec_lt p q) (dec_lt q p)
      where
        rises : Before c (get_or (states c L) p []) (get_or (states c L) q [])
        rises =
            rw (at_i.state, at_j.state)
            (before_moved (get_or (states c L) i []) (get_or (states c L) j []) (sized i (omega arith)) (sized j below) (states_ordered c accepted L i j less below))

        not_both : comes_before c (get_or (states c L) p []) (get_or (states c L) q []) ≡ true → comes_before c (get_or (states c L) p []) (get_or (states c L) q []) ≡ false → ⊥
        not_both a b = false≢true (sym b ∙ a)

        go : Dec (p < q) → Dec (q < p) → p < q
        go (yes l) r = l
        go (no l) (yes r) = absurd (not_both (before_smaller c _ _ rises).0 (before_smaller c _ _ (states_ordered c accepted L q p r at_i.below)).1)
        go (no l) (no r) =
            let e : p ≡ q = omega arith in
            absurd (not_both (before_smaller c _ _ rises).0 (rw e (self_smaller c (get_or (states c L) q []))))

    -- u is added on a state's first side
    first_moved : (i j : ℕ) → i < length (states c L) → At c L (moved_state c L t u i) j → get_or (get_or (states c L) j []) (side c t 0) (pos 0) ≡ get_or (get_or (states c L) i []) (side c t 0) (pos 0) +ℤ u
    unfolding moved_state
    first_moved i j h at_i = rw at_i.state (triangle_moved c accepted t number u (get_or (states c L) i []) (sized i h)).ab

    module _ (moves : u ≢ pos 0) where
      pub never_itself : (i : ℕ) → i < length (states c L) → At c L (moved_state c L t u i) i → ⊥
      unfolding positive negative
      never_itself i h at_i =
          let x = get_or (get_or (states c L) i []) (side c t 0) (pos 0) in
          let e = first_moved i i h at_i in
          moves (omega (integral, parts_sum x u))

      pub never_back : (i j : ℕ) → i < length (states c L) → j < length (states c L) → At c L (moved_state c L t u i) j → At c L (moved_state c L t u j) i → ⊥
      unfolding positive negative
      never_back i j h k at_i at_j =
          let x = get_or (get_or (states c L) i []) (side c t 0) (pos 0) in
          let y = get_or (get_or (states c L) j []) (side c t 0) (pos 0) in
          let e = first_moved i j h at_i in
          let f = first_moved j i k at_j in
          moves (omega (integral, parts_sum x u, parts_sum y u))
