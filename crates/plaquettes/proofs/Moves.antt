-- Where the moves of a triangle take the states: the target is the place of the moved state, targets rise, and the move by -u leads back.
use Prim.Native.Nat.{ℕ, ◌<◌, ◌≤◌}
use mathlib.Core.List.{List, []}
use mathlib.Core.Bool.{Bool, true, false}
use mathlib.Core.Path.{◌≡◌, refl, sym, ap, ◌∙◌}
use mathlib.Core.Logic.{◌≢◌}
use native.Mathlib.Omega.{arith}
use borrow.Author.Tests.{ltb-true, ltb-false}
use lib.Dec.{ltb}
use lib.IntN.{ℤ, pos, nat_abs, neg_ℤ, neg_ℤ-neg_ℤ}
use lib.ListN.{get_or, length, get_or-eq_default}
use Rattle.complex.specs.Complex.{Complex}
use Rattle.complex.specs.Judge.{Accepted}
use Rattle.complex.specs.Sides.{side}
use Rattle.gauss_law.specs.Gauss.{State}
use Rattle.gauss_law.specs.Listing.{states}
use Rattle.gauss_law.specs.Shifts.{triangle_move}
use Rattle.gauss_law.proofs.Shifts.{triangle_long, move_undone}
use Rattle.hilbert.specs.Basis.{place, At}
use Rattle.hilbert.proofs.Order.{in_basis_at, place_at}
use Rattle.plaquettes.specs.Triangle.{moved_state, sides_within, target}
use Rattle.plaquettes.proofs.TriangleRows.{moved_in_basis}
use Rattle.plaquettes.proofs.TriangleTelling.{state_there}
use Rattle.plaquettes.proofs.Demands.{leaves}
use Rattle.plaquettes.proofs.Rising.{targets_rise, never_itself}

-- a state's values are within -L to L, and there are none past its end
pub small_everywhere : (c : Complex) (L : ℕ) (s : List ℤ) → State c c.charges L s → (e : ℕ) → nat_abs (get_or s e (pos 0)) ≤ L
small_everywhere c L s is e = go (ltb e (length c.edges)) refl
  where
    go : (b : Bool) → ltb e (length c.edges) ≡ b → nat_abs (get_or s e (pos 0)) ≤ L
    go true h = is.within e (ltb-true e (length c.edges) h)
    go false h = rw (get_or-eq_default s (pos 0) {n = e} (rw is.sized (ltb-false e (length c.edges) h))) (omega arith)

module _ (c : Complex) (L t : ℕ) (u : ℤ) (i : ℕ) where
  pub target_none : sides_within c L t (moved_state c L t u i) ≡ false → target c L t u i ≡ length (states c L)
  unfolding target
  target_none h = rw h

  pub target_place : sides_within c L t (moved_state c L t u i) ≡ true → target c L t u i ≡ place c L (moved_state c L t u i)
  unfolding target
  target_place h = rw h

  -- a target that is a place is one of a move that stays within -L to L
  pub target_stays : target c L t u i < length (states c L) → sides_within c L t (moved_state c L t u i) ≡ true
  target_stays h = go (sides_within c L t (moved_state c L t u i)) refl
    where
      go : (b : Bool) → sides_within c L t (moved_state c L t u i) ≡ b → b ≡ true
      go true e = refl
      go false e = absurd (omega (arith, target_none e))

module _ (c : Complex) (accepted : Accepted c) (L t : ℕ) (number : t < length c.triangles) (u : ℤ) where
  -- where the three edges stay within -L to L, the moved state stands at its target
  pub stays_at : (i : ℕ) → i < length (states c L) → sides_within c L t (moved_state c L t u i) ≡ true → At c L (moved_state c L t u i) (target c L t u i)
  unfolding moved_state
  stays_at i h band =
      let is = state_there c accepted L i h in
      rw (target_place c L t u i band)
      (in_basis_at c accepted L (moved_state c L t u i) (triangle_long c t u (get_or (states c L) i []) ∙ is.sized) (moved_in_basis c accepted L t number u (get_or (states c L) i []) is band))

  pub target_at : (i : ℕ) → i < length (states c L) → target c L t u i < length (states c L) → At c L (moved_state c L t u i) (target c L t u i)
  target_at i h k = stays_at i h (target_stays c L t u i k)

  -- and the other way round: a moved state that is listed has stayed within -L to L, and its place is the target
  pub at_stays : (i j : ℕ) → At c L (moved_state c L t u i) j → sides_within c L t (moved_state c L t u i) ≡ true
  at_stays i j stands = go (sides_within c L t (moved_state c L t u i)) refl
    where
      is : State c c.charges L (moved_state c L t u i)
      is = rw stands.state at (state_there c accepted L j stands.below)

      go : (b : Bool) → sides_within c L t (moved_state c L t u i) ≡ b → b ≡ true
      go true e = refl
      go false e =
          let out = leaves c accepted L t number (moved_state c L t u i) e in
          absurd (omega (arith, out.out, small_everywhere c L (moved_state c L t u i) is (side c t out.which)))

  pub at_target : (i j : ℕ) → At c L (moved_state c L t u i) j → target c L t u i ≡ j
  at_target i j stands = target_place c L t u i (at_stays i j stands) ∙ place_at c accepted L (moved_state c L t u i) j stands

  -- the targets rise
  pub target_rises : (i k : ℕ) → i < k → k < length (states c L) → target c L t u i < length (states c L) → target c L t u i < target c L t u k
  target_rises i k less below hit = go (sides_within c L t (moved_state c L t u k)) refl
    where
      go : (b : Bool) → sides_within c L t (moved_state c L t u k) ≡ b → target c L t u i < target c L t u k
      go true e = targets_rise c accepted t number u L i k _ _ less below (target_at i (omega arith) hit) (stays_at k below e)
      go false e = rw (target_none c L t u k e) hit

  -- no state is taken to itself
  pub target_elsewhere : u ≢ pos 0 → (i : ℕ) → i < length (states c L) → target c L t u i ≢ i
  target_elsewhere moves i h e = never_itself c accepted t number u L moves i h (rw e at (target_at i h (rw e h)))

-- where a move takes i to j, the move back takes j to i
pub target_back : (c : Complex) → Accepted c → (L t : ℕ) → t < length c.triangles → (u : ℤ) (i j : ℕ) → i < length (states c L) → j < length (states c L)
    → target c L t u i ≡ j → target c L t (neg_ℤ u) j ≡ i
unfolding moved_state
target_back c accepted L t number u i j h k e =
    let there = target_at c accepted L t number u i h (rw e k) in
    let moved : get_or (states c L) j [] ≡ triangle_move c t u (get_or (states c L) i []) = rw e at there.state in
    at_target c accepted L t number (neg_ℤ u) j i
    (record { below = h; state = sym (rw moved (move_undone c accepted t number u (get_or (states c L) i []) (state_there c accepted L i h).sized)) })

-- just where the move back does so
pub target_turned : (c : Complex) → Accepted c → (L t : ℕ) → t < length c.triangles → (u : ℤ) (i j : ℕ) → i < length (states c L) → j < length (states c L)
    → (target c L t u i ≡ j → target c L t (neg_ℤ u) j ≡ i) × (target c L t (neg_ℤ u) j ≡ i → target c L t u i ≡ j)
target_turned c accepted L t number u i j h k = (
  target_back c accepted L t number u i j h k,
  λ e. ap (λ v. target c L t v i) (sym (neg_ℤ-neg_ℤ u)) ∙ target_back c accepted L t number (neg_ℤ u) j i k h e,
)
