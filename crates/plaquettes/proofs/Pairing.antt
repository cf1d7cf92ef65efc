-- A triangle's move takes the states that it keeps within -L to L, in order, to those that the move back keeps there, in order.
use Prim.Native.Nat.{ℕ, ◌+◌, ◌<◌, ◌≤◌}
use mathlib.Core.List.{List, [], ◌∷◌}
use mathlib.Core.Bool.{Bool, true, false, false≢true}
use mathlib.Core.Path.{◌≡◌, refl, sym, ap, ◌∙◌}
use native.Mathlib.Omega.{arith}
use native.Mathlib.Decide.{dec_lt, ℕ_discrete}
use lib.IntN.{ℤ, pos, neg_ℤ, neg_ℤ-neg_ℤ}
use lib.ListN.{get_or, length}
use mir.Syntax.{w32}
use mir.Val.{to_z, of_z}
use Rattle.mathematics.specs.Tests.{every_entry}
use Rattle.mathematics.proofs.Signed.{small_back}
use Rattle.mathematics.proofs.Tests.{and_true}
use Rattle.complex.specs.Complex.{Complex}
use Rattle.complex.specs.Judge.{Accepted}
use Rattle.complex.specs.Sides.{sides, side}
use Rattle.complex.proofs.TriangleEdges.{triangle_sides}
use Rattle.gauss_law.specs.Listing.{states}
use Rattle.gauss_law.specs.Shifts.{triangle_move}
use Rattle.gauss_law.proofs.Shifts.{triangle_moved}
use Rattle.hilbert.specs.Search.{row}
use Rattle.triangles.specs.declared.Sides.{Sides}
use Rattle.triangles.specs.Indices.{SidesOf}
use Rattle.plaquettes.specs.declared.target.Sizes.{Sizes}
use Rattle.plaquettes.specs.Triangle.{moved_state, sides_within, target}
use Rattle.plaquettes.specs.Targets.{BasisList}
use Rattle.plaquettes.specs.Pairs.{three, stays, row_stays, Movable, MovableRows, NextStaying, PairFound, Parted}
use Rattle.plaquettes.proofs.TriangleTelling.{state_there}
use Rattle.plaquettes.proofs.Moves.{target_none, target_stays, stays_at, target_rises, target_back}
use Rattle.plaquettes.proofs.Targets.{there, row_is}
use Rattle.plaquettes.proofs.Listed.{row_sized, small_rows}
use Rattle.triangles.proofs.SidesFound.{sides_below}

-- the test of three values of a state is that of the moved state
pub stays_told : (c : Complex) → Accepted c → (L t : ℕ) → t < length c.triangles → (s : List ℤ) → length s ≡ length c.edges → (edges : List ℕ) → sides c t ≡ edges → (u : ℤ)
    → stays L s edges u ≡ sides_within c L t (triangle_move c t u s)
unfolding stays sides_within every_entry side
stays_told c accepted L t number s sized edges are u =
    let ends = triangle_sides c accepted t number in
    let moved = triangle_moved c accepted t number u s sized in
    let is : edges ≡ ends.i ∷ ends.j ∷ ends.k ∷ [] = sym are ∙ ends.numbers in
    let ab = rw ends.numbers at moved.ab in
    let ac = rw ends.numbers at moved.ac in
    let bc = rw ends.numbers at moved.bc in
    rw (is, ends.numbers, ab, ac, bc, and_true _)

-- a value of such a state is read back from its bits
pub value_back : (s : List ℤ) (edges : List ℕ) → Movable s edges → (e : ℕ) → e < length s → to_z w32 (of_z w32 (get_or s e (pos 0))) ≡ get_or s e (pos 0)
value_back s edges m e h = small_back (get_or s e (pos 0)) (omega (arith, m.small e h))

-- three edges of a row of small values
pub row_movable : (list : List ℤ) (s : Sizes) (sides : Sides) → MovableRows list s sides → (k : ℕ) → k < s.states → Movable (row s.edges list k) (three sides)
row_movable list s sides rows k h =
    let sized = row_sized list s.states s.edges rows.rows k h in
    record {
      small = λ e l. rows.rows.small k h e (rw (← sized) l);
      first_below = rw sized rows.first_below;
      second_below = rw sized rows.second_below;
      third_below = rw sized rows.third_below;
    }

module _ (c : Complex) (accepted : Accepted c) (L t : ℕ) (number : t < length c.triangles) (u : ℤ) where
  -- before the first state
  pub parted_none : Parted c L t u 0 0
  parted_none = record { earlier = λ k h l. absurd (omega arith); later = λ k h l. omega arith }

  module _ (i from : ℕ) (parts : Parted c L t u i from) where
    -- after a state without a target
    pub parted_miss : length (states c L) ≤ target c L t u i → Parted c L t u (i + 1) from
    parted_miss out = record { earlier = λ k h l. go k h l (ℕ_discrete k i); later = λ k h l. parts.later k (omega arith) l }
      where
        go : (k : ℕ) → k < i + 1 → target c L t u k < length (states c L) → Dec (k ≡ i) → target c L t u k < from
        go k h l (yes e) = absurd (omega (arith, out, rw e at l))
        go k h l (no e) = parts.earlier k (omega arith) l

    -- after one with a target
    pub parted_hit : i < length (states c L) → target c L t u i < length (states c L) → Parted c L t u (i + 1) (target c L t u i + 1)
    parted_hit here hit = record { earlier = λ k h l. go k h l (ℕ_discrete k i); later = λ k h l. omega (arith, target_rises c accepted L t number u i k (omega arith) l hit) }
      where
        go : (k : ℕ) → k < i + 1 → target c L t u k < length (states c L) → Dec (k ≡ i) → target c L t u k < target c L t u i + 1
        go k h l (yes e) = rw e (omega arith)
        go k h l (no e) = omega (arith, parts.earlier k (omega arith) l, parts.later i (omega arith) here)

    -- a state's target itself parts them
    pub parted_up : i < length (states c L) → target c L t u i < length (states c L) → Parted c L t u i (target c L t u i)
    parted_up here hit =
        record {
          earlier = λ k h l. omega (arith, parts.earlier k h l, parts.later i (omega arith) here);
          later = λ k h l. go k h l (ℕ_discrete k i);
        }
      where
        go : (k : ℕ) → i ≤ k → k < length (states c L) → Dec (k ≡ i) → target c L t u i ≤ target c L t u k
        go k h l (yes e) = rw e (omega arith)
        go k h l (no e) = omega (arith, target_rises c accepted L t number u i k (omega arith) l hit)

    -- the first place from there on that the move back keeps is the target
    module _ (here : i < length (states c L)) (stay : sides_within c L t (moved_state c L t u i) ≡ true) where
      abbrev j : ℕ
      j = target c L t u i

      j_below : j < length (states c L)
      j_below = (stays_at c accepted L t number u i here stay).below

      pub target_turns : sides_within c L t (moved_state c L t (neg_ℤ u) j) ≡ true
      target_turns = target_stays c L t (neg_ℤ u) j (rw (target_back c accepted L t number u i j here j_below refl) here)

      pub target_first : (r : ℕ) → from ≤ r → r < j → sides_within c L t (moved_state c L t (neg_ℤ u) r) ≡ true → ⊥
      target_first r above less turns = go (dec_lt q i) (ℕ_discrete q i)
        where
          q : ℕ
          q = target c L t (neg_ℤ u) r

          q_below : q < length (states c L)
          q_below = (stays_at c accepted L t number (neg_ℤ u) r (omega (arith, less, j_below)) turns).below

          leads : target c L t u q ≡ r
          leads = ap (λ v. target c L t v q) (sym (neg_ℤ-neg_ℤ u)) ∙ target_back c accepted L t number (neg_ℤ u) r q (omega (arith, less, j_below)) q_below refl

          go : Dec (q < i) → Dec (q ≡ i) → ⊥
          go (yes h) e = absurd (omega (arith, parts.earlier q h (rw leads (omega (arith, less, j_below))), leads, above))
          go (no h) (yes e) = absurd (omega (arith, ap (λ k. target c L t u k) e, leads, less))
          go (no h) (no e) = absurd (omega (arith, target_rises c accepted L t number u i q (omega arith) q_below j_below, leads, less))

module _ (c : Complex) (list : List ℤ) (s : Sizes) (free : List ℕ) (basis : BasisList c list s free) (t : ℕ) (three_sides : Sides) (of : SidesOf c t three_sides) where
  abbrev L : ℕ
  L = s.lambda

  pub movable_rows : MovableRows list s three_sides
  movable_rows =
      let below = rw (← basis.edges) at (sides_below c t three_sides of.are basis.accepted of.number) in
      record { truncation = basis.truncation; rows = small_rows c list s free basis; first_below = below.0; second_below = below.1; third_below = below.2 }

  -- a row's test is that of the moved state
  row_told : (u : ℤ) (k : ℕ) → k < s.states → row_stays list s three_sides u k ≡ sides_within c L t (moved_state c L t u k)
  unfolding moved_state
  row_told u k h =
      rw (row_is c list s free basis k h)
      (stays_told c basis.accepted L t of.number (get_or (states c L) k []) (state_there c basis.accepted L k (there c list s free basis k h)).sized (three three_sides) of.are u)

  -- a row that does not stay has no target
  pub stays_out : (u : ℤ) (i : ℕ) → i < s.states → row_stays list s three_sides u i ≡ false → length (states c L) ≤ target c L t u i
  stays_out u i h leaves = omega (arith, target_none c L t u i (sym (row_told u i h) ∙ leaves))

  pub stays_target : (u : ℤ) (i : ℕ) → i < s.states → row_stays list s three_sides u i ≡ true → target c L t u i < s.states
  stays_target u i h stay = rw basis.count (stays_at c basis.accepted L t of.number u i (there c list s free basis i h) (sym (row_told u i h) ∙ stay)).below

  pub pair_target : (u : ℤ) (i from r : ℕ) → i < s.states → Parted c L t u i from → PairFound list s three_sides u i from r → r ≡ target c L t u i
  pair_target u i from r h parts found = go (sides_within c L t (moved_state c L t u i)) refl
    where
      here : i < length (states c L)
      here = there c list s free basis i h

      go : (b : Bool) → sides_within c L t (moved_state c L t u i) ≡ b → r ≡ target c L t u i
      go false e = found.alone (row_told u i h ∙ e) ∙ basis.count ∙ sym (target_none c L t u i e)
      go true e = meet (dec_lt r j) (dec_lt j r)
        where
          j : ℕ
          j = target c L t u i

          below : j < s.states
          below = rw basis.count (stays_at c basis.accepted L t of.number u i here e).below

          next : NextStaying list s three_sides (neg_ℤ u) from r
          next = found.paired (row_told u i h ∙ e)

          meet : Dec (r < j) → Dec (j < r) → r ≡ j
          meet (yes l) k =
              let inside : r < s.states = omega (arith, l, below) in
              absurd (target_first c basis.accepted L t of.number u i from parts here e r next.not_before l (sym (row_told (neg_ℤ u) r inside) ∙ next.there inside))
          meet (no l) (yes k) =
              absurd (false≢true (sym (next.none_before j (parts.later i (omega arith) here) k) ∙ row_told (neg_ℤ u) j below ∙ target_turns c basis.accepted L t of.number u i from parts here e))
          meet (no l) (no k) = omega arith
