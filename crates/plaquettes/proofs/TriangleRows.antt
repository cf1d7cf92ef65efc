-- The triangle's shift of a state, on the row that holds it and as a state.
use Prim.Native.Nat.{ℕ, ◌+◌, ◌<◌, ◌≤◌, ◌^◌}
use mathlib.Core.List.{List, [], ◌∷◌}
use mathlib.Core.Bool.{true, ◌&&◌}
use mathlib.Core.Path.{◌≡◌, sym, ap, ◌∙◌}
use native.Mathlib.Omega.{arith}
use native.Mathlib.Decide.{ℕ_discrete}
use borrow.Author.Tests.{leb-true}
use lib.IntN.{ℤ, pos, nat_abs, neg_ℤ, ◌+ℤ◌}
use lib.ListN.{get_or, length, take}
use lib.Seq.{take-set-lt, get_or-take}
use Rattle.mathematics.specs.Tests.{every_entry}
use Rattle.mathematics.proofs.Tests.{and_parts, and_true}
use Rattle.mathematics.proofs.Signed.{size_neg, size_sum}
use Rattle.triangles.specs.declared.Sides.{Sides}
use Rattle.complex.specs.Complex.{Complex}
use Rattle.complex.specs.Judge.{Accepted}
use Rattle.complex.specs.Sides.{sides, side}
use Rattle.complex.proofs.TriangleEdges.{triangle_sides}
use Rattle.gauss_law.specs.Gauss.{State, within}
use Rattle.gauss_law.specs.Shifts.{raised, shifted, triangle_move}
use Rattle.gauss_law.proofs.Shifts.{shifted_length, shifted_at, shifted_elsewhere, triangle_long, triangle_lawful, triangle_moved}
use Rattle.hilbert.specs.Basis.{in_basis}
use Rattle.hilbert.proofs.Order.{state_in_basis}
use Rattle.triangles.proofs.SidesFound.{sides_below}
use Rattle.plaquettes.specs.Triangle.{sides_within, Shiftable}

-- ---- one edge of a row
module _ (row : List ℤ) (e : ℕ) (d : ℤ) where
  pub take_shifted : (m : ℕ) → e < m → take m (shifted row e d) ≡ shifted (take m row) e d
  unfolding shifted raised
  take_shifted m h = take-set-lt m row e (get_or row e (pos 0) +ℤ d) h ∙ rw (get_or-take m row e (pos 0) h)

  -- a shift makes no value larger than by its own size
  pub shifted_size : (i : ℕ) → e < length row → nat_abs (get_or (shifted row e d) i (pos 0)) ≤ nat_abs (get_or row i (pos 0)) + nat_abs d
  unfolding raised
  shifted_size i h = go (ℕ_discrete i e)
    where
      go : Dec (i ≡ e) → nat_abs (get_or (shifted row e d) i (pos 0)) ≤ nat_abs (get_or row i (pos 0)) + nat_abs d
      go (yes q) = rw (q, shifted_at row e d h) (size_sum (get_or row e (pos 0)) d)
      go (no q) = rw (shifted_elsewhere row e d i q) (omega arith)

-- ---- the three edges of a row, one after the other
module _ (row : List ℤ) (s : Sides) (ready : Shiftable row s) (u : ℤ) where
  abbrev first_row : List ℤ
  first_row = shifted row s.first u

  abbrev second_row : List ℤ
  second_row = shifted first_row s.second (neg_ℤ u)

  first_long : length first_row ≡ 63
  first_long = shifted_length row s.first u ∙ ready.long

  second_long : length second_row ≡ 63
  second_long = shifted_length first_row s.second (neg_ℤ u) ∙ first_long

  pub moved_row_long : length (shifted second_row s.third u) ≡ 63
  moved_row_long = shifted_length second_row s.third u ∙ second_long

  module _ (small : nat_abs u ≤ 1) where
    first_size : (i : ℕ) → nat_abs (get_or first_row i (pos 0)) ≤ nat_abs (get_or row i (pos 0)) + 1
    first_size i = omega (arith, shifted_size row s.first u i (omega (arith, ready.long, ready.first_below)))

    second_size : (i : ℕ) → nat_abs (get_or second_row i (pos 0)) ≤ nat_abs (get_or row i (pos 0)) + 2
    second_size i = omega (arith, shifted_size first_row s.second (neg_ℤ u) i (omega (arith, first_long, ready.second_below)), size_neg u, first_size i)

    pub first_ready : (length row ≡ 63) × (s.first < 63) × (nat_abs (get_or row s.first (pos 0) +ℤ u) ≤ 2 ^ 20)
    first_ready = (ready.long, ready.first_below, omega (arith, size_sum (get_or row s.first (pos 0)) u, ready.first_small))

    pub second_ready : (length first_row ≡ 63) × (s.second < 63) × (nat_abs (get_or first_row s.second (pos 0) +ℤ neg_ℤ u) ≤ 2 ^ 20)
    second_ready = (
      first_long,
      ready.second_below,
      omega (arith, size_sum (get_or first_row s.second (pos 0)) (neg_ℤ u), size_neg u, first_size s.second, ready.second_small),
    )

    pub third_ready : (length second_row ≡ 63) × (s.third < 63) × (nat_abs (get_or second_row s.third (pos 0) +ℤ u) ≤ 2 ^ 20)
    third_ready = (
      second_long,
      ready.third_below,
      omega (arith, size_sum (get_or second_row s.third (pos 0)) u, second_size s.third, ready.third_small),
    )

pub one_small : nat_abs (pos 1) ≤ 1
one_small = omega arith

-- ---- a state in a row
module _ (c : Complex) (t : ℕ) (s : Sides) (is : sides c t ≡ s.first ∷ s.second ∷ s.third ∷ []) where
  pub first_side : side c t 0 ≡ s.first
  unfolding side
  first_side = rw is

  pub second_side : side c t 1 ≡ s.second
  unfolding side
  second_side = rw is

  pub third_side : side c t 2 ≡ s.third
  unfolding side
  third_side = rw is

  -- the front of the moved row is the moved state
  pub front_moved : (u : ℤ) (row state : List ℤ) (m : ℕ) → s.first < m → s.second < m → s.third < m → take m row ≡ state
      → take m (shifted (shifted (shifted row s.first u) s.second (neg_ℤ u)) s.third u) ≡ triangle_move c t u state
  unfolding triangle_move
  front_moved u row state m i j k h =
      rw (first_side, second_side, third_side, ← h)
      (take_shifted (shifted (shifted row s.first u) s.second (neg_ℤ u)) s.third u m k
      ∙ ap (λ l. shifted l s.third u) (take_shifted (shifted row s.first u) s.second (neg_ℤ u) m j
      ∙ ap (λ l. shifted l s.second (neg_ℤ u)) (take_shifted row s.first u m i)))

  -- the test of three values of a row is that of the state in it
  pub three_told : (L : ℕ) (row state : List ℤ) (m : ℕ) → s.first < m → s.second < m → s.third < m → take m row ≡ state
      → sides_within c L t state ≡ (within L (get_or row s.first (pos 0)) && (within L (get_or row s.second (pos 0)) && within L (get_or row s.third (pos 0))))
  unfolding sides_within every_entry
  three_told L row state m i j k h =
      rw (
        is,
        ← h,
        get_or-take m row s.first (pos 0) i,
        get_or-take m row s.second (pos 0) j,
        get_or-take m row s.third (pos 0) k,
        and_true (within L (get_or row s.third (pos 0))),
      )

-- a row whose front is a state
pub row_shiftable : (c : Complex) → Accepted c → (L t : ℕ) → L ≤ 1000 → t < length c.triangles → (s : Sides) → sides c t ≡ s.first ∷ s.second ∷ s.third ∷ []
    → (row state : List ℤ) → length row ≡ 63 → take (length c.edges) row ≡ state → State c c.charges L state → Shiftable row s
row_shiftable c accepted L t truncation number s is row state long front here =
    let below = sides_below c t s is accepted number in
    let few = accepted.few_edges in
    record {
      long = long;
      first_below = omega (arith, below.0);
      second_below = omega (arith, below.1);
      third_below = omega (arith, below.2);
      first_small = small s.first below.0;
      second_small = small s.second below.1;
      third_small = small s.third below.2;
    }
  where
    small : (e : ℕ) → e < length c.edges → nat_abs (get_or row e (pos 0)) ≤ 1000
    small e h =
        let v : get_or state e (pos 0) ≡ get_or row e (pos 0) = ap (λ l. get_or l e (pos 0)) (sym front) ∙ get_or-take (length c.edges) row e (pos 0) h in
        let w : nat_abs (get_or row e (pos 0)) ≤ L = rw (← v) (here.within e h) in
        omega arith

-- ---- a moved state is a state where its three edges stay within -L to L
module _ (c : Complex) (accepted : Accepted c) (L t : ℕ) (number : t < length c.triangles) (u : ℤ) (s : List ℤ) (state : State c c.charges L s) where
  -- an edge of the triangle, by its number
  side_within : sides_within c L t (triangle_move c t u s) ≡ true
      → (nat_abs (get_or (triangle_move c t u s) (side c t 0) (pos 0)) ≤ L) × (nat_abs (get_or (triangle_move c t u s) (side c t 1) (pos 0)) ≤ L) × (nat_abs (get_or (triangle_move c t u s) (side c t 2) (pos 0)) ≤ L)
  unfolding sides_within every_entry within side
  side_within h =
      let three = triangle_sides c accepted t number in
      let told = rw three.numbers at h in
      let r = and_parts _ _ told in
      let q = and_parts _ _ r.1 in
      rw three.numbers (leb-true _ _ r.0, leb-true _ _ q.0, leb-true _ _ (and_parts _ _ q.1).0)

  pub moved_in_basis : sides_within c L t (triangle_move c t u s) ≡ true → in_basis c L (triangle_move c t u s) ≡ true
  moved_in_basis h =
      state_in_basis c L (triangle_move c t u s)
      (record {
        sized = triangle_long c t u s ∙ state.sized;
        within = λ e k. each e k (ℕ_discrete e (side c t 0)) (ℕ_discrete e (side c t 1)) (ℕ_discrete e (side c t 2));
        law = triangle_lawful c accepted t number u s state.sized c.charges state.law;
      })
    where
      each : (e : ℕ) → e < length c.edges → Dec (e ≡ side c t 0) → Dec (e ≡ side c t 1) → Dec (e ≡ side c t 2) → nat_abs (get_or (triangle_move c t u s) e (pos 0)) ≤ L
      each e k (yes p) q r = rw p (side_within h).0
      each e k (no p) (yes q) r = rw q (side_within h).1
      each e k (no p) (no q) (yes r) = rw r (side_within h).2
      each e k (no p) (no q) (no r) = rw ((triangle_moved c accepted t number u s state.sized).others e p q r) (state.within e k)
