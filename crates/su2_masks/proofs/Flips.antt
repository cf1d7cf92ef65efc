-- The flips of a triangle: which state goes to which. Different triangles take a state to different states, none of them itself.
use Prim.Native.Nat.{ℕ, ◌+◌, ◌%◌, ◌^◌, ◌<◌}
use mathlib.Core.List.{[], ◌∷◌}
use mathlib.Core.Bool.{Bool, true, false}
use mathlib.Core.Path.{◌≡◌, refl, sym, ap, ◌∙◌}
use mathlib.Core.Logic.{◌≢◌, inl, inr}
use native.Mathlib.Omega.{arith}
use borrow.Author.Tests.{eqb-true, eq-eqb}
use lib.Bits.{bit_xor, xor_zero_r}
use lib.Dec.{eqb}
use lib.ListN.{get_or, length, length-map}
use Rattle.mathematics.specs.Bits.{bit}
use Rattle.mathematics.specs.Tests.{some}
use Rattle.mathematics.specs.Lists.{listed, In}
use Rattle.mathematics.specs.Counting.{below}
use Rattle.mathematics.specs.Entries.{Each}
use Rattle.mathematics.proofs.Bits.{bit_xor_lem, bit_of_zero, bit_power, bit_power_other, xor_cancel, xor_back}
use Rattle.mathematics.proofs.Tests.{same_tests}
use Rattle.mathematics.proofs.Counting.{some_at, at_some}
use Rattle.mathematics.proofs.Ordered.{Ordered, each_to, each_map, member_map, member_place, ordered_map, ordered_to}
use Rattle.mathematics.proofs.Below.{length_below, below_each, below_ordered, below_member, map_below_at, keep_count, listed_member, member_listed}
use Rattle.complex.specs.Complex.{Complex}
use Rattle.complex.specs.Judge.{Accepted}
use Rattle.complex.specs.Sides.{sides, side, EdgeOf}
use Rattle.complex.proofs.TriangleEdges.{triangle_sides, edge_of, same_triangle, sides_ij, sides_ik, sides_jk}
use Rattle.su2_even_sets.specs.EvenSets.{su2_states, mask_place, MaskAt}
use Rattle.su2_even_sets.proofs.EvenLists.{even_complete, state_place, three_listed, flipped_place}
use Rattle.su2_even_sets.specs.declared.Forest.{Forest}
use Rattle.su2_even_sets.specs.Loops.{closing_bits}
use Rattle.su2_masks.specs.Place.{LoopsOf}
use Rattle.su2_masks.specs.Flips.{triangle_mask, flipped_state, su2_target, su2_targets, flips, su2_joined}
use Rattle.su2_masks.proofs.Placing.{listed_place}

-- ---- the mask of a triangle
-- the mask of a triangle whose edges are known
pub mask_is : (c : Complex) (t i j k : ℕ) → sides c t ≡ i ∷ j ∷ k ∷ [] → triangle_mask c t ≡ bit_xor (bit_xor (2 ^ i) (2 ^ j)) (2 ^ k)
unfolding triangle_mask side
mask_is c t i j k is = rw is

-- the place of a triangle's mask is read off the tables
pub triangle_read : (c : Complex) (f : Forest) → LoopsOf c f → (t i j k : ℕ) → t < length c.triangles → sides c t ≡ i ∷ j ∷ k ∷ []
    → closing_bits f.closing (bit_xor (bit_xor (2 ^ i) (2 ^ j)) (2 ^ k)) f.count ≡ mask_place c (triangle_mask c t)
triangle_read c f of t i j k number is =
    let three = three_listed c of.accepted t i j k number is in
    listed_place c f of _ three.0 three.1 ∙ ap (mask_place c) (sym (mask_is c t i j k is))

three_bits : (i j k e : ℕ) → bit (bit_xor (bit_xor (2 ^ i) (2 ^ j)) (2 ^ k)) e ≡ ((bit (2 ^ i) e + bit (2 ^ j) e) % 2 + bit (2 ^ k) e) % 2
three_bits i j k e = bit_xor_lem (bit_xor (2 ^ i) (2 ^ j)) (2 ^ k) e ∙ ap (λ (b : ℕ). (b + bit (2 ^ k) e) % 2) (bit_xor_lem (2 ^ i) (2 ^ j) e)

module _ (c : Complex) (t : ℕ) where
  -- its bits are edges of the triangle
  mask_edge : (e : ℕ) → bit (triangle_mask c t) e ≡ 1 → EdgeOf c t e
  unfolding triangle_mask
  mask_edge e h = go (edge_of c t e)
    where
      go : Dec (EdgeOf c t e) → EdgeOf c t e
      go (yes p) = p
      go (no p) =
          absurd (omega (
            arith,
            three_bits (side c t 0) (side c t 1) (side c t 2) e,
            bit_power_other (side c t 0) e (λ q. p (inl q)),
            bit_power_other (side c t 1) e (λ q. p (inr (inl q))),
            bit_power_other (side c t 2) e (λ q. p (inr (inr q))),
          ))

module _ (c : Complex) (accepted : Accepted c) where
  module _ (t : ℕ) (number : t < length c.triangles) where
    mask_first : bit (triangle_mask c t) (side c t 0) ≡ 1
    unfolding side
    mask_first =
        let s = triangle_sides c accepted t number in
        rw (mask_is c t s.i s.j s.k s.numbers, s.numbers)
        (omega (arith, three_bits s.i s.j s.k s.i, bit_power s.i, bit_power_other s.j s.i (sides_ij c t s), bit_power_other s.k s.i (sides_ik c t s)))

    mask_third : bit (triangle_mask c t) (side c t 2) ≡ 1
    unfolding side
    mask_third =
        let s = triangle_sides c accepted t number in
        rw (mask_is c t s.i s.j s.k s.numbers, s.numbers)
        (omega (arith, three_bits s.i s.j s.k s.k, bit_power s.k, bit_power_other s.i s.k (λ e. sides_ik c t s (sym e)), bit_power_other s.j s.k (λ e. sides_jk c t s (sym e))))

    pub mask_some : triangle_mask c t ≢ 0
    mask_some e = omega (arith, mask_first, ap (λ (x : ℕ). bit x (side c t 0)) e, bit_of_zero (side c t 0))

  -- different triangles have different masks
  pub same_mask : (t t' : ℕ) → t < length c.triangles → t' < length c.triangles → triangle_mask c t ≡ triangle_mask c t' → t ≡ t'
  same_mask t t' number number' e =
      same_triangle c accepted t t' number number'
      (mask_edge c t' (side c t 0) (ap (λ (x : ℕ). bit x (side c t 0)) (sym e) ∙ mask_first t number))
      (mask_edge c t' (side c t 2) (ap (λ (x : ℕ). bit x (side c t 2)) (sym e) ∙ mask_third t number))

  -- ---- where a triangle takes a state
  module _ (t : ℕ) (number : t < length c.triangles) (i : ℕ) (h : i < length (su2_states c)) where
    -- the flipped state is listed, at its target
    pub su2_target_at : MaskAt c (flipped_state c t i) (su2_target c t i)
    su2_target_at =
        let s = triangle_sides c accepted t number in
        let listed = (even_complete c accepted).only _ (i, h, refl) in
        let flipped = flipped_place c accepted t s.i s.j s.k number s.numbers (get_or (su2_states c) i 0) listed.1 listed.0 in
        let is = mask_is c t s.i s.j s.k s.numbers in
        place ((even_complete c accepted).every (flipped_state c t i) (rw is flipped.1) (rw is flipped.0))
      where
        place : In 0 (flipped_state c t i) (su2_states c) → MaskAt c (flipped_state c t i) (su2_target c t i)
        place (p, b, e) =
            let stands : su2_target c t i ≡ p = ap (mask_place c) (sym e) ∙ state_place c accepted p b in
            rw stands (record { below = b; mask = e })

    -- the target is i xor the place of the triangle's mask
    pub su2_target_read : su2_target c t i ≡ bit_xor i (mask_place c (triangle_mask c t))
    su2_target_read =
        let s = triangle_sides c accepted t number in
        let listed = (even_complete c accepted).only _ (i, h, refl) in
        let flipped = flipped_place c accepted t s.i s.j s.k number s.numbers (get_or (su2_states c) i 0) listed.1 listed.0 in
        rw (mask_is c t s.i s.j s.k s.numbers) (flipped.2 ∙ ap (λ (k : ℕ). bit_xor k (mask_place c (bit_xor (bit_xor (2 ^ s.i) (2 ^ s.j)) (2 ^ s.k)))) (state_place c accepted i h))

    pub flips_told : (j : ℕ) → flips c t i j ≡ eqb (bit_xor i (mask_place c (triangle_mask c t))) j
    unfolding flips
    flips_told j = ap (λ (k : ℕ). eqb k j) su2_target_read

    pub flip_within : bit_xor i (mask_place c (triangle_mask c t)) < length (su2_states c)
    flip_within = rw (← su2_target_read) su2_target_at.below

    -- a flip is a state that stands at its place, and the other way round: `flips` means that triangle t takes state i to state j
    pub flips_at : (j : ℕ) → flips c t i j ≡ true → MaskAt c (flipped_state c t i) j
    unfolding flips
    flips_at j e = rw (eqb-true (su2_target c t i) j e) at su2_target_at

    pub at_flips : (j : ℕ) → MaskAt c (flipped_state c t i) j → flips c t i j ≡ true
    unfolding flips
    at_flips j stands = eq-eqb (su2_target c t i) j (ap (mask_place c) (sym stands.mask) ∙ state_place c accepted j stands.below)

    pub su2_target_elsewhere : su2_target c t i ≢ i
    su2_target_elsewhere e =
        let same : get_or (su2_states c) i 0 ≡ flipped_state c t i = rw e at su2_target_at.mask in
        mask_some t number (xor_cancel (get_or (su2_states c) i 0) (triangle_mask c t) 0 (sym same ∙ sym (xor_zero_r (get_or (su2_states c) i 0))))

    -- no triangle flips a state to itself
    pub never_flipped : flips c t i i ≡ false
    unfolding flips
    never_flipped = go (eqb (su2_target c t i) i) refl
      where
        go : (b : Bool) → eqb (su2_target c t i) i ≡ b → b ≡ false
        go true e = absurd (su2_target_elsewhere (eqb-true (su2_target c t i) i e))
        go false e = refl

  -- a flip leads back
  pub flips_turned : (t : ℕ) → t < length c.triangles → (i j : ℕ) → i < length (su2_states c) → j < length (su2_states c) → flips c t i j ≡ flips c t j i
  flips_turned t number i j h k = same_tests (flips c t i j) (flips c t j i) (turn i j h k) (turn j i k h)
    where
      turn : (i j : ℕ) → i < length (su2_states c) → j < length (su2_states c) → flips c t i j ≡ true → flips c t j i ≡ true
      turn i j h k e =
          let x = get_or (su2_states c) i 0 in
          let m = triangle_mask c t in
          at_flips t number j k i
          (record { below = h; mask = sym (ap (λ (y : ℕ). bit_xor y m) (flips_at t number i h j e).mask ∙ xor_back x m) })

  -- ---- the targets of one state
  module _ (i : ℕ) (h : i < length (su2_states c)) where
    abbrev T : ℕ
    T = length c.triangles

    same_target : (t t' : ℕ) → t < T → t' < T → su2_target c t i ≡ su2_target c t' i → t ≡ t'
    same_target t t' number number' e =
        same_mask t t' number number'
        (xor_cancel (get_or (su2_states c) i 0) (triangle_mask c t) (triangle_mask c t')
        (sym (su2_target_at t number i h).mask ∙ ap (λ (p : ℕ). get_or (su2_states c) p 0) e ∙ (su2_target_at t' number' i h).mask))

    -- one triangle at most flips a state to another
    pub one_flip : (t t' j : ℕ) → t < T → t' < T → flips c t i j ≡ true → flips c t' i j ≡ true → t ≡ t'
    unfolding flips
    one_flip t t' j number number' e e' = same_target t t' number number' (eqb-true (su2_target c t i) j e ∙ sym (eqb-true (su2_target c t' i) j e'))

    pub su2_targets_once : Ordered (λ x y. x ≢ y) (su2_targets c i)
    su2_targets_once = ordered_map (λ t. su2_target c t i) (ordered_to (λ t t' a b less e. let same = same_target t t' a b e in omega arith) (below_each T) (below_ordered T))

    pub su2_targets_below : Each (λ x. x < length (su2_states c)) (su2_targets c i)
    su2_targets_below = each_map (λ t. su2_target c t i) (each_to (λ t b. (su2_target_at t b i h).below) (below_each T))

    pub su2_targets_joined : (j : ℕ) → j < length (su2_states c) → some (λ t. flips c t i j) T ≡ listed eqb j (su2_targets c i)
    unfolding flips
    su2_targets_joined j k =
        same_tests _ _
        (λ e. let r = some_at (λ t. flips c t i j) T e in
        member_listed (rw (eqb-true (su2_target c r.0 i) j r.2) at (member_map (λ t. su2_target c t i) (below_member T r.0 r.1))))
        (λ e. back (member_place 0 (listed_member j (su2_targets c i) e)))
      where
        back : (t : ℕ) × (t < length (su2_targets c i)) × (get_or (su2_targets c i) t 0 ≡ j) → some (λ t. flips c t i j) T ≡ true
        back (t, b, e) =
            let number : t < T = omega (arith, length-map (below T) (λ t. su2_target c t i), length_below T) in
            at_some (λ t. flips c t i j) T t number (eq-eqb (su2_target c t i) j (sym (map_below_at (λ t. su2_target c t i) T t 0 number) ∙ e))

    -- as many states are joined to state i as there are triangles
    pub su2_joined_count : length (su2_joined c i) ≡ T
    unfolding su2_joined
    su2_joined_count =
        keep_count (su2_targets c i) (length (su2_states c)) su2_targets_once su2_targets_below (λ j. some (λ t. flips c t i j) T) su2_targets_joined
        ∙ length-map (below T) (λ t. su2_target c t i) ∙ length_below T
