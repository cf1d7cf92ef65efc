-- The sums of the loops are all even edge sets, ascending; and the place of one is read off its closing edges.
use Prim.Native.Nat.{ℕ, ◌+◌, ◌%◌, ◌^◌, ◌<◌}
use mathlib.Core.List.{List, [], ◌∷◌}
use mathlib.Core.Bool.{true}
use mathlib.Core.Path.{◌≡◌, refl, sym, ap, ap₂, ◌∙◌}
use native.Mathlib.Nat.{le_of_lt}
use native.Mathlib.Omega.{arith}
use native.Mathlib.Decide.{dec_lt}
use borrow.Author.Tests.{lt-ltb, le-ltb}
use lib.Dec.{ltb}
use lib.Bits.{bit_xor, xor_lt, xor_self}
use lib.Pow.{pow_pos, pow-lt}
use lib.ListN.{get_or, length}
use Rattle.mathematics.specs.Bits.{bit}
use Rattle.mathematics.specs.Counting.{below, keep}
use Rattle.mathematics.proofs.Bits.{bit_xor_lem, xor_cancel}
use Rattle.mathematics.proofs.Ordered.{Member, each_member, member_place, place_member, ordered_at, at_ordered, keep_passes, keep_each, keep_ordered, keep_member, kept_front, same_members}
use Rattle.mathematics.proofs.Below.{below_each, below_ordered, below_member}
use Rattle.complex.specs.Complex.{Complex}
use Rattle.complex.specs.Judge.{Accepted}
use Rattle.complex.specs.Sides.{sides}
use Rattle.complex.proofs.TriangleEdges.{triangle_sides}
use Rattle.gauss_law.specs.Listing.{free_edges}
use Rattle.su2_even_sets.specs.EvenSets.{even, su2_states, mask_place, EvenComplete}
use Rattle.mathematics.specs.Lists.{In}
use Rattle.su2_even_sets.specs.Loops.{loop_sums, sum_of_loops, closing_bits, Echelon}
use Rattle.su2_even_sets.proofs.Spans.{combined_each, span_length, span_at, bits_below, bits_at, bits_xor, combined_bit, combined_reads, span_rising}
use Rattle.su2_even_sets.proofs.Degrees.{even_xor, even_zero, even_triangle}
use Rattle.su2_even_sets.proofs.Forests.{all_grown, grown_rising, grown_own, grown_others, grown_top, grown_loops, grown_empty}
use Rattle.su2_even_sets.proofs.ClosingCount.{closing_free}

module _ (c : Complex) (accepted : Accepted c) where
  abbrev closing : List ℕ
  closing = (all_grown c.edges).closing

  abbrev loops : List ℕ
  loops = (all_grown c.edges).loops

  abbrev n : ℕ
  n = length closing

  abbrev Listed : ℕ → Type 0
  Listed x = (even c x ≡ true) × (x < 2 ^ length c.edges)

  echelon : Echelon n closing loops
  echelon = record { rising = grown_rising c.edges; own = grown_own c.edges; others = grown_others c.edges; top = grown_top c.edges }

  -- a sum of loops is an even set
  pub combined_listed : (k : ℕ) → Listed (sum_of_loops loops k n)
  combined_listed =
      combined_each Listed (even_zero c accepted, pow_pos (length c.edges))
      (λ x y p q. (even_xor c accepted x y p.0 q.0, xor_lt (length c.edges) x y p.1 q.1))
      loops n (grown_loops c accepted)

  -- an even set is the sum of the loops of its closing edges
  pub combined_all : (x : ℕ) → Listed x → sum_of_loops loops (closing_bits closing x n) n ≡ x
  combined_all x h =
      let y = sum_of_loops loops (closing_bits closing x n) n in
      let k = combined_listed (closing_bits closing x n) in
      sym (xor_cancel x x y (xor_self x ∙ sym
      (grown_empty c accepted (bit_xor x y) (xor_lt (length c.edges) x y h.1 k.1) (even_xor c accepted x y h.0 k.0)
      (λ j l. bit_xor_lem x y (get_or closing j 0) ∙ twice (bit x (get_or closing j 0)) (bit y (get_or closing j 0)) (combined_bit echelon (closing_bits closing x n) j l ∙ bits_at closing x n j l)))))
    where
      twice : (a b : ℕ) → b ≡ a → (a + b) % 2 ≡ 0
      twice a b e = omega arith

  -- ---- the list
  pub masks_listed : loop_sums loops n ≡ su2_states c
  unfolding su2_states
  masks_listed =
      same_members (λ i j. i < j) (λ i j k a b. omega arith) (λ i a. omega arith) (loop_sums loops n) (keep (even c) (below (2 ^ length c.edges)))
      (at_ordered 0 (loop_sums loops n) (λ i j a b. span_rising echelon i j a (rw (← (span_length loops n)) b)))
      (keep_ordered (even c) (below_ordered (2 ^ length c.edges)))
      (λ x m. into x (member_place 0 m))
      (λ x m. out x (each_member (keep_passes (even c) (below (2 ^ length c.edges))) m) (each_member (keep_each (even c) (below_each (2 ^ length c.edges))) m))
    where
      into : (x : ℕ) → (k : ℕ) × (k < length (loop_sums loops n)) × (get_or (loop_sums loops n) k 0 ≡ x) → Member x (keep (even c) (below (2 ^ length c.edges)))
      into x (k, b, e) =
          let is : sum_of_loops loops k n ≡ x = sym (span_at loops n k (rw (← (span_length loops n)) b)) ∙ e in
          let h = combined_listed k in
          rw is at (keep_member (even c) h.0 (below_member (2 ^ length c.edges) (sum_of_loops loops k n) h.1))

      out : (x : ℕ) → even c x ≡ true → x < 2 ^ length c.edges → Member x (loop_sums loops n)
      out x e b =
          let k = closing_bits closing x n in
          let l : k < length (loop_sums loops n) = rw (span_length loops n) (bits_below closing x n) in
          rw (span_at loops n k (bits_below closing x n) ∙ combined_all x (e, b)) at (place_member 0 (loop_sums loops n) k l)

  pub even_count : length (su2_states c) ≡ 2 ^ length (free_edges c)
  even_count = sym (ap length masks_listed) ∙ span_length loops n ∙ ap (λ (k : ℕ). 2 ^ k) (closing_free c accepted)

  pub even_complete : EvenComplete c (su2_states c)
  unfolding su2_states
  even_complete =
      record {
        every = λ x b e. member_place 0 (keep_member (even c) e (below_member (2 ^ length c.edges) x b));
        only = λ x m. each x m;
        ascending = λ i j a b. ordered_at 0 (keep_ordered (even c) (below_ordered (2 ^ length c.edges))) i j a b;
        count = even_count;
      }
    where
      each : (x : ℕ) → In 0 x (keep (even c) (below (2 ^ length c.edges))) → (x < 2 ^ length c.edges) × (even c x ≡ true)
      each x (i, b, e) =
          let m : Member x (keep (even c) (below (2 ^ length c.edges))) = rw e at (place_member 0 (keep (even c) (below (2 ^ length c.edges))) i b) in
          (each_member (keep_each (even c) (below_each (2 ^ length c.edges))) m, each_member (keep_passes (even c) (below (2 ^ length c.edges))) m)

  -- ---- the place of a mask
  pub mask_place_read : (x : ℕ) → even c x ≡ true → x < 2 ^ length c.edges → mask_place c x ≡ closing_bits closing x n
  unfolding mask_place
  mask_place_read x e b =
      let k = closing_bits closing x n in
      rw (← masks_listed)
      (kept_front (λ y. ltb y x) 0 (loop_sums loops n) k (rw (span_length loops n) (le_of_lt (bits_below closing x n))) (λ i h. front i (rw (← (span_length loops n)) h)))
    where
      front : (i : ℕ) → i < 2 ^ n → ltb (get_or (loop_sums loops n) i 0) x ≡ ltb i (closing_bits closing x n)
      front i h = go (dec_lt i k) (dec_lt k i)
        where
          k : ℕ
          k = closing_bits closing x n

          there : get_or (loop_sums loops n) k 0 ≡ x
          there = span_at loops n k (bits_below closing x n) ∙ combined_all x (e, b)

          go : Dec (i < k) → Dec (k < i) → ltb (get_or (loop_sums loops n) i 0) x ≡ ltb i k
          go (yes l) m = lt-ltb _ _ (rw there at (span_rising echelon i k l (bits_below closing x n))) ∙ sym (lt-ltb i k l)
          go (no l) (yes m) =
              let r : x < get_or (loop_sums loops n) i 0 = rw there at (span_rising echelon k i m h) in
              le-ltb (get_or (loop_sums loops n) i 0) x (omega arith) ∙ sym (le-ltb i k (omega arith))
          go (no l) (no m) =
              let q : i ≡ k = omega arith in
              let r : get_or (loop_sums loops n) i 0 ≡ x = ap (λ (j : ℕ). get_or (loop_sums loops n) j 0) q ∙ there in
              le-ltb (get_or (loop_sums loops n) i 0) x (omega arith) ∙ sym (le-ltb i k (omega arith))

  -- state number i stands at place i
  pub state_place : (i : ℕ) → i < length (su2_states c) → mask_place c (get_or (su2_states c) i 0) ≡ i
  state_place i h =
      let listed = even_complete.only _ (i, h, refl) in
      let number : i < 2 ^ n = rw (← (span_length loops n), masks_listed) h in
      mask_place_read _ listed.1 listed.0
      ∙ ap (λ (x : ℕ). closing_bits closing x n) (ap (λ (l : List ℕ). get_or l i 0) (sym masks_listed) ∙ span_at loops n i number)
      ∙ combined_reads echelon i number

  -- ---- a triangle's three edges flipped
  abbrev three : ℕ → ℕ → ℕ → ℕ
  three i j k = bit_xor (bit_xor (2 ^ i) (2 ^ j)) (2 ^ k)

  pub three_listed : (t i j k : ℕ) → t < length c.triangles → sides c t ≡ i ∷ j ∷ k ∷ [] → (even c (three i j k) ≡ true) × (three i j k < 2 ^ length c.edges)
  three_listed t i j k number is = (even_triangle c accepted t i j k number is, below_edges)
    where
      below_edges : three i j k < 2 ^ length c.edges
      below_edges =
          let s = triangle_sides c accepted t number in
          let same = sym s.numbers ∙ is in
          let a : i < length c.edges = rw (ap (λ (l : List ℕ). get_or l 0 0) same) at s.i_below in
          let d : j < length c.edges = rw (ap (λ (l : List ℕ). get_or l 1 0) same) at s.j_below in
          let f : k < length c.edges = rw (ap (λ (l : List ℕ). get_or l 2 0) same) at s.k_below in
          xor_lt (length c.edges) _ _ (xor_lt (length c.edges) _ _ (pow-lt a) (pow-lt d)) (pow-lt f)

  -- the flipped state is a state, and its place is the place xor a number of the triangle
  pub flipped_place : (t i j k : ℕ) → t < length c.triangles → sides c t ≡ i ∷ j ∷ k ∷ [] → (x : ℕ) → even c x ≡ true → x < 2 ^ length c.edges
      → (even c (bit_xor x (three i j k)) ≡ true) × (bit_xor x (three i j k) < 2 ^ length c.edges)
      × (mask_place c (bit_xor x (three i j k)) ≡ bit_xor (mask_place c x) (mask_place c (three i j k)))
  flipped_place t i j k number is x e b =
      let triangle = three_listed t i j k number is in
      let flipped : Listed (bit_xor x (three i j k)) = (even_xor c accepted x (three i j k) e triangle.0, xor_lt (length c.edges) x (three i j k) b triangle.1) in (
        flipped.0,
        flipped.1,
        mask_place_read _ flipped.0 flipped.1 ∙ bits_xor closing x (three i j k) n
            ∙ ap₂ bit_xor (sym (mask_place_read x e b)) (sym (mask_place_read (three i j k) triangle.0 triangle.1)),
      )
