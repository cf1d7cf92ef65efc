-- The sums that the tables of the triangles make, and that they are those of the product.
use Prim.Native.Nat.{ℕ, zero, suc, ◌+◌, ◌^◌, ◌≤◌, ◌<◌}
use mathlib.Core.List.{List, ◌++◌, map}
use mathlib.Core.Path.{◌≡◌, sym, ap, ap₂, ◌∙◌}
use native.Mathlib.Numerals.{add-one}
use native.Mathlib.Omega.{arith}
use lib.Bits.{bit_xor}
use lib.Count.{ones}
use lib.Ieee.{Float, binary64, nan, add, mul}
use lib.ListN.{get_or, length, length-append, get_or-append}
use Rattle.mathematics.specs.Counting.{below}
use Rattle.mathematics.specs.Writing.{front}
use Rattle.mathematics.proofs.Below.{map_below_at, below_same}
use Rattle.complex.specs.Complex.{Complex}
use Rattle.complex.specs.Judge.{Accepted}
use Rattle.matrices.specs.declared.coupling.KSParams.{KSParams}
use Rattle.matrices.specs.Coupling.{float_of}
use Rattle.matrices.specs.Squares.{energy}
use Rattle.su2_even_sets.specs.declared.Forest.{Forest}
use Rattle.su2_even_sets.specs.EvenSets.{su2_states}
use Rattle.su2_masks.specs.Flips.{su2_target}
use Rattle.su2_rows.proofs.ListedRows.{states_few}
use Rattle.su2_masks.proofs.Flips.{su2_target_read, flip_within}
use Rattle.su2_rows.specs.Rows.{su2_diagonal, Tables}
use Rattle.su2_products.specs.Product.{su2_electric_part, su2_product_at, su2_product, listed_part, flip_part, listed_product_at, BlockFits, ProductOf}

-- numbers with equal values
-- ---- one triangle more in a block
module _ (electric : Float) (states places : List ℕ) (terms vector : List Float) where
  abbrev with_triangles : ℕ → ℕ → Float
  with_triangles = listed_product_at electric states places terms vector

  pub no_triangle : (from : ℕ) (block old : List Float) → block ≡ map (λ i. listed_part electric states vector (from + i)) (below (length old)) → length block ≡ length old
      → block ≡ map (λ i. with_triangles 0 (from + i)) (below (length block))
  unfolding listed_product_at
  no_triangle from block old is same = is ∙ ap (λ (n : ℕ). map (λ i. listed_part electric states vector (from + i)) (below n)) (sym same)

  pub next_triangle : (from t m : ℕ) (block new : List Float) → block ≡ map (λ i. with_triangles t (from + i)) (below m) → length block ≡ m
      → new ≡ map (λ i. add binary64 (get_or block i nan) (flip_part (get_or terms t nan) vector (get_or places t 0) (from + i))) (below (length block))
      → new ≡ map (λ i. with_triangles (t + 1) (from + i)) (below m)
  unfolding listed_product_at
  next_triangle from t m block new so_far same is =
      let added : ℕ → Float = λ i. add binary64 (get_or block i nan) (flip_part (get_or terms t nan) vector (get_or places t 0) (from + i)) in
      let before : (i : ℕ) → i < m → get_or block i nan ≡ with_triangles t (from + i) = λ i h. ap (λ l. get_or l i nan) so_far ∙ map_below_at (λ i. with_triangles t (from + i)) m i nan h in
      is
      ∙ ap (λ (n : ℕ). map added (below n)) same
      ∙ below_same added (λ i. with_triangles (t + 1) (from + i)) m
      (λ i h. ap (λ x. add binary64 x (flip_part (get_or terms t nan) vector (get_or places t 0) (from + i))) (before i h) ∙ ap (λ (k : ℕ). with_triangles k (from + i)) (sym (add-one t)))

-- ---- all triangles
module _ (c : Complex) (accepted : Accepted c) (p : KSParams) (w : ℕ → Float) (places : List ℕ) (terms : List Float) (tables : Tables c p w (length c.triangles) places terms)
    (states rest : List ℕ) (begins : states ≡ su2_states c ++ rest) (vector : List Float) where
  at_is : (i : ℕ) → i < length (su2_states c) → (t : ℕ) → t ≤ length c.triangles → listed_product_at p.electric states places terms vector t i ≡ su2_product_at c p w vector t i
  unfolding listed_product_at su2_product_at listed_part su2_electric_part su2_diagonal
  at_is i h zero few =
      let state : get_or states i 0 ≡ get_or (su2_states c) i 0 = rw begins (get_or-append (su2_states c) rest 0 i h) in
      ap (λ (x : ℕ). add binary64 (float_of 0) (mul binary64 (energy p.electric (ones x)) (get_or vector i nan))) state
  at_is i h (suc t) few =
      let there : t < length c.triangles = few in
      let place : bit_xor i (get_or places t 0) ≡ su2_target c t i = ap (bit_xor i) (tables.places_are t there) ∙ sym (su2_target_read c accepted t there i h) in
      ap₂ (add binary64) (at_is i h t (omega arith)) (ap₂ (λ x (k : ℕ). mul binary64 x (get_or vector k nan)) (tables.terms_are t there) place)

  pub product_is : (n : ℕ) → n ≡ length (su2_states c) → map (listed_product_at p.electric states places terms vector (length c.triangles)) (below n) ≡ su2_product c p w vector
  unfolding su2_product
  product_is n number =
      ap (λ (k : ℕ). map (listed_product_at p.electric states places terms vector (length c.triangles)) (below k)) number
      ∙ below_same (listed_product_at p.electric states places terms vector (length c.triangles)) (su2_product_at c p w vector (length c.triangles)) (length (su2_states c))
      (λ i h. at_is i h (length c.triangles) (omega arith))

-- ---- the product of a complex
module _ {c : Complex} {f : Forest} {n vector_long room : ℕ} (m : ProductOf c f n vector_long room) where
  pub few_states : n ≤ 2 ^ 20
  few_states = rw m.states (states_few m.loops).1

  module _ {p : KSParams} {w : ℕ → Float} {places : List ℕ} {terms : List Float} (tables : Tables c p w (length c.triangles) places terms) (states rest : List ℕ) (begins : states ≡ su2_states c ++ rest) where
    pub block_fits : (vector : List Float) → length vector ≡ vector_long → BlockFits 0 n states places terms vector (length c.triangles)
    block_fits vector long =
        let few = m.loops.of.accepted.few_triangles in
        let same : length vector ≡ length (su2_states c) = long ∙ m.amplitudes ∙ m.states in
        record {
          few_triangles = few;
          states_long = omega (arith, m.states, ap length begins, length-append (su2_states c) rest);
          vector_long = omega (arith, long, m.amplitudes);
          within = λ i t h b.
              let inside : i < length (su2_states c) = omega (arith, m.states, h) in
              rw (tables.places_are t b, same) (flip_within c m.loops.of.accepted t b i inside);
        }

    pub product_written : (vector result old : List Float) → result ≡ front (map (listed_product_at p.electric states places terms vector (length c.triangles)) (below n)) old → result ≡ front (su2_product c p w vector) old
    product_written vector result old is = is ∙ ap (λ l. front l old) (product_is c m.loops.of.accepted p w places terms tables states rest begins vector n m.states)
