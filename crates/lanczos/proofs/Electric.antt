-- The electric part as the code writes it, and the whole product from it.
use Prim.Native.Nat.{ℕ, ◌+◌, ◌<◌}
use mathlib.Core.List.{List, [], ◌∷◌, ◌++◌, map, map-append}
use mathlib.Core.Path.{◌≡◌, sym, ap, ◌∙◌}
use native.Mathlib.Numerals.{add-one}
use lib.IntN.{ℤ}
use lib.Ieee.{Float, binary64, nan, add, mul}
use lib.ListN.{get_or, length, set, drop, length-map}
use Rattle.mathematics.specs.Counting.{below}
use Rattle.mathematics.specs.Writing.{front}
use Rattle.mathematics.proofs.Below.{length_below, below_same}
use Rattle.mathematics.proofs.Front.{store}
use Rattle.complex.specs.Complex.{Complex}
use Rattle.gauss_law.specs.Listing.{states}
use Rattle.matrices.specs.declared.coupling.KSParams.{KSParams}
use Rattle.matrices.specs.Coupling.{float_of}
use Rattle.matrices.specs.Squares.{squares, energy}
use Rattle.plaquettes.specs.declared.target.Sizes.{Sizes}
use Rattle.plaquettes.specs.Targets.{BasisList}
use Rattle.plaquettes.specs.Rows.{electric_term}
use Rattle.plaquettes.proofs.Targets.{row_is}
use Rattle.lanczos.specs.Matvec.{electric_product, triangles_added, u1_product}
use Rattle.lanczos.specs.Walk.{electric_parts}
use Rattle.lanczos.proofs.Folds.{triangles_long, triangles_front}

module _ (factor : Float) (m : ℕ) (list : List ℤ) (v : List Float) where
  abbrev part : ℕ → Float
  part i = add binary64 (float_of 0) (mul binary64 (electric_term factor m list i) (get_or v i nan))

  parts_long : (n : ℕ) → length (electric_parts factor m list v n) ≡ n
  unfolding electric_parts
  parts_long n = length-map (below n) part ∙ length_below n

  -- one part more, which is stored at i
  pub electric_turn : (old result : List Float) (i : ℕ) (y : Float) → i < length old → result ≡ electric_parts factor m list v i ++ drop i old → y ≡ part i
      → set result i y ≡ electric_parts factor m list v (i + 1) ++ drop (i + 1) old
  unfolding electric_parts below
  electric_turn old result i y room so_far is =
      let more : electric_parts factor m list v (i + 1) ≡ electric_parts factor m list v i ++ (part i ∷ []) = ap (electric_parts factor m list v) (add-one i) ∙ map-append part (below i) (i ∷ []) in
      rw (so_far, is, more) (store (electric_parts factor m list v i) old i (part i) nan (parts_long i) room)

  pub electric_all : (n : ℕ) (old : List Float) → electric_parts factor m list v n ++ drop n old ≡ front (electric_parts factor m list v n) old
  electric_all n old = ap (λ k. electric_parts factor m list v n ++ drop k old) (sym (parts_long n))

-- the rows of the list are the states
module _ (c : Complex) (list : List ℤ) (s : Sizes) (free : List ℕ) (basis : BasisList c list s free) (p : KSParams) (v : List Float) where
  abbrev state_part : ℕ → Float
  state_part i = add binary64 (float_of 0) (mul binary64 (energy p.electric (squares (get_or (states c s.lambda) i []))) (get_or v i nan))

  electric_is : electric_parts p.electric s.edges list v s.states ≡ electric_product c s.lambda p v
  unfolding electric_parts electric_product electric_term
  electric_is =
      below_same (part p.electric s.edges list v) state_part s.states (λ i h. rw (row_is c list s free basis i h))
      ∙ ap (λ n. map state_part (below n)) basis.count

  electric_long : length (electric_product c s.lambda p v) ≡ length (states c s.lambda)
  unfolding electric_product
  electric_long = length-map (below (length (states c s.lambda))) state_part ∙ length_below (length (states c s.lambda))

  -- the triangles after the electric part give the product
  pub product_written : (w : ℕ → Float) (old charged new : List Float) → charged ≡ front (electric_parts p.electric s.edges list v s.states) old
      → new ≡ triangles_added c s.lambda p w v (length c.triangles) charged → new ≡ front (u1_product c s.lambda p w v) old
  unfolding u1_product
  product_written w old charged new is made =
      made ∙ ap (triangles_added c s.lambda p w v (length c.triangles)) (is ∙ ap (λ e. front e old) electric_is)
      ∙ triangles_front c s.lambda p w v (length c.triangles) (electric_product c s.lambda p v) _ electric_long
      ∙ ap (λ n. triangles_added c s.lambda p w v (length c.triangles) (electric_product c s.lambda p v) ++ drop n old)
      (sym (triangles_long c s.lambda p w v (length c.triangles) (electric_product c s.lambda p v)))
